-- Who is counted as one that has taken the word of a cabinet's own ballot, call by call.
use Prim.Native.Nat.{ℕ, ◌≤◌}
use mathlib.Core.Path.{◌≡◌, refl, sym, ap, subst, ◌∙◌}
use mathlib.Core.Bool.{Bool, true, false, not, ◌&&◌, false≢true}
use mathlib.Core.Logic.{◌⊎◌, inl, inr}
use mathlib.Core.List.{List}
use native.Mathlib.Omega.{arith}
use lib.Dec.{eqb}
use borrow.Author.Tests.{eqb-true, eq-eqb}
use Rattle.ground.specs.Mask.{has}
use Rattle.ground.proofs.MaskLaws.{none_has, insert_only}
use Rattle.ground.specs.Tests.{by_cond, split, and_l, and_r, no_both}
use Rattle.model.specs.Numbers.{is_none}
use Rattle.model.specs.declared.Outcome.{Outcome}
use Rattle.model.specs.declared.Outcome.TheVariants.{None, Stay, Move}
use Rattle.model.specs.declared.BallotKind.{BallotKind}
use Rattle.model.specs.declared.BallotKind.TheVariants.{Prepare, Promise, Accept, Accepted}
use Rattle.model.specs.declared.BallotMessage.{BallotMessage}
use Rattle.model.specs.declared.Telegram.TheVariants.{Plain, OfBallot}
use Rattle.records.specs.Codec.{reads}
use Rattle.checkpoint_record.specs.Checkpoints.{checkpoints}
use Rattle.checkpoint_record.specs.Checkpoints.{ReadCheckpoint}
use Rattle.std.specs.Prelude.{Ok, Err}
use Rattle.message_record.specs.BallotMessages.{tells_word, tells_for_kind, ballot_suits}
use Rattle.message_record.specs.Telegrams.{telegrams}
use Rattle.message_record.specs.Telegrams.{ReadTelegram}
use Rattle.protocol.specs.declared.Identity.{Identity}
use Rattle.protocol.specs.declared.Controller.{Controller}
use Rattle.protocol.specs.declared.Acceptor.{Acceptor}
use Rattle.protocol.specs.declared.Tally.{Tally}
use Rattle.protocol.specs.declared.BallotAnswer.{BallotAnswer}
use Rattle.protocol.specs.Ballots.{owner, majority}
use Rattle.protocol.specs.BallotRules.{unanswered, answers_prepare, give_promise, prepare_arrives, answers_accept, accepting, accept, accept_arrives, counts, counting, word_for, with_word, putting, put_word, put_if_majority, promise_arrives, promising, giving, open_ballot}
use Rattle.protocol.specs.BallotCalls.{takes_part, may_open_alone, open_call, ballot_addressed, ballot_comes, is_of_owner, ballot_arrives, receive_ballot, is_owner}
use Rattle.cabinet_state.specs.declared.BallotState.{BallotState}
use Rattle.cabinet_state.specs.declared.Cabinet.{Cabinet}
use Rattle.cabinet_turns.specs.Turns.{answered, no_ballots, ordered, voted, timed_out, decided, halted, woken_by, woken}
use Rattle.cabinet_turns.specs.Ballots.{tally_for, with_ballots, by_itself, opened_by, opened, says_accepted, same_word, accepts, by_after, tally_after, answered_in, received_ballot, received_telegram, received}
use Rattle.cabinet.specs.Acts.{Act, Ordering, Voting, Receiving, TimingOut, Deciding, Stopping, Waking, Opening, number_of, next_of}
use Rattle.cabinet_alone.specs.Acts.{after}
use Rattle.cabinet_alone.specs.SettledWord.{is_counted, SameBallot, Told, TookItself}

not-true : (b : Bool) → not b ≡ true → b ≡ false
not-true true e = absurd (false≢true e)
not-true false e = refl

same_word_lem : (x y : Outcome) → same_word x y ≡ true → x ≡ y
same_word_lem None None e = refl
same_word_lem Stay Stay e = refl
same_word_lem Move Move e = refl
same_word_lem None Stay e = absurd (false≢true e)
same_word_lem None Move e = absurd (false≢true e)
same_word_lem Stay None e = absurd (false≢true e)
same_word_lem Stay Move e = absurd (false≢true e)
same_word_lem Move None e = absurd (false≢true e)
same_word_lem Move Stay e = absurd (false≢true e)

-- THE RULES OF BALLOTS. Who takes the word of an owner's ballot at a promise takes the one that is put there.
abbrev TookPut : ℕ → BallotAnswer → Type 0
TookPut b x = x.accepts ≡ true → (x.acceptor.last ≡ b) × (x.acceptor.word ≡ x.tally.word)

took-put : (n b j last : ℕ) (w own : Outcome) (a : Acceptor) (t : Tally) → TookPut b (promise_arrives n b j last w own a t)
unfolding promise_arrives put_if_majority put_word putting accept_arrives accept accepting with_word unanswered
took-put n b j last w own a t = by_cond (TookPut b) (counts t j) _ _
    (λ e. by_cond (TookPut b) (majority n (counting t j last w).from) _ _
    (λ q z. by_cond (λ (x : BallotAnswer). x.accepts ≡ true → (x.acceptor.last ≡ b) × (x.acceptor.word ≡ x.tally.word)) (answers_accept b a)
    (accept b (word_for (counting t j last w) own) a (with_word (counting t j last w) (word_for (counting t j last w) own))) (unanswered a (with_word (counting t j last w) (word_for (counting t j last w) own)))
    (λ p y. (refl, refl)) (λ p y. absurd (false≢true y)) z)
    (λ q z. absurd (false≢true z)))
    (λ e z. absurd (false≢true z))

-- a word that was put stays
abbrev KeepsWord : Tally → BallotAnswer → Type 0
KeepsWord t x = x.tally.word ≡ t.word

promise-keeps : (n b j last : ℕ) (w own : Outcome) (a : Acceptor) (t : Tally) → is_none t.word ≡ false → KeepsWord t (promise_arrives n b j last w own a t)
unfolding promise_arrives unanswered
promise-keeps n b j last w own a t e = rw e

arrives-keeps : (kind : BallotKind) (n b from last : ℕ) (w own : Outcome) (a : Acceptor) (t : Tally) → is_none t.word ≡ false → KeepsWord t (ballot_arrives kind n b from last w own a t)
unfolding ballot_arrives prepare_arrives give_promise accept_arrives accept unanswered
arrives-keeps Prepare n b from last w own a t e = by_cond (KeepsWord t) (answers_prepare b a) _ _ (λ q. refl) (λ q. refl)
arrives-keeps Promise n b from last w own a t e = promise-keeps n b from last w own a t e
arrives-keeps Accept n b from last w own a t e = by_cond (KeepsWord t) (answers_accept b a) _ _ (λ q. refl) (λ q. refl)
arrives-keeps Accepted n b from last w own a t e = refl

receive-keeps : (me : Identity) (own : Bool) (m : BallotMessage) (c : Controller) (a : Acceptor) (t : Tally) → is_none t.word ≡ false → KeepsWord t (receive_ballot me own m c a t)
unfolding receive_ballot unanswered
receive-keeps me own m c a t e = by_cond (KeepsWord t) (takes_part me own c && ballot_comes me m t) _ _
    (λ q. arrives-keeps m.kind me.n m.ballot m.from m.last m.word c.proposal a t e) (λ q. refl)

open-keeps : (me : Identity) (own : Bool) (b : ℕ) (c : Controller) (a : Acceptor) (t : Tally) → is_none t.word ≡ false → KeepsWord t (open_call me own b c a t)
unfolding open_call open_ballot giving unanswered
open-keeps me own b c a t e = by_cond (KeepsWord t) (takes_part me own c && may_open_alone me b a t && not (is_none c.proposal)) _ _
    (λ q. promise-keeps me.n b me.id a.last a.word c.proposal (promising b a) t e) (λ q. refl)

open-took : (me : Identity) (own : Bool) (b : ℕ) (c : Controller) (a : Acceptor) (t : Tally) → TookPut b (open_call me own b c a t)
unfolding open_call open_ballot giving unanswered
open-took me own b c a t = by_cond (TookPut b) (takes_part me own c && may_open_alone me b a t && not (is_none c.proposal)) _ _
    (λ q z. took-put me.n b me.id a.last a.word c.proposal (promising b a) t z) (λ q z. absurd (false≢true z))

-- only the ballot that was opened last has counted the own promise
own-ballot : (b : ℕ) (x : BallotState) (i : ℕ) → has (tally_for b x).from i ≡ true → b ≡ x.opened
unfolding tally_for
own-ballot b x i e = elim (split (eqb b x.opened)) [
  | inl y ↦ eqb-true b x.opened y
  | inr y ↦ none_has i (rw y at e)
]

-- an owner takes the word of its own ballot at a promise that comes in, and at nothing else that comes in
arrives-took : (kind : BallotKind) (n b from i last : ℕ) (w own : Outcome) (a : Acceptor) (t : Tally) → is_of_owner kind n b from i t ≡ true → not (eqb from i) ≡ true → eqb (owner n b) i ≡ true
    → (ballot_arrives kind n b from last w own a t).accepts ≡ true
    → (has t.from i ≡ true) × (((ballot_arrives kind n b from last w own a t).acceptor.last ≡ b) × ((ballot_arrives kind n b from last w own a t).acceptor.word ≡ (ballot_arrives kind n b from last w own a t).tally.word))
unfolding ballot_arrives is_of_owner prepare_arrives give_promise unanswered
arrives-took Prepare n b from i last w own a t o d e z = absurd (by_cond (λ (x : BallotAnswer). x.accepts ≡ true → ⊥) (answers_prepare b a) _ _ (λ q y. false≢true y) (λ q y. false≢true y) z)
arrives-took Promise n b from i last w own a t o d e z = (and_r (eqb (owner n b) i) (has t.from i) o, took-put n b from last w own a t z)
arrives-took Accept n b from i last w own a t o d e z =
    let p = eqb-true (owner n b) from o in
    let q = eqb-true (owner n b) i e in
    absurd (no_both (eqb from i) (eq-eqb from i (sym p ∙ q)) (not-true (eqb from i) d))
arrives-took Accepted n b from i last w own a t o d e z = absurd (false≢true z)

-- ONE CALL. What is to be shown of the next cabinet
abbrev Explained : Act → Cabinet → ℕ → Cabinet → Type 0
Explained a s j next = is_counted next j ≡ true → ((is_counted s j ≡ true) × SameBallot s next) ⊎ (Told a next j ⊎ TookItself next j)

abbrev Stays : Cabinet → Cabinet → Type 0
Stays s next = SameBallot s next → 1 ≤ s.ballots.opened → is_none s.ballots.tally.word ≡ false → next.ballots.tally.word ≡ s.ballots.tally.word

-- a call that leaves the ballots alone; one that forgets them
alike : (a : Act) (s next : Cabinet) (j : ℕ) → next.me ≡ s.me → next.ballots ≡ s.ballots → Explained a s j next
alike a s next j p q e = inl (sym (ap (λ (b : BallotState). has b.accepted_by j) q) ∙ e, record { order = ap (λ (i : Identity). i.order) p; ballot = ap (λ (b : BallotState). b.opened) q })

forgotten : (a : Act) (s next : Cabinet) (j : ℕ) → next.ballots ≡ no_ballots → Explained a s j next
unfolding no_ballots
forgotten a s next j q e = none_has j (sym (ap (λ (b : BallotState). has b.accepted_by j) q) ∙ e)

forgotten-word : (s next : Cabinet) → next.ballots ≡ no_ballots → Stays s next
unfolding no_ballots
forgotten-word s next q b o e = let z : 0 ≡ s.ballots.opened = sym (ap (λ (x : BallotState). x.opened) q) ∙ b.ballot in absurd (omega (arith, z, o))

-- a telegram of a ballot comes in
module _ (m : BallotMessage) (s : Cabinet) where
  abbrev tally : Tally
  tally = tally_for m.ballot s.ballots

  abbrev answer : BallotAnswer
  answer = receive_ballot s.me s.own m s.controller s.ballots.acceptor tally

  -- the tally after it: of the own ballot that was opened last, what the rule made of it
  of-own : m.ballot ≡ s.ballots.opened → (received_ballot m s).ballots.tally ≡ answer.tally
  unfolding received_ballot answered_in with_ballots tally_after
  of-own e = rw (eq-eqb m.ballot s.ballots.opened e)

  at_own : m.ballot ≡ s.ballots.opened → tally ≡ s.ballots.tally
  unfolding tally_for
  at_own e = rw (eq-eqb m.ballot s.ballots.opened e)

  keeps-word : is_none s.ballots.tally.word ≡ false → (received_ballot m s).ballots.tally.word ≡ s.ballots.tally.word
  unfolding received_ballot answered_in with_ballots tally_after
  keeps-word e = elim (split (eqb m.ballot s.ballots.opened)) [
    | inl y ↦ (let b = eqb-true m.ballot s.ballots.opened y in let t = at_own b in
        rw y (receive-keeps s.me s.own m s.controller s.ballots.acceptor tally (ap (λ (x : Tally). is_none x.word) t ∙ e) ∙ ap (λ (x : Tally). x.word) t))
    | inr y ↦ rw y
  ]

  -- the taken that counts: of this order, in the own ballot that was opened last, of the word put there
  says : (k : BallotKind) → says_accepted k ≡ true → k ≡ Accepted
  says Prepare e = absurd (false≢true e)
  says Promise e = absurd (false≢true e)
  says Accept e = absurd (false≢true e)
  says Accepted e = refl

  module _ (e : accepts m s ≡ true) where
    is-taken : m.kind ≡ Accepted
    unfolding accepts
    is-taken = says m.kind (search (and_l, and_r))

    in_order : m.order ≡ s.me.order
    unfolding accepts ballot_comes ballot_addressed
    in_order = eqb-true m.order s.me.order (search (and_l, and_r) depth 14)

    in-ballot : m.ballot ≡ s.ballots.opened
    unfolding accepts ballot_comes is_of_owner
    in-ballot =
        let o : is_of_owner m.kind s.me.n m.ballot m.from s.me.id tally ≡ true = search (and_l, and_r) in
        let p : is_of_owner Accepted s.me.n m.ballot m.from s.me.id tally ≡ true = subst (λ (k : BallotKind). is_of_owner k s.me.n m.ballot m.from s.me.id tally ≡ true) is-taken o in
        own-ballot m.ballot s.ballots s.me.id (and_r (eqb (owner s.me.n m.ballot) s.me.id) (has tally.from s.me.id) p)

    of_word : m.word ≡ s.ballots.tally.word
    unfolding accepts
    of_word = same_word_lem m.word tally.word (search (and_l, and_r)) ∙ ap (λ (x : Tally). x.word) (at_own in-ballot)

    has_word : is_none m.word ≡ false
    unfolding accepts ballot_comes ballot_suits tells_for_kind tells_word
    has_word =
        let o : tells_for_kind m.kind m.ballot m.last m.word ≡ true = search (and_l, and_r) in
        let p : tells_for_kind Accepted m.ballot m.last m.word ≡ true = subst (λ (k : BallotKind). tells_for_kind k m.ballot m.last m.word ≡ true) is-taken o in
        not-true (is_none m.word) (and_r (eqb m.last 0) (not (is_none m.word)) p)

  -- it takes the word of its own ballot
  module _ (e : (answer.accepts && is_owner s.me m.ballot) ≡ true) where
    abbrev Took : BallotAnswer → Type 0
    Took x = x.accepts ≡ true → (has tally.from s.me.id ≡ true) × ((x.acceptor.last ≡ m.ballot) × (x.acceptor.word ≡ x.tally.word))

    took : (has tally.from s.me.id ≡ true) × ((answer.acceptor.last ≡ m.ballot) × (answer.acceptor.word ≡ answer.tally.word))
    unfolding receive_ballot ballot_comes ballot_addressed unanswered
    took = by_cond Took (takes_part s.me s.own s.controller && ballot_comes s.me m tally) _ _
        (λ q z. arrives-took m.kind s.me.n m.ballot m.from s.me.id m.last m.word s.controller.proposal s.ballots.acceptor tally
        (search (and_l, and_r)) (search (and_l, and_r)) (and_r answer.accepts (is_owner s.me m.ballot) e) z)
        (λ q z. absurd (false≢true z))
        (and_l answer.accepts (is_owner s.me m.ballot) e)

    took-own : m.ballot ≡ s.ballots.opened
    took-own = own-ballot m.ballot s.ballots s.me.id took.0

  same : SameBallot s (received_ballot m s)
  unfolding received_ballot answered_in with_ballots
  same = record { order = refl; ballot = refl }

  abbrev Joined : ℕ → ℕ → Type 0
  Joined j by = has by j ≡ true → ((is_counted s j ≡ true) × SameBallot s (received_ballot m s)) ⊎ (((accepts m s ≡ true) × (j ≡ m.from)) ⊎ (((answer.accepts && is_owner s.me m.ballot) ≡ true) × (j ≡ s.me.id)))

  joined : (j : ℕ) → Joined j (by_after m s answer)
  unfolding by_after by_itself
  joined j = by_cond (Joined j) (accepts m s) _ _
      (λ e h. elim (insert_only s.ballots.accepted_by m.from j h) [ inl q ↦ inr (inl (e, q)) | inr q ↦ inl (q, same) ])
      (λ e. by_cond (Joined j) (answer.accepts && is_owner s.me m.ballot) _ _
      (λ y h. elim (insert_only s.ballots.accepted_by s.me.id j h) [ inl q ↦ inr (inr (y, q)) | inr q ↦ inl (q, same) ])
      (λ y h. inl (h, same)))

ballot-counts : (bytes : List ℕ) (m : BallotMessage) (s : Cabinet) (j : ℕ) → reads telegrams bytes ≡ Ok (OfBallot m) → Explained (Receiving bytes) s j (received_ballot m s)
unfolding received_ballot answered_in with_ballots
ballot-counts bytes m s j r h = elim (joined m s j h) [
  | inl x ↦ inl x
  | inr (inl x) ↦ inr (inl (record {
    bytes = bytes;
    came = refl;
    telegram = m;
    read = r;
    taken = is-taken m s x.0;
    from = sym x.1;
    order = in_order m s x.0;
    ballot = in-ballot m s x.0;
    word = of_word m s x.0 ∙ sym (keeps-word m s (ap is_none (sym (of_word m s x.0)) ∙ has_word m s x.0));
  }))
  | inr (inr x) ↦ inr (inr (record {
    own = x.1;
    ballot = (took m s x.0).1.0 ∙ took-own m s x.0;
    word = (took m s x.0).1.1 ∙ sym (ap (λ (t : Tally). t.word) (of-own m s (took-own m s x.0)));
  }))
]

-- an opening: nobody is counted yet but itself
open-counts : (b : ℕ) (s : Cabinet) (j : ℕ) → Explained (Opening b) s j (opened b s)
unfolding opened opened_by with_ballots by_itself
open-counts b s j =
    let x = open_call s.me s.own b s.controller s.ballots.acceptor (tally_for b s.ballots) in
    λ h. elim (split x.accepts) [
      | inl y ↦ (let t = open-took s.me s.own b s.controller s.ballots.acceptor (tally_for b s.ballots) y in
          elim (insert_only 0 s.me.id j (rw y at h)) [ inl q ↦ inr (inr (record { own = q; ballot = t.0; word = t.1 })) | inr q ↦ none_has j q ])
      | inr y ↦ none_has j (rw y at h)
    ]

open-word : (b : ℕ) (s : Cabinet) → Stays s (opened b s)
unfolding opened opened_by with_ballots tally_for
open-word b s p o e =
    let y = eq-eqb b s.ballots.opened p.ballot in
    open-keeps s.me s.own b s.controller s.ballots.acceptor (tally_for b s.ballots) (rw y e) ∙ rw y

-- a telegram, a card, any call
read-counts : (bytes : List ℕ) (read : ReadTelegram) (s : Cabinet) (j : ℕ) → reads telegrams bytes ≡ read → Explained (Receiving bytes) s j (received read s)
unfolding received received_telegram answered
read-counts bytes (Err q) s j r = alike (Receiving bytes) s s j refl refl
read-counts bytes (Ok (Plain m)) s j r = alike (Receiving bytes) s _ j refl refl
read-counts bytes (Ok (OfBallot m)) s j r = ballot-counts bytes m s j r

read_word : (read : ReadTelegram) (s : Cabinet) → Stays s (received read s)
unfolding received received_telegram answered
read_word (Err q) s p o e = refl
read_word (Ok (Plain m)) s p o e = refl
read_word (Ok (OfBallot m)) s p o e = keeps-word m s e

card-counts : (a : Act) (card : ReadCheckpoint) (s : Cabinet) (j : ℕ) → Explained a s j (woken card s)
unfolding woken woken_by
card-counts a (Err q) s j = alike a s s j refl refl
card-counts a (Ok p) s j = forgotten a s _ j refl

card-word : (card : ReadCheckpoint) (s : Cabinet) → Stays s (woken card s)
unfolding woken woken_by
card-word (Err q) s p o e = refl
card-word (Ok c) s p o e = forgotten-word s _ refl p o e

next-counts : (a : Act) (s : Cabinet) (j : ℕ) → Explained a s j (next_of a s)
unfolding ordered voted timed_out decided halted answered
next-counts (Ordering k) s j = forgotten (Ordering k) s _ j refl
next-counts (Voting w t) s j = alike (Voting w t) s _ j refl refl
next-counts (Receiving bytes) s j = read-counts bytes (reads telegrams bytes) s j refl
next-counts TimingOut s j = alike TimingOut s _ j refl refl
next-counts (Deciding w) s j = alike (Deciding w) s _ j refl refl
next-counts Stopping s j = alike Stopping s _ j refl refl
next-counts (Waking bytes) s j = card-counts (Waking bytes) (reads checkpoints bytes) s j
next-counts (Opening b) s j = open-counts b s j

next_word : (a : Act) (s : Cabinet) → Stays s (next_of a s)
unfolding ordered voted timed_out decided halted answered
next_word (Ordering k) s p o e = forgotten-word s _ refl p o e
next_word (Voting w t) s p o e = refl
next_word (Receiving bytes) s p o e = read_word (reads telegrams bytes) s p o e
next_word TimingOut s p o e = refl
next_word (Deciding w) s p o e = refl
next_word Stopping s p o e = refl
next_word (Waking bytes) s p o e = card-word (reads checkpoints bytes) s p o e
next_word (Opening b) s p o e = open-word b s p o e

-- accepted or refused
pub counted : (a : Act) (s : Cabinet) (j : ℕ) → Explained a s j (after a s)
unfolding after
counted a s j = by_cond (Explained a s j) (eqb (number_of a s) 0) (next_of a s) s (λ e. next-counts a s j) (λ e. alike a s s j refl refl)

pub word-stays : (a : Act) (s : Cabinet) → Stays s (after a s)
unfolding after
word-stays a s = by_cond (Stays s) (eqb (number_of a s) 0) (next_of a s) s (λ e. next_word a s) (λ e p o z. refl)
