-- Ballot 1, event by event: 1 opens it; the asks come to all others, their promises to 1, and the word that 1 then puts to all others. Each takes it.
-- Each event is accepted for what holds then, and does what Rules says.
use Prim.Native.Nat.{ℕ, zero, suc, ◌≤◌, ◌<◌, ◌*◌}
use mathlib.Core.Path.{◌≡◌, refl, sym, ◌∙◌, ap, subst}
use mathlib.Core.Bool.{true, false, cond}
use mathlib.Core.List.{List, [], ◌∷◌, ◌++◌}
use mathlib.Core.Logic.{inl, inr}
use native.Mathlib.Nat.{mod-eq_of_lt}
use native.Mathlib.Omega.{arith}
use native.Mathlib.Decide.{ℕ_discrete}
use lib.Dec.{leb}
use borrow.Author.Tests.{le-leb, le-ltb, lt-ltb, ne_eqb}
use Rattle.ground.specs.Limit.{limit}
use Rattle.ground.specs.Tests.{no_both}
use Rattle.ground.specs.Mask.{has, insert}
use Rattle.ground.proofs.MaskLaws.{has-none, insert-own, insert-keeps}
use Rattle.ground.specs.Quantify.{count_to}
use Rattle.ground.proofs.Sizes.{none-count, all-count}
use Rattle.ground.specs.Update.{upd, upd_same, upd_other}
use Rattle.model.specs.Numbers.{is_none}
use Rattle.model.specs.Ranges.{sizes_in_range, is_controller}
use Rattle.model.specs.declared.Outcome.{Outcome}
use Rattle.model.specs.declared.BallotKind.{BallotKind}
use Rattle.model.specs.declared.BallotKind.TheVariants.{Prepare, Promise, Accept}
use Rattle.model.specs.declared.BallotEvent.{BallotEvent}
use Rattle.model.specs.declared.BallotEvent.TheVariants.{Open, Carry}
use Rattle.model.specs.declared.Event.{Event}
use Rattle.model.specs.declared.Event.TheVariants.{OfBallots}
use Rattle.protocol.specs.declared.Acceptor.{Acceptor}
use Rattle.protocol.specs.declared.Report.{Report}
use Rattle.protocol.specs.declared.Tally.{Tally}
use Rattle.protocol.specs.declared.BallotAnswer.{BallotAnswer}
use Rattle.protocol.specs.declared.BallotRow.{BallotRow}
use Rattle.protocol.specs.declared.Ballots.{Ballots}
use Rattle.protocol.specs.declared.Controller.{Controller}
use Rattle.protocol.specs.Controllers.{runs}
use Rattle.protocol.specs.Questions.{unless, first_no}
use Rattle.protocol.specs.Ballots.{is_ballot, owner, majority, new_acceptor, acceptor, row, report}
use Rattle.protocol.specs.BallotRules.{reporting, promising, give_promise, accept_arrives, promise_arrives, giving, open_ballot}
use Rattle.protocol.specs.BallotSteps.{ballot_subject, was_sent_in, row_after, answered, reported_word, carried, ballots_after}
use Rattle.protocol.proofs.view.View.{View, ballots_v, accepts}
use Rattle.protocol.proofs.view.Performed.{perform_v}
use Rattle.protocol.proofs.paxos.Invariant.{IsPut}
use Rattle.protocol.proofs.paxos.Parts.{promise-silent}
use Rattle.protocol.proofs.paxos.Growth.{accept-tally}
use Rattle.protocol.proofs.paxos.Order.{Balloted, NewRow, rows_new, acceptors-new, acceptors-put, rows-put}
use Rattle.protocol.proofs.hearing.Later.{view_at, performs, later_refl, later_trans, later-one}
use Rattle.protocol.proofs.hearing.Onward.{open_at}
use Rattle.protocol.proofs.settles.Rules.{prepare-promises, accept_takes, accept-low, promise-low, Tallied, promise_tallies, open-low}
use Rattle.protocol.proofs.settles.Proposer.{At, To, Staged}

-- "ballot b belongs to controller 1 + (b − 1) mod n"
first-owner : (n : ℕ) → 0 < n → owner n 1 ≡ 1
unfolding owner
first-owner n h = ap (λ (x : ℕ). suc x) (mod-eq_of_lt h)

-- none of 1 to n, and all of them
no-majority : (n m : ℕ) → m ≡ 0 → majority n m ≡ false
unfolding majority
no-majority n m z = rw (z, none-count n (has 0) (λ k _ _. has-none k)) (le-ltb n 0 (omega arith))

pub all-majority : (n m : ℕ) → 1 ≤ n → ((k : ℕ) → 1 ≤ k → k ≤ n → has m k ≡ true) → majority n m ≡ true
unfolding majority
all-majority n m lo h = lt-ltb n (2 * count_to n (has m)) (let q : count_to n (has m) ≡ n = all-count n (has m) h in omega arith)

-- a ballot after an answer
tally-after : (r : BallotRow) (i : ℕ) (x : BallotAnswer) → (row_after r i x).tally ≡ x.tally
unfolding row_after
tally-after r i x = refl

promised-after : (r : BallotRow) (i : ℕ) (x : BallotAnswer) → (row_after r i x).promised_by ≡ cond x.promise.given (insert r.promised_by i) r.promised_by
unfolding row_after
promised-after r i x = refl

module _ (n f : ℕ) (sized : sizes_in_range n f ≡ true) (f<n : f < n) (1≤f : 1 ≤ f) (small : n ≤ limit) where
  abbrev Now : List Event → Type 0
  Now es = At n f sized f<n 1≤f small es

  abbrev Then : List Event → List Event → Type 0
  Then es es' = To n f sized f<n 1≤f small es es'

  abbrev bs : List Event → Ballots
  bs es = (view_at es).ballots

  abbrev first : List Event → BallotRow
  first es = row (view_at es).ballots 1

  pub balloted : (es : List Event) → Now es → Balloted n (view_at es)
  balloted es m = subst (λ (x : ℕ). Balloted x (view_at es)) m.is-n m.sound.balloted

  -- no ballot is below 1, so none is reported to it
  no_top : (es : List Event) → Now es → (first es).tally.top ≡ 0
  no_top es m = elim ((balloted es m).inv.tops 1) [ inl q ↦ q | inr t ↦ let h : (first es).tally.top < 1 = t.earlier in omega arith ]

  -- who has last taken ballot 1 is noted as one that took it
  pub noted : (es : List Event) → Now es → (k : ℕ) → runs ((view_at es).ctl k) ≡ true → (acceptor (bs es) k).last ≡ 1 → has (first es).accepted_by k ≡ true
  noted es m k r e = elim ((balloted es m).inv.members k r).last_word [
    | inl q ↦ absurd (omega arith)
    | inr q ↦ subst (λ (b : ℕ). has (row (bs es) b).accepted_by k ≡ true) e q.0
  ]

  -- controller i's answer x to an event of ballot 1
  record Answered (es : List Event) (e : BallotEvent) (i : ℕ) (x : BallotAnswer) : Type 0 where
    later : Then es (es ++ (OfBallots e ∷ []))
    ctl : (k : ℕ) → (view_at (es ++ (OfBallots e ∷ []))).ctl k ≡ (view_at es).ctl k
    own : acceptor (bs (es ++ (OfBallots e ∷ []))) i ≡ x.acceptor
    others : (k : ℕ) → (k ≡ i → ⊥) → acceptor (bs (es ++ (OfBallots e ∷ []))) k ≡ acceptor (bs es) k
    tally : (first (es ++ (OfBallots e ∷ []))).tally ≡ x.tally
    promised : (first (es ++ (OfBallots e ∷ []))).promised_by ≡ cond x.promise.given (insert (first es).promised_by i) (first es).promised_by

  answers : (es : List Event) → Now es → (e : BallotEvent) (x : BallotAnswer) → 1 ≤ ballot_subject e → ballot_subject e ≤ n → runs ((view_at es).ctl (ballot_subject e)) ≡ true
      → ballots_after n (bs es) ((view_at es).ctl (ballot_subject e)).proposal e ≡ answered (bs es) (ballot_subject e) 1 x → accepts n f (view_at es) (OfBallots e) ≡ true → Answered es e (ballot_subject e) x
  answers es m e x lo hi r does q = record {
    later = later-one n f 1 f<n 1≤f small es m (OfBallots e) refl q r;
    ctl = λ k. rw then (unfold perform_v ballots_v in refl);
    own = ap (λ (F : ℕ → Acceptor). F (ballot_subject e)) acceptors ∙ upd_same (acceptor (bs es)) (ballot_subject e) x.acceptor;
    others = λ k d. ap (λ (F : ℕ → Acceptor). F k) acceptors ∙ upd_other (acceptor (bs es)) (ballot_subject e) x.acceptor k (ne_eqb k (ballot_subject e) d);
    tally = ap (λ (r : BallotRow). r.tally) ballot ∙ tally-after (first es) (ballot_subject e) x;
    promised = ap (λ (r : BallotRow). r.promised_by) ballot ∙ promised-after (first es) (ballot_subject e) x;
  }
    where
      then : view_at (es ++ (OfBallots e ∷ [])) ≡ perform_v n f (view_at es) (OfBallots e)
      then = performs n f 1 f<n 1≤f small es m (OfBallots e) q

      now : bs (es ++ (OfBallots e ∷ [])) ≡ answered (bs es) (ballot_subject e) 1 x
      now = ap (λ (v : View). v.ballots) then ∙ performed
        where
          performed : (perform_v n f (view_at es) (OfBallots e)).ballots ≡ answered (bs es) (ballot_subject e) 1 x
          performed = unfold perform_v ballots_v in does

      acceptors : acceptor (bs (es ++ (OfBallots e ∷ []))) ≡ upd (acceptor (bs es)) (ballot_subject e) x.acceptor
      acceptors = ap (λ (s : Ballots). acceptor s) now ∙ acceptors-put n small (view_at es) (balloted es m) (ballot_subject e) 1 lo hi (omega arith) (omega arith) x

      ballot : first (es ++ (OfBallots e ∷ [])) ≡ row_after (first es) (ballot_subject e) x
      ballot = ap (λ (s : Ballots). row s 1) now ∙ ap (λ (F : ℕ → BallotRow). F 1) (rows-put n small (view_at es) (balloted es m) (ballot_subject e) 1 lo hi (omega arith) (omega arith) x) ∙ upd_same (row (bs es)) 1 (row_after (first es) (ballot_subject e) x)

  -- all of it starts where all are at stage 3
  module _ (start : List Event) (s : Staged n f sized f<n 1≤f small n start) where
    abbrev mine : Outcome
    mine = ((view_at start).ctl 1).proposal

    -- nothing has changed but ballots, and nothing above ballot 1 was promised
    pub record Going (es : List Event) : Type 0 where
      pub later : Then start es
      pub ctl : (k : ℕ) → (view_at es).ctl k ≡ (view_at start).ctl k
      pub low : (k : ℕ) → (acceptor (bs es) k).highest ≤ 1

    pub record Reach (P : List Event → Type 0) : Type 0 where
      pub events : List Event
      pub holds : P events

    going_on : (es : List Event) → Going es → (e : BallotEvent) (i : ℕ) (x : BallotAnswer) → Answered es e i x → x.acceptor.highest ≤ 1 → Going (es ++ (OfBallots e ∷ []))
    going_on es g e i x t h = record {
      later = later_trans n f 1 f<n 1≤f small start es (es ++ (OfBallots e ∷ [])) g.later t.later;
      ctl = λ k. t.ctl k ∙ g.ctl k;
      low = λ k. elim (ℕ_discrete k i) [
        | yes q ↦ subst (λ (y : ℕ). (acceptor (bs (es ++ (OfBallots e ∷ []))) y).highest ≤ 1) (sym q) (subst (λ (a : Acceptor). a.highest ≤ 1) (sym t.own) h)
        | no q ↦ subst (λ (a : Acceptor). a.highest ≤ 1) (sym (t.others k q)) (g.low k)
      ];
    }

    module _ (es : List Event) (g : Going es) where
      running : (k : ℕ) → 1 ≤ k → k ≤ n → runs ((view_at es).ctl k) ≡ true
      running k lo hi = g.later.running k ∙ s.running k lo hi

      own : (view_at es).own ≡ true
      own = g.later.own ∙ s.own

      put : IsPut ((view_at es).ctl 1).proposal
      put = ap (λ (c : Controller). is_none c.proposal) (g.ctl 1) ∙ s.proposer.put

      opened : leb 1 (view_at es).order ≡ true
      opened = open_at n f 1 f<n 1≤f small (omega arith) es g.later.moment

      open-accepted : has (first es).promised_by 1 ≡ false → accepts n f (view_at es) (OfBallots (Open 1 1)) ≡ true
      unfolding accepts first_no unless is_controller is_ballot
      open-accepted h = rw (le-leb 1 n (omega arith), opened, running 1 (omega arith) (omega arith), first-owner n (omega arith), h, le-leb (acceptor (bs es) 1).highest 1 (g.low 1), own, put)

      carry-accepted : (i j : ℕ) (kind : BallotKind) → 1 ≤ i → i ≤ n → 1 ≤ j → j ≤ n → (i ≡ j → ⊥) → was_sent_in kind n 1 i j (first es) ≡ true → accepts n f (view_at es) (OfBallots (Carry i j kind 1)) ≡ true
      unfolding accepts first_no unless is_controller is_ballot
      carry-accepted i j kind il ih jl jh d h = rw (le-leb 1 i il, le-leb i n ih, le-leb 1 j jl, le-leb j n jh, ne_eqb i j d, opened, running j jl jh, own, h)

    -- asks: 1 to m have promised, the others nothing
    pub record Asked (m : ℕ) (es : List Event) : Type 0 where
      pub going : Going es
      pub promised : (k : ℕ) → 1 ≤ k → k ≤ m → has (first es).promised_by k ≡ true
      pub fresh : (k : ℕ) → m < k → (acceptor (bs es) k).promised ≡ 0
      pub tally : Tallied n mine 1 (acceptor (bs es) 1) (first es).tally

    new-acceptor : (k : ℕ) → acceptor (bs start) k ≡ new_acceptor
    new-acceptor k = ap (λ (x : Ballots). acceptor x k) s.ballots ∙ acceptors-new k

    new-row : NewRow (first start)
    new-row = subst (λ (x : Ballots). NewRow (row x 1)) (sym s.ballots) (rows_new 1)

    begun : Going start
    begun = record { later = later_refl n f 1 f<n 1≤f small start s.moment; ctl = λ k. refl; low = λ k. subst (λ (a : Acceptor). a.highest ≤ 1) (sym (new-acceptor k)) (omega arith) }

    abbrev s₁ : List Event
    s₁ = start ++ (OfBallots (Open 1 1) ∷ [])

    abbrev x₁ : BallotAnswer
    x₁ = open_ballot n 1 1 mine (acceptor (bs start) 1) (first start).tally

    opens : Answered start (Open 1 1) 1 x₁
    opens = answers start s.moment (Open 1 1) x₁ (omega arith) (omega arith) (running start begun 1 (omega arith) (omega arith)) (unfold ballots_after in refl)
        (open-accepted start begun (ap (λ (m : ℕ). has m 1) new-row.promised ∙ has-none 1))

    open-top : x₁.tally.top ≡ 0
    open-top = ap (λ (t : Tally). t.top) (sym opens.tally) ∙ no_top s₁ opens.later.moment

    -- its own promise is counted as any other
    own-counted : Tallied n mine 1 x₁.acceptor x₁.tally
    unfolding open_ballot giving
    own-counted = promise_tallies n mine s.proposer.put 0 _ _ (promising 1 (acceptor (bs start) 1)) (first start).tally (unfold promising in omega arith) (omega arith)
        (inr (record { blank = ap is_none new-row.word; few = no-majority n _ new-row.received; counted = λ j a b. absurd (omega arith) })) open-top

    own-promise : has (first s₁).promised_by 1 ≡ true
    own-promise = rw opens.promised (unfold open_ballot giving reporting in insert-own _ 1 (omega arith) (omega arith))

    asked-first : Asked 1 s₁
    asked-first = record {
      going = going_on start begun (Open 1 1) 1 x₁ opens (open-low n mine 1 _ _);
      promised = λ k lo hi. subst (λ (x : ℕ). has (first s₁).promised_by x ≡ true) (let q : 1 ≡ k = omega arith in q) own-promise;
      fresh = λ k h. ap (λ (a : Acceptor). a.promised) (opens.others k (λ q. omega arith) ∙ new-acceptor k);
      tally = rw (opens.tally, opens.own) own-counted;
    }

    module _ (m : ℕ) (lo : 1 ≤ m) (hi : suc m ≤ n) (es : List Event) (a : Asked m es) where
      abbrev ask-event : BallotEvent
      ask-event = Carry 1 (suc m) Prepare 1

      abbrev ask-answer : BallotAnswer
      ask-answer = give_promise 1 (acceptor (bs es) (suc m)) (first es).tally

      ask-sent : was_sent_in Prepare n 1 1 (suc m) (first es) ≡ true
      ask-sent = unfold was_sent_in in rw (first-owner n (omega arith), a.promised 1 (omega arith) lo)

      ask-done : Answered es ask-event (suc m) ask-answer
      ask-done = answers es a.going.later.moment ask-event ask-answer (omega arith) hi (running es a.going (suc m) (omega arith) hi)
          (unfold ballots_after carried in ap (answered (bs es) (suc m) 1) (prepare-promises _ _ (a.going.low (suc m)) (a.fresh (suc m) (omega arith))))
          (carry-accepted es a.going 1 (suc m) Prepare (omega arith) (omega arith) (omega arith) hi (λ q. omega arith) ask-sent)

      ask-next : Asked (suc m) (es ++ (OfBallots (Carry 1 (suc m) Prepare 1) ∷ []))
      ask-next = record {
        going = going_on es a.going ask-event (suc m) ask-answer ask-done (unfold give_promise promising in omega arith);
        promised = λ k l h. rw ask-done.promised (unfold give_promise reporting in elim (ℕ_discrete k (suc m)) [
          | yes q ↦ subst (λ (y : ℕ). has (insert (first es).promised_by (suc m)) y ≡ true) (sym q) (insert-own _ (suc m) (omega arith) (omega arith))
          | no q ↦ insert-keeps _ (suc m) k (a.promised k l (omega arith))
        ]);
        fresh = λ k h. ap (λ (b : Acceptor). b.promised) (ask-done.others k (λ q. omega arith)) ∙ a.fresh k (omega arith);
        tally = rw (ask-done.tally, ask-done.others 1 (λ q. omega arith)) (unfold give_promise in a.tally);
      }

    ask-all : (m : ℕ) → 1 ≤ m → m ≤ n → Reach (Asked m)
    ask-all zero lo hi = absurd (omega arith)
    ask-all (suc zero) lo hi = record { events = s₁; holds = asked-first }
    ask-all (suc (suc m)) lo hi = let r : Reach (Asked (suc m)) = ask-all (suc m) (omega arith) (omega arith) in record { events = r.events ++ (OfBallots (Carry 1 (suc (suc m)) Prepare 1) ∷ []); holds = ask-next (suc m) (omega arith) hi r.events r.holds }

    -- promises: all have promised, and 1 counts, or has put a word
    pub record Promised (m : ℕ) (es : List Event) : Type 0 where
      pub going : Going es
      pub promised : (k : ℕ) → 1 ≤ k → k ≤ n → has (first es).promised_by k ≡ true
      pub tally : Tallied n mine m (acceptor (bs es) 1) (first es).tally

    module _ (m : ℕ) (lo : 1 ≤ m) (hi : suc m ≤ n) (es : List Event) (a : Promised m es) where
      abbrev promise-event : BallotEvent
      promise-event = Carry (suc m) 1 Promise 1

      abbrev promise-answer : BallotAnswer
      promise-answer = promise_arrives n 1 (suc m) (report (first es) (suc m)) (reported_word (bs es) 1 (suc m)) mine (acceptor (bs es) 1) (first es).tally

      promise-sent : was_sent_in Promise n 1 (suc m) 1 (first es) ≡ true
      promise-sent = unfold was_sent_in in rw (first-owner n (omega arith), a.promised (suc m) (omega arith) hi)

      promise-done : Answered es promise-event 1 promise-answer
      promise-done = answers es a.going.later.moment promise-event promise-answer (omega arith) (omega arith) (running es a.going 1 (omega arith) (omega arith))
          (unfold ballots_after carried in ap (λ (c : Controller). answered (bs es) 1 1 (promise_arrives n 1 (suc m) (report (first es) (suc m)) (reported_word (bs es) 1 (suc m)) c.proposal (acceptor (bs es) 1) (first es).tally)) (a.going.ctl 1))
          (carry-accepted es a.going (suc m) 1 Promise (omega arith) hi (omega arith) (omega arith) (λ q. omega arith) promise-sent)

      none-given : promise-answer.promise.given ≡ false
      none-given = ap (λ (r : Report). r.given) (promise-silent n 1 mine (suc m) _ _ _ _)

      promise-top : promise-answer.tally.top ≡ 0
      promise-top = ap (λ (t : Tally). t.top) (sym promise-done.tally) ∙ no_top (es ++ (OfBallots promise-event ∷ [])) promise-done.later.moment

      promise-next : Promised (suc m) (es ++ (OfBallots (Carry (suc m) 1 Promise 1) ∷ []))
      promise-next = record {
        going = going_on es a.going promise-event 1 promise-answer promise-done (promise-low n mine (suc m) _ _ _ _ (a.going.low 1));
        promised = λ k l h. rw (promise-done.promised, none-given) (a.promised k l h);
        tally = rw (promise-done.tally, promise-done.own) (promise_tallies n mine s.proposer.put m _ _ (acceptor (bs es) 1) (first es).tally (a.going.low 1) (omega arith) a.tally promise-top);
      }

    promise-all : (m : ℕ) → 1 ≤ m → m ≤ n → Reach (Promised m)
    promise-all zero lo hi = absurd (omega arith)
    promise-all (suc zero) lo hi = let r : Reach (Asked n) = ask-all n (omega arith) (omega arith) in record { events = r.events; holds = record { going = r.holds.going; promised = r.holds.promised; tally = r.holds.tally } }
    promise-all (suc (suc m)) lo hi = let r : Reach (Promised (suc m)) = promise-all (suc m) (omega arith) (omega arith) in record { events = r.events ++ (OfBallots (Carry (suc (suc m)) 1 Promise 1) ∷ []); holds = promise-next (suc m) (omega arith) hi r.events r.holds }

    -- puts: 1 has put a word, and 1 to m have taken it
    pub record Taken (m : ℕ) (es : List Event) : Type 0 where
      pub going : Going es
      pub word : IsPut (first es).tally.word
      pub taken : (k : ℕ) → 1 ≤ k → k ≤ m → (acceptor (bs es) k).last ≡ 1

    -- with the promises of all there is a majority
    taken-first : (es : List Event) → Promised n es → Taken 1 es
    taken-first es p = elim p.tally [
      | inl q ↦ record { going = p.going; word = q.0; taken = λ k lo hi. subst (λ (y : ℕ). (acceptor (bs es) y).last ≡ 1) (let z : 1 ≡ k = omega arith in z) q.1 }
      | inr c ↦ absurd (no_both (majority n (first es).tally.from) (all-majority n _ (omega arith) c.counted) c.few)
    ]

    module _ (m : ℕ) (lo : 1 ≤ m) (hi : suc m ≤ n) (es : List Event) (a : Taken m es) where
      abbrev put-event : BallotEvent
      put-event = Carry 1 (suc m) Accept 1

      abbrev put-answer : BallotAnswer
      put-answer = accept_arrives 1 (first es).tally.word (acceptor (bs es) (suc m)) (first es).tally

      put-sent : was_sent_in Accept n 1 1 (suc m) (first es) ≡ true
      put-sent = unfold was_sent_in in rw (first-owner n (omega arith), a.word)

      put-done : Answered es put-event (suc m) put-answer
      put-done = answers es a.going.later.moment put-event put-answer (omega arith) hi (running es a.going (suc m) (omega arith) hi) (unfold ballots_after carried in refl)
          (carry-accepted es a.going 1 (suc m) Accept (omega arith) (omega arith) (omega arith) hi (λ q. omega arith) put-sent)

      take_next : Taken (suc m) (es ++ (OfBallots (Carry 1 (suc m) Accept 1) ∷ []))
      take_next = record {
        going = going_on es a.going put-event (suc m) put-answer put-done (accept-low _ _ _ (a.going.low (suc m)));
        word = ap (λ (t : Tally). is_none t.word) (put-done.tally ∙ accept-tally n 1 mine _ _ _) ∙ a.word;
        taken = λ k l h. elim (ℕ_discrete k (suc m)) [
          | yes q ↦ subst (λ (y : ℕ). (acceptor (bs (es ++ (OfBallots put-event ∷ []))) y).last ≡ 1) (sym q) (ap (λ (b : Acceptor). b.last) put-done.own ∙ accept_takes _ _ _ (a.going.low (suc m)))
          | no q ↦ ap (λ (b : Acceptor). b.last) (put-done.others k q) ∙ a.taken k l (omega arith)
        ];
      }

    pub take_all : (m : ℕ) → 1 ≤ m → m ≤ n → Reach (Taken m)
    take_all zero lo hi = absurd (omega arith)
    take_all (suc zero) lo hi = let r : Reach (Promised n) = promise-all n (omega arith) (omega arith) in record { events = r.events; holds = taken-first r.events r.holds }
    take_all (suc (suc m)) lo hi = let r : Reach (Taken (suc m)) = take_all (suc m) (omega arith) (omega arith) in record { events = r.events ++ (OfBallots (Carry 1 (suc (suc m)) Accept 1) ∷ []); holds = take_next (suc m) (omega arith) hi r.events r.holds }
