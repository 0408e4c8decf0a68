-- T counts sends. What a rule sends goes to nobody that its controller has sent that kind to before: the invariant keeps a set of receivers empty until
-- the rule that fills it, and a help answer goes to callers not yet answered. So every accepted event adds to the sets what it sends, and the
-- sums of their sizes follow the sends.
use Prim.Native.Nat.{ℕ, zero, suc, ◌+◌, ◌≤◌, ◌<◌}
use mathlib.Core.Path.{◌≡◌, refl, sym, ◌∙◌, ap}
use mathlib.Core.Bool.{Bool, true, false, ◌||◌, or-false}
use native.Mathlib.Omega.{arith}
use native.Mathlib.Decide.{ℕ_discrete}
use lib.Dec.{eqb}
use mathlib.Core.Logic.{inl, inr}
use borrow.Author.Tests.{eqb-true, ne_eqb}
use Rattle.ground.specs.Tests.{no_both, refuted, and_l, and_r, or_l, or-second}
use Rattle.ground.specs.Quantify.{count_to}
use Rattle.ground.proofs.Sizes.{count-union}
use Rattle.ground.specs.Mask.{has, insert}
use Rattle.ground.proofs.MaskLaws.{has-none, has_or, insert_only, none_has}
use Rattle.ground.specs.Update.{upd, upd_same, upd_other, upd-all}
use Rattle.votes.specs.declared.VoteSet.{VoteSet}
use Rattle.model.specs.declared.Kind.{Kind}
use Rattle.model.specs.declared.Kind.TheVariants.{Vote, Ack, Help, Helped}
use Rattle.model.specs.declared.Outcome.{Outcome}
use Rattle.model.specs.declared.Event.{Event}
use Rattle.model.specs.declared.Event.TheVariants.{Lock, Order, Cast, Deliver, Timeout, Decide, Stop, Save, Restore, OfBallots}
use Rattle.protocol.specs.declared.Controller.{Controller}
use Rattle.protocol.specs.declared.Answer.{Answer}
use Rattle.protocol.specs.declared.Outgoing.{Outgoing}
use Rattle.protocol.specs.declared.Sends.{Sends}
use Rattle.protocol.specs.declared.Sent.{Sent}
use Rattle.protocol.specs.Controllers.{runs, phase, has_called}
use Rattle.protocol.specs.Events.{subject}
use Rattle.protocol.specs.Rules.{passing_over, becomes, proposing, vote_rule, first_timeout, propose_if_sufficient, ready, calls_help, second_timeout, answers_call}
use Rattle.protocol.specs.Calls.{arrives}
use Rattle.protocol.specs.Benches.{of_kind, after_send, sent_after}
use Rattle.protocol.specs.Questions.{first_no}
use Rattle.protocol.specs.Display.{sum_to}
use Rattle.protocol.specs.SentOnce.{receivers_of, send_of}
use Rattle.protocol.proofs.view.View.{View, accepts, ask_l, ask_r, part}
use Rattle.protocol.proofs.view.Performed.{commit_v, rule_answer}
use Rattle.protocol.proofs.view.RuleCases.{restore_cases, sufficient_cases, second_cases, timeout_cases, arrives_cases}
use Rattle.protocol.proofs.invariant.Invariant.{voted_by, acked_by, frozen_by, Inv}
use Rattle.std.specs.Prelude.{Option, Some, None}
use Rattle.protocol.specs.Rules.{send_to}

-- what is sent of one kind goes to nobody that was sent it before, and leaves the vote set as it is, where somebody was sent it
pub record NewOf (old : Outgoing) (s : Option Outgoing) : Type 0 where
  pub fresh : (j : ℕ) → has (receivers_of s) j ≡ true → has old.to j ≡ false
  pub same : (j : ℕ) → has old.to j ≡ true → (after_send old s).votes ≡ old.votes

-- what an answer sends, of each kind
pub record New (l : Sent) (a : Answer) : Type 0 where
  vote : NewOf l.vote a.sends.vote
  ack : NewOf l.ack a.sends.ack
  help : NewOf l.help a.sends.help
  helped : NewOf l.helped a.sends.helped

pub new-of : (l : Sent) (a : Answer) → New l a → (kind : Kind) → NewOf (of_kind kind l) (send_of kind a.sends)
new-of l a h Vote = h.vote
new-of l a h Ack = h.ack
new-of l a h Help = h.help
new-of l a h Helped = h.helped

none-sent : (old : Outgoing) → NewOf old None
none-sent old = record { fresh = λ j e. none_has j e; same = λ j e. refl }

first-sent : (old : Outgoing) (to : ℕ) (s : VoteSet) → ((j : ℕ) → has old.to j ≡ false) → NewOf old (send_to to s)
first-sent old to s h = record { fresh = λ j e. h j; same = λ j e. absurd (no_both _ e (h j)) }

becomes-new : (l : Sent) (c : Controller) → New l (becomes c)
unfolding becomes
becomes-new l c = record { vote = none-sent _; ack = none-sent _; help = none-sent _; helped = none-sent _ }

passed-new : (l : Sent) (c : Controller) → New l (passing_over c)
unfolding passing_over
passed-new l c = record { vote = none-sent _; ack = none-sent _; help = none-sent _; helped = none-sent _ }

-- a sum with one place changed
sum-out : (m : ℕ) (g : ℕ → ℕ) (i x : ℕ) → m < i → sum_to m (upd g i x) ≡ sum_to m g
unfolding sum_to
sum-out zero g i x h = refl
sum-out (suc m) g i x h = rw (upd_other g i x (suc m) (ne_eqb (suc m) i (λ e. omega arith)), sum-out m g i x (omega arith))

sum-upd : (m : ℕ) (g : ℕ → ℕ) (i x d : ℕ) → 1 ≤ i → i ≤ m → x ≡ g i + d → sum_to m (upd g i x) ≡ sum_to m g + d
unfolding sum_to
sum-upd zero g i x d lo hi e = absurd (omega arith)
sum-upd (suc m) g i x d lo hi e = elim (ℕ_discrete i (suc m)) [
  | yes q ↦ rw q (let z : x ≡ g (suc m) + d = (rw q at e) in rw (upd_same g (suc m) x, sum-out m g (suc m) x (omega arith)) (omega arith))
  | no q ↦ let ih : sum_to m (upd g i x) ≡ sum_to m g + d = sum-upd m g i x d lo (omega arith) e in rw (upd_other g i x (suc m) (ne_eqb (suc m) i (λ z. q (sym z)))) (omega arith)
]

-- what was sent to j stays sent, with its set
pub record Stays (j : ℕ) (old new : Outgoing) : Type 0 where
  pub sent : has new.to j ≡ true
  pub votes : new.votes ≡ old.votes

module _ (n f : ℕ) where
  put-new : (l : Sent) (a : Answer) (o : Outcome) → New l a → New l (proposing a o)
  unfolding proposing
  put-new l a o h = record { vote = h.vote; ack = h.ack; help = h.help; helped = h.helped }

  puts-new : (l : Sent) (a : Answer) → New l a → New l (propose_if_sufficient n f a)
  puts-new l a h = sufficient_cases (New l) n f a (λ q. put-new l a _ h) (λ q. h)

  module _ (b : View) (inv : Inv n f b) (i : ℕ) where
    abbrev c : Controller
    c = b.ctl i

    abbrev l : Sent
    l = b.state.sent i

    -- nobody was sent a kind that its controller has not come to
    unvoted : runs c ≡ true → phase c ≡ 0 → (j : ℕ) → has l.vote.to j ≡ false
    unvoted r p j = refuted _ (λ e. no_both (voted_by i l) ((inv.lines i).vote-to j e).0 ((inv.owns i).phased.fresh0 r p))

    unacked : runs c ≡ true → phase c ≡ 1 → (j : ℕ) → has l.ack.to j ≡ false
    unacked r p j = refuted _ (λ e. no_both (acked_by i l) ((inv.lines i).ack-to j e).0 ((inv.owns i).phased.fresh1 r (omega arith)))

    uncalled : runs c ≡ true → phase c ≡ 2 → (j : ℕ) → has l.help.to j ≡ false
    uncalled r p j = refuted _ (λ e. no_both (frozen_by i l) ((inv.lines i).help-to j e) ((inv.owns i).phased.fresh2 r (omega arith)))

    unanswered : runs c ≡ true → phase c ≡ 2 → (j : ℕ) → has l.helped.to j ≡ false
    unanswered r p j = refuted _ (λ e. no_both (frozen_by i l) ((inv.lines i).helped-to j e) ((inv.owns i).phased.fresh2 r (omega arith)))

    vote-new : (w : Bool) (t : ℕ) → runs c ≡ true → phase c ≡ 0 → New l (vote_rule n f i w t c)
    unfolding vote_rule
    vote-new w t r p = record { vote = first-sent _ _ _ (unvoted r p); ack = none-sent _; help = none-sent _; helped = none-sent _ }

    first-new : runs c ≡ true → phase c ≡ 1 → New l (first_timeout n f i c)
    unfolding first_timeout
    first-new r p = record { vote = none-sent _; ack = first-sent _ _ _ (unacked r p); help = none-sent _; helped = none-sent _ }

    ready-new : (s : VoteSet) (next : Controller) → runs c ≡ true → phase c ≡ 2 → New l (ready s next)
    unfolding ready
    ready-new s next r p = record { vote = none-sent _; ack = none-sent _; help = none-sent _; helped = first-sent _ _ _ (unanswered r p) }

    calls-new : (s : VoteSet) (next : Controller) → runs c ≡ true → phase c ≡ 2 → New l (calls_help n f i s next)
    unfolding calls_help
    calls-new s next r p = record { vote = none-sent _; ack = none-sent _; help = first-sent _ _ _ (uncalled r p); helped = first-sent _ _ _ (unanswered r p) }

    second-new : runs c ≡ true → phase c ≡ 2 → New l (second_timeout n f i c)
    second-new r p = second_cases (New l) n f i c (λ d. ready-new _ _ r p) (λ e. put-new l _ _ (ready-new _ _ r p)) (λ e. puts-new l _ (calls-new _ _ r p))

    -- one whose call was not taken yet has not been answered
    answers-new : (j : ℕ) → 3 ≤ phase c → has_called c j ≡ false → New l (answers_call j c)
    unfolding answers_call
    answers-new j p q = record { vote = none-sent _; ack = none-sent _; help = none-sent _; helped = record { fresh = fresh; same = λ k e. (inv.owns i).helping.help-copy (omega arith) } }
      where
        fresh : (k : ℕ) → has (insert 0 j) k ≡ true → has l.helped.to k ≡ false
        fresh k e = elim (insert_only 0 j k e) [ inr z ↦ none_has k z | inl z ↦ rw z ((inv.owns i).helping.answered p j ∙ q) ]

    arrives-new : (kind : Kind) (j : ℕ) (s : VoteSet) → New l (arrives kind n f j s c)
    arrives-new kind j s = arrives_cases (New l) n f kind j s c (λ c' q. becomes-new l c') (puts-new l) (λ z p q. answers-new j p q) (passed-new l c)

  -- the rule of every accepted event
  pub rule-new : (b : View) → Inv n f b → (e : Event) → accepts n f b e ≡ true → New (b.state.sent (subject e)) (rule_answer n f b e)
  unfolding rule_answer accepts first_no
  rule-new b inv (Lock a c own) q = passed-new _ _
  rule-new b inv (Order o) q = passed-new _ _
  rule-new b inv (Cast i w t) q = vote-new b inv i w t (search (ask_l, ask_r, and_l, and_r) depth 14) (eqb-true _ _ (search (ask_l, ask_r, and_l, and_r) depth 14))
  rule-new b inv (Deliver i j k) q = arrives-new b inv j k i _
  rule-new b inv (Timeout i) q = timeout_cases (New (b.state.sent i)) n f i (b.ctl i) (λ p. first-new b inv i (search (ask_l, ask_r, and_l, and_r) depth 14) p)
      (λ e. second-new b inv i (search (ask_l, ask_r, and_l, and_r) depth 14) (eqb-true _ _ (or-second (eqb (phase (b.ctl i)) 1) _ e (search (ask_l, ask_r, and_l, and_r) depth 14))))
  rule-new b inv (Decide i w) q = becomes-new _ _
  rule-new b inv (Stop i) q = becomes-new _ _
  rule-new b inv (Save i) q = passed-new _ _
  rule-new b inv (OfBallots e) q = passed-new _ _
  rule-new b inv (Restore i) q = restore_cases (New (b.state.sent i)) _ _ (b.ctl i) (λ x z y. becomes-new _ _) (passed-new _ _)

  -- what is sent of a kind after an answer
  after_send_lem : (old : Outgoing) (s : Option Outgoing) (j : ℕ) → has (after_send old s).to j ≡ (has old.to j || has (receivers_of s) j)
  after_send_lem old None j = sym (rw (has-none j) (or-false (has old.to j)))
  after_send_lem old (Some o) j = has_or old.to o.to j

  sent-kind : (l : Sent) (a : Sends) (kind : Kind) → of_kind kind (sent_after l a) ≡ after_send (of_kind kind l) (send_of kind a)
  unfolding sent_after
  sent-kind l a Vote = refl
  sent-kind l a Ack = refl
  sent-kind l a Help = refl
  sent-kind l a Helped = refl

  pub sent-more : (l : Sent) (a : Sends) (kind : Kind) (j : ℕ) → has (of_kind kind (sent_after l a)).to j ≡ (has (of_kind kind l).to j || has (receivers_of (send_of kind a)) j)
  sent-more l a kind j = ap (λ (o : Outgoing). has o.to j) (sent-kind l a kind) ∙ after_send_lem (of_kind kind l) (send_of kind a) j

  abbrev size_of : Kind → Sent → ℕ
  size_of kind l = count_to n (has (of_kind kind l).to)

  more-sized : (l : Sent) (a : Answer) (kind : Kind) → New l a → size_of kind (sent_after l a.sends) ≡ size_of kind l + count_to n (has (receivers_of (send_of kind a.sends)))
  more-sized l a kind h = count-union n (has (of_kind kind l).to) (has (receivers_of (send_of kind a.sends))) (has (of_kind kind (sent_after l a.sends)).to) (sent-more l a.sends kind) (new-of l a h kind).fresh

  -- all senders together
  abbrev pub message_count_v : View → Kind → ℕ
  message_count_v v kind = sum_to n (λ i. size_of kind (v.state.sent i))

  pub commit-counted : (b : View) (i : ℕ) (a : Answer) (kind : Kind) → 1 ≤ i → i ≤ n → New (b.state.sent i) a
      → message_count_v (commit_v b i a) kind ≡ message_count_v b kind + count_to n (has (receivers_of (send_of kind a.sends)))
  unfolding commit_v
  commit-counted b i a kind lo hi h = ap (sum_to n) (part (size_of kind) b.state.sent i (sent_after (b.state.sent i) a.sends))
      ∙ sum-upd n (λ k. size_of kind (b.state.sent k)) i _ _ lo hi (more-sized (b.state.sent i) a kind h)

  -- after an answer is put back, what anybody has sent stays sent
  pub commit-kept : (b : View) (i : ℕ) (a : Answer) → New (b.state.sent i) a → (kind : Kind) (j k : ℕ) → has (of_kind kind (b.state.sent k)).to j ≡ true
      → Stays j (of_kind kind (b.state.sent k)) (of_kind kind ((commit_v b i a).state.sent k))
  unfolding commit_v
  commit-kept b i a h kind j k e = upd-all (λ m l. has (of_kind kind (b.state.sent m)).to j ≡ true → Stays j (of_kind kind (b.state.sent m)) (of_kind kind l)) b.state.sent i (sent_after (b.state.sent i) a.sends)
      (λ x. record { sent = sent-more (b.state.sent i) a.sends kind j ∙ or_l _ _ x; votes = ap (λ (o : Outgoing). o.votes) (sent-kind (b.state.sent i) a.sends kind) ∙ (new-of (b.state.sent i) a h kind).same j x }) (λ m x. record { sent = x; votes = refl }) k e
