-- The T line follows the sends: over every list, event by event, the sizes of the sets of receivers grow by what the event sends. By Sends, through the
-- view; a new order begins with nothing sent.
use Prim.Native.Nat.{ℕ, zero, suc, ◌+◌, ◌≤◌}
use mathlib.Core.Path.{◌≡◌, refl, sym, ◌∙◌, ap, subst}
use mathlib.Core.Bool.{Bool, true, false, cond}
use mathlib.Core.List.{List, [], ◌∷◌, ◌++◌}
use native.Mathlib.Omega.{arith}
use mathlib.Core.Logic.{inl, inr}
use lib.ListN.{length, length-map}
use Rattle.ground.specs.Tests.{no_both, split, or_no_l, or_no_r}
use Rattle.ground.specs.Quantify.{count_to}
use Rattle.ground.specs.Mask.{has}
use Rattle.ground.proofs.MaskLaws.{has-none, none_has}
use Rattle.model.specs.declared.Kind.{Kind}
use Rattle.model.specs.declared.Kind.TheVariants.{Vote, Ack, Help, Helped}
use Rattle.model.specs.declared.Event.{Event}
use Rattle.model.specs.declared.Event.TheVariants.{Lock, Order, Cast, Deliver, Timeout, Decide, Stop, Save, Restore, OfBallots}
use Rattle.protocol.specs.declared.Answer.{Answer}
use Rattle.protocol.specs.declared.Identity.{Identity}
use Rattle.protocol.specs.declared.Sent.{Sent}
use Rattle.protocol.specs.declared.Bench.{Bench}
use Rattle.protocol.specs.Rules.{passing_over}
use Rattle.protocol.specs.Sequence.{members, message_to, messages_of_kind}
use Rattle.protocol.specs.SequenceLaws.{members-size}
use Rattle.protocol.specs.Benches.{new_bench, bench_of, unsent_all, station, sent_by, of_kind}
use Rattle.protocol.specs.Events.{subject, source, concerns_one, answer_to}
use Rattle.protocol.specs.Questions.{accepted, is_accepted, reply}
use Rattle.protocol.specs.Steps.{perform, step, run, renewed}
use Rattle.protocol.specs.Display.{WasSent, sum_to, sent_count, message_count}
use Rattle.protocol.specs.Claim.{after, opens_order, opens_any}
use Rattle.protocol.specs.SentOnce.{receivers_of, send_of, receivers_at, send_count, count_accepted, count_sends, StaysSent, SentOnce}
use Rattle.protocol.proofs.view.View.{ballots_v, View, opened_v, accepts}
use Rattle.protocol.proofs.view.Kinds.{IsLock}
use Rattle.protocol.proofs.view.Performed.{by-effect, commit_v, chosen, saved_v, rule_answer, perform_v, place}
use Rattle.protocol.proofs.view.Simulation.{view, Sound, rule_sim, reply_sim, step_steps, step-performs}
use Rattle.protocol.proofs.invariant.Arrivals.{count-zero}
use Rattle.protocol.proofs.lists.Moments.{accepted-is, lock-refused, run-append, refused-step}
use Rattle.protocol.proofs.lists.Start.{new-lock, freshes}
use Rattle.protocol.proofs.counting.Sends.{Stays, New, new-of, rule-new, message_count_v, commit-counted, commit-kept}
use Rattle.protocol.proofs.lists.Reach.{Reached, step-reached, reached}
use Rattle.std.specs.Prelude.{Option, Some, None}
use Rattle.protocol.specs.declared.Outgoing.{Outgoing}

-- a bench on which nothing was sent
pub sum-zero : (m : ℕ) (g : ℕ → ℕ) → ((k : ℕ) → g k ≡ 0) → sum_to m g ≡ 0
unfolding sum_to
sum-zero zero g h = refl
sum-zero (suc m) g h = rw (h (suc m), sum-zero m g h)

pub unsent-kind : (kind : Kind) → (of_kind kind unsent_all).to ≡ 0
unfolding unsent_all
unsent-kind Vote = refl
unsent-kind Ack = refl
unsent-kind Help = refl
unsent-kind Helped = refl

unsent-size : (n : ℕ) (kind : Kind) (l : Sent) → l ≡ unsent_all → count_to n (has (of_kind kind l).to) ≡ 0
unsent-size n kind l e = ap (λ (x : Sent). count_to n (has (of_kind kind x).to)) e ∙ ap (λ (m : ℕ). count_to n (has m)) (unsent-kind kind) ∙ count-zero n

silent : (kind : Kind) (b : Bench) → ((k : ℕ) → sent_by b k ≡ unsent_all) → message_count b kind ≡ 0
unfolding message_count sent_count
silent kind b h = sum-zero b.shared.n _ (λ k. unsent-size b.shared.n kind (sent_by b k) (h k))

pub fresh-silent : (kind : Kind) (locked : Bool) (n f : ℕ) (own : Bool) → message_count (bench_of locked n f own) kind ≡ 0
fresh-silent kind locked n f own = silent kind (bench_of locked n f own) (λ k. (freshes locked n f own k).sent)

-- messages, of the view
as-view : (b : Bench) (n f : ℕ) (kind : Kind) → b.shared.n ≡ n → message_count b kind ≡ message_count_v n f (view b) kind
unfolding message_count sent_count view
as-view b n f kind e = ap (λ (m : ℕ). sum_to m (λ i. count_to m (has (of_kind kind (sent_by b i)).to))) e

module _ (b : Bench) (a : Sound b) where
  abbrev n : ℕ
  n = b.shared.n

  abbrev f : ℕ
  f = b.shared.f

  adds : (e : Event) → accepts n f (view b) e ≡ true → New (sent_by b (subject e)) (answer_to b.shared e (sent_by b (source e)) (station b (subject e)))
  adds e q = subst (New (sent_by b (subject e))) (sym (rule_sim b (a) e q)) (unfold view in rule-new n f (view b) a.inv e q)

  -- what an accepted event leaves
  module _ (kind : Kind) (e : Event) (q : accepts n f (view b) e ≡ true) where
    abbrev sends : Answer → ℕ
    sends x = count_to n (has (receivers_of (send_of kind x.sends)))

    after-view : message_count (step b e) kind ≡ message_count_v n f (perform_v n f (view b) e) kind
    after-view = as-view (step b e) n f kind (step_steps b (a) e).same-n ∙ ap (λ (v : View). message_count_v n f v kind) (step-performs b a e (reply_sim b a e ∙ q))

    by_rule : message_count_v n f (view b) kind + sends (rule_answer n f (view b) e) ≡ message_count b kind + send_count b e kind
    by_rule = rw (as-view b n f kind refl) (ap (λ (x : Answer). message_count_v n f (view b) kind + sends x) (sym (rule_sim b (a) e q)))

    counted_by : message_count_v n f (perform_v n f (view b) e) kind ≡ message_count_v n f (view b) kind + sends (rule_answer n f (view b) e) → message_count (step b e) kind ≡ message_count b kind + send_count b e kind
    counted_by h = after-view ∙ h ∙ by_rule

  committed : (kind : Kind) (e : Event) → concerns_one e ≡ true → accepts n f (view b) e ≡ true
      → message_count_v n f (commit_v (view b) (subject e) (rule_answer n f (view b) e)) kind ≡ message_count_v n f (view b) kind + count_to n (has (receivers_of (send_of kind (rule_answer n f (view b) e).sends)))
  committed kind e c q = let p : (1 ≤ subject e) × (subject e ≤ n) = place n f (view b) e c q in commit-counted n f (view b) (subject e) (rule_answer n f (view b) e) kind p.0 p.1 (rule-new n f (view b) a.inv e q)

  nothing-more : (kind : Kind) → message_count_v n f (view b) kind ≡ message_count_v n f (view b) kind + count_to n (has (receivers_of (send_of kind (record { vote = None; ack = None; help = None; helped = None }))))
  nothing-more Vote = let z : count_to n (has 0) ≡ 0 = count-zero n in omega arith
  nothing-more Ack = let z : count_to n (has 0) ≡ 0 = count-zero n in omega arith
  nothing-more Help = let z : count_to n (has 0) ≡ 0 = count-zero n in omega arith
  nothing-more Helped = let z : count_to n (has 0) ≡ 0 = count-zero n in omega arith

  step-counted : (kind : Kind) (e : Event) → accepts n f (view b) e ≡ true → message_count (step b e) kind ≡ count_accepted kind b e (message_count b kind)
  step-counted kind (Lock x y own) q = absurd (no_both _ (reply_sim b (a) (Lock x y own) ∙ q) (lock-refused b x y own a.locked))
  step-counted kind (Order o) q = after-view kind (Order o) q ∙ sum-zero n (λ k. count_to n (has (of_kind kind ((perform_v n f (view b) (Order o)).state.sent k)).to))
      (λ k. unsent-size n kind ((perform_v n f (view b) (Order o)).state.sent k) (unfold perform_v opened_v renewed in refl))
  step-counted kind (Cast i w t) q = counted_by kind (Cast i w t) q (unfold perform_v rule_answer in committed kind (Cast i w t) refl q)
  step-counted kind (Deliver i j k) q = counted_by kind (Deliver i j k) q (unfold perform_v rule_answer in committed kind (Deliver i j k) refl q)
  step-counted kind (Timeout i) q = counted_by kind (Timeout i) q (unfold perform_v rule_answer in committed kind (Timeout i) refl q)
  step-counted kind (Decide i w) q = counted_by kind (Decide i w) q (unfold perform_v rule_answer commit_v chosen in committed kind (Decide i w) refl q)
  step-counted kind (Stop i) q = counted_by kind (Stop i) q (unfold perform_v rule_answer in committed kind (Stop i) refl q)
  step-counted kind (Save i) q = counted_by kind (Save i) q (unfold perform_v saved_v rule_answer passing_over in nothing-more kind)
  step-counted kind (OfBallots e) q = counted_by kind (OfBallots e) q (unfold perform_v ballots_v rule_answer passing_over in nothing-more kind)
  step-counted kind (Restore i) q = counted_by kind (Restore i) q (unfold perform_v rule_answer in committed kind (Restore i) refl q)

  -- what was sent stays sent
  performed-kept : (e : Event) → accepts n f (view b) e ≡ true → opens_order b e ≡ false → (kind : Kind) (j i : ℕ) → has (of_kind kind (sent_by b i)).to j ≡ true
      → Stays j (of_kind kind (sent_by b i)) (of_kind kind ((perform_v n f (view b) e).state.sent i))
  unfolding view
  performed-kept e q o kind j i h = by-effect n f (view b) (λ e v. accepts n f (view b) e ≡ true → opens_order b e ≡ false → Stays j (of_kind kind (sent_by b i)) (of_kind kind (v.state.sent i)))
      (λ x y own q o. record { sent = h; votes = refl }) (λ m q o. absurd (no_both _ (reply_sim b a (Order m) ∙ q) o)) (λ e c q o. commit-kept n f (view b) (subject e) _ (rule-new n f (view b) a.inv e q) kind j i h)
      (λ k w q o. unfold chosen in commit-kept n f (chosen (view b) w) k _ (rule-new n f (view b) a.inv (Decide k w) q) kind j i h)
      (λ k q o. unfold saved_v in record { sent = h; votes = refl }) (λ e q o. unfold ballots_v in record { sent = h; votes = refl }) e q o

  accepted-kept : (e : Event) → accepts n f (view b) e ≡ true → opens_order b e ≡ false → (kind : Kind) (j i : ℕ) → has (of_kind kind (sent_by b i)).to j ≡ true
      → Stays j (of_kind kind (sent_by b i)) (of_kind kind (sent_by (step b e) i))
  accepted-kept e q o kind j i h = unfold view in subst (λ (v : View). Stays j (of_kind kind (sent_by b i)) (of_kind kind (v.state.sent i))) (sym (step-performs b a e (reply_sim b a e ∙ q))) (performed-kept e q o kind j i h)

-- from the new bench the lock alone is accepted, and nothing is sent
new-counted : (kind : Kind) (e : Event) → is_accepted (reply new_bench e) ≡ true → message_count (step new_bench e) kind ≡ count_accepted kind new_bench e (message_count new_bench kind)
new-counted kind e q = let l : IsLock e = new-lock e q in subst (λ (x : Event). message_count (step new_bench x) kind ≡ count_accepted kind new_bench x (message_count new_bench kind)) (sym l.is) (locked l.n l.f l.own (rw l.is at q))
  where
    locked : (n f : ℕ) (own : Bool) → is_accepted (reply new_bench (Lock n f own)) ≡ true → message_count (step new_bench (Lock n f own)) kind ≡ 0
    locked n f own q = let l : step new_bench (Lock n f own) ≡ bench_of true n f own = (unfold step perform in rw q) in ap (λ (b : Bench). message_count b kind) l ∙ fresh-silent kind true n f own

accepted-counted : (kind : Kind) (b : Bench) (e : Event) → Reached b → is_accepted (reply b e) ≡ true → message_count (step b e) kind ≡ count_accepted kind b e (message_count b kind)
accepted-counted kind b e (inl z) q = subst (λ (x : Bench). message_count (step x e) kind ≡ count_accepted kind x e (message_count x kind)) (sym z) (new-counted kind e (ap (λ (x : Bench). is_accepted (reply x e)) (sym z) ∙ q))
accepted-counted kind b e (inr a) q = step-counted b a kind e (sym (reply_sim b (a) e) ∙ q)

run-counted : (kind : Kind) (es : List Event) (b : Bench) → Reached b → message_count (run b es) kind ≡ count_sends kind b es (message_count b kind)
unfolding run count_sends
run-counted kind [] b r = refl
run-counted kind (e ∷ es) b r = run-counted kind es (step b e) (step-reached b e r) ∙ ap (count_sends kind (step b e) es) now
  where
    now : message_count (step b e) kind ≡ cond (is_accepted (reply b e)) (count_accepted kind b e (message_count b kind)) (message_count b kind)
    now = elim (split (is_accepted (reply b e))) [
      | inl q ↦ rw q (accepted-counted kind b e r q)
      | inr q ↦ rw q (ap (λ (x : Bench). message_count x kind) (refused-step b e q))
    ]

once-at : (b : Bench) (e : Event) (kind : Kind) (j : ℕ) → Reached b → reply b e ≡ accepted → has (receivers_at b e kind) j ≡ true → has (of_kind kind (sent_by b (subject e))).to j ≡ false
once-at b e kind j (inl z) p h = subst (λ (x : Bench). has (of_kind kind (sent_by x (subject e))).to j ≡ false) (sym z)
    (ap (λ (l : Sent). has (of_kind kind l).to j) (freshes false 0 0 false (subject e)).sent ∙ ap (λ (m : ℕ). has m j) (unsent-kind kind) ∙ has-none j)
once-at b e kind j (inr a) p h = (new-of _ _ (adds b a e (sym (reply_sim b a e) ∙ accepted-is _ p)) kind).fresh j h

-- over every list
step_kept : (b : Bench) (e : Event) → Reached b → opens_order b e ≡ false → (kind : Kind) (j i : ℕ) → has (of_kind kind (sent_by b i)).to j ≡ true
    → Stays j (of_kind kind (sent_by b i)) (of_kind kind (sent_by (step b e) i))
step_kept b e (inl z) o kind j i h =
    none_has j (sym (ap (λ (x : Bench). has (of_kind kind (sent_by x i)).to j) z ∙ ap (λ (l : Sent). has (of_kind kind l).to j) (freshes false 0 0 false i).sent ∙ ap (λ (m : ℕ). has m j) (unsent-kind kind)) ∙ h)
step_kept b e (inr a) o kind j i h = elim (split (is_accepted (reply b e))) [
  | inl q ↦ accepted-kept b a e (sym (reply_sim b (a) e) ∙ q) o kind j i h
  | inr q ↦ subst (λ (x : Bench). Stays j (of_kind kind (sent_by b i)) (of_kind kind (sent_by x i))) (sym (refused-step b e q)) (record { sent = h; votes = refl })
]

run-kept : (more : List Event) (b : Bench) → Reached b → opens_any b more ≡ false → (kind : Kind) (j i : ℕ) → has (of_kind kind (sent_by b i)).to j ≡ true
    → Stays j (of_kind kind (sent_by b i)) (of_kind kind (sent_by (run b more) i))
unfolding run opens_any
run-kept [] b r o kind j i h = record { sent = h; votes = refl }
run-kept (e ∷ more) b r o kind j i h =
    let s = step_kept b e r (or_no_l (opens_order b e) _ o) kind j i h in
    let t = run-kept more (step b e) (step-reached b e r) (or_no_r (opens_order b e) _ o) kind j i s.sent in
    record { sent = t.sent; votes = t.votes ∙ s.votes }

kept_from : (es more : List Event) (kind : Kind) (i j : ℕ) → opens_any (after es) more ≡ false → WasSent (after es) kind i j → StaysSent kind i j (after es) (after (es ++ more))
kept_from es more kind i j o h = subst (StaysSent kind i j (after es)) (sym (run-append es more new_bench)) (let s = run-kept more (after es) (reached es) o kind j i h in record { sent = s.sent; votes = s.votes })

-- as many messages are listed
messages-listed : (me : Identity) (kind : Kind) (s : Option Outgoing) → length (messages_of_kind me kind s) ≡ count_to me.n (has (receivers_of s))
unfolding messages_of_kind
messages-listed me kind None = sym (count-zero me.n)
messages-listed me kind (Some o) = length-map (members me.n o.to) (message_to me kind o.votes) ∙ members-size me.n o.to

pub sent-once : SentOnce
sent-once = record {
  once = λ es e kind j p h s. no_both _ s (once-at (after es) e kind j (reached es) p h);
  kept = kept_from;
  counted = λ es kind. run-counted kind es new_bench (inl refl) ∙ ap (count_sends kind new_bench es) (fresh-silent kind false 0 0 false);
  listed = messages-listed;
}
