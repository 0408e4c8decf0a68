-- The count of gates still open follows the controllers: at an event of one controller by that one's condition before and after, as a count does that
-- changes at one place; at a new order by those that are present. Then along the list, through the view.
use Prim.Native.Nat.{ℕ, suc, ◌≤◌}
use mathlib.Core.Path.{◌≡◌, refl, sym, ◌∙◌, ap, subst}
use mathlib.Core.Bool.{Bool, true, false, not, ◌||◌}
use mathlib.Core.List.{List, [], ◌∷◌}
use native.Mathlib.Omega.{arith}
use lib.Dec.{eqb}
use lib.ListN.{replicate}
use mathlib.Core.Logic.{inl, inr}
use borrow.Author.Tests.{eqb-true, eq-eqb, lt-ltb, not-true}
use Rattle.ground.specs.Limit.{limit}
use Rattle.ground.specs.Tests.{split, same_test, by_cond}
use Rattle.ground.specs.Quantify.{all_to, all-at, all_of, count_to, count_le}
use Rattle.ground.proofs.Sizes.{count-new, count_none, none-count, all-count}
use Rattle.ground.specs.Update.{upd, upd_same, fun_ext}
use Rattle.votes.specs.VoteSets.{empty}
use Rattle.model.specs.Ranges.{sizes_in_range}
use Rattle.model.specs.RangeLaws.{ranges}
use Rattle.model.specs.declared.Event.{Event}
use Rattle.model.specs.declared.Event.TheVariants.{Decide}
use Rattle.protocol.specs.declared.Condition.{Condition}
use Rattle.protocol.specs.declared.Condition.TheVariants.{Running, Stopped, Standby}
use Rattle.protocol.specs.declared.Controller.{Controller}
use Rattle.protocol.specs.declared.Answer.{Answer}
use Rattle.protocol.specs.declared.Station.{Station}
use Rattle.protocol.specs.declared.Bench.{Bench}
use Rattle.protocol.specs.Controllers.{is_stopped, is_present, cleared, bump}
use Rattle.protocol.specs.Calls.{renew}
use Rattle.protocol.specs.Counts.{open_gates_of, lacks_outcome, recount, counts_after}
use Rattle.protocol.specs.Benches.{fresh, fresh_station, bench_of, new_bench, station, controller}
use Rattle.protocol.specs.Questions.{may_open}
use Rattle.protocol.specs.Steps.{renewed, order_opened, run}
use Rattle.protocol.specs.Claim.{after}
use Rattle.protocol.specs.OpenCount.{is_open, full_count, has_ended, OpenCount}
use Rattle.protocol.specs.Events.{subject}
use Rattle.protocol.proofs.view.View.{ballots_v, View, opened_v, accepts, part, all-of_copies}
use Rattle.protocol.proofs.view.Performed.{upd-id, commit_v, chosen, saved_v, perform_v, place, step_v, run_v, by-effect}
use Rattle.protocol.proofs.view.Simulation.{view, Runs, run_sim}
use Rattle.protocol.proofs.lists.Start.{start, lock-sound}

-- counts ---------------------------------------------------------------------------

one_more : (k : ℕ) → k ≤ limit → bump k ≡ suc k
one_more k h = rw (lt-ltb k 255 (omega arith))

back : (p : ℕ → Bool) (j : ℕ) (x : Bool) → upd (upd p j x) j (p j) ≡ p
unfolding upd
back p j x = fun_ext (upd (upd p j x) j (p j)) p (λ k. elim (split (eqb k j)) [ inl e ↦ rw (e, eqb-true k j e) | inr e ↦ rw e ])

-- of those that pass a test, after one of 1..m has changed
recounts : (m : ℕ) (p : ℕ → Bool) (j : ℕ) (x : Bool) → 1 ≤ j → j ≤ m → m ≤ limit → count_to m (upd p j x) ≡ recount (p j) x (count_to m p)
recounts m p j x a b small = cases (p j) x refl
  where
    cases : (y x : Bool) → p j ≡ y → count_to m (upd p j x) ≡ recount y x (count_to m p)
    cases true true e = ap (λ (z : Bool). count_to m (upd p j z)) (sym e) ∙ ap (count_to m) (upd-id p j)
    cases true false e =
        let h : count_to m (upd (upd p j false) j true) ≡ suc (count_to m (upd p j false)) = count-new m (upd p j false) j a b (upd_same p j false) in
        let g : count_to m (upd (upd p j false) j true) ≡ count_to m p = ap (λ (z : Bool). count_to m (upd (upd p j false) j z)) (sym e) ∙ ap (count_to m) (back p j false) in
        omega arith
    cases false true e = let h : count_to m p ≤ m = count_le m p in count-new m p j a b e ∙ sym (one_more (count_to m p) (omega arith))
    cases false false e = ap (λ (z : Bool). count_to m (upd p j z)) (sym e) ∙ ap (count_to m) (upd-id p j)

-- none passes one test: all pass its opposite
none-all : (m : ℕ) (p q : ℕ → Bool) → ((k : ℕ) → q k ≡ not (p k)) → eqb (count_to m p) 0 ≡ all_to m q
none-all m p q h = same_test (eqb (count_to m p) 0) (all_to m q)
    (λ e. all_of m q (λ k a b. h k ∙ rw (count_none m p (eqb-true _ _ e) k a b)))
    (λ e. eq-eqb _ _ (none-count m p (λ k a b. not-true (p k) (sym (h k) ∙ all-at m q e k a b))))

-- the counts of a view -----------------------------------------------------------------

record Follows (n : ℕ) (v : View) : Type 0 where
  undecided : v.counts.undecided ≡ count_to n (λ k. lacks_outcome (v.ctl k).condition)
  present : v.counts.present ≡ count_to n (λ k. is_present (v.ctl k).condition)

-- one controller has changed
changed : (n : ℕ) (test : Condition → Bool) (ctl : ℕ → Controller) (i : ℕ) (c : Controller) (kept : ℕ) → 1 ≤ i → i ≤ n → n ≤ limit
    → kept ≡ count_to n (λ k. test (ctl k).condition)
    → recount (test (ctl i).condition) (test c.condition) kept ≡ count_to n (λ k. test (upd ctl i c k).condition)
changed n test ctl i c kept a b small h =
    ap (recount (test (ctl i).condition) (test c.condition)) h
    ∙ sym (recounts n (λ k. test (ctl k).condition) i (test c.condition) a b small)
    ∙ ap (count_to n) (sym (part (λ (c : Controller). test c.condition) ctl i c))

-- a new order: those present are the undecided
present-not-stopped : (k : Condition) → is_present k ≡ not (is_stopped k)
present-not-stopped (Running p) = refl
present-not-stopped Stopped = refl
present-not-stopped (Standby o) = refl

renew-lacks : (c : Controller) → lacks_outcome (renew c).condition ≡ is_present c.condition
unfolding renew cleared
renew-lacks c = by_cond (λ (d : Controller). lacks_outcome d.condition ≡ is_present c.condition) (is_stopped c.condition) _ _
    (λ e. sym (present-not-stopped c.condition ∙ rw e)) (λ e. sym (present-not-stopped c.condition ∙ rw e))

renew-present : (c : Controller) → is_present (renew c).condition ≡ is_present c.condition
unfolding renew cleared
renew-present c = by_cond (λ (d : Controller). is_present d.condition ≡ is_present c.condition) (is_stopped c.condition) _ _
    (λ e. sym (present-not-stopped c.condition ∙ rw e)) (λ e. sym (present-not-stopped c.condition ∙ rw e))

module _ (n f : ℕ) (small : n ≤ limit) where
  commit-follows : (v : View) (i : ℕ) (a : Answer) → (1 ≤ i) × (i ≤ n) → Follows n v → Follows n (commit_v v i a)
  unfolding commit_v counts_after
  commit-follows v i a p h = record {
    undecided = changed n lacks_outcome v.ctl i a.controller _ p.0 p.1 small h.undecided;
    present = changed n is_present v.ctl i a.controller _ p.0 p.1 small h.present;
  }

  chosen-follows : (v : View) (w : Bool) → Follows n v → Follows n (chosen v w)
  unfolding chosen
  chosen-follows v w h = record { undecided = h.undecided; present = h.present }

  opened-follows : (v : View) (o : ℕ) → Follows n v → Follows n (opened_v n f v o)
  unfolding opened_v order_opened renewed
  opened-follows v o h = record {
    undecided = h.present ∙ ap (count_to n) (fun_ext _ _ (λ k. sym (renew-lacks (v.ctl k))));
    present = h.present ∙ ap (count_to n) (fun_ext _ _ (λ k. sym (renew-present (v.ctl k))));
  }

  perform-follows : (v : View) (e : Event) → accepts n f v e ≡ true → Follows n v → Follows n (perform_v n f v e)
  perform-follows v e q h = by-effect n f v (λ e w. accepts n f v e ≡ true → Follows n w) (λ a c own q. h) (λ o q. opened-follows v o h) (λ e x q. commit-follows v (subject e) _ (place n f v e x.one q) h)
      (λ i w q. commit-follows (chosen v w) i _ (place n f v (Decide i w) refl q) (chosen-follows v w h)) (λ i q. unfold saved_v in record { undecided = h.undecided; present = h.present })
      (λ e q. unfold ballots_v in record { undecided = h.undecided; present = h.present }) e q

  step_follows : (v : View) (e : Event) → Follows n v → Follows n (step_v n f v e)
  unfolding step_v
  step_follows v e h = by_cond (Follows n) (accepts n f v e) (perform_v n f v e) v (λ q. perform-follows v e q h) (λ q. h)

  run-follows : (es : List Event) (v : View) → Follows n v → Follows n (run_v n f v es)
  unfolding run_v
  run-follows [] v h = h
  run-follows (e ∷ es) v h = run-follows es (step_v n f v e) (step_follows v e h)

-- the bench, from the new one on ---------------------------------------------------------

-- a bench whose controllers have just begun
begins : (locked : Bool) (n f : ℕ) (own : Bool) → Follows n (view (bench_of locked n f own))
unfolding view bench_of station fresh_station fresh
begins locked n f own = record {
  undecided = sym (all-count n _ (λ k a b. all-of_copies (λ (s : Station). lacks_outcome s.controller.condition ≡ true) (fresh_station []) (fresh_station (replicate limit empty)) refl refl limit k));
  present = sym (all-count n _ (λ k a b. all-of_copies (λ (s : Station). is_present s.controller.condition ≡ true) (fresh_station []) (fresh_station (replicate limit empty)) refl refl limit k));
}

-- what holds of a bench
abbrev Kept : Bench → Type 0
Kept b = Follows b.shared.n (view b)

has-n : (locked : Bool) (n f : ℕ) (own : Bool) → (bench_of locked n f own).shared.n ≡ n
unfolding bench_of
has-n locked n f own = refl

locked-kept : (n f : ℕ) (own : Bool) → sizes_in_range n f ≡ true → (es : List Event) → Kept (run (bench_of true n f own) es)
locked-kept n f own sized es =
    let b : Bench = bench_of true n f own in
    let r : Runs b (run b es) (run_v n f (view b) es) = run_sim n f es b (lock-sound n f own sized) (has-n true n f own) (has-f true n f own) in
    subst (λ (m : ℕ). Follows m (view (run b es))) (sym (r.same-n ∙ has-n true n f own))
    (subst (Follows n) (sym r.view-is) (run-follows n f (ranges n f sized).small es (view b) (begins true n f own)))
  where
    has-f : (locked : Bool) (n f : ℕ) (own : Bool) → (bench_of locked n f own).shared.f ≡ f
    has-f locked n f own = unfold bench_of in refl

kept : (es : List Event) → Kept (after es)
kept es = elim (start es) [
  | inl p ↦ subst Kept (sym p) (subst (λ (m : ℕ). Follows m (view new_bench)) (sym (has-n false 0 0 false)) (begins false 0 0 false))
  | inr o ↦ subst Kept (sym o.is) (locked-kept o.n o.f o.own o.sized o.post)
]

-- the theorem -----------------------------------------------------------------------------

full : (b : Bench) → Kept b → open_gates_of b.shared ≡ full_count b
unfolding view
full b h = h.undecided

asks : (b : Bench) → Kept b → may_open b.shared ≡ has_ended b
asks b h = ap (λ (x : Bool). eqb b.shared.order 0 || x)
    (ap (λ (k : ℕ). eqb k 0) (full b h) ∙ none-all b.shared.n (is_open b) (λ k. not (is_open b k)) (λ k. refl))

there : (b : Bench) → Kept b → b.shared.counts.present ≡ count_to b.shared.n (λ k. is_present (controller b k).condition)
unfolding view
there b h = h.present

pub open-count : OpenCount
open-count = record {
  counted = λ es. full (after es) (kept es);
  question_13 = λ es. asks (after es) (kept es);
  present = λ es. there (after es) (kept es);
}
