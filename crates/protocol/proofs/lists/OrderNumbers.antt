-- Two moments are of one order exactly when the order's number is the same: an order asks for a greater number (question 12), and no other event changes
-- it (view/Kinds).
use Prim.Native.Nat.{ℕ, ◌≤◌, ◌<◌}
use mathlib.Core.Path.{◌≡◌, refl, ◌∙◌}
use mathlib.Core.Bool.{true, false, false≢true}
use mathlib.Core.List.{List, [], ◌∷◌}
use native.Mathlib.Omega.{arith}
use mathlib.Core.Logic.{inl, inr}
use borrow.Author.Tests.{leb-true}
use Rattle.ground.specs.Tests.{no_both, split, by_cond, or-e, or_no_l, or_no_r}
use Rattle.model.specs.declared.Event.{Event}
use Rattle.model.specs.declared.Event.TheVariants.{Order}
use Rattle.protocol.specs.declared.Bench.{Bench}
use Rattle.protocol.specs.Questions.{is_accepted, first_no, reply}
use Rattle.protocol.specs.Steps.{order_opened, perform, step, run}
use Rattle.protocol.specs.Claim.{opens_order, opens_any}
use Rattle.protocol.proofs.view.View.{ask_l, ask_r}
use Rattle.protocol.proofs.view.Kinds.{by_sort, one}
use Rattle.protocol.proofs.lists.Moments.{refused-opens, step-locked, lock-refused}

-- an accepted event goes on with the order, or opens a later one
record Goes (b : Bench) (e : Event) (b' : Bench) : Type 0 where
  same : opens_order b e ≡ false → b'.shared.order ≡ b.shared.order
  later : opens_order b e ≡ true → b.shared.order < b'.shared.order

order-later : (b : Bench) (o : ℕ) → is_accepted (reply b (Order o)) ≡ true → b.shared.order < o
unfolding reply first_no
order-later b o q = leb-true _ _ (search (ask_l, ask_r) depth 14)

perform_goes : (b : Bench) (e : Event) → b.shared.locked ≡ true → is_accepted (reply b e) ≡ true → Goes b e (perform b e)
unfolding perform order_opened
perform_goes b e h = by_sort (λ e. is_accepted (reply b e) ≡ true → Goes b e (perform b e)) (λ n f own q. absurd (no_both _ q (lock-refused b n f own h)))
    (λ o q. record { same = λ x. absurd (no_both _ q x); later = λ x. order-later b o q })
    (λ e c q. record { same = λ x. (one b e c).order; later = λ x. absurd (no_both _ x (one b e c).opens) }) e

step_goes : (b : Bench) (e : Event) → b.shared.locked ≡ true → Goes b e (step b e)
unfolding step
step_goes b e h = by_cond (Goes b e) (is_accepted (reply b e)) (perform b e) b (perform_goes b e h) (λ q. record { same = λ o. refl; later = λ o. absurd (no_both _ o (refused-opens b e q)) })

step-order : (b : Bench) (e : Event) → b.shared.locked ≡ true → b.shared.order ≤ (step b e).shared.order
step-order b e h = elim (split (opens_order b e)) [
  | inl o ↦ let x : b.shared.order < (step b e).shared.order = (step_goes b e h).later o in omega arith
  | inr o ↦ let x : (step b e).shared.order ≡ b.shared.order = (step_goes b e h).same o in omega arith
]

run_mono : (es : List Event) (b : Bench) → b.shared.locked ≡ true → b.shared.order ≤ (run b es).shared.order
unfolding run
run_mono [] b h = omega arith
run_mono (e ∷ es) b h = let p : b.shared.order ≤ (step b e).shared.order = step-order b e h in let q : (step b e).shared.order ≤ (run (step b e) es).shared.order = run_mono es (step b e) (step-locked b e h) in omega arith

pub same_number : (es : List Event) (b : Bench) → b.shared.locked ≡ true → opens_any b es ≡ false → (run b es).shared.order ≡ b.shared.order
unfolding run opens_any
same_number [] b h o = refl
same_number (e ∷ es) b h o = same_number es (step b e) (step-locked b e h) (or_no_r (opens_order b e) _ o) ∙ (step_goes b e h).same (or_no_l (opens_order b e) _ o)

opens-later : (es : List Event) (b : Bench) → b.shared.locked ≡ true → opens_any b es ≡ true → b.shared.order < (run b es).shared.order
unfolding run opens_any
opens-later [] b h o = absurd (false≢true o)
opens-later (e ∷ es) b h o = elim (or-e (opens_order b e) (opens_any (step b e) es) o) [
  | inl x ↦ let p : b.shared.order < (step b e).shared.order = (step_goes b e h).later x in let q : (step b e).shared.order ≤ (run (step b e) es).shared.order = run_mono es (step b e) (step-locked b e h) in omega arith
  | inr x ↦ let p : b.shared.order ≤ (step b e).shared.order = step-order b e h in let q : (step b e).shared.order < (run (step b e) es).shared.order = opens-later es (step b e) (step-locked b e h) x in omega arith
]

pub number_same : (es : List Event) (b : Bench) → b.shared.locked ≡ true → (run b es).shared.order ≡ b.shared.order → opens_any b es ≡ false
number_same es b h e = elim (split (opens_any b es)) [
  | inl o ↦ let q : b.shared.order < (run b es).shared.order = opens-later es b h o in absurd (omega arith)
  | inr o ↦ o
]
