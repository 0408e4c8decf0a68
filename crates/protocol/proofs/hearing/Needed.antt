-- Each premise is needed: the rows of the table, run by the definitions. Every definition that a run goes through is opened, and the tests compute.
use Prim.Native.Nat.{ℕ, zero, suc}
use mathlib.Core.Path.{◌≡◌, refl, sym, ◌∙◌, ap}
use mathlib.Core.Bool.{Bool, true, false, not, ◌&&◌, false≢true, beq}
use mathlib.Core.List.{List, [], ◌∷◌}
use lib.Dec.{eqb, leb}
use borrow.Author.Tests.{leb-true, eqb-true}
use Rattle.ground.specs.Tests.{no_both, refuted, and_l, and_r, eqb_same}
use Rattle.model.specs.Numbers.{is_none}
use Rattle.model.specs.declared.Outcome.{Outcome}
use Rattle.model.specs.declared.Outcome.TheVariants.{None, Stay, Move}
use Rattle.model.specs.declared.Event.{Event}
use Rattle.protocol.specs.declared.Bench.{Bench}
use Rattle.protocol.specs.Controllers.{runs}
use Rattle.protocol.specs.Benches.{new_bench, controller}
use Rattle.protocol.specs.Steps.{run}
use Rattle.protocol.specs.Display.{shown_outcome}
use Rattle.protocol.specs.Computing.{whole_run}
use Rattle.protocol.specs.Claim.{after}
use Rattle.protocol.specs.Termination.{Premise, few-down, at-stage_3, delivered, answered, Lacking, Needed, AllNeeded, lackings}
use Rattle.protocol.proofs.clean.Log.{entered}
use Rattle.protocol.proofs.lists.Moments.{push, log_of, log_at}
use Rattle.protocol.proofs.hearing.Tests.{any_in, implies, passes, met-passes, passes-met}

abbrev number : Premise → ℕ
number few-down = 0
number at-stage_3 = 1
number delivered = 2
number answered = 3

-- a premise passes exactly if it is not the one that is lacking
abbrev as_lacking : Premise → Premise → Bench → List Event → Bool
as_lacking p q b log = beq (passes p b log) (not (eqb (number p) (number q)))

unfoldable shown : Lacking → Bench → List Event → Bool
shown r b log = as_lacking few-down r.premise b log && as_lacking at-stage_3 r.premise b log && as_lacking delivered r.premise b log && as_lacking answered r.premise b log
    && leb 1 r.who && leb r.who b.shared.n && runs (controller b r.who) && is_none (shown_outcome b r.who)

unfoldable all_shown : List Lacking → Bool
all_shown [] = true
all_shown (r ∷ rs) = shown r (run new_bench r.events) (log_of new_bench [] r.events) && all_shown rs

computed : all_shown lackings ≡ true
unfolding all_shown shown lackings passes implies any_in log_of push entered whole_run
computed = refl

-- what the tests say
premise_of : ℕ → Premise
premise_of zero = few-down
premise_of (suc zero) = at-stage_3
premise_of (suc (suc zero)) = delivered
premise_of (suc (suc (suc k))) = answered

numbered : (p : Premise) → premise_of (number p) ≡ p
unfolding premise_of
numbered few-down = refl
numbered at-stage_3 = refl
numbered delivered = refl
numbered answered = refl

beq-is : (x y : Bool) → beq x y ≡ true → x ≡ y
beq-is true true e = refl
beq-is true false e = sym e
beq-is false true e = e
beq-is false false e = refl

none_is : (o : Outcome) → is_none o ≡ true → o ≡ None
none_is None e = refl
none_is Stay e = absurd (false≢true e)
none_is Move e = absurd (false≢true e)

module _ (r : Lacking) (h : shown r (after r.events) (log_at r.events) ≡ true) where
  as_lacking_lem : (p : Premise) → passes p (after r.events) (log_at r.events) ≡ not (eqb (number p) (number r.premise))
  unfolding shown
  as_lacking_lem few-down = beq-is _ _ (search (and_l, and_r) depth 14)
  as_lacking_lem at-stage_3 = beq-is _ _ (search (and_l, and_r) depth 14)
  as_lacking_lem delivered = beq-is _ _ (search (and_l, and_r) depth 14)
  as_lacking_lem answered = beq-is _ _ (search (and_l, and_r) depth 14)

  same-premise : (p : Premise) → eqb (number p) (number r.premise) ≡ true → p ≡ r.premise
  same-premise p e = sym (numbered p) ∙ ap premise_of (eqb-true (number p) (number r.premise) e) ∙ numbered r.premise

  is-needed : Needed r
  unfolding shown
  is-needed = record {
    lacks = λ m. no_both _ (met-passes r.events r.premise m) (as_lacking_lem r.premise ∙ ap not (eqb_same (number r.premise)));
    others = λ p d. passes-met r.events p (as_lacking_lem p ∙ ap not (refuted (eqb (number p) (number r.premise)) (λ e. d (same-premise p e))));
    running = record { low = leb-true _ _ (search (and_l, and_r) depth 14); high = leb-true _ _ (search (and_l, and_r) depth 14); running = search (and_l, and_r) depth 14 };
    holds-none = none_is (shown_outcome (after r.events) r.who) (search (and_l, and_r) depth 14);
  }

all-needed : (rs : List Lacking) → all_shown rs ≡ true → AllNeeded rs
unfolding all_shown
all-needed [] e = tt
all-needed (r ∷ rs) e = (is-needed r (and_l _ (all_shown rs) e), all-needed rs (and_r (shown r (after r.events) (log_at r.events)) (all_shown rs) e))

pub needed : AllNeeded lackings
needed = all-needed lackings computed
