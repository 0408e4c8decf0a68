-- Small facts on outcomes and words, by their cases.
use Prim.Native.Nat.{ℕ}
use mathlib.Core.Path.{◌≡◌, refl}
use mathlib.Core.Bool.{Bool, true, false, false≢true}
use native.Mathlib.Omega.{arith}
use Rattle.model.specs.Numbers.{word_of, is_none}
use Rattle.model.specs.declared.Outcome.{Outcome}
use Rattle.model.specs.declared.Outcome.TheVariants.{None, Stay, Move}
use Rattle.protocol.specs.declared.Condition.{Condition}
use Rattle.protocol.specs.declared.Condition.TheVariants.{Running, Stopped, Standby}
use Rattle.protocol.specs.Controllers.{is_running, phase_in, outcome_in, or_else, noting}
use Rattle.protocol.specs.Questions.{no_other_word}

pub word-is : (x y : Bool) → word_of x ≡ word_of y → x ≡ y
word-is true true e = refl
word-is false false e = refl
word-is true false e = let z : ◌≡◌ {A = ℕ} 0 1 = cc in absurd (omega arith)
word-is false true e = let z : ◌≡◌ {A = ℕ} 0 1 = cc in absurd (omega arith)

pub none-word : {X : Type 0} (v : Bool) → None ≡ word_of v → X
none-word true e = let z : ◌≡◌ {A = ℕ} 0 1 = cc in absurd (omega arith)
none-word false e = let z : ◌≡◌ {A = ℕ} 0 1 = cc in absurd (omega arith)

pub some_word : (w : Bool) → is_none (word_of w) ≡ false
some_word true = refl
some_word false = refl

pub or_else-is : {X : Type 0} (o : Outcome) (w v : Bool) → (o ≡ word_of v → X) → (w ≡ v → X) → or_else o (word_of w) ≡ word_of v → X
or_else-is None w v p q e = q (word-is w v e)
or_else-is Stay w v p q e = p e
or_else-is Move w v p q e = p e

-- an outcome noted: only the outcome changes
pub noting-runs : (k : Condition) (o : Outcome) → is_running (noting k o) ≡ is_running k
noting-runs (Running p) o = refl
noting-runs Stopped o = refl
noting-runs (Standby x) o = refl

pub noting-phase : (k : Condition) (o : Outcome) → phase_in (noting k o) ≡ phase_in k
noting-phase (Running p) o = refl
noting-phase Stopped o = refl
noting-phase (Standby x) o = refl

pub noting-outcome : {X : Type 0} (k : Condition) (w v : Bool) → (outcome_in k ≡ word_of v → X) → (w ≡ v → X) → outcome_in (noting k (word_of w)) ≡ word_of v → X
noting-outcome (Running r) w v p q e = or_else-is r.outcome w v p q e
noting-outcome Stopped w v p q e = p e
noting-outcome (Standby o) w v p q e = or_else-is o w v p q e

-- the arbiter gives one word an order
pub given_is : (o : Outcome) (w v : Bool) → no_other_word o w ≡ true → o ≡ word_of v → word_of w ≡ word_of v
given_is None w v p e = none-word v e
given_is Move true v p e = e
given_is Move false v p e = absurd (false≢true p)
given_is Stay true v p e = absurd (false≢true p)
given_is Stay false v p e = e
