-- The two totals make up the sum of the charges: for any list of lockages, and hence of the answer to any sheet.
use Rattle.std.specs.Prelude.{ℕ, Result, ◌+◌, ◌≡◌, refl, List, [], ◌∷◌}
use Rattle.std.proofs.Common.{arith}
use Rattle.model.specs.Questions.{Reply, accepted, refused, number, first_no}
use Rattle.model.specs.QuestionLaws.{reply-accepted}
use Rattle.tariff.specs.declared.Shares.{Shares}
use Rattle.tariff.specs.ShareLaws.{make-up}
use Rattle.dues.specs.declared.Lockage.{Lockage}
use Rattle.dues.specs.Sheet.{charge_of, lockages, total, totals, questions, dues_for, answered, number_of, values_of, DuesOf}

-- "the two totals make up the sum of the charges"
totals_make-up : (ls : List Lockage) → (totals ls).upper + (totals ls).lower ≡ total charge_of ls
unfolding totals total
totals_make-up [] = refl
totals_make-up (l ∷ ls) = omega (arith, totals_make-up ls, make-up (charge_of l))

same_number : (r : Reply) (t : Shares) → number_of (answered r t) ≡ number r
same_number accepted t = refl
same_number (refused q) t = refl

answer-sum : (s : List ℕ) → number_of (dues_for s) ≡ 0 → (values_of (dues_for s)).upper + (values_of (dues_for s)).lower ≡ total charge_of (lockages s)
unfolding dues_for questions
answer-sum s z =
    let e : first_no (questions s) ≡ accepted = reply-accepted (questions s) _ refl (same_number (first_no (questions s)) (totals (lockages s))) z in
    rw e (totals_make-up (lockages s))

-- whatever equals the definition's answer is what is promised
pub dues-of : (s : List ℕ) (r : Result Shares ℕ) → r ≡ dues_for s → DuesOf s r
dues-of s r e = record { answer = e; sum = rw e (answer-sum s) }
