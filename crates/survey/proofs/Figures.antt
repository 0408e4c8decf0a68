-- The figures of every report: the three of the first line add up, the most is reached first where it is said, the sum is that of the second line.
use Prim.Native.Nat.{ℕ, zero, suc, ◌+◌, ◌*◌, ◌≤◌, ◌<◌}
use mathlib.Core.Path.{◌≡◌, refl, sym, ◌∙◌, ap, subst}
use mathlib.Core.Logic.{inl, inr}
use native.Mathlib.Nat.{suc-mul}
use native.Mathlib.Omega.{arith}
use native.Mathlib.Decide.{dec_le}
use lib.Dec.{ltb}
use borrow.Author.Tests.{ltb-true, ltb-false}
use Rattle.ground.specs.Tests.{split}
use Rattle.bench_report.specs.declared.Summary.{Summary}
use Rattle.survey.specs.declared.Ending.{Ending}
use Rattle.survey.specs.declared.Ending.TheVariants.{Moved, Stayed, Rest}
use Rattle.survey.specs.declared.Endings.{Endings}
use Rattle.survey.specs.declared.Survey.{Survey}
use Rattle.survey.specs.Ended.{ending_of}
use Rattle.survey.specs.Surveys.{endings_with, all_kinds, with_one, survey_of}
use Rattle.survey.specs.Claim.{total as total_of, one_if_moved, one_if_stayed}

abbrev three : Endings → ℕ
three e = e.moved + e.stayed + e.rest

one_more : (x : Ending) (e : Endings) (k : ℕ) → three e ≡ k → three (endings_with e x) ≡ suc k
one_more Moved e k h = omega arith
one_more Stayed e k h = omega arith
one_more Rest e k h = omega arith

moved_more : (x : Ending) (e : Endings) → (endings_with e x).moved ≡ e.moved + one_if_moved x
moved_more Moved e = omega arith
moved_more Stayed e = omega arith
moved_more Rest e = omega arith

stayed-more : (x : Ending) (e : Endings) → (endings_with e x).stayed ≡ e.stayed + one_if_stayed x
stayed-more Moved e = omega arith
stayed-more Stayed e = omega arith
stayed-more Rest e = omega arith

module _ (ends : ℕ → Summary) (s : ℕ) where
  abbrev total : ℕ → ℕ
  total g = all_kinds (ends g).messages

  abbrev at : ℕ → Survey
  at k = survey_of ends s k

  pub adds-up : (k : ℕ) → three (at k).endings ≡ k
  unfolding survey_of with_one
  adds-up zero = refl
  adds-up (suc k) = one_more (ending_of (ends (s + k))) (at k).endings k (adds-up k)

  pub all_moved : (k : ℕ) → (at k).endings.moved ≡ total_of (λ g. one_if_moved (ending_of (ends g))) s k
  unfolding survey_of with_one total_of
  all_moved zero = refl
  all_moved (suc k) = moved_more (ending_of (ends (s + k))) (at k).endings ∙ ap (λ (x : ℕ). x + one_if_moved (ending_of (ends (s + k)))) (all_moved k)

  pub all-stayed : (k : ℕ) → (at k).endings.stayed ≡ total_of (λ g. one_if_stayed (ending_of (ends g))) s k
  unfolding survey_of with_one total_of
  all-stayed zero = refl
  all-stayed (suc k) = stayed-more (ending_of (ends (s + k))) (at k).endings ∙ ap (λ (x : ℕ). x + one_if_stayed (ending_of (ends (s + k)))) (all-stayed k)

  pub all-vote : (k : ℕ) → (at k).messages.vote ≡ total_of (λ g. (ends g).messages.vote) s k
  unfolding survey_of with_one total_of
  all-vote zero = refl
  all-vote (suc k) = ap (λ (x : ℕ). x + (ends (s + k)).messages.vote) (all-vote k)

  pub all-ack : (k : ℕ) → (at k).messages.ack ≡ total_of (λ g. (ends g).messages.ack) s k
  unfolding survey_of with_one total_of
  all-ack zero = refl
  all-ack (suc k) = ap (λ (x : ℕ). x + (ends (s + k)).messages.ack) (all-ack k)

  pub all-help : (k : ℕ) → (at k).messages.help ≡ total_of (λ g. (ends g).messages.help) s k
  unfolding survey_of with_one total_of
  all-help zero = refl
  all-help (suc k) = ap (λ (x : ℕ). x + (ends (s + k)).messages.help) (all-help k)

  pub all-helped : (k : ℕ) → (at k).messages.helped ≡ total_of (λ g. (ends g).messages.helped) s k
  unfolding survey_of with_one total_of
  all-helped zero = refl
  all-helped (suc k) = ap (λ (x : ℕ). x + (ends (s + k)).messages.helped) (all-helped k)

  pub sum-of_kinds : (k : ℕ) → (at k).sum ≡ all_kinds (at k).messages
  unfolding survey_of with_one
  sum-of_kinds zero = refl
  sum-of_kinds (suc k) = omega (arith, sum-of_kinds k)

  -- at most w messages in a schedule
  pub sum-within : (w : ℕ) → ((g : ℕ) → total g ≤ w) → (k : ℕ) → (at k).sum ≤ k * w
  unfolding survey_of with_one
  sum-within w h zero = omega arith
  sum-within w h (suc k) = simp suc-mul (omega (arith, sum-within w h k, h (s + k)))

  -- the most of the first k schedules, and the first number that has so many
  pub record Best (k sent number : ℕ) : Type 0 where
    pub most : (g : ℕ) → s ≤ g → g < s + k → total g ≤ sent
    pub reached : 1 ≤ k → total number ≡ sent
    pub low : s ≤ number
    pub high : 1 ≤ k → number < s + k
    pub smallest : (g : ℕ) → s ≤ g → g < number → total g < sent
    pub none : k ≡ 0 → (sent ≡ 0) × (number ≡ s)

  -- one more schedule: it has more than those before it,
  above : (k sent number : ℕ) → Best k sent number → sent < total (s + k) → Best (suc k) (total (s + k)) (s + k)
  above k sent number b h = record {
    most = λ g l u. elim (dec_le (s + k) g) [
      | yes v ↦ let same : g ≡ s + k = omega arith in subst (λ (i : ℕ). total i ≤ total (s + k)) (sym same) (omega arith)
      | no v ↦ omega (arith, b.most g l (omega arith))
    ];
    reached = λ _. refl;
    low = omega arith;
    high = λ _. omega arith;
    smallest = λ g l u. omega (arith, b.most g l u);
    none = λ e. absurd (omega arith);
  }

  -- or it has not; then the first number stays, also where this is the first schedule
  before : (k sent number : ℕ) → Best k sent number → total (s + k) ≤ sent → Best (suc k) sent number
  before k sent number b h = record {
    most = λ g l u. elim (dec_le (s + k) g) [
      | yes v ↦ let same : g ≡ s + k = omega arith in subst (λ (i : ℕ). total i ≤ sent) (sym same) h
      | no v ↦ b.most g l (omega arith)
    ];
    reached = λ _. elim (dec_le 1 k) [
      | yes v ↦ b.reached v
      | no v ↦ let z = b.none (omega arith) in let here : number ≡ s + k = omega (arith, z.1) in ap total here ∙ (let e : total (s + k) ≡ sent = omega (arith, z.0) in e)
    ];
    low = b.low;
    high = λ _. elim (dec_le 1 k) [
      | yes v ↦ omega (arith, b.high v)
      | no v ↦ omega (arith, (b.none (omega arith)).1)
    ];
    smallest = b.smallest;
    none = λ e. absurd (omega arith);
  }

  pub best : (k : ℕ) → Best k (at k).most.sent (at k).most.number
  unfolding survey_of with_one
  best zero = record {
    most = λ g l u. absurd (omega arith);
    reached = λ l. absurd (omega arith);
    low = omega arith;
    high = λ l. absurd (omega arith);
    smallest = λ g l u. absurd (omega arith);
    none = λ _. (refl, refl);
  }
  best (suc k) = elim (split (ltb (at k).most.sent (total (s + k)))) [
    | inl t ↦ rw t (above k (at k).most.sent (at k).most.number (best k) (ltb-true _ _ t))
    | inr t ↦ rw t (before k (at k).most.sent (at k).most.number (best k) (ltb-false _ _ t))
  ]
