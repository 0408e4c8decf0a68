-- Laws of lines, as they are met along a text.
use Rattle.std.specs.Prelude.{ℕ, zero, suc, ◌+◌, ◌-◌, ◌≤◌, ◌<◌, ◌≡◌, refl, cond, List, [], ◌∷◌, leb, length, take, drop, get_or}
use Rattle.std.proofs.Common.{sym, ◌∙◌, ap, add-zero, add-one, arith, le-leb, le-ltb, lt-ltb, length-drop, drop-drop, take_all, get_or-drop}
use Rattle.std.proofs.Math.Decide.{dec_lt}
use Rattle.std.proofs.lemmas.Bool.{lt-leb}
use Rattle.words.specs.Words.{run, lines_of, end_of_run, part, span, line_at, line_span, nth_line}
use Rattle.words.specs.WordLaws.{run_short, all_one, one_then, after_none, after_one, part_none}
use Rattle.words.specs.declared.Class.TheVariants.{Line}

-- the lines from a place on
abbrev pub lines_from : List ℕ → ℕ → List (List ℕ)
lines_from t at = cond (leb at (length t)) (lines_of (drop at t)) []

pub no_lines : (t : List ℕ) (at : ℕ) → length t < at → lines_from t at ≡ []
no_lines t at h = rw (lt-leb at (length t) h)

pub line_then : (t : List ℕ) (at : ℕ) → at ≤ length t → lines_from t at ≡ take (end_of_run Line t at - at) (drop at t) ∷ lines_from t (end_of_run Line t at + 1)
line_then t at h =
    let k : ℕ = run Line (drop at t) in
    let n : end_of_run Line t at - at ≡ k = omega arith in
    let len : length (drop at t) ≡ length t - at = length-drop at t in
    let short : k ≤ length (drop at t) = run_short Line (drop at t) in
    elim (dec_lt k (length (drop at t))) [
      | yes l ↦
          let d : drop (suc k) (drop at t) ≡ drop (at + k + 1) t = drop-drop (suc k) at t ∙ ap (λ (j : ℕ). drop j t) (more at k) in
          let g : at + k + 1 ≤ length t = omega arith in
          rw (le-leb at (length t) h, n, le-leb (at + k + 1) (length t) g, ← d) (one_then Line (drop at t) l)
      | no m ↦
          let e : k ≡ length (drop at t) = omega arith in
          let g : length t < at + k + 1 = omega arith in
          rw (le-leb at (length t) h, n, lt-leb (at + k + 1) (length t) g, take_all k (drop at t) (omega arith)) (all_one Line (drop at t) e)
    ]
  where
    more : (a b : ℕ) → a + suc b ≡ a + b + 1
    more a b = omega arith

-- once past the text's end, always
past_more : (s : List ℕ) (k : ℕ) → length s < line_at s k → length s < line_at s (suc k)
unfolding line_at
past_more s k h = omega arith

pub past_end : (s : List ℕ) (i j : ℕ) → length s < line_at s i → length s < line_at s (i + j)
past_end s i zero h = rw add-zero h
past_end s i (suc j) h = let e : i + suc j ≡ suc (i + j) = omega arith in rw e (past_more s (i + j) (past_end s i j h))

pub line-begun : (s : List ℕ) → 0 ≡ line_at s 0
unfolding line_at
line-begun s = refl

pub line_on : (s : List ℕ) (k : ℕ) → end_of_run Line s (line_at s k) + 1 ≡ line_at s (k + 1)
unfolding line_at
line_on s k = ap (line_at s) (sym (add-one k))

module _ (s : List ℕ) (k : ℕ) where
  pub line_nowhere : length s < line_at s k → span (length s) (length s) ≡ line_span s k
  unfolding line_span
  line_nowhere h = rw (lt-ltb (length s) (line_at s k) h)

  pub line-here : line_at s k ≤ length s → span (line_at s k) (end_of_run Line s (line_at s k)) ≡ line_span s k
  unfolding line_span
  line-here h = rw (le-ltb (length s) (line_at s k) h)

-- the lines after the first k
lines-past : (s : List ℕ) (k : ℕ) → lines_from s (line_at s k) ≡ drop k (lines_of s)
lines-past s zero = ap (lines_from s) (sym (line-begun s)) ∙ rw (le-leb 0 (length s) (omega arith))
lines-past s (suc k) = elim (dec_lt (length s) (line_at s k)) [
  | yes h ↦ no_lines s (line_at s (suc k)) (past_more s k h) ∙ sym (after_none k (lines_of s) (sym (lines-past s k) ∙ no_lines s (line_at s k) h))
  | no n ↦
      let l = line_then s (line_at s k) (omega arith) in
      let e : line_at s (suc k) ≡ end_of_run Line s (line_at s k) + 1 = ap (line_at s) (sym (add-one k)) ∙ sym (line_on s k) in
      rw e (sym (after_one k _ (lines_of s) _ (sym (lines-past s k) ∙ l)))
]

-- line k stands where it is said to
pub nth-line : (s : List ℕ) (k : ℕ) → part s (line_span s k) ≡ nth_line s k
nth-line s k =
    let first : get_or (lines_from s (line_at s k)) 0 [] ≡ get_or (lines_of s) k [] =
    ap (λ (ls : List (List ℕ)). get_or ls 0 []) (lines-past s k) ∙ get_or-drop k (lines_of s) 0 [] ∙ ap (λ (j : ℕ). get_or (lines_of s) j []) (add-zero k) in
    elim (dec_lt (length s) (line_at s k)) [
      | yes h ↦ ap (part s) (sym (line_nowhere s k h)) ∙ part_none s (span (length s) (length s)) refl ∙ sym (ap (λ (ls : List (List ℕ)). get_or ls 0 []) (no_lines s (line_at s k) h)) ∙ first
      | no n ↦ ap (part s) (sym (line-here s k (omega arith))) ∙ sym (ap (λ (ls : List (List ℕ)). get_or ls 0 []) (line_then s (line_at s k) (omega arith))) ∙ first
    ]
