-- Words on a line of their own, a space between two: the line is cut into those words again, whatever stands after it.
use Prim.Native.Nat.{ℕ, suc, ◌+◌, ◌-◌, ◌^◌, ◌≤◌, ◌<◌}
use Rattle.std.specs.Prelude.{◌≡◌, Bool, true, false, ◌&&◌, eqb, leb, ltb, length, drop}
use Rattle.std.proofs.Math.Path.{refl, ap}
use Rattle.std.proofs.Common.{sym, ◌∙◌, arith, leb-true, ne_eqb, length-append, take_all}
use mathlib.Core.List.{List, [], ◌∷◌, ◌++◌, append_assoc}
use Rattle.std.proofs.Math.Seq.{take-append_seam, drop-append-add}
use Rattle.ground.specs.Tests.{by_cond, and_l, and_r, and_i}
use Rattle.text.specs.Text.{ascii, decimal, signed, line}
use Rattle.words.specs.Words.{belongs, run, pieces, not_empty, lines_of, uncommented, words_of}
use Rattle.words.specs.WordLaws.{all_one, one_then, run-yes, run_no}
use Rattle.words.specs.Numbers.{is_digit, all_digits}
use Rattle.words.specs.NumberLaws.{decimal-digits, decimal-some}
use Rattle.words.specs.declared.Class.{Class}
use Rattle.words.specs.declared.Class.TheVariants.{Word, Line, Shown}

-- words with a space between two
abbrev pub joined : List (List ℕ) → List ℕ
joined [] = []
joined (w ∷ []) = w
joined (w ∷ v ∷ ws) = w ++ (ascii " " ++ joined (v ∷ ws))

pub line-joined : (w : List ℕ) (ws : List (List ℕ)) → line (w ∷ ws) ≡ joined (w ∷ ws) ++ ascii "\n"
line-joined w [] = refl
line-joined w (v ∷ ws) = ap (λ (s : List ℕ). w ++ (ascii " " ++ s)) (line-joined v ws) ∙ sym (append_assoc w (ascii " " ++ joined (v ∷ ws)) (ascii "\n"))

-- every byte is of a class
unfoldable pub all_of : Class → List ℕ → Bool
all_of c [] = true
all_of c (b ∷ s) = belongs c b && all_of c s

module _ (c : Class) where
  run-all : (s : List ℕ) → all_of c s ≡ true → run c s ≡ length s
  unfolding all_of run
  run-all [] t = refl
  run-all (b ∷ s) t = rw (and_l (belongs c b) (all_of c s) t) (ap suc (run-all s (and_r (belongs c b) (all_of c s) t)))

  run-to : (s : List ℕ) (b : ℕ) (t : List ℕ) → all_of c s ≡ true → belongs c b ≡ false → run c (s ++ (b ∷ t)) ≡ length s
  unfolding all_of
  run-to [] b t a f = run_no c b t f
  run-to (x ∷ s) b t a f = run-yes c x (s ++ (b ∷ t)) (and_l (belongs c x) (all_of c s) a) ∙ ap suc (run-to s b t (and_r (belongs c x) (all_of c s) a) f)

  -- the first piece is what stands before the byte
  first_piece : (s : List ℕ) (b : ℕ) (t : List ℕ) → all_of c s ≡ true → belongs c b ≡ false → pieces c (s ++ (b ∷ t)) ≡ s ∷ pieces c t
  first_piece s b t a f =
      let r : run c (s ++ (b ∷ t)) ≡ length s = run-to s b t a f in
      let l : run c (s ++ (b ∷ t)) < length (s ++ (b ∷ t)) = rw (r, length-append) (omega arith) in
      let d : drop (suc (length s)) (s ++ (b ∷ t)) ≡ t = ap (λ (k : ℕ). drop k (s ++ (b ∷ t))) (one-after (length s)) ∙ drop-append-add s (b ∷ t) 1 in
      one_then c (s ++ (b ∷ t)) l ∙ rw (r, take-append_seam s (b ∷ t), d)
    where
      one-after : (k : ℕ) → suc k ≡ k + 1
      one-after k = omega arith

  all_then : (s t : List ℕ) → all_of c s ≡ true → all_of c t ≡ true → all_of c (s ++ t) ≡ true
  unfolding all_of
  all_then [] t p q = q
  all_then (b ∷ s) t p q = and_i (belongs c b) (all_of c (s ++ t)) (and_l (belongs c b) (all_of c s) p) (all_then s t (and_r (belongs c b) (all_of c s) p) q)

-- a word that can stand on a line: some bytes, and no gap, newline or comment among them
pub record Plain (w : List ℕ) : Type 0 where
  pub some : 0 < length w
  pub word : all_of Word w ≡ true
  pub line : all_of Line w ≡ true
  pub shown : all_of Shown w ≡ true

abbrev pub AllPlain : List (List ℕ) → Type 0
AllPlain [] = Unit
AllPlain (w ∷ ws) = Plain w × AllPlain ws

first-kept : (w : List ℕ) (ps : List (List ℕ)) → 0 < length w → not_empty (w ∷ ps) ≡ w ∷ not_empty ps
first-kept [] ps h = absurd (omega arith)
first-kept (b ∷ w) ps h = refl

-- a space stands between words, and within a line before its comment
space-between : belongs Word 32 ≡ false
unfolding belongs
space-between = refl

space_in-line : (s : List ℕ) → all_of Line s ≡ true → all_of Line (32 ∷ s) ≡ true
unfolding all_of belongs
space_in-line s t = t

space-shown : (s : List ℕ) → all_of Shown s ≡ true → all_of Shown (32 ∷ s) ≡ true
unfolding all_of belongs
space-shown s t = t

newline-ends : belongs Line 10 ≡ false
unfolding belongs
newline-ends = refl

-- nothing
no_pieces : not_empty (pieces Word []) ≡ []
unfolding pieces
no_pieces = refl

all-of-nothing : (c : Class) → all_of c [] ≡ true
unfolding all_of
all-of-nothing c = refl

pub words_back : (ws : List (List ℕ)) → AllPlain ws → words_of (joined ws) ≡ ws
unfolding words_of
words_back [] p = no_pieces
words_back (w ∷ []) p = ap not_empty (all_one Word w (run-all Word w p.0.word)) ∙ first-kept w [] p.0.some
words_back (w ∷ v ∷ ws) p =
    ap not_empty (first_piece Word w 32 (joined (v ∷ ws)) p.0.word space-between)
    ∙ first-kept w (pieces Word (joined (v ∷ ws))) p.0.some
    ∙ ap (λ (vs : List (List ℕ)). w ∷ vs) (words_back (v ∷ ws) p.1)

line_only : (ws : List (List ℕ)) → AllPlain ws → all_of Line (joined ws) ≡ true
line_only [] p = all-of-nothing Line
line_only (w ∷ []) p = p.0.line
line_only (w ∷ v ∷ ws) p = all_then Line w (ascii " " ++ joined (v ∷ ws)) p.0.line (space_in-line (joined (v ∷ ws)) (line_only (v ∷ ws) p.1))

shown_only : (ws : List (List ℕ)) → AllPlain ws → all_of Shown (joined ws) ≡ true
shown_only [] p = all-of-nothing Shown
shown_only (w ∷ []) p = p.0.shown
shown_only (w ∷ v ∷ ws) p = all_then Shown w (ascii " " ++ joined (v ∷ ws)) p.0.shown (space-shown (joined (v ∷ ws)) (shown_only (v ∷ ws) p.1))

-- no comment is taken from it
pub all_shown : (ws : List (List ℕ)) → AllPlain ws → uncommented (joined ws) ≡ joined ws
all_shown ws p = take_all (run Shown (joined ws)) (joined ws) (let e : run Shown (joined ws) ≡ length (joined ws) = run-all Shown (joined ws) (shown_only ws p) in omega arith)

-- and it is the first line of what begins with it
pub line_first : (w : List ℕ) (ws : List (List ℕ)) (rest : List ℕ) → AllPlain (w ∷ ws) → lines_of (line (w ∷ ws) ++ rest) ≡ joined (w ∷ ws) ∷ lines_of rest
line_first w ws rest p =
    ap (λ (s : List ℕ). lines_of (s ++ rest)) (line-joined w ws)
    ∙ ap lines_of (append_assoc (joined (w ∷ ws)) (ascii "\n") rest)
    ∙ first_piece Line (joined (w ∷ ws)) 10 rest (line_only (w ∷ ws) p) newline-ends

-- numbers are such words
digit-plain : (b : ℕ) → is_digit b ≡ true → (belongs Word b ≡ true) × (belongs Line b ≡ true) × (belongs Shown b ≡ true)
unfolding belongs
digit-plain b t =
    let g : 48 ≤ b = leb-true 48 b (and_l (leb 48 b) (leb b 57) t) in
    let a : eqb b 32 ≡ false = ne_eqb b 32 (λ e. omega arith) in
    let c : eqb b 9 ≡ false = ne_eqb b 9 (λ e. omega arith) in
    let d : eqb b 13 ≡ false = ne_eqb b 13 (λ e. omega arith) in
    let n : eqb b 10 ≡ false = ne_eqb b 10 (λ e. omega arith) in
    let h : eqb b 35 ≡ false = ne_eqb b 35 (λ e. omega arith) in
    (rw (a, c, d), rw n, rw h)

digits-plain : (s : List ℕ) → all_digits s ≡ true → (all_of Word s ≡ true) × (all_of Line s ≡ true) × (all_of Shown s ≡ true)
unfolding all_digits all_of
digits-plain [] t = (refl, refl, refl)
digits-plain (b ∷ s) t =
    let x = digit-plain b (and_l (is_digit b) (all_digits s) t) in
    let y = digits-plain s (and_r (is_digit b) (all_digits s) t) in
    (and_i (belongs Word b) (all_of Word s) x.0 y.0, and_i (belongs Line b) (all_of Line s) x.1 y.1, and_i (belongs Shown b) (all_of Shown s) x.2 y.2)

pub decimal-plain : (v : ℕ) → Plain (decimal v)
decimal-plain v = let d = digits-plain (decimal v) (decimal-digits v) in record { some = decimal-some v; word = d.0; line = d.1; shown = d.2 }

minus-plain : (w : List ℕ) → Plain w → Plain (ascii "-" ++ w)
unfolding all_of belongs
minus-plain w p = record { some = omega arith; word = p.word; line = p.line; shown = p.shown }

pub signed-plain : (v : ℕ) → Plain (signed v)
unfolding signed
signed-plain v =
    by_cond (λ (w : List ℕ). Plain w) (ltb v (2 ^ 31)) (decimal v) (ascii "-" ++ decimal (2 ^ 32 - v))
    (λ _. decimal-plain v)
    (λ _. minus-plain (decimal (2 ^ 32 - v)) (decimal-plain (2 ^ 32 - v)))
