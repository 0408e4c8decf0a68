-- Laws of the two forms and of what is printed of them.
use Rattle.std.specs.Prelude.{ℕ, ◌+◌, ◌-◌, ◌^◌, ◌≤◌, ◌<◌, min, true, false, Result, Ok, Err, List, [], ◌∷◌, ◌++◌, eqb, leb, take, get_or, replicate}
use Rattle.std.proofs.Math.Path.{◌≡◌, refl, sym, ap}
use Rattle.std.proofs.Common.{◌∙◌, arith, drop_of_length-le, length-take, drop-cons, length-take-le, take_all}
use Rattle.std.proofs.Math.Logic.{inl, inr}
use Rattle.std.proofs.Math.Numerals.{add-one}
use borrow.Author.Tests.{le-leb, lt-leb, lt-ltb, le-ltb, leb-true, leb-false, eq-eqb, ne_eqb}
use Rattle.std.proofs.Math.ListN.{length, drop, length-append}
use Rattle.std.proofs.lemmas.List.{length-replicate}
use Rattle.std.proofs.Math.Seq.{take-append_seam}
use Rattle.ground.specs.Tests.{split}
use Rattle.text.specs.Text.{ascii, refusal}
use Rattle.text.specs.Lengths.{decimal-length}
use Rattle.text.specs.Writing.{Put, fitted, fitted_length, WrittenWhole}
use Rattle.text.specs.WritingLaws.{nothing-fitted, read-front, fitted-whole}
use Rattle.bench_report.specs.Limits.{longest_schedule}
use Rattle.schedule_text.specs.Texts.{Turn, made, refused, read_text, answer_to, buffer_after}
use Rattle.schedule_text.specs.Turning.{Answered}
use Rattle.schedule_text.specs.declared.TurnError.{TurnError}
use Rattle.schedule_text.specs.declared.TurnError.TheVariants.{Refused, NoRoom}
use Rattle.schedule_input.specs.Input.{marked, is_control, has_control, is_text, records_in, word_shown, word_of, refused_line, refused_record, longest_text, either_or, either_form, text_or}

-- the mark
pub no_bytes : (s : List ℕ) → length s ≡ 0 → false ≡ marked s
no_bytes [] h = refl
no_bytes (a ∷ s) h = absurd (omega arith)

pub other-first : (s : List ℕ) → (get_or s 0 0 ≡ 0x4C → ⊥) → false ≡ marked s
other-first [] n = refl
other-first (a ∷ []) n = rw (ne_eqb a 0x4C n)
other-first (a ∷ b ∷ s) n = rw (ne_eqb a 0x4C n)

pub alone : (s : List ℕ) → length s ≡ 1 → get_or s 0 0 ≡ 0x4C → true ≡ marked s
alone [] h e = absurd (omega arith)
alone (a ∷ []) h e = rw (eq-eqb a 0x4C e)
alone (a ∷ b ∷ s) h e = absurd (omega arith)

pub second : (s : List ℕ) → 1 < length s → get_or s 0 0 ≡ 0x4C → eqb (get_or s 1 0) 0x45 ≡ marked s
second [] h e = absurd (omega arith)
second (a ∷ []) h e = absurd (omega arith)
second (a ∷ b ∷ s) h e = rw (eq-eqb a 0x4C e)

-- a control byte, along a text
module _ (s : List ℕ) (i : ℕ) where
  pub control-here : i < length s → is_control (get_or s i 0) ≡ true → has_control (drop i s) ≡ true
  unfolding has_control
  control-here h e = rw (drop-cons s i 0 h, e)

  pub control-later : i < length s → is_control (get_or s i 0) ≡ false → has_control (drop i s) ≡ has_control (drop (i + 1) s)
  unfolding has_control
  control-later h n = rw (drop-cons s i 0 h, n, add-one i)

  pub no_control : length s ≤ i → has_control (drop i s) ≡ false
  unfolding has_control
  no_control h = rw (drop_of_length-le s h)

-- records of either form
pub of-text : (s : List ℕ) → is_text s ≡ true → read_text s ≡ records_in s
unfolding records_in
of-text s t = rw t

pub of-records : (s : List ℕ) → is_text s ≡ false → made s ≡ records_in s
unfolding records_in
of-records s f = rw f

pub same_answer : {x y : Turn} (out : List ℕ) {after : List ℕ} {r : Result ℕ TurnError} → x ≡ y → Answered x out after r → Answered y out after r
same_answer {x} {y} out {after} {r} e w = (w.0 ∙ ap (λ (z : Turn). answer_to z out) e, w.1 ∙ ap (λ (z : Turn). buffer_after z out) e)

pub no-room_for : (s out : List ℕ) → length out < length s → Answered (made s) out out (Err NoRoom)
unfolding answer_to buffer_after
no-room_for s out h = (rw (lt-leb (length s) (length out) h), (nothing-fitted s out h).1)

pub copied : (s out after : List ℕ) (r : ℕ) → length s ≤ length out → WrittenWhole s out after r → Answered (made s) out after (Ok r)
unfolding answer_to buffer_after
copied s out after r h w =
    let e : r ≡ length s = w.0 ∙ (fitted-whole s out h).0 in
    (rw (le-leb (length s) (length out) h, e), w.1)

-- what an answer says of the result
module _ (out : List ℕ) where
  abbrev pub Fits : Turn → ℕ → Type 0
  Fits x n = (s : List ℕ) × (x ≡ made s) × (length s ≤ length out) × (take n (buffer_after x out) ≡ s) × (n ≤ length (buffer_after x out))

  pub was-done : (x : Turn) (n : ℕ) → Ok n ≡ answer_to x out → Fits x n
  unfolding answer_to buffer_after
  was-done (refused k q) n e = let z : ◌≡◌ {A = ℕ} 0 1 = cc in absurd (omega arith)
  was-done (made s) n e = elim (split (leb (length s) (length out))) [
    | inl t ↦
        let f : ◌≡◌ {A = Result ℕ TurnError} (Ok n) (Ok (length s)) = rw t at e in
        let g : n ≡ length s = cc in
        let h : length s ≤ length out = leb-true (length s) (length out) t in
        let w : fitted s out ≡ s ++ drop (length s) out = (fitted-whole s out h).1 in
        (s, refl, h, rw (w, g) (take-append_seam s (drop (length s) out)), rw (w, length-append s (drop (length s) out)) (omega arith))
    | inr t ↦
        let f : ◌≡◌ {A = Result ℕ TurnError} (Ok n) (Err NoRoom) = rw t at e in
        let z : ◌≡◌ {A = ℕ} 0 1 = cc in
        absurd (omega arith)
  ]

  pub was-refused : (x : Turn) (k q : ℕ) → Err (Refused k q) ≡ answer_to x out → x ≡ refused k q
  unfolding answer_to
  was-refused (refused j p) k q e = let a : j ≡ k = cc in let b : p ≡ q = cc in rw (a, b)
  was-refused (made s) k q e = elim (split (leb (length s) (length out))) [
    | inl t ↦ let f : ◌≡◌ {A = Result ℕ TurnError} (Err (Refused k q)) (Ok (length s)) = rw t at e in let z : ◌≡◌ {A = ℕ} 0 1 = cc in absurd (omega arith)
    | inr t ↦ let f : ◌≡◌ {A = Result ℕ TurnError} (Err (Refused k q)) (Err NoRoom) = rw t at e in let z : ◌≡◌ {A = ℕ} 0 1 = cc in absurd (omega arith)
  ]

  pub was_no-room : (x : Turn) → Err NoRoom ≡ answer_to x out → (s : List ℕ) × (x ≡ made s) × (length out < length s)
  unfolding answer_to
  was_no-room (refused k q) e = let z : ◌≡◌ {A = ℕ} 0 1 = cc in absurd (omega arith)
  was_no-room (made s) e = elim (split (leb (length s) (length out))) [
    | inl t ↦ let f : ◌≡◌ {A = Result ℕ TurnError} (Err NoRoom) (Ok (length s)) = rw t at e in let z : ◌≡◌ {A = ℕ} 0 1 = cc in absurd (omega arith)
    | inr t ↦ (s, refl, leb-false (length s) (length out) t)
  ]

-- a text that was put into an array of 60 bytes
pub in_array : (t : List ℕ) {m : List ℕ} {r : ℕ} → length t ≤ 60 → Put (replicate 60 0) m 0 r t → (r ≤ 60) × (take r m ≡ t)
in_array t {m} {r} h p =
    let l : length (replicate {A = ℕ} 60 0) ≡ 60 = length-replicate {A = ℕ} 60 0 in
    let w = read-front (omega arith) p in
    (omega (arith, w.0), w.1)

shown-length : (w : List ℕ) → length (word_shown w) ≤ 40
shown-length [] = omega arith
shown-length (b ∷ w) = let e = length-take 40 (b ∷ w) in omega arith

pub refused-line-length : (s : List ℕ) (k i : ℕ) → length (refused_line s k i) ≤ 60
unfolding refused_line
refused-line-length s k i = simp length-append (omega (arith, decimal-length (min k (2 ^ 32 - 1)), shown-length (word_of s k i)))

pub refused_record-length : (k q : ℕ) → length (refused_record k q) ≤ 60
unfolding refused_record
refused_record-length k q = simp length-append (omega (arith, decimal-length (min k (2 ^ 32 - 1)), decimal-length (min q (2 ^ 32 - 1))))

-- a word as it is shown
pub shown-short : (w : List ℕ) → 0 < length w → length w ≤ 40 → w ≡ word_shown w
shown-short [] h l = absurd (omega arith)
shown-short (b ∷ w) h l = sym (take_all 40 (b ∷ w) l)

pub shown-long : (w : List ℕ) → 0 < length w → take 40 w ≡ word_shown w
shown-long [] h = absurd (omega arith)
shown-long (b ∷ w) h = refl

pub shown-none : (w : List ℕ) → length w ≡ 0 → ascii "end of line" ≡ word_shown w
shown-none [] h = refl
shown-none (b ∷ w) h = absurd (omega arith)

-- the text of records, as `write` answered
module _ (x : Turn) (out : List ℕ) where
  abbrev pub TextWritten : ℕ → List ℕ → Type 0
  TextWritten r after = (r ≡ fitted_length (text_or x) out) × (after ≡ fitted (text_or x) out)

  pub text-done : (n : ℕ) (after : List ℕ) → Ok n ≡ answer_to x out → after ≡ buffer_after x out → TextWritten n after
  unfolding buffer_after fitted_length
  text-done n after e f =
      let w = was-done out x n e in
      let g : n ≡ length w.0 = sym (length-take-le n (buffer_after x out) w.4) ∙ ap length w.3 in
      (rw (w.1, le-leb (length w.0) (length out) w.2) g, f ∙ rw w.1)

  pub text-refused : (k q r : ℕ) (between after : List ℕ) → Err (Refused k q) ≡ answer_to x out → between ≡ buffer_after x out
      → (r ≡ fitted_length (refused_record k q) between) × (after ≡ fitted (refused_record k q) between) → TextWritten r after
  unfolding buffer_after
  text-refused k q r between after e f w =
      let g : x ≡ refused k q = was-refused out x k q e in
      let b : between ≡ out = f ∙ rw g in
      (rw (g, ← b) w.0, rw (g, ← b) w.1)

  pub text_no-room : (after : List ℕ) → Err NoRoom ≡ answer_to x out → after ≡ buffer_after x out → TextWritten 0 after
  unfolding buffer_after
  text_no-room after e f =
      let w = was_no-room out x e in
      (rw w.1 (nothing-fitted w.0 out w.2).0, f ∙ rw w.1)

-- what a program prints of a schedule in either form
module _ (of : List ℕ → List ℕ) (s : List ℕ) where
  pub text_too-long : longest_text < length s → refusal 1 ≡ either_form of s
  unfolding either_form
  text_too-long h = rw (lt-ltb longest_text (length s) h)

  -- by its array of 40,960 bytes for the records
  module _ (out : List ℕ) (l : length out ≡ longest_schedule) (h : length s ≤ longest_text) {after : List ℕ} {r : Result ℕ TurnError} (w : Answered (records_in s) out after r) where
    output_by : (x : Turn) → records_in s ≡ x → either_or of s x ≡ either_form of s
    unfolding either_form
    output_by x e = rw (le-ltb longest_text (length s) h, e)

    pub done-within : (n : ℕ) → r ≡ Ok n → n ≤ length after
    done-within n e =
        let f = was-done out (records_in s) n (sym e ∙ w.0) in
        rw w.1 f.4

    pub done-output : (n : ℕ) → r ≡ Ok n → of (take n after) ≡ either_form of s
    done-output n e =
        let f = was-done out (records_in s) n (sym e ∙ w.0) in
        let g : take n after ≡ f.0 = ap (take n) w.1 ∙ f.3 in
        let k : length f.0 ≤ longest_schedule = omega (arith, f.2) in
        ap of g ∙ rw (← output_by (made f.0) f.1, le-leb (length f.0) longest_schedule k)

    pub refused-output : (k q : ℕ) → r ≡ Err (Refused k q) → refused_line s k q ≡ either_form of s
    refused-output k q e = output_by (refused k q) (was-refused out (records_in s) k q (sym e ∙ w.0))

    pub no-room-output : r ≡ Err NoRoom → refusal 1 ≡ either_form of s
    no-room-output e =
        let f = was_no-room out (records_in s) (sym e ∙ w.0) in
        let k : longest_schedule < length f.0 = omega (arith, f.2) in
        rw (← output_by (made f.0) f.1, lt-leb (length f.0) longest_schedule k)
