-- What the code does on the way: bytes are put at the front of a buffer as far as it goes, or something is refused; and what that comes to, where the text was
-- measured before.
use Rattle.std.specs.Prelude.{ℕ, ◌+◌, ◌-◌, ◌≤◌, ◌<◌, ◌≡◌, refl, Result, Ok, Err, List, take, drop}
use Rattle.std.proofs.Common.{sym, ◌∙◌, arith, le-leb}
use Rattle.std.proofs.Math.Nat.{zero-add}
use Rattle.std.proofs.lemmas.Bool.{lt-leb}
use Rattle.std.proofs.Math.ListN.{length}
use Rattle.text.specs.Writing.{Put, highest}
use Rattle.text.specs.WritingLaws.{all-fitted, nothing-fitted, measured}
use Rattle.words.specs.Words.{end_of_run, uncommented}
use Rattle.words.specs.declared.Class.TheVariants.{Line}
use Rattle.schedule_text.specs.Texts.{Turn, made, refused, LineRead, read_line, answer_to, buffer_after}
use Rattle.schedule_text.specs.declared.TurnError.{TurnError}
use Rattle.schedule_text.specs.declared.TurnError.TheVariants.{Refused, NoRoom}

abbrev pub Turns : Turn → List ℕ → List ℕ → Result ℕ TurnError → Type 0
Turns (made t) before after r = (n : ℕ) × (r ≡ Ok n) × Put before after 0 n t
Turns (refused k q) before after r = r ≡ Err (Refused k q)

-- the line from a place on, and where it ends
pub record LineAt (text : List ℕ) (at : ℕ) (read : LineRead) (end : ℕ) : Type 0 where
  pub ends : end ≡ end_of_run Line text at
  pub line : read ≡ read_line (uncommented (take (end - at) (drop at text)))
  pub low : at ≤ end
  pub high : end ≤ length text

-- what is answered, and the buffer
abbrev pub Answered : Turn → List ℕ → List ℕ → Result ℕ TurnError → Type 0
Answered x before after r = (r ≡ answer_to x before) × (after ≡ buffer_after x before)

same-done : {m n : ℕ} → ◌≡◌ {A = Result ℕ TurnError} (Ok m) (Ok n) → m ≡ n
same-done e = cc

no-done : {e : TurnError} {n : ℕ} → ◌≡◌ {A = Result ℕ TurnError} (Err e) (Ok n) → ⊥
no-done e = let z : ◌≡◌ {A = ℕ} 0 1 = cc in omega arith

-- refused where it was measured
pub refused_then : (x : Turn) (b a : List ℕ) (r : Result ℕ TurnError) (e : TurnError) (out : List ℕ) → Turns x b a r → r ≡ Err e → Answered x out out (Err e)
unfolding answer_to buffer_after
refused_then (made t) b a r e out w f = absurd (no-done (sym f ∙ w.1))
refused_then (refused k q) b a r e out w f = (sym f ∙ w, refl)

-- measured, and longer than the buffer
pub no_room : (x : Turn) (b a : List ℕ) (r : Result ℕ TurnError) (out : List ℕ) (n : ℕ) → Turns x b a r → r ≡ Ok n → length out < n → length out < highest → Answered x out out (Err NoRoom)
unfolding answer_to buffer_after
no_room (made t) b a r out n w e h l =
    let d : w.0 ≡ n = same-done (sym w.1 ∙ e) in
    let z : 0 + length t ≡ length t = zero-add (length t) in
    let g : length out < length t = omega (arith, w.2.place) in
    (rw (lt-leb (length t) (length out) g), (nothing-fitted t out g).1)
no_room (refused k q) b a r out n w e h l = absurd (no-done (sym w ∙ e))

-- measured, and put where there is room
pub turned : (x : Turn) (b a : List ℕ) (r : Result ℕ TurnError) (out out' : List ℕ) (r' : Result ℕ TurnError) (n : ℕ) → Turns x b a r → r ≡ Ok n → n ≤ length out → length out < highest → Turns x out out' r'
    → Answered x out out' r'
unfolding answer_to buffer_after
turned (made t) b a r out out' r' n w e h l w' =
    let d : w.0 ≡ n = same-done (sym w.1 ∙ e) in
    let z : 0 + length t ≡ length t = zero-add (length t) in
    let g : length t ≤ length out = omega (arith, w.2.place) in
    let f = all-fitted t out g w'.2 in
    let m : w'.0 ≡ length t = measured (omega arith) w'.2 in
    (w'.1 ∙ rw (le-leb (length t) (length out) g, m), f.1)
turned (refused k q) b a r out out' r' n w e h l w' = absurd (no-done (sym w ∙ e))
