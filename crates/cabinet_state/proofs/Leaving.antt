-- What leaving a cabinet in words comes to, case by case; `a` is the reply to what was asked.
use Prim.Native.Nat.{ℕ}
use mathlib.Core.Path.{◌≡◌}
use mathlib.Core.List.{List}
use lib.ListN.{length}
use borrow.Author.Tests.{eq-eqb, ne_eqb}
use Rattle.std.specs.Prelude.{refl}
use Rattle.model.specs.Questions.{Reply, accepted, refused, number}
use Rattle.cabinet_state.specs.declared.Cabinet.{Cabinet}
use Rattle.cabinet_state.specs.Words.{state_words, words_of}
use Rattle.cabinet_state.specs.States.{leave_number, leave_words, left_words}

pub wrong_size : (l : List ℕ) (a : Reply) (s : Cabinet) {p : ℕ} → (length l ≡ state_words → ⊥) → p ≡ 1 → (p ≡ leave_number l (number a)) × (l ≡ left_words l a s)
unfolding leave_number leave_words left_words
wrong_size l accepted s h e = let n = ne_eqb (length l) state_words h in (rw n e, rw n)
wrong_size l (refused q) s h e = (rw (ne_eqb (length l) state_words h) e, refl)

pub stopped : (l : List ℕ) (a : Reply) (s : Cabinet) {q : ℕ} → length l ≡ state_words → a ≡ refused q → (q ≡ leave_number l (number a)) × (l ≡ left_words l a s)
unfolding leave_number left_words
stopped l a s h e = (rw (e, eq-eqb (length l) state_words h), rw e)

pub left : (l m : List ℕ) (a : Reply) (s : Cabinet) → length l ≡ state_words → a ≡ accepted → m ≡ words_of s → (0 ≡ leave_number l (number a)) × (m ≡ left_words l a s)
unfolding leave_number leave_words left_words
left l m a s h e w = let y = eq-eqb (length l) state_words h in (rw (e, y), rw (e, y) w)
