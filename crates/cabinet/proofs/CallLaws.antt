-- A call on words: refused for its state; or what its questions and its turn say of the cabinet in them.
use Prim.Native.Nat.{ℕ}
use mathlib.Core.Path.{◌≡◌, sym, ap, ◌∙◌}
use mathlib.Core.List.{List}
use mathlib.Core.Logic.{inl, inr}
use native.Mathlib.Omega.{arith}
use lib.Dec.{eqb}
use lib.ListN.{length}
use borrow.Author.Tests.{eq-eqb, ne_eqb, eqb-true}
use Rattle.ground.specs.Tests.{split}
use Rattle.cabinet_state.specs.declared.Cabinet.{Cabinet}
use Rattle.cabinet_state.specs.Words.{state_words, cabinet_of}
use Rattle.cabinet_state.specs.States.{state_refusal, leave_number, leave_words}
use Rattle.cabinet.specs.Calls.{call_number, call_words, call_buffer}

-- the state is refused
pub refused : (l : List ℕ) (q : Cabinet → ℕ) (g : Cabinet → Cabinet) (w : ℕ) → w ≡ state_refusal l → (w ≡ 0 → ⊥) → (w ≡ call_number l q) × (l ≡ call_words l q g)
unfolding call_number call_words
refused l q g w e h =
    let n = ne_eqb (state_refusal l) 0 (λ z. h (e ∙ z)) in
    (rw n e, rw (n, n))

-- a state that is not refused has its length
sized : (l : List ℕ) → state_refusal l ≡ 0 → length l ≡ state_words
unfolding state_refusal
sized l z = elim (split (eqb (length l) state_words)) [
  | inl y ↦ eqb-true (length l) state_words y
  | inr n ↦ let q : state_refusal l ≡ 1 = rw n in absurd (omega (arith, q, z))
]

-- the state is taken: `r` and `m` are what leaving the next cabinet came to
pub passed : (l m : List ℕ) (q : Cabinet → ℕ) (g : Cabinet → Cabinet) (w r k : ℕ) (next : Cabinet) → w ≡ state_refusal l → w ≡ 0
    → k ≡ q (cabinet_of l) → next ≡ g (cabinet_of l) → (r ≡ leave_number l k) × (m ≡ leave_words l k next) → (r ≡ call_number l q) × (m ≡ call_words l q g)
unfolding call_number call_words leave_number leave_words
passed l m q g w r k next e z p x (a, b) =
    let y = eq-eqb (state_refusal l) 0 (sym e ∙ z) in
    let s = eq-eqb (length l) state_words (sized l (sym e ∙ z)) in
    (rw y ((rw s at a) ∙ p), rw (y, ← p, ← x) (rw s at b))

-- a call that looks, with a buffer to write into
pub refused-buffer : (l out : List ℕ) (q : Cabinet → ℕ) (g : Cabinet → List ℕ) (w : ℕ) → w ≡ state_refusal l → (w ≡ 0 → ⊥) → (w ≡ call_number l q) × (out ≡ call_buffer l out g)
unfolding call_number call_buffer
refused-buffer l out q g w e h = let n = ne_eqb (state_refusal l) 0 (λ z. h (e ∙ z)) in (rw n e, rw n)

pub passed-buffer : (l out after : List ℕ) (q : Cabinet → ℕ) (g : Cabinet → List ℕ) (w r : ℕ) (s : Cabinet) → w ≡ state_refusal l → w ≡ 0 → s ≡ cabinet_of l
    → (r ≡ q s) × (after ≡ g s) → (r ≡ call_number l q) × (after ≡ call_buffer l out g)
unfolding call_number call_buffer
passed-buffer l out after q g w r s e z x (a, b) =
    let y = eq-eqb (state_refusal l) 0 (sym e ∙ z) in
    (rw y (a ∙ ap q x), rw y (b ∙ ap g x))
