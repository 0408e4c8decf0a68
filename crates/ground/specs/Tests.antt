-- Tests: a Bool that was computed, and the fact that it stands for. What the library has of this is in borrow.Author.Tests.
use Rattle.std.specs.Prelude.{ℕ, ◌≡◌, refl, Bool, true, false, ◌&&◌, ◌||◌, cond, ◌⊎◌, eqb}
use Rattle.std.proofs.Common.{sym, ◌∙◌, true≢false, inl, inr}
use Rattle.std.proofs.lemmas.Bool.{false≢true}
use borrow.Author.Tests.{eq-eqb}

pub no_both : (b : Bool) → b ≡ true → b ≡ false → ⊥
no_both b p q = true≢false (sym p ∙ q)

-- a test that cannot hold
pub refuted : (a : Bool) → (a ≡ true → ⊥) → a ≡ false
refuted true p = absurd (p refl)
refuted false p = refl

-- a test is one or the other, with its equation
pub split : (b : Bool) → (b ≡ true) ⊎ (b ≡ false)
split true = inl refl
split false = inr refl

pub and_l : (a b : Bool) → (a && b) ≡ true → a ≡ true
and_l true b e = refl
and_l false b e = e

pub and_r : (a b : Bool) → (a && b) ≡ true → b ≡ true
and_r true b e = e
and_r false b e = absurd (false≢true e)

pub and_i : (a b : Bool) → a ≡ true → b ≡ true → (a && b) ≡ true
and_i true b p q = q
and_i false b p q = p

pub or-e : (a b : Bool) → (a || b) ≡ true → (a ≡ true) ⊎ (b ≡ true)
or-e true b e = inl refl
or-e false b e = inr e

pub or_l : (a b : Bool) → a ≡ true → (a || b) ≡ true
or_l true b e = refl
or_l false b e = absurd (false≢true e)

pub or_r : (a b : Bool) → b ≡ true → (a || b) ≡ true
or_r true b e = refl
or_r false b e = e

-- the other of two, where the one does not hold
pub or-second : (a b : Bool) → a ≡ false → (a || b) ≡ true → b ≡ true
or-second true b p q = absurd (true≢false p)
or-second false b p q = q

-- neither of two tests holds
pub or_no : (a b : Bool) → a ≡ false → b ≡ false → (a || b) ≡ false
or_no true b p q = p
or_no false b p q = q

pub or_no_l : (a b : Bool) → (a || b) ≡ false → a ≡ false
or_no_l true b e = e
or_no_l false b e = refl

pub or_no_r : (a b : Bool) → (a || b) ≡ false → b ≡ false
or_no_r true b e = absurd (true≢false e)
or_no_r false b e = e

pub eqb_same : (m : ℕ) → eqb m m ≡ true
eqb_same m = eq-eqb m m refl

-- two tests of which each gives the other are equal
pub same_test : (a b : Bool) → (a ≡ true → b ≡ true) → (b ≡ true → a ≡ true) → a ≡ b
same_test true b p q = sym (p refl)
same_test false true p q = q refl
same_test false false p q = refl

-- by cases on a test: the two branches of a conditional, each with the test's equation
pub by_cond {ℓ} : {A : Type ℓ} (P : A → Type 0) (t : Bool) (x y : A) → (t ≡ true → P x) → (t ≡ false → P y) → P (cond t x y)
by_cond P true x y p q = p refl
by_cond P false x y p q = q refl
