-- A list of n elements, filled from its front: the first j of them are those of g.
use Rattle.std.specs.Prelude.{ℕ, zero, suc, ◌+◌, ◌*◌, ◌%◌, ◌≤◌, ◌<◌, ◌≡◌, refl, Bool, true, false, List, length, get_or, set}
use Rattle.std.proofs.Common.{sym, ap, ◌∙◌, arith, length-set, ext_get_or, get_or-set_same, get_or-set_other}
use Rattle.ground.specs.Tests.{and_l, and_r, and_i, refuted, no_both}
use Rattle.std.proofs.Math.Decide.{ℕ_discrete}
use Rattle.cabinet_state.specs.Tables.{tabulate, all_below}
use Rattle.cabinet_state.specs.Words.{check_to}

pub at-tabulate : {A : Type 0} (n : ℕ) (g : ℕ → A) (i : ℕ) (d : A) → i < n → get_or (tabulate n g) i d ≡ g i
unfolding tabulate
at-tabulate zero g i d h = absurd (omega arith)
at-tabulate (suc n) g zero d h = refl
at-tabulate (suc n) g (suc i) d h = at-tabulate n (λ k. g (suc k)) i d (omega arith)

pub length-tabulate : {A : Type 0} (n : ℕ) (g : ℕ → A) → length (tabulate n g) ≡ n
unfolding tabulate
length-tabulate zero g = refl
length-tabulate (suc n) g = ap suc (length-tabulate n (λ k. g (suc k)))

pub record Filled {A : Type 0} (g : ℕ → A) (n j : ℕ) (l : List A) : Type 0 where
  pub size : length l ≡ n
  pub front : (k : ℕ) → k < j → get_or l k (g 0) ≡ g k

module _ {A : Type 0} (g : ℕ → A) (n : ℕ) where
  pub none_filled : (l : List A) → length l ≡ n → Filled g n 0 l
  none_filled l e = record { size = e; front = λ k h. absurd (omega arith) }

  pub one_filled : (j : ℕ) (l : List A) (a : A) → j < n → Filled g n j l → a ≡ g j → Filled g n (j + 1) (set l j a)
  one_filled j l a h x e = record {
    size = length-set l j a ∙ x.size;
    front = λ k m. elim (ℕ_discrete k j) [
      | yes q ↦ rw q (get_or-set_same l j a (g 0) (rw x.size h) ∙ e)
      | no q ↦ get_or-set_other l j k a (g 0) q ∙ x.front k (omega arith)
    ];
  }

  pub all_filled : (j : ℕ) (l : List A) → n ≤ j → Filled g n j l → l ≡ tabulate n g
  all_filled j l h x = ext_get_or (g 0) l (tabulate n g) (x.size ∙ sym (length-tabulate n g))
      (λ k m. x.front k (let e = x.size in omega (arith, m, h, e)) ∙ sym (at-tabulate n g k (g 0) (let e = x.size in omega (arith, m, e))))

-- all below n
pub all-next : (k : ℕ) (g : ℕ → Bool) → all_below k g ≡ true → g k ≡ true → all_below (k + 1) g ≡ true
unfolding all_below
all-next k g x y =
    let e : k + 1 ≡ suc k = omega arith in
    rw e (and_i (all_below k g) (g k) x y)

pub all-at : (n : ℕ) (g : ℕ → Bool) (k : ℕ) → all_below n g ≡ true → k < n → g k ≡ true
unfolding all_below
all-at zero g k x h = absurd (omega arith)
all-at (suc n) g k x h = elim (ℕ_discrete k n) [
  | yes q ↦ rw q (and_r (all_below n g) (g n) x)
  | no q ↦ all-at n g k (and_l (all_below n g) (g n) x) (omega arith)
]

pub not-all : (n : ℕ) (g : ℕ → Bool) (k : ℕ) → k < n → g k ≡ false → all_below n g ≡ false
not-all n g k h e = refuted (all_below n g) (λ x. no_both (g k) (all-at n g k x h) e)

-- the check of one word more
pub check-next : (k : ℕ) (g : ℕ → ℕ) (acc w : ℕ) → acc ≡ check_to k g → w ≡ g k → (acc * 31 + w) % 4294967296 ≡ check_to (k + 1) g
unfolding check_to
check-next k g acc w p q =
    let e : k + 1 ≡ suc k = omega arith in
    rw (e, p, q)
