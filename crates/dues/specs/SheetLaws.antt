-- Laws of sheets: one lockage more; how large a total can be.
use Rattle.std.specs.Prelude.{ℕ, zero, suc, ◌+◌, ◌*◌, ◌≤◌, ◌≡◌, refl, Bool, true, false, ◌&&◌, List, [], ◌∷◌, ◌++◌}
use Rattle.std.proofs.Common.{arith, add-one}
use Rattle.records.specs.Codes.{outcome_of, flag_of}
use Rattle.tariff.specs.Shares.{upper_share, lower_share}
use Rattle.tariff.specs.ShareLaws.{upper-most}
use Rattle.tariff.proofs.ChargeLaws.{charge-most}
use Rattle.dues.specs.declared.Lockage.{Lockage}
use Rattle.dues.specs.Sheet.{charge_of, lockage_at, lockages_to, every, total}

-- one lockage more
every_more : (p : Lockage → Bool) (ls : List Lockage) (l : Lockage) → every p (ls ++ (l ∷ [])) ≡ (every p ls && p l)
unfolding every
every_more p [] l = last (p l)
  where
    last : (b : Bool) → (b && true) ≡ (true && b)
    last true = refl
    last false = refl
every_more p (x ∷ ls) l = rw (every_more p ls l) (grouped (p x) (every p ls) (p l))
  where
    grouped : (a b c : Bool) → (a && (b && c)) ≡ ((a && b) && c)
    grouped true b c = refl
    grouped false b c = refl

total-more : (f : Lockage → ℕ) (ls : List Lockage) (l : Lockage) → total f (ls ++ (l ∷ [])) ≡ total f ls + f l
unfolding total
total-more f [] l = omega arith
total-more f (x ∷ ls) l = rw (total-more f ls l) (omega arith)

-- what a loop over the lockages has after one more
pub every-next : (p : Lockage → Bool) (s : List ℕ) (k : ℕ) → every p (lockages_to s (k + 1)) ≡ (every p (lockages_to s k) && p (lockage_at s (k * 4)))
unfolding lockages_to
every-next p s k = rw add-one (every_more p (lockages_to s k) (lockage_at s (k * 4)))

pub total-next : (f : Lockage → ℕ) (s : List ℕ) (k : ℕ) → total f (lockages_to s (k + 1)) ≡ total f (lockages_to s k) + f (lockage_at s (k * 4))
unfolding lockages_to
total-next f s k = rw add-one (total-more f (lockages_to s k) (lockage_at s (k * 4)))

-- k lockages come to no more than k times the highest charge
total-most : (f : Lockage → ℕ) → ((l : Lockage) → f l ≤ 1587) → (s : List ℕ) (k : ℕ) → total f (lockages_to s k) ≤ k * 1587
unfolding lockages_to total
total-most f h s zero = omega arith
total-most f h s (suc k) = rw total-more (omega (arith, total-most f h s k, h (lockage_at s (k * 4))))

module _ (l : Lockage) where
  charge-most-of : charge_of l ≤ 1587
  charge-most-of = charge-most l.length (outcome_of l.outcome) (flag_of l.returned)

  pub upper-most-of : upper_share (charge_of l) ≤ 1587
  upper-most-of = omega (arith, upper-most (charge_of l), charge-most-of)

  pub lower-most-of : lower_share (charge_of l) ≤ 1587
  lower-most-of = omega (arith, charge-most-of)

abbrev pub upper_of : Lockage → ℕ
upper_of l = upper_share (charge_of l)

abbrev pub lower_of : Lockage → ℕ
lower_of l = lower_share (charge_of l)

pub upper-total-most : (s : List ℕ) (k : ℕ) → total upper_of (lockages_to s k) ≤ k * 1587
upper-total-most s k = total-most upper_of upper-most-of s k

pub lower-total-most : (s : List ℕ) (k : ℕ) → total lower_of (lockages_to s k) ≤ k * 1587
lower-total-most s k = total-most lower_of lower-most-of s k
