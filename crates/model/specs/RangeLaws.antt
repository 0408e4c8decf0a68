-- What a "yes" to question 4 or to question 7 says of the numbers.
use Rattle.std.specs.Prelude.{ℕ, suc, ◌≤◌, ◌<◌, ◌≡◌, true, ◌&&◌, leb, ltb}
use Rattle.std.proofs.Common.{leb-true, le-leb}
use Rattle.ground.specs.Limit.{limit}
use Rattle.ground.specs.Tests.{and_i, and_l, and_r}
use Rattle.model.specs.Ranges.{sizes_in_range, is_controller}

-- n from 2 to the limit, "f from 1 to n − 1"
pub record Ranges (n f : ℕ) : Type 0 where
  pub some : 2 ≤ n
  pub small : n ≤ limit
  pub low : 1 ≤ f
  pub high : f < n

pub ranges : (n f : ℕ) → sizes_in_range n f ≡ true → Ranges n f
unfolding sizes_in_range
ranges n f e =
    let three = and_l (leb 2 n && leb n limit && leb 1 f) (ltb f n) e in
    let two = and_l (leb 2 n && leb n limit) (leb 1 f) three in
    record {
      some = leb-true 2 n (and_l (leb 2 n) (leb n limit) two);
      small = leb-true n limit (and_r (leb 2 n) (leb n limit) two);
      low = leb-true 1 f (and_r (leb 2 n && leb n limit) (leb 1 f) three);
      high = leb-true (suc f) n (and_r (leb 2 n && leb n limit && leb 1 f) (ltb f n) e);
    }

-- "n controllers, numbered 1 to n"
pub record Member (n k : ℕ) : Type 0 where
  pub low : 1 ≤ k
  pub high : k ≤ n

pub member : (n k : ℕ) → is_controller n k ≡ true → Member n k
unfolding is_controller
member n k e = record { low = leb-true 1 k (and_l (leb 1 k) (leb k n) e); high = leb-true k n (and_r (leb 1 k) (leb k n) e) }

pub is_member : (n k : ℕ) → 1 ≤ k → k ≤ n → is_controller n k ≡ true
unfolding is_controller
is_member n k lo hi = and_i (leb 1 k) (leb k n) (le-leb 1 k lo) (le-leb k n hi)
