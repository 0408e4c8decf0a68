-- What the ends of two ranges say of every pair of levels within them.
use Rattle.std.proofs.Common.{arith}
use Rattle.std.specs.Prelude.{ℤ, int_le, int_lt}
use Rattle.std.proofs.Math.Logic.{inl, inr}
use Rattle.ground.specs.Tests.{split}
use Rattle.levels.specs.declared.Range.{Range}
use Rattle.levels.specs.Integers.{Below, Strictly, le_of, le-to, le-true, lt-true, not_lt, not_le, minus_is}
use Rattle.levels.specs.Heads.{low, high, Within, head, mm, minus, Slight, EveryPair, NoPair}
use Rattle.levels.specs.Ends.{least, greatest}

slight : (a b : ℤ) → Below (minus 150) (head a b) → Below (head a b) (mm 150) → Slight (head a b)
slight a b p q = (record { le = le-to (minus 150) (head a b) p }, record { le = le-to (head a b) (mm 150) q })

within : (r : Range) (a : ℤ) → Below (low r) a → Below a (high r) → Within r a
within r a p q = (record { le = le-to (low r) a p }, record { le = le-to a (high r) q })

module _ (above below : Range) where
  -- every head lies between the least and the greatest
  from-least : (a b : ℤ) → Within above a → Within below b → Below (least above below) (head a b)
  from-least a b p q =
      omega (arith, minus_is a b, minus_is (low above) (high below), le_of (low above) a p.0.le, le_of b (high below) q.1.le)

  to-greatest : (a b : ℤ) → Within above a → Within below b → Below (head a b) (greatest above below)
  to-greatest a b p q =
      omega (arith, minus_is a b, minus_is (high above) (low below), le_of a (high above) p.1.le, le_of (low below) b q.0.le)

  pub every : Below (minus 150) (least above below) → Below (greatest above below) (mm 150) → EveryPair above below
  unfolding EveryPair
  every l g a b p q = slight a b (omega (arith, from-least a b p q)) (omega (arith, to-greatest a b p q))

  pub none-low : Strictly (greatest above below) (minus 150) → NoPair above below
  unfolding NoPair
  none-low g a b p q s = omega (arith, to-greatest a b p q, le_of (minus 150) (head a b) s.0.le)

  pub none-high : Strictly (mm 150) (least above below) → NoPair above below
  unfolding NoPair
  none-high l a b p q s = omega (arith, from-least a b p q, le_of (head a b) (mm 150) s.1.le)

  -- two ranges that are not empty
  module _ (oa : Below (low above) (high above)) (ob : Below (low below) (high below)) where
    at_low : Within above (low above)
    at_low = within above (low above) (omega arith) oa

    at_high : Within above (high above)
    at_high = within above (high above) oa (omega arith)

    at_low' : Within below (low below)
    at_low' = within below (low below) (omega arith) ob

    at_high' : Within below (high below)
    at_high' = within below (high below) ob (omega arith)

    pub not-every-low : Strictly (least above below) (minus 150) → EveryPair above below → ⊥
    unfolding EveryPair
    not-every-low l e = let s : Slight (least above below) = e (low above) (high below) at_low at_high' in omega (arith, le_of (minus 150) (least above below) s.0.le)

    pub not-every-high : Strictly (mm 150) (greatest above below) → EveryPair above below → ⊥
    unfolding EveryPair
    not-every-high g e = let s : Slight (greatest above below) = e (high above) (low below) at_high at_low' in omega (arith, le_of (greatest above below) (mm 150) s.1.le)

    pub not_both : EveryPair above below → NoPair above below → ⊥
    unfolding EveryPair NoPair
    not_both every none = none (low above) (low below) at_low at_low' (every (low above) (low below) at_low at_low')

    -- where neither end rules it out, some pair has a slight head: the ranges meet, or the pair of ends that face each other
    pub some : Below (minus 150) (greatest above below) → Below (least above below) (mm 150) → NoPair above below → ⊥
    unfolding NoPair
    some g l none = elim (split (int_lt (low above) (high below))) [
      | inl t ↦ elim (split (int_lt (low below) (high above))) [
        | inl u ↦ meet (lt-true (low above) (high below) t) (lt-true (low below) (high above) u)
        | inr u ↦ let k : Below (high above) (low below) = not_lt (low below) (high above) u in
            none (high above) (low below) at_high at_low' (slight (high above) (low below) g (omega (arith, minus_is (high above) (low below))))
      ]
      | inr t ↦ let k : Below (high below) (low above) = not_lt (low above) (high below) t in
          none (low above) (high below) at_low at_high' (slight (low above) (high below) (omega (arith, minus_is (low above) (high below))) l)
    ]
      where
        zero : (a : ℤ) → Slight (head a a)
        zero a = slight a a (omega (arith, minus_is a a)) (omega (arith, minus_is a a))

        meet : Strictly (low above) (high below) → Strictly (low below) (high above) → ⊥
        meet p q = elim (split (int_le (low above) (low below))) [
          | inl t ↦ let h : Below (low above) (low below) = le-true (low above) (low below) t in
              none (low below) (low below) (within above (low below) h (omega arith)) at_low' (zero (low below))
          | inr t ↦ let h : Below (low below) (low above) = not_le (low above) (low below) t in
              none (low above) (low above) at_low (within below (low above) h (omega arith)) (zero (low above))
        ]
