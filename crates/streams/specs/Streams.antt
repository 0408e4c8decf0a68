-- What comes of reading and writing is the system's to say. What holds of every choice that it has.
use Rattle.std.specs.Prelude.{◌≡◌, refl, Bool, true, false, ◌⊎◌, ℕ, ◌≤◌, List, length, take}
use Rattle.std.proofs.Common.{inl, inr}

-- it succeeded or it failed: either may be
abbrev pub EitherWay : Bool → Type 0
EitherWay b = (b ≡ true) ⊎ (b ≡ false)

pub either_way : (b : Bool) → EitherWay b
either_way true = inl refl
either_way false = inr refl

-- a count of bytes that stand at a buffer's front: as many as the buffer has, or fewer. The second part follows from the first, and spares a caller's `&buf[..n]` a proof
abbrev pub IsPrefixLen : ℕ → List ℕ → Type 0
IsPrefixLen n xs = (n ≤ length xs) × (n ≡ length (take n xs))
