-- Document 01, "Words with values": which numbers there are.
use Rattle.std.specs.Prelude.{ℕ, suc, Bool, not, ◌&&◌, ◌||◌, eqb, leb, ltb}
use Rattle.ground.specs.Limit.{limit}

-- "n from 2 to 16; f from 1 to n − 1" (question 4). Document 02, U12: "n goes up to 32, in demand 2 too, and question 4 with its trials follows."
unfoldable pub sizes_in_range : ℕ → ℕ → Bool
sizes_in_range n f = leb 2 n && leb n limit && leb 1 f && ltb f n

-- "n controllers, numbered 1 to n" (question 7)
unfoldable pub is_controller : ℕ → ℕ → Bool
is_controller n k = leb 1 k && leb k n

-- "Are controller numbers in 1 to n, sender and receiver different?" (question 7)
abbrev pub different_controllers : ℕ → ℕ → ℕ → Bool
different_controllers n from to = is_controller n from && is_controller n to && not (eqb from to)

-- "Positions are −20,000 to 20,000 mm" (question 11), here as 32-bit two's complement: 0 to 20,000, or 2³² − 20,000 and above.
-- `position_in_range-is` of PositionLaws says that this is the range of the millimetres.
unfoldable pub position_in_range : ℕ → Bool
position_in_range p = leb p 20000 || leb 4294947296 p

-- Document 02, U14: "Ballots go from 1 to 255" (question 28)
unfoldable pub is_ballot : ℕ → Bool
is_ballot b = leb 1 b && leb b 255

-- "Controllers 1 to f are holders; f + 1 is the second holder." The paper's backup processes.
abbrev pub is_backup : ℕ → ℕ → Bool
is_backup f k = leb k f

abbrev pub is_second_backup : ℕ → ℕ → Bool
is_second_backup f k = eqb k (suc f)
