-- The ballots of one order (document 02, U14): their numbers and owners, how they begin, and when a word is chosen.
use Rattle.std.specs.Prelude.{ℕ, suc, ◌*◌, ◌-◌, ◌%◌, Bool, true, false, ◌&&◌, List, [], replicate, ltb}
use Rattle.ground.specs.Limit.{limit}
use Rattle.ground.specs.Lists.{nth}
use Rattle.ground.specs.Mask.{has}
use Rattle.ground.specs.Quantify.{count_to, any_to}
use Rattle.model.specs.Numbers.{says_move, is_stay}
use Rattle.model.specs.declared.Outcome.{Outcome}
use Rattle.model.specs.declared.Outcome.TheVariants.{None}
use Rattle.protocol.specs.declared.Acceptor.{Acceptor}
use Rattle.protocol.specs.declared.Tally.{Tally}
use Rattle.protocol.specs.declared.BallotRow.{BallotRow}
use Rattle.protocol.specs.declared.Ballots.{Ballots}
-- "Ballots go from 1 to 255": `is_ballot` of `model` says it of a number
unfoldable pub use Rattle.model.specs.Ranges.{is_ballot}

abbrev pub ballot_limit : ℕ
ballot_limit = 255

-- "ballot b belongs to controller 1 + (b − 1) mod n"
unfoldable pub owner : ℕ → ℕ → ℕ
owner n b = suc ((b - 1) % n)

-- "more than n/2 controllers": is the set a majority of 1 to n
unfoldable pub majority : ℕ → ℕ → Bool
majority n m = ltb n (2 * count_to n (has m))

-- "A new order forgets ballots, promises and takings": one that has promised and accepted nothing, a ballot not opened, all of them
abbrev pub new_acceptor : Acceptor
new_acceptor = record { highest = 0; promised = 0; last = 0; word = None }

abbrev pub new_tally : Tally
new_tally = record { from = 0; top = 0; top_word = None; word = None }

unfoldable pub new_row : List ℕ → BallotRow
new_row lasts = record { tally = new_tally; promised_by = 0; lasts = lasts; accepted_by = 0 }

unfoldable pub new_ballots : Ballots
new_ballots = record { acceptors = replicate limit new_acceptor; rows = replicate ballot_limit (new_row (replicate limit 0)) }

-- controller i, and ballot b
unfoldable pub acceptor : Ballots → ℕ → Acceptor
acceptor s i = nth new_acceptor s.acceptors i

unfoldable pub row : Ballots → ℕ → BallotRow
row s b = nth (new_row []) s.rows b

-- which ballot controller j's promise reports: the one that it had last accepted when it promised, 0 for none
abbrev pub report : BallotRow → ℕ → ℕ
report r j = nth 0 r.lasts j

-- question 18 at such a lock: "whether more than n/2 have taken the word in one ballot"
abbrev pub is_word_of : Outcome → Bool → Bool
is_word_of o true = says_move o
is_word_of o false = is_stay o

unfoldable pub chosen_in : ℕ → Ballots → Bool → ℕ → Bool
chosen_in n s move b = is_word_of (row s b).tally.word move && majority n (row s b).accepted_by

unfoldable pub is_chosen : ℕ → Ballots → Bool → Bool
is_chosen n s move = any_to ballot_limit (chosen_in n s move)
