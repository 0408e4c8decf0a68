-- Document 01, "Records": the listed values of kinds, outcomes and flags, and what they stand for. Their numbers are in model, Numbers.
use Rattle.std.specs.Prelude.{ℕ, Bool, true, false, cond, ◌&&◌, eqb, leb}
use Rattle.model.specs.declared.Kind.{Kind}
use Rattle.model.specs.declared.Kind.TheVariants.{Vote, Ack, Help, Helped}
use Rattle.model.specs.declared.BallotKind.{BallotKind}
use Rattle.model.specs.declared.BallotKind.TheVariants.{Prepare, Promise, Accept, Accepted}
use Rattle.model.specs.declared.Outcome.{Outcome}
use Rattle.model.specs.declared.Outcome.TheVariants.{None, Stay, Move}

-- "kind (1 vote, 2 acknowledgement, 3 help call, 4 help answer)"
unfoldable pub is_kind : ℕ → Bool
is_kind x = leb 1 x && leb x 4

unfoldable pub kind_of : ℕ → Kind
kind_of x = cond (eqb x 1) Vote (cond (eqb x 2) Ack (cond (eqb x 3) Help Helped))

-- Document 02, U14: "Telegram kinds 5 ask, 6 promise, 7 put and 8 taken"
unfoldable pub is_ballot_kind : ℕ → Bool
is_ballot_kind x = leb 5 x && leb x 8

unfoldable pub ballot_kind_of : ℕ → BallotKind
ballot_kind_of x = cond (eqb x 5) Prepare (cond (eqb x 6) Promise (cond (eqb x 7) Accept Accepted))

-- "outcome (0 none, 1 Stay, 2 Move)"
abbrev pub is_outcome : ℕ → Bool
is_outcome x = leb x 2

unfoldable pub outcome_of : ℕ → Outcome
outcome_of x = cond (eqb x 0) None (cond (eqb x 1) Stay Move)

-- "1 willing or 0", "0 Stay or 1 Move"
abbrev pub is_flag : ℕ → Bool
is_flag x = leb x 1

abbrev pub flag_of : ℕ → Bool
flag_of x = eqb x 1

abbrev pub flag_number : Bool → ℕ
flag_number true = 1
flag_number false = 0

-- "Unused fields are 0."
abbrev pub unused : ℕ → Bool
unused x = eqb x 0
