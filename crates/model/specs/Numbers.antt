-- The numbers that document 01 gives to kinds and outcomes ("Records"), and document 02, U14, to kinds of ballots.
use Rattle.std.specs.Prelude.{ℕ, ◌≡◌, Bool, true, false, Result, MatchResult}
use Rattle.model.specs.declared.Kind.{Kind}
use Rattle.model.specs.declared.Kind.TheVariants.{Vote, Ack, Help, Helped}
use Rattle.model.specs.declared.BallotKind.{BallotKind}
use Rattle.model.specs.declared.BallotKind.TheVariants.{Prepare, Promise, Accept, Accepted}
use Rattle.model.specs.declared.Outcome.{Outcome}
use Rattle.model.specs.declared.Outcome.TheVariants.{None, Stay, Move}
use Rattle.model.specs.declared.Refusal.{Refusal}
use Rattle.model.specs.declared.Refusal.TheVariants.{Listed}

-- "kind (1 vote, 2 acknowledgement, 3 help call, 4 help answer)"
abbrev pub kind_number : Kind → ℕ
kind_number Vote = 1
kind_number Ack = 2
kind_number Help = 3
kind_number Helped = 4

-- Document 02, U14: "Telegram kinds 5 ask, 6 promise, 7 put and 8 taken"; Lamport's prepare, promise, accept and accepted
abbrev pub ballot_kind_number : BallotKind → ℕ
ballot_kind_number Prepare = 5
ballot_kind_number Promise = 6
ballot_kind_number Accept = 7
ballot_kind_number Accepted = 8

-- "outcome (0 none, 1 Stay, 2 Move)"
abbrev pub outcome_number : Outcome → ℕ
outcome_number None = 0
outcome_number Stay = 1
outcome_number Move = 2

-- a byte stands for the value that has its number; one that no value has is not listed (question 3)
abbrev pub StandsFor : {A : Type 0} → (A → ℕ) → ℕ → Result A Refusal → Type 0
StandsFor {A = A} number x r = MatchResult r (λ a. number a ≡ x) (λ q. (q ≡ Listed) × ((a : A) → number a ≡ x → ⊥))

-- a word: true is Move
abbrev pub word_of : Bool → Outcome
word_of true = Move
word_of false = Stay

abbrev pub is_none : Outcome → Bool
is_none None = true
is_none Stay = false
is_none Move = false

abbrev pub says_move : Outcome → Bool
says_move None = false
says_move Stay = false
says_move Move = true

abbrev pub is_stay : Outcome → Bool
is_stay None = false
is_stay Stay = true
is_stay Move = false
