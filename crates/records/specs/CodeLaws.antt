-- Laws of listed values: kinds, outcomes and flags and their numbers, both ways round.
use Rattle.std.specs.Prelude.{ℕ, zero, suc, ◌≤◌, ◌≡◌, refl, Bool, true, false, leb}
use Rattle.std.proofs.Common.{sym, ◌∙◌, ap, arith, leb-true, inl, inr}
use Rattle.ground.specs.Tests.{and_l, and_r, split}
use Rattle.model.specs.Numbers.{kind_number, ballot_kind_number, outcome_number}
use Rattle.model.specs.declared.Kind.{Kind}
use Rattle.model.specs.declared.Kind.TheVariants.{Vote, Ack, Help, Helped}
use Rattle.model.specs.declared.BallotKind.{BallotKind}
use Rattle.model.specs.declared.BallotKind.TheVariants.{Prepare, Promise, Accept, Accepted}
use Rattle.model.specs.declared.Outcome.{Outcome}
use Rattle.model.specs.declared.Outcome.TheVariants.{None, Stay, Move}
use Rattle.records.specs.Codes.{is_kind, kind_of, is_ballot_kind, ballot_kind_of, is_outcome, outcome_of, is_flag, flag_of, flag_number}

pub kind-listed : (k : Kind) → is_kind (kind_number k) ≡ true
unfolding is_kind
kind-listed Vote = refl
kind-listed Ack = refl
kind-listed Help = refl
kind-listed Helped = refl

pub kind-of-number : (k : Kind) → kind_of (kind_number k) ≡ k
unfolding kind_of
kind-of-number Vote = refl
kind-of-number Ack = refl
kind-of-number Help = refl
kind-of-number Helped = refl

kind_in_range : (x : ℕ) → 1 ≤ x → x ≤ 4 → kind_number (kind_of x) ≡ x
unfolding kind_of
kind_in_range zero l h = absurd (omega arith)
kind_in_range (suc zero) l h = refl
kind_in_range (suc (suc zero)) l h = refl
kind_in_range (suc (suc (suc zero))) l h = refl
kind_in_range (suc (suc (suc (suc zero)))) l h = refl
kind_in_range (suc (suc (suc (suc (suc x))))) l h = absurd (omega arith)

pub number-of-kind : (x : ℕ) → is_kind x ≡ true → kind_number (kind_of x) ≡ x
unfolding is_kind
number-of-kind x t = kind_in_range x (leb-true 1 x (and_l (leb 1 x) (leb x 4) t)) (leb-true x 4 (and_r (leb 1 x) (leb x 4) t))

pub ballot-kind-listed : (k : BallotKind) → is_ballot_kind (ballot_kind_number k) ≡ true
unfolding is_ballot_kind
ballot-kind-listed Prepare = refl
ballot-kind-listed Promise = refl
ballot-kind-listed Accept = refl
ballot-kind-listed Accepted = refl

pub ballot-kind-of-number : (k : BallotKind) → ballot_kind_of (ballot_kind_number k) ≡ k
unfolding ballot_kind_of
ballot-kind-of-number Prepare = refl
ballot-kind-of-number Promise = refl
ballot-kind-of-number Accept = refl
ballot-kind-of-number Accepted = refl

ballot-kind_in_range : (x : ℕ) → 5 ≤ x → x ≤ 8 → ballot_kind_number (ballot_kind_of x) ≡ x
unfolding ballot_kind_of
ballot-kind_in_range zero l h = absurd (omega arith)
ballot-kind_in_range (suc zero) l h = absurd (omega arith)
ballot-kind_in_range (suc (suc zero)) l h = absurd (omega arith)
ballot-kind_in_range (suc (suc (suc zero))) l h = absurd (omega arith)
ballot-kind_in_range (suc (suc (suc (suc zero)))) l h = absurd (omega arith)
ballot-kind_in_range (suc (suc (suc (suc (suc zero))))) l h = refl
ballot-kind_in_range (suc (suc (suc (suc (suc (suc zero)))))) l h = refl
ballot-kind_in_range (suc (suc (suc (suc (suc (suc (suc zero))))))) l h = refl
ballot-kind_in_range (suc (suc (suc (suc (suc (suc (suc (suc zero)))))))) l h = refl
ballot-kind_in_range (suc (suc (suc (suc (suc (suc (suc (suc (suc x))))))))) l h = absurd (omega arith)

pub number-of-ballot-kind : (x : ℕ) → is_ballot_kind x ≡ true → ballot_kind_number (ballot_kind_of x) ≡ x
unfolding is_ballot_kind
number-of-ballot-kind x t = ballot-kind_in_range x (leb-true 5 x (and_l (leb 5 x) (leb x 8) t)) (leb-true x 8 (and_r (leb 5 x) (leb x 8) t))

-- no number is of both: kinds 5 to 8 are not among 1 to 4
pub kinds-apart : (k : BallotKind) → is_kind (ballot_kind_number k) ≡ false
unfolding is_kind
kinds-apart Prepare = refl
kinds-apart Promise = refl
kinds-apart Accept = refl
kinds-apart Accepted = refl

pub outcome-listed : (o : Outcome) → is_outcome (outcome_number o) ≡ true
outcome-listed None = refl
outcome-listed Stay = refl
outcome-listed Move = refl

pub outcome-of-number : (o : Outcome) → outcome_of (outcome_number o) ≡ o
unfolding outcome_of
outcome-of-number None = refl
outcome-of-number Stay = refl
outcome-of-number Move = refl

outcome_in_range : (x : ℕ) → x ≤ 2 → outcome_number (outcome_of x) ≡ x
unfolding outcome_of
outcome_in_range zero h = refl
outcome_in_range (suc zero) h = refl
outcome_in_range (suc (suc zero)) h = refl
outcome_in_range (suc (suc (suc x))) h = absurd (omega arith)

pub number-of-outcome : (x : ℕ) → is_outcome x ≡ true → outcome_number (outcome_of x) ≡ x
number-of-outcome x t = outcome_in_range x (leb-true x 2 t)

pub flag-listed : (b : Bool) → is_flag (flag_number b) ≡ true
flag-listed true = refl
flag-listed false = refl

pub flag-of-number : (b : Bool) → flag_of (flag_number b) ≡ b
flag-of-number true = refl
flag-of-number false = refl

flag_in_range : (x : ℕ) → x ≤ 1 → flag_number (flag_of x) ≡ x
flag_in_range zero h = refl
flag_in_range (suc zero) h = refl
flag_in_range (suc (suc x)) h = absurd (omega arith)

pub number-of_flag : (x : ℕ) → is_flag x ≡ true → flag_number (flag_of x) ≡ x
number-of_flag x t = flag_in_range x (leb-true x 1 t)

-- what a byte is read as, by the number of what is read
pub kind-read : (x : ℕ) (k : Kind) → kind_number k ≡ x → (is_kind x ≡ true) × (kind_of x ≡ k)
kind-read x k e = (ap is_kind (sym e) ∙ kind-listed k, ap kind_of (sym e) ∙ kind-of-number k)

pub no_kind : (x : ℕ) → ((k : Kind) → kind_number k ≡ x → ⊥) → is_kind x ≡ false
no_kind x n = elim (split (is_kind x)) [ inl t ↦ absurd (n (kind_of x) (number-of-kind x t)) | inr f ↦ f ]

pub ballot-kind-read : (x : ℕ) (k : BallotKind) → ballot_kind_number k ≡ x → (is_ballot_kind x ≡ true) × (ballot_kind_of x ≡ k)
ballot-kind-read x k e = (ap is_ballot_kind (sym e) ∙ ballot-kind-listed k, ap ballot_kind_of (sym e) ∙ ballot-kind-of-number k)

pub no_ballot-kind : (x : ℕ) → ((k : BallotKind) → ballot_kind_number k ≡ x → ⊥) → is_ballot_kind x ≡ false
no_ballot-kind x n = elim (split (is_ballot_kind x)) [ inl t ↦ absurd (n (ballot_kind_of x) (number-of-ballot-kind x t)) | inr f ↦ f ]

pub outcome-read : (x : ℕ) (o : Outcome) → outcome_number o ≡ x → (is_outcome x ≡ true) × (outcome_of x ≡ o)
outcome-read x o e = (ap is_outcome (sym e) ∙ outcome-listed o, ap outcome_of (sym e) ∙ outcome-of-number o)

pub no_outcome : (x : ℕ) → ((o : Outcome) → outcome_number o ≡ x → ⊥) → is_outcome x ≡ false
no_outcome x n = elim (split (is_outcome x)) [ inl t ↦ absurd (n (outcome_of x) (number-of-outcome x t)) | inr f ↦ f ]
