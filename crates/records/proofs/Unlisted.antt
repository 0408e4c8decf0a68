-- What an unlisted byte counts as: the last kind, and the last outcome.
use Rattle.std.specs.Prelude.{ℕ, ◌≡◌, Result, Ok, Err}
use Rattle.std.specs.Result.{result_unwrap_or}
use Rattle.std.proofs.Common.{sym, ne_eqb}
use Rattle.model.specs.Numbers.{kind_number, outcome_number, StandsFor}
use Rattle.model.specs.declared.Kind.{Kind}
use Rattle.model.specs.declared.Kind.TheVariants.{Vote, Ack, Help, Helped}
use Rattle.model.specs.declared.Outcome.{Outcome}
use Rattle.model.specs.declared.Outcome.TheVariants.{None, Stay, Move}
use Rattle.model.specs.declared.Refusal.{Refusal}
use Rattle.records.specs.Codes.{kind_of, outcome_of}
use Rattle.records.specs.CodeLaws.{kind-read, outcome-read}

pub kind_or-helped : (x : ℕ) (r : Result Kind Refusal) → StandsFor kind_number x r → result_unwrap_or r Helped ≡ kind_of x
unfolding kind_of
kind_or-helped x (Ok k) e = sym (kind-read x k e).1
kind_or-helped x (Err q) n =
    rw (ne_eqb x 1 (λ z. n.1 Vote (sym z)), ne_eqb x 2 (λ z. n.1 Ack (sym z)), ne_eqb x 3 (λ z. n.1 Help (sym z)))

pub outcome_or-move : (x : ℕ) (r : Result Outcome Refusal) → StandsFor outcome_number x r → result_unwrap_or r Move ≡ outcome_of x
unfolding outcome_of
outcome_or-move x (Ok o) e = sym (outcome-read x o e).1
outcome_or-move x (Err q) n = rw (ne_eqb x 0 (λ z. n.1 None (sym z)), ne_eqb x 1 (λ z. n.1 Stay (sym z)))
