-- What one call gives: the bench's answer to an event, and the bench after it.
use Rattle.std.specs.Prelude.{ℕ, Result, Ok, Err}
use Rattle.model.specs.Refusals.{refusal_number}
use Rattle.model.specs.declared.Event.{Event}
use Rattle.model.specs.declared.Refusal.{Refusal}
use Rattle.protocol.specs.declared.Bench.{Bench}
use Rattle.protocol.specs.Questions.{number, reply}
use Rattle.protocol.specs.Steps.{step}

pub record Stepped : Type 0 where
  pub answer : ℕ
  pub bench : Bench

abbrev pub stepped : Bench → Event → Stepped
stepped b e = record { answer = number (reply b e); bench = step b e }

-- what the code returns of it: the bench after an accepted event; after a refused one the caller's bench is as it was
abbrev pub stepped_of : Bench → Result Bench Refusal → Stepped
stepped_of b (Ok next) = record { answer = 0; bench = next }
stepped_of b (Err q) = record { answer = refusal_number q; bench = b }
