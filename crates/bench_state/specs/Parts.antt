-- The facts that one kind of event looks at, from the few of them that its questions ask: the others do not matter to it.
use Rattle.std.specs.Prelude.{ℕ, Bool, true, false}
use Rattle.model.specs.declared.Outcome.TheVariants.{None}
use Rattle.protocol.specs.declared.Condition.{Condition}
use Rattle.protocol.specs.Questions.{Facts}
use Rattle.protocol.specs.declared.Shared.{Shared}
use Rattle.protocol.specs.Controllers.{in_phase}
use Rattle.protocol.specs.Ballots.{new_ballots}

-- of an event of one controller in this condition: a checkpoint it has or not, a message sent to these, its vote set agreeing or not
abbrev pub facts_at : Shared → Condition → Bool → ℕ → Bool → Facts
facts_at m k saved receivers agrees = record { shared = m; condition = k; has-checkpoint = saved; receivers = receivers; may_open = false; agrees = agrees; may_give = λ w. false; ballots = new_ballots; proposal = None }

abbrev pub own_facts : Shared → Condition → Facts
own_facts m k = facts_at m k false 0 true

-- of the arbiter's word, which may be given or not
abbrev pub decide_facts : Shared → Condition → Bool → Facts
decide_facts m k may = record { shared = m; condition = k; has-checkpoint = false; receivers = 0; may_open = false; agrees = true; may_give = λ w. may; ballots = new_ballots; proposal = None }

-- of a lock, and of an order that may be opened or not
abbrev pub open_facts : Shared → Bool → Facts
open_facts m may = record { shared = m; condition = in_phase 0 None; has-checkpoint = false; receivers = 0; may_open = may; agrees = true; may_give = λ w. false; ballots = new_ballots; proposal = None }
