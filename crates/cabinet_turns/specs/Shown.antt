-- What a keeper's display shows of a cabinet, a number each.
use Rattle.std.specs.Prelude.{ℕ, List, [], ◌∷◌}
use Rattle.model.specs.Numbers.{outcome_number}
use Rattle.protocol.specs.Controllers.{outcome}
use Rattle.protocol.specs.Display.{stage_shown}
use Rattle.cabinet_state.specs.declared.Cabinet.{Cabinet}
use Rattle.cabinet_turns.specs.Ballots.{settled}

-- the order; stage (8 stopped, 9 standing by), outcome and position as a C line has them; the word put; the word that its own ballot has settled; its highest
-- promise. Outcomes and words: 0 none, 1 Stay, 2 Move.
unfoldable pub shown : Cabinet → List ℕ
shown s =
    s.me.order
    ∷ stage_shown s.controller.condition
    ∷ outcome_number (outcome s.controller)
    ∷ s.controller.gate.position
    ∷ outcome_number s.controller.proposal
    ∷ outcome_number (settled s)
    ∷ s.ballots.acceptor.highest
    ∷ []
