-- `survey::ended::ended_if` meets its contract.
use Rattle.survey.proofs.ended.ended_if.Goals as goal

pub returns-then-not-is_present : goal.returns-then-not-is_present
returns-then-not-is_present c = simp (← c.is_present.ensures, c.if-not-is_present.true)

pub returns-then-moving : goal.returns-then-moving
returns-then-moving c =
    simp (← c.is_present.ensures, c.if-not-is_present.false, c.if-moving.true, c.is_move.ensures)

pub returns : goal.returns
returns c =
    simp (← c.is_present.ensures, c.if-not-is_present.false, c.if-moving.false, c.is_stay.ensures)
