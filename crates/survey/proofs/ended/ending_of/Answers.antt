-- `survey::ended::ending_of` meets its contract.
use Rattle.survey.specs.Ended.{ending_of}
use Rattle.survey.proofs.ended.ending_of.Goals as goal

pub returns-then-not-any_present : goal.returns-then-not-any_present
unfolding ending_of
returns-then-not-any_present c = simp (← c.any_present.ensures, c.if-not-any_present.true)

pub returns-then-all_ended : goal.returns-then-all_ended
unfolding ending_of
returns-then-all_ended c =
    simp (← c.any_present.ensures, c.if-not-any_present.false, ← c.all_ended.ensures, c.if-all_ended.true)

pub returns-then-all_ended-2 : goal.returns-then-all_ended-2
unfolding ending_of
returns-then-all_ended-2 c =
    simp (← c.any_present.ensures, c.if-not-any_present.false, ← c.all_ended.ensures, c.if-all_ended.false, ← c.all_ended-2.ensures, c.if-all_ended-2.true)

pub returns : goal.returns
unfolding ending_of
returns c =
    simp (← c.any_present.ensures, c.if-not-any_present.false, ← c.all_ended.ensures, c.if-all_ended.false, ← c.all_ended-2.ensures, c.if-all_ended-2.false)
