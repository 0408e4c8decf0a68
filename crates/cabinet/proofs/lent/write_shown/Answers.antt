use Rattle.cabinet.proofs.LentLaws.{not-seven, shown-seven}
use Rattle.cabinet.proofs.lent.write_shown.Goals as goal

pub returns-then-out-ne7 : goal.returns-then-out-ne7
returns-then-out-ne7 c = not-seven _ _ c.if-out-ne7.true

pub returns : goal.returns
returns c = shown-seven _ _ _ _ c.if-out-ne7.false c.shown.ensures c.copy_from_slice.ensures.after
