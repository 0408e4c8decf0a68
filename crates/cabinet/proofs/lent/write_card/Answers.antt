use Rattle.cabinet.proofs.LentLaws.{card-none, card-some}
use Rattle.cabinet.proofs.lent.write_card.Goals as goal

pub returns-then-s-lt1 : goal.returns-then-s-lt1
returns-then-s-lt1 c = card-none _ _ c.if-s-lt1.true

pub returns : goal.returns
returns c = card-some _ _ _ _ _ c.if-s-lt1.false c.save.ensures.answer c.write_saved.ensures
