-- `survey::page::put_two` meets its contract.
use Rattle.text.proofs.Wrote.{wrote_then}
use Rattle.survey.proofs.page.put_two.Goals as goal

pub returns : goal.returns
returns c = wrote_then c.number.ensures (wrote_then c.field.ensures c.byte.ensures)
