-- `survey::page::put_endings` meets its contract.
use Rattle.text.proofs.Wrote.{wrote_then}
use Rattle.survey.proofs.page.put_endings.Goals as goal

pub returns : goal.returns
returns c = wrote_then c.number.ensures (wrote_then c.field.ensures (wrote_then c.field-2.ensures c.byte.ensures))
