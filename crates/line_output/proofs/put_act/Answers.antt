-- `line_output::put_act` meets its contract.
use Rattle.text.proofs.Wrote.{wrote_then}
use Rattle.line_output.proofs.put_act.Goals as goal

pub returns : goal.returns
returns c = wrote_then c.number.ensures (wrote_then c.put_answer.ensures c.byte.ensures)
