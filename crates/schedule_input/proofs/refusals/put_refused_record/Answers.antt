-- `schedule_input::put_refused_record` meets its contract.
use mathlib.Core.Path.{ap}
use Rattle.text.specs.Text.{decimal}
use Rattle.text.proofs.Wrote.{wrote_then, wrote-text}
use Rattle.schedule_input.specs.Input.{refused_record}
use Rattle.schedule_input.proofs.refusals.put_refused_record.Goals as goal

pub returns : goal.returns
unfolding refused_record
returns c =
    let number = wrote-text c.number.ensures (ap decimal c.printed.ensures) in
    let question = wrote-text c.number-2.ensures (ap decimal c.printed-2.ensures) in
    wrote_then c.bytes.ensures (wrote_then number (wrote_then c.bytes-2.ensures (wrote_then question c.byte.ensures)))
