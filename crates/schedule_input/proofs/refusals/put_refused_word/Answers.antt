-- `schedule_input::put_refused_word` meets its contract.
use mathlib.Core.Path.{ap}
use Rattle.text.specs.Text.{decimal}
use Rattle.text.proofs.Wrote.{wrote_then, wrote-text}
use Rattle.schedule_input.proofs.refusals.put_refused_word.Goals as goal

pub returns : goal.returns
returns c =
    let number = wrote-text c.number.ensures (ap decimal c.printed.ensures) in
    wrote_then c.bytes.ensures (wrote_then number (wrote_then c.bytes-2.ensures (wrote_then c.put_shown.ensures c.byte.ensures)))
