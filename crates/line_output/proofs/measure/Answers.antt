-- `line_output::measure` meets its contract: no text is so long that its end has no index.
use native.Mathlib.Omega.{arith}
use Rattle.text.specs.WritingLaws.{measured}
use Rattle.line_output.specs.Room.{acts-length}
use Rattle.line_output.proofs.measure.Goals as goal

pub returns : goal.returns
returns c =
    measured (omega (arith, acts-length c.args.s.now, c.requires)) c.put_acts.ensures
