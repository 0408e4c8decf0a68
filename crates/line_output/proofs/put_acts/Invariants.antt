-- `line_output::put_acts` meets its contract. The invariant: the first i acts led to this line, and their lines are written.
use mathlib.Core.Path.{◌≡◌}
use lib.ListN.{take}
use Rattle.text.specs.Text.{lines}
use Rattle.text.specs.Writers.{Wrote}
use Rattle.line.specs.Claim.{after}
use Rattle.line_output.specs.Output.{acts, act_line}
use Rattle.line_output.proofs.put_acts.Given as goal

abbrev pub invariant-loop-i : goal.invariant-loop-i
invariant-loop-i l = (l.line ≡ after (acts (take l.i l.s))) × Wrote l.initial.w l.w (lines l.i (act_line l.s))
