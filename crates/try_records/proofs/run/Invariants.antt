-- `run` ends: each frame makes what is left shorter.
use Rattle.std.proofs.Common.{length}
use Rattle.try_records.proofs.run.Given as goal

abbrev pub invariant-loop-frame : goal.invariant-loop-frame
invariant-loop-frame l = Unit

abbrev pub decreases-loop-frame : goal.decreases-loop-frame
decreases-loop-frame l = length l.rest
