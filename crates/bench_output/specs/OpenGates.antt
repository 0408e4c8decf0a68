-- The count of gates still open, as the exported call gives it to a panel in another language (document 02, U9).
use Rattle.std.specs.Prelude.{ℕ, cond, List, length}
use Rattle.protocol.specs.Counts.{open_gates_of}
use Rattle.bench_output.specs.Output.{bench_after}
use Rattle.bench_report.specs.Limits.{is_too_long}

-- after the events that the bytes of a schedule stand for. One that is too long is not run, and gets 255: no lock has so many controllers
unfoldable pub open_gates_after : List ℕ → ℕ
open_gates_after s = cond (is_too_long (length s)) 255 (open_gates_of (bench_after s).shared)
