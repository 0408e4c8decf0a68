-- `bench_report::lines::put_controllers` meets its contract. The invariant: the lines of the first i controllers are written.
use Prim.Native.Nat.{suc}
use native.Mathlib.Numerals.{add-one}
use native.Mathlib.Omega.{arith}
use Rattle.std.proofs.Common.{rules}
use lib.ListN.{get_or}
use Rattle.bench_report.specs.Lines.{blank_row, controller_line}
use Rattle.text.proofs.Wrote.{wrote-none, wrote-line, wrote-lines, wrote-text}
use Rattle.bench_report.proofs.lines.put_controllers.Goals as goal

pub loop-i-init : goal.loop-i-init
loop-i-init c = wrote-none _ _ (search rules) (search rules)

pub loop-i-preserved : goal.loop-i-preserved
loop-i-preserved c =
    let l = c.loop-i in
    let rows = c.args.rows in
    let row = c.row_at-row.ensures in
    wrote-line l.i (λ k. controller_line (suc k) (get_or rows k blank_row)) l.invariant (wrote-text c.put_controller.ensures (rw (add-one, row)))

pub returns : goal.returns
returns c =
    let l = c.loop-i in
    wrote-lines _ (omega arith) l.invariant
