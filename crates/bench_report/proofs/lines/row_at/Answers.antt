-- `bench_report::lines::row_at` meets its contract.
use mathlib.Core.Path.{sym}
use lib.ListN.{get_or-eq_default}
use Rattle.bench_report.specs.Lines.{blank_row}
use Rattle.std.proofs.Common.{rules}
use Rattle.bench_report.proofs.lines.row_at.Goals as goal

pub returns-then-i-ge-LIMIT : goal.returns-then-i-ge-LIMIT
returns-then-i-ge-LIMIT c = sym (get_or-eq_default c.args.rows blank_row (search rules))
