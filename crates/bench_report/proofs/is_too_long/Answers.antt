-- `bench_report::is_too_long` meets its contract.
use Rattle.bench_report.specs.Limits.{is_too_long}
use Rattle.std.proofs.Common.{rules}
use Rattle.bench_report.proofs.is_too_long.Goals as goal

pub returns : goal.returns
unfolding is_too_long
returns c = search rules
