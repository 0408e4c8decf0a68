-- `bench_summary::rows::row_in` meets its contract.
use Rattle.bench_summary.proofs.rows.row_in.Goals as goal

pub returns-in-Running : goal.returns-in-Running
returns-in-Running c = simp c.in-Running.is

pub returns-in-Stopped : goal.returns-in-Stopped
returns-in-Stopped c = simp c.in-Stopped.is

pub returns-in-Standby : goal.returns-in-Standby
returns-in-Standby c = simp c.in-Standby.is
