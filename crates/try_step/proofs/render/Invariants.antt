-- `render` is safe and ends, and what it answers lies within the buffer: there are at most as many records as answers, and each bench is laid at one of the ring's places.
use Rattle.std.proofs.Common.{◌≡◌, ◌≤◌, ◌<◌, ◌-◌, length}
use Rattle.bench_report.specs.Limits.{longest_schedule, most_answers}
use Rattle.try_step.proofs.render.Given as goal

abbrev pub invariant-loop-k : goal.invariant-loop-k
invariant-loop-k l = (l.k ≤ most_answers) × (length l.s ≤ longest_schedule) × (length l.answers ≡ most_answers) × (length l.past ≡ 65) × (l.ring.at < 65)

abbrev pub decreases-loop-k : goal.decreases-loop-k
decreases-loop-k l = most_answers - l.k
