-- How large the figures of a report can be, so that 32 bits hold each sum.
use Rattle.std.specs.Prelude.{ℕ, ◌+◌, ◌*◌, ◌≤◌}
use Rattle.ground.specs.Limit.{limit}
use Rattle.bench_report.specs.declared.Summary.{Summary}
use Rattle.survey.specs.declared.Survey.{Survey}
use Rattle.survey.specs.Surveys.{all_kinds}

-- in one schedule: four kinds, and of each at most one message from a controller to a controller
abbrev pub most_of_one : ℕ
most_of_one = 4 * limit * limit

-- in a thousand
abbrev pub most_endings : ℕ
most_endings = 1000

abbrev pub most_sent : ℕ
most_sent = most_endings * most_of_one

-- there is room for one schedule more
pub record HasRoom (r : Survey) (end : Summary) : Type 0 where
  pub endings : r.endings.moved + r.endings.stayed + r.endings.rest ≤ most_endings
  pub messages : all_kinds r.messages ≤ most_sent
  pub sum : r.sum ≤ most_sent
  pub one : all_kinds end.messages ≤ most_of_one
