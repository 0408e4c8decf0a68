-- `survey_output::surveying::survey_in` meets its contract. The invariant: the figures are those of the schedules done, and the buffer is as long as a file.
use Prim.Native.Nat.{◌*◌}
use mathlib.Core.Path.{◌≡◌}
use lib.ListN.{length}
use Rattle.event_record.specs.Events.{event_length}
use Rattle.generator.specs.Claim.{records_in}
use Rattle.survey.specs.Surveys.{survey_of}
use Rattle.survey_output.specs.Schedules.{end_of}
use Rattle.survey_output.proofs.surveying.survey_in.Given as goal

abbrev pub invariant-loop-done : goal.invariant-loop-done
invariant-loop-done l = (l.r ≡ survey_of (end_of l.n l.f l.count) l.s l.done) × (length l.file ≡ event_length * records_in l.n l.count)
