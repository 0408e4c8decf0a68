-- `survey_output::surveying::survey_of` meets its contract: its buffer holds every file.
use Prim.Native.Nat.{ℕ, ◌≤◌}
use mathlib.Core.Path.{sym, ◌∙◌}
use native.Mathlib.Omega.{arith}
use lib.ListN.{length-replicate}
use lib.Seq.{length-take-le}
use Rattle.generator.specs.Output.{longest_output}
use Rattle.survey.proofs.Record.{accepted_record}
use Rattle.survey_output.proofs.Runs.{buffer-holds}
use Rattle.survey_output.proofs.surveying.survey_of.Goals as goal

pub slice_bounds-file-end : goal.slice_bounds-file-end
slice_bounds-file-end c =
    let holds : c.file_length-length.result ≤ longest_output = buffer-holds _ _ _ _ _ _ (accepted_record _ _ _ _ _ c.requires) c.file_length-length.ensures in
    omega (arith, holds, length-replicate {A = ℕ} longest_output 0)

pub slice_bounds-survey_in-end : goal.slice_bounds-survey_in-end
slice_bounds-survey_in-end c =
    let holds : c.file_length-length.result ≤ longest_output = buffer-holds _ _ _ _ _ _ (accepted_record _ _ _ _ _ c.requires) c.file_length-length.ensures in
    sym (length-take-le _ _ (omega (arith, holds, length-replicate {A = ℕ} longest_output 0)))

pub survey_in-requires : goal.survey_in-requires
survey_in-requires c =
    let holds : c.file_length-length.result ≤ longest_output = buffer-holds _ _ _ _ _ _ (accepted_record _ _ _ _ _ c.requires) c.file_length-length.ensures in
    (c.requires, length-take-le _ _ (omega (arith, holds, length-replicate {A = ℕ} longest_output 0)) ∙ c.file_length-length.ensures)

pub returns : goal.returns
returns c = c.survey_in.ensures
