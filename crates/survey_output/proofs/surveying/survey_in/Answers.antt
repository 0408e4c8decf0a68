-- `survey_output::surveying::survey_in` meets its contract. The invariant: the figures are those of the schedules done, and the buffer is as long as a file.
use mathlib.Core.Path.{◌≡◌, sym, ◌∙◌, ap}
use native.Mathlib.Omega.{arith}
use Rattle.survey.specs.Surveys.{survey_of}
use Rattle.survey.proofs.Record.{accepted_record}
use Rattle.survey_output.specs.Schedules.{end_of}
use Rattle.survey_output.proofs.Runs.{generates}
use Rattle.survey_output.proofs.Rooms.{has_room, one_more}
use Rattle.survey_output.proofs.surveying.survey_in.Goals as goal

pub loop-done-init : goal.loop-done-init
unfolding survey_of
loop-done-init c = (c.nothing-r.ensures, c.requires.1)

pub overflow_add-number : goal.overflow_add-number
overflow_add-number c =
    let a = accepted_record _ _ _ _ _ c.requires.0 in
    omega (arith, a.numbers.last)

pub end_in-end-requires : goal.end_in-end-requires
end_in-end-requires c =
    let a = accepted_record _ _ _ _ _ c.requires.0 in
    (generates _ _ _ _ _ _ a (omega arith), c.loop-done.invariant.1)

pub with_one-r-requires : goal.with_one-r-requires
with_one-r-requires c =
    let l = c.loop-done in
    let a = accepted_record _ _ _ _ _ c.requires.0 in
    has_room _ _ _ _ _ _ _ l.invariant.0 c.end_in-end.ensures (omega (arith, a.numbers.few))

pub loop-done-preserved : goal.loop-done-preserved
loop-done-preserved c =
    let l = c.loop-done in
    (one_more _ _ _ _ _ _ _ l.invariant.0 c.end_in-end.ensures _ c.with_one-r.ensures, c.end_in-end.auto.file ∙ l.invariant.1)

pub shape_of-file : goal.shape_of-file
shape_of-file c = c.loop-done.invariant.1 ∙ sym c.requires.1

pub returns : goal.returns
returns c =
    let l = c.loop-done in
    let a = c.args in
    let e : l.done ≡ a.k = omega arith in
    l.invariant.0 ∙ ap (survey_of (end_of a.n a.f a.count) a.s) e
