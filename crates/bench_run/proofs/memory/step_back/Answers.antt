-- One way for each case of `BackTaken`: the first step back of a run, a refused one, an accepted one. What is subtracted is there, since something can be undone.
use mathlib.Core.Path.{refl, sym, ap, ◌∙◌}
use mathlib.Core.Bool.{false≢true}
use native.Mathlib.Omega.{arith}
use Rattle.model.specs.Questions.{number}
use Rattle.bench_run.proofs.Records.{some}
use Rattle.bench_run.proofs.memory.step_back.Goals as goal

pub returns-then-not-remembers : goal.returns-then-not-remembers
returns-then-not-remembers c = record { first = λ f. (refl, refl, refl, refl, refl); asked = λ o. absurd (false≢true (sym (c.if-not-remembers.true) ∙ o)); refused = λ o. absurd (false≢true (sym (c.if-not-remembers.true) ∙ o)); taken = λ o. absurd (false≢true (sym (c.if-not-remembers.true) ∙ o)) }

pub overflow_sub-result : goal.overflow_sub-result
overflow_sub-result c = omega (arith, c.requires.0)

pub returns-then-answer-ne0 : goal.returns-then-answer-ne0
returns-then-answer-ne0 c = record { first = λ f. absurd (false≢true (sym f ∙ c.if-not-remembers.false)); asked = λ o. (c.answer_number-answer.ensures ∙ ap number c.back_question.ensures); refused = λ o n. (refl, refl, refl, refl); taken = λ o z. absurd (c.if-answer-ne0.true z) }

pub overflow_sub-result-2 : goal.overflow_sub-result-2
overflow_sub-result-2 c = omega (arith, some c.args.locked c.args.undoable (sym (c.answer_number-answer.ensures ∙ ap number c.back_question.ensures) ∙ c.if-answer-ne0.false), c.requires.1)

pub overflow_sub-result-3 : goal.overflow_sub-result-3
overflow_sub-result-3 c = omega (arith, c.requires.2)

pub overflow_sub-result-4 : goal.overflow_sub-result-4
overflow_sub-result-4 c = omega (arith, some c.args.locked c.args.undoable (sym (c.answer_number-answer.ensures ∙ ap number c.back_question.ensures) ∙ c.if-answer-ne0.false), c.requires.1)

pub overflow_sub-result-5 : goal.overflow_sub-result-5
overflow_sub-result-5 c = omega (arith, some c.args.locked c.args.undoable (sym (c.answer_number-answer.ensures ∙ ap number c.back_question.ensures) ∙ c.if-answer-ne0.false))

pub returns : goal.returns
returns c = record { first = λ f. absurd (false≢true (sym f ∙ c.if-not-remembers.false)); asked = λ o. (c.answer_number-answer.ensures ∙ ap number c.back_question.ensures); refused = λ o n. absurd (n c.if-answer-ne0.false); taken = λ o z. (refl, refl, refl, refl) }
