-- `survey_output::render` meets its contract.
use Rattle.text.specs.WritingLaws.{rendered}
use borrow.Author.Tests.{eq-eqb, ne_eqb}
use Rattle.survey_output.specs.Output.{output_of}
use Rattle.survey_output.proofs.render.Goals as goal

pub returns-then-input-ne-RECORD : goal.returns-then-input-ne-RECORD
unfolding output_of
returns-then-input-ne-RECORD c = rendered _ _ (simp (ne_eqb _ _ c.if-input-ne-RECORD.true) (c.write_refusal.ensures.value, c.write_refusal.ensures.out_after))

pub returns : goal.returns
unfolding output_of
returns c =
    rendered _ _ (simp (eq-eqb _ _ c.if-input-ne-RECORD.false, ← c.number2-count.ensures, ← c.number4-s.ensures, ← c.number2-k.ensures) c.write_for.ensures)
