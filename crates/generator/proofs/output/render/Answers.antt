use Rattle.text.specs.WritingLaws.{rendered}
use borrow.Author.Tests.{eq-eqb, ne_eqb}
use Rattle.generator.specs.Output.{output_of}
use Rattle.generator.proofs.output.render.Goals as goal

pub returns-then-input-ne8 : goal.returns-then-input-ne8
unfolding output_of
returns-then-input-ne8 c = rendered _ _ (simp (ne_eqb _ _ c.if-input-ne8.true) (c.write_refusal.ensures.value, c.write_refusal.ensures.out_after))

pub returns : goal.returns
unfolding output_of
returns c =
    rendered _ _ (simp (eq-eqb _ _ c.if-input-ne8.false, ← c.number2-count.ensures, ← c.number4-start.ensures) c.write_for.ensures)
