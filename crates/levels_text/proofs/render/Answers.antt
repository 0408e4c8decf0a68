use Rattle.text.specs.WritingLaws.{rendered}
use Rattle.levels_text.specs.Output.{output_of}
use Rattle.levels_text.proofs.render.Goals as goal

pub returns : goal.returns
unfolding output_of
returns c = rendered _ _ (rw (← c.answer_to.ensures) (c.write_words.ensures.value, c.write_words.ensures.out_after))
