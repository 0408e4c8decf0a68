-- `dues::render` meets its contract.
use Rattle.text.specs.WritingLaws.{same-fitted, rendered}
use mathlib.Core.Path.{ap}
use Rattle.dues.specs.Printed.{answer_line}
use Rattle.dues.proofs.output.render.Goals as goal

pub returns : goal.returns
returns c =
    rendered _ _ (same-fitted _ (ap answer_line c.last_answer.ensures) (c.write_answer.ensures.value, c.write_answer.ensures.out_after))
