-- `line_output::render` meets its contract, at each of its returns.
use Rattle.text.specs.WritingLaws.{nothing-fitted, all-fitted, rendered}
use Rattle.line_output.proofs.Runs.{few, many}
use Rattle.line_output.proofs.render.Goals as goal

pub returns-then-s-gt-MOST : goal.returns-then-s-gt-MOST
returns-then-s-gt-MOST c =
    rendered _ _ (rw (many c.args.s.now c.if-s-gt-MOST.true) (c.write_refusal.ensures.value, c.write_refusal.ensures.out_after))

pub returns-then-out-measure : goal.returns-then-out-measure
returns-then-out-measure c =
    rendered _ _ (rw (few c.args.s.now c.if-s-gt-MOST.false) (nothing-fitted _ _ (rw (← c.measure.ensures) c.if-out-measure.true)))

pub returns : goal.returns
returns c =
    rendered _ _ (rw (few c.args.s.now c.if-s-gt-MOST.false)
    (all-fitted _ _ (rw (← c.measure.ensures) c.if-out-measure.false) c.put_acts.ensures))
