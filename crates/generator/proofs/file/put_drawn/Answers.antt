-- `generator::put_drawn` meets its contract. The invariant: what is written and what is left to draw are the whole (Remaining).
use Rattle.std.specs.Prelude.{◌-◌, ◌+◌, ◌≡◌}
use Rattle.std.proofs.Common.{arith, rules}
use Rattle.generator.proofs.Remaining.{none_yet, one_more, none_left}
use Rattle.generator.proofs.file.put_drawn.Goals as goal

pub loop-drawn-init : goal.loop-drawn-init
loop-drawn-init c = let e : c.args.count - 0 ≡ c.args.count = omega arith in rw e (none_yet _ _ (search rules) (search rules))

pub loop-drawn-preserved : goal.loop-drawn-preserved
loop-drawn-preserved c =
    let l = c.loop-drawn in
    let less : c.args.count - (l.drawn + 1) ≡ c.args.count - l.drawn - 1 = omega arith in
    rw less (one_more _ (c.args.count - l.drawn) l.state _ (omega arith) c.drawn_event-d.ensures l.invariant c.put_record.ensures)

pub returns : goal.returns
returns c =
    let l = c.loop-drawn in
    none_left _ (c.args.count - l.drawn) l.state (omega arith) l.invariant
