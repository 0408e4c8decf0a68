-- `dues::output::write_totals` meets its contract.
use Rattle.std.proofs.Common.{rules}
use Rattle.text.specs.WritingLaws.{put-moved, line-put, same-fitted}
use Rattle.text.proofs.Wrote.{wrote_then}
use Rattle.dues.specs.Printed.{totals_line}
use Rattle.dues.specs.PrintedLaws.{totals-length}
use Rattle.dues.proofs.output.write_totals.Goals as goal

pub returns : goal.returns
returns c =
    let t = c.args.t in
    let text = (wrote_then c.number.ensures (wrote_then c.field.ensures c.byte.ensures)).put in
    let both =
    same-fitted _ (line-put (totals_line t) (totals-length t) (put-moved c.new-w.ensures.kept (search rules) c.new-w.ensures.front text)) (c.write_line.ensures.value, c.write_line.ensures.out_after) in
    record { value = both.0; out_after = both.1 }
