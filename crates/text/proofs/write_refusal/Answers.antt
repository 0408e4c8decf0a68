use Rattle.std.proofs.Common.{rules, arith}
use Rattle.text.specs.Text.{refusal}
use Rattle.text.specs.Lengths.{refusal-length}
use Rattle.text.specs.WritingLaws.{put-moved, line-put, same-fitted}
use Rattle.text.proofs.Wrote.{wrote_then}
use Rattle.text.proofs.write_refusal.Goals as goal

pub returns : goal.returns
returns c =
    let number = c.args.number in
    let text = (wrote_then c.byte.ensures (wrote_then c.field.ensures c.byte-2.ensures)).put in
    let both =
    same-fitted _ (line-put (refusal number) (omega (arith, refusal-length number)) (put-moved c.new-w.ensures.kept (search rules) c.new-w.ensures.front text)) (c.write_line.ensures.value, c.write_line.ensures.out_after) in
    record { value = both.0; out_after = both.1 }
