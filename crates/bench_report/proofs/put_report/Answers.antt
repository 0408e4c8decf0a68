-- `bench_report::put_report` meets its contract.
use Rattle.std.proofs.Common.{refl, rules}
use Rattle.bench_report.specs.Lines.{report_of}
use Rattle.text.specs.WritingLaws.{put_then, put-moved}
use Rattle.bench_report.proofs.put_report.Goals as goal

pub returns : goal.returns
unfolding report_of
returns c =
    put_then (put_then c.put_answers-at.ensures (put-moved (search rules) refl (search rules) c.put_controllers.ensures.put)) (put-moved refl (search rules) refl c.put_messages.ensures.put)
