-- `bench_report::lines::put_rest` meets its contract.
use Rattle.std.proofs.Common.{rules}
use Rattle.text.specs.WritingLaws.{put-text, put_then, put-moved}
use Rattle.text.proofs.Wrote.{wrote_then}
use Rattle.bench_report.proofs.Short.{one}
use Rattle.bench_report.proofs.lines.put_rest.Goals as goal

pub returns-then-answer-lt10 : goal.returns-then-answer-lt10
returns-then-answer-lt10 c =
    put_then c.put_in-next.ensures.0
    (put_then (put-text c.put_in-next-then-answer-lt10.ensures.0 (one _ c.if-answer-lt10.true)) c.put_in.ensures.0)

pub returns : goal.returns
returns c =
    put_then c.put_in-next.ensures.0 (put-moved (search rules) (search rules) (search rules) (wrote_then c.number.ensures c.byte.ensures).put)
