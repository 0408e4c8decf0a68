-- The text is measured first, and put where there is room for all of it.
use Rattle.std.proofs.Common.{arith}
use Rattle.std.proofs.lemmas.Result.{err_from_is_err_and}
use Rattle.schedule_text.specs.Texts.{read_text}
use Rattle.schedule_text.specs.Turning.{refused_then, no_room, turned}
use Rattle.schedule_text.proofs.reading.read.Goals as goal

pub returns-in_err-length : goal.returns-in_err-length
returns-in_err-length c =
    let p = err_from_is_err_and c.from_residual.result c.from_residual.ensures.1 in
    let both = refused_then (read_text c.args.text.now) _ _ _ _ _ c.put_records.ensures c.in_err-length.was in rw (p.1, p.2) (record { value = both.0; out_after = both.1 })

pub returns-then-out-length : goal.returns-then-out-length
returns-then-out-length c =
    let both = no_room (read_text c.args.text.now) _ _ _ _ _ c.put_records.ensures c.in_ok-length.was c.if-out-length.true (omega arith) in record { value = both.0; out_after = both.1 }

pub returns : goal.returns
returns c =
    let both = turned (read_text c.args.text.now) _ _ _ _ _ _ _ c.put_records.ensures c.in_ok-length.was c.if-out-length.false (omega arith) c.put_records-2.ensures in record { value = both.0; out_after = both.1 }
