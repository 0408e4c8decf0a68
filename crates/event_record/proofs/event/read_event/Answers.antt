-- `read_event` meets its contract: each way out is one of the description (FrameLaws).
use Rattle.std.proofs.Common.{refl}
use Rattle.std.proofs.lemmas.Result.{err_from_is_err_and}
use Rattle.records.proofs.FrameLaws.{frame_refused, frame-length}
use Rattle.event_record.proofs.Rows.{act-read}
use Rattle.event_record.specs.Events.{events}
use Rattle.event_record.proofs.event.read_event.Goals as goal

pub returns-in_err-frame_question : goal.returns-in_err-frame_question
returns-in_err-frame_question c =
    let p = err_from_is_err_and c.from_residual.result c.from_residual.ensures.1 in
    rw (p.1, p.2) (frame_refused events _ tt refl 0x4C45 refl _ c.in_err-frame_question.ensures)

pub fields_in-requires : goal.fields_in-requires
fields_in-requires c = frame-length events _ tt refl 0x4C45 refl c.in_ok-frame_question.ensures

pub returns : goal.returns
returns c = rw (c.ok_or.ensures.value, c.listed_act.ensures) (act-read _ _ c.in_ok-frame_question.ensures c.fields_in.ensures)
