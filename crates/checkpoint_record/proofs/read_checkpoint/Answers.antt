-- `read_checkpoint` meets its contract: each way out is one of the description (FrameLaws).
use Rattle.std.proofs.Common.{◌≡◌, length, refl, arith}
use Rattle.std.proofs.lemmas.Result.{err_from_is_err_and}
use Rattle.records.proofs.FrameLaws.{frame_refused, frame-length, unlisted, question-refused, questions-passed}
use Rattle.records.specs.CodeLaws.{outcome-read, no_outcome}
use Rattle.checkpoint_record.specs.Checkpoints.{checkpoints}
use Rattle.checkpoint_record.proofs.read_checkpoint.Goals as goal

pub returns-in_err-frame_question : goal.returns-in_err-frame_question
returns-in_err-frame_question c =
    let p = err_from_is_err_and c.from_residual.result c.from_residual.ensures.1 in
    rw (p.1, p.2) (frame_refused checkpoints _ tt refl 0x4C53 refl _ c.in_err-frame_question.ensures)

pub bounds-s-5 : goal.bounds-s-5
bounds-s-5 c = let l : length c.args.s.now ≡ 14 = frame-length checkpoints _ tt refl 0x4C53 refl c.in_ok-frame_question.ensures in omega arith

pub returns-in_err-outcome : goal.returns-in_err-outcome
returns-in_err-outcome c =
    let p = err_from_is_err_and c.from_residual-in_err-outcome.result c.from_residual-in_err-outcome.ensures.1 in
    let q = c.in_err-outcome.ensures in
    rw (p.1, p.2, q.0) (unlisted checkpoints _ tt refl 0x4C53 refl c.in_ok-frame_question.ensures (no_outcome _ q.1))

pub bounds-s-2 : goal.bounds-s-2
bounds-s-2 c = let l : length c.args.s.now ≡ 14 = frame-length checkpoints _ tt refl 0x4C53 refl c.in_ok-frame_question.ensures in omega arith

pub bounds-s-3 : goal.bounds-s-3
bounds-s-3 c = let l : length c.args.s.now ≡ 14 = frame-length checkpoints _ tt refl 0x4C53 refl c.in_ok-frame_question.ensures in omega arith

pub bounds-s-4 : goal.bounds-s-4
bounds-s-4 c = let l : length c.args.s.now ≡ 14 = frame-length checkpoints _ tt refl 0x4C53 refl c.in_ok-frame_question.ensures in omega arith

pub returns-in_err-question : goal.returns-in_err-question
returns-in_err-question c =
    let p = err_from_is_err_and c.from_residual-in_err-question.result c.from_residual-in_err-question.ensures.1 in
    let o = outcome-read _ _ c.in_ok-outcome.ensures in
    rw (p.1, p.2) (question-refused checkpoints _ tt refl 0x4C53 refl c.in_ok-frame_question.ensures o.0 _ (rw (o.1, c.number4.ensures, c.number4-2.ensures)) _ c.in_err-question.ensures)

pub returns : goal.returns
returns c =
    let o = outcome-read _ _ c.in_ok-outcome.ensures in
    questions-passed checkpoints _ tt refl 0x4C53 refl c.in_ok-frame_question.ensures o.0 _ (rw (o.1, c.number4.ensures, c.number4-2.ensures)) c.in_ok-question.ensures
