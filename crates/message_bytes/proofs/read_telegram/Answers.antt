-- `read_telegram` meets its contract: each way out is one of the description (FrameLaws), by the form that length and mark say.
use Rattle.std.proofs.Common.{length, refl, sym, ◌∙◌, ap}
use Rattle.std.proofs.lemmas.Result.{err_from_is_err_and}
use Rattle.records.proofs.FrameLaws.{frame_refused, frame-length, unlisted, question-refused, questions-passed, listed-value, listed-refused}
use Rattle.message_record.specs.Telegrams.{mark_of, telegram_of, listed_in, form_for, telegrams}
use Rattle.message_bytes.proofs.Framing.{enough}
use Rattle.message_bytes.proofs.read_telegram.Goals as goal

pub returns-in_err-frame_in : goal.returns-in_err-frame_in
returns-in_err-frame_in c =
    let s = c.args.s.now in
    let form = c.form_on-form in
    let on = form.ensures ∙ ap (form_for (length s)) c.number2.ensures in
    let p = err_from_is_err_and c.from_residual.result c.from_residual.ensures.1 in
    rw (p.1, p.2) (frame_refused telegrams s form.result on (mark_of form.result.width) refl _ c.in_err-frame_in.ensures)

pub fields_in-requires : goal.fields_in-requires
fields_in-requires c =
    let s = c.args.s.now in
    let form = c.form_on-form in
    let on = form.ensures ∙ ap (form_for (length s)) c.number2.ensures in
    enough form.result s (frame-length telegrams s form.result on (mark_of form.result.width) refl c.in_ok-frame_in.ensures)

pub returns-in_err-t : goal.returns-in_err-t
returns-in_err-t c =
    let s = c.args.s.now in
    let form = c.form_on-form in
    let on = form.ensures ∙ ap (form_for (length s)) c.number2.ensures in
    let p = err_from_is_err_and c.from_residual-in_err-t.result c.from_residual-in_err-t.ensures.1 in
    let no = listed-refused _ _ _ c.in_err-t.ensures in
    rw (p.1, p.2, no.1) (unlisted telegrams s form.result on (mark_of form.result.width) refl c.in_ok-frame_in.ensures (ap (listed_in form.result.body) (sym c.fields_in.ensures) ∙ no.0))

pub returns-in_err-question_in : goal.returns-in_err-question_in
returns-in_err-question_in c =
    let s = c.args.s.now in
    let form = c.form_on-form in
    let on = form.ensures ∙ ap (form_for (length s)) c.number2.ensures in
    let p = err_from_is_err_and c.from_residual-in_err-question_in.result c.from_residual-in_err-question_in.ensures.1 in
    let t = listed-value _ _ _ c.in_ok-t.ensures in
    rw (p.1, p.2) (question-refused telegrams s form.result on (mark_of form.result.width) refl c.in_ok-frame_in.ensures
    (ap (listed_in form.result.body) (sym c.fields_in.ensures) ∙ t.0) _ (t.1 ∙ ap (telegram_of form.result.body) c.fields_in.ensures) _ c.in_err-question_in.ensures)

pub returns : goal.returns
returns c =
    let s = c.args.s.now in
    let form = c.form_on-form in
    let on = form.ensures ∙ ap (form_for (length s)) c.number2.ensures in
    let t = listed-value _ _ _ c.in_ok-t.ensures in
    questions-passed telegrams s form.result on (mark_of form.result.width) refl c.in_ok-frame_in.ensures
    (ap (listed_in form.result.body) (sym c.fields_in.ensures) ∙ t.0) _ (t.1 ∙ ap (telegram_of form.result.body) c.fields_in.ensures) c.in_ok-question_in.ensures
