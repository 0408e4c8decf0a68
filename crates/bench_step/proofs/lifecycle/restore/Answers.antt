-- A restore: its questions and its turn, on the station as it is read.
use mathlib.Core.Path.{◌≡◌, refl}
use Rattle.std.proofs.lemmas.Result.{err_from_is_err_and}
use Rattle.model.specs.Refusals.{reply_of}
use Rattle.model.specs.declared.Event.TheVariants.{Restore}
use Rattle.protocol.specs.Questions.{first_no, questions_of}
use Rattle.model.specs.QuestionLaws.{AllYes}
use Rattle.protocol.specs.Steps.{effect}
use Rattle.bench_step.proofs.Turns.{turn_restores}
use Rattle.bench_step.proofs.StationsRead.{station_read, sent_read}
use Rattle.bench_step.proofs.StepLaws.{facts_read, one_refused, one-accepted}
use Rattle.bench_step.proofs.lifecycle.restore.Goals.{After-restore_question}
use Rattle.bench_step.proofs.lifecycle.restore.Goals as goal

asked : (c : After-restore_question) → reply_of c.restore_question.result ≡ first_no (questions_of (facts_read c.args.b (Restore c.args.id)) (Restore c.args.id))
asked c = rw (c.restore_question.ensures, c.is_saved.ensures, c.condition_of.ensures, c.station_at-s.ensures.value)

pub returns-in_err-restore_question : goal.returns-in_err-restore_question
returns-in_err-restore_question c =
    let p = err_from_is_err_and c.from_residual.result c.from_residual.ensures.1 in
    rw (p.1, p.2) (one_refused c.args.b (Restore c.args.id) c.station_at-s.ensures.stations_len _ (asked (goal.at.returns-in_err-restore_question c).After-restore_question) _ c.in_err-restore_question.was)

pub returns : goal.returns
returns c =
    let leaves : AllYes (questions_of (facts_read c.args.b (Restore c.args.id)) (Restore c.args.id)) → c.restore_turn.result ≡ effect c.args.b.shared (Restore c.args.id) (sent_read c.args.b (Restore c.args.id)) (station_read c.args.b c.args.id) = (λ y. rw (c.restore_turn.ensures, c.station_at-s.ensures.value) (turn_restores _ _ _ _ y)) in
    rw c.put_back.ensures (one-accepted c.args.b (Restore c.args.id) c.station_at-s.ensures.stations_len _ (asked (goal.at.returns c).After-restore_question) refl c.in_ok-restore_question.was _ leaves)
