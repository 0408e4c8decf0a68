-- A delivery: the controller's answer on the station as it is read; its refusal is the last of the questions.
use mathlib.Core.Path.{◌≡◌, refl}
use Rattle.std.proofs.lemmas.Result.{err_from_is_err_and}
use Rattle.model.specs.Refusals.{reply_of}
use Rattle.model.specs.declared.Event.TheVariants.{Deliver}
use Rattle.protocol.specs.Questions.{first_no, questions_of}
use Rattle.protocol.specs.Events.{answer_to}
use Rattle.protocol.specs.Steps.{effect_of, effect}
use Rattle.bench_step.proofs.StationsRead.{station_read, sent_read}
use Rattle.bench_step.proofs.StepLaws.{facts_read, one_refused, one-accepted}
use Rattle.bench_step.proofs.calls.deliver.Goals.{After-deliver_question}
use Rattle.bench_step.proofs.calls.deliver.Goals as goal

asked : (c : After-deliver_question) → reply_of c.deliver_question.result ≡ first_no (questions_of (facts_read c.args.b (Deliver c.args.from c.args.to c.args.kind)) (Deliver c.args.from c.args.to c.args.kind))
unfolding answer_to
asked c = rw (c.deliver_question.ensures, c.condition_of.ensures, c.is_contradicted-agrees.ensures, c.receive-a.ensures, c.message_to.ensures, c.identity.ensures, c.outgoing-out.ensures, c.station_at.ensures.value, c.station_at-s.ensures.value)

pub returns-in_err-deliver_question : goal.returns-in_err-deliver_question
returns-in_err-deliver_question c =
    let p = err_from_is_err_and c.from_residual.result c.from_residual.ensures.1 in
    rw (p.1, p.2) (one_refused c.args.b (Deliver c.args.from c.args.to c.args.kind) c.station_at-s.ensures.stations_len _ (asked (goal.at.returns-in_err-deliver_question c).After-deliver_question) _ c.in_err-deliver_question.was)

pub returns : goal.returns
unfolding effect_of answer_to
returns c =
    let leaves : c.answering.result ≡ effect c.args.b.shared (Deliver c.args.from c.args.to c.args.kind) (sent_read c.args.b (Deliver c.args.from c.args.to c.args.kind)) (station_read c.args.b c.args.to) = rw (c.answering.ensures, c.receive-a.ensures, c.message_to.ensures, c.identity.ensures, c.outgoing-out.ensures, c.station_at.ensures.value, c.station_at-s.ensures.value) in
    rw c.put_back.ensures (one-accepted c.args.b (Deliver c.args.from c.args.to c.args.kind) c.station_at-s.ensures.stations_len _ (asked (goal.at.returns c).After-deliver_question) refl c.in_ok-deliver_question.was _ (λ y. leaves))
