-- A vote: its questions and its controller's answer, on the station as it is read.
use mathlib.Core.Path.{◌≡◌, refl}
use Rattle.std.proofs.lemmas.Result.{err_from_is_err_and}
use Rattle.model.specs.Refusals.{reply_of}
use Rattle.model.specs.declared.Event.TheVariants.{Cast}
use Rattle.protocol.specs.Questions.{first_no, questions_of}
use Rattle.protocol.specs.Events.{answer_to}
use Rattle.protocol.specs.Steps.{effect_of, effect}
use Rattle.bench_step.proofs.StationsRead.{station_read, sent_read}
use Rattle.bench_step.proofs.StepLaws.{facts_read, one_refused, one-accepted}
use Rattle.bench_step.proofs.calls.cast.Goals.{After-cast_question}
use Rattle.bench_step.proofs.calls.cast.Goals as goal

asked : (c : After-cast_question) → reply_of c.cast_question.result ≡ first_no (questions_of (facts_read c.args.b (Cast c.args.id c.args.willing c.args.target)) (Cast c.args.id c.args.willing c.args.target))
asked c = rw (c.cast_question.ensures c.args.willing, c.condition_of.ensures, c.station_at-s.ensures.value)

pub returns-in_err-cast_question : goal.returns-in_err-cast_question
returns-in_err-cast_question c =
    let p = err_from_is_err_and c.from_residual.result c.from_residual.ensures.1 in
    rw (p.1, p.2) (one_refused c.args.b (Cast c.args.id c.args.willing c.args.target) c.station_at-s.ensures.stations_len _ (asked (goal.at.returns-in_err-cast_question c).After-cast_question) _ c.in_err-cast_question.was)

pub returns : goal.returns
unfolding effect_of answer_to
returns c =
    let leaves : c.answering.result ≡ effect c.args.b.shared (Cast c.args.id c.args.willing c.args.target) (sent_read c.args.b (Cast c.args.id c.args.willing c.args.target)) (station_read c.args.b c.args.id) = rw (c.answering.ensures, c.vote-a.ensures, c.identity.ensures, c.station_at-s.ensures.value) in
    rw c.put_back.ensures (one-accepted c.args.b (Cast c.args.id c.args.willing c.args.target) c.station_at-s.ensures.stations_len _ (asked (goal.at.returns c).After-cast_question) refl c.in_ok-cast_question.was _ (λ y. leaves))
