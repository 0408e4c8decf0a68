-- A save: its questions and its turn, on the station as it is read.
use mathlib.Core.Path.{◌≡◌, refl}
use Rattle.std.proofs.lemmas.Result.{err_from_is_err_and}
use Rattle.model.specs.Refusals.{reply_of}
use Rattle.model.specs.declared.Event.TheVariants.{Save}
use Rattle.protocol.specs.Questions.{first_no, questions_of}
use Rattle.protocol.specs.declared.Effect.{Effect}
use Rattle.protocol.specs.Steps.{effect_of, effect}
use Rattle.bench_step.proofs.StationsRead.{station_read, sent_read}
use Rattle.bench_step.proofs.StepLaws.{facts_read, one_refused, one-accepted}
use Rattle.bench_step.proofs.lifecycle.save.Goals.{After-present_question}
use Rattle.bench_step.proofs.lifecycle.save.Goals as goal

asked : (c : After-present_question) → reply_of c.present_question.result ≡ first_no (questions_of (facts_read c.args.b (Save c.args.id)) (Save c.args.id))
asked c = rw (c.present_question.ensures.value_2, c.condition_of.ensures, c.station_at-s.ensures.value)

pub returns-in_err-present_question : goal.returns-in_err-present_question
returns-in_err-present_question c =
    let p = err_from_is_err_and c.from_residual.result c.from_residual.ensures.1 in
    rw (p.1, p.2) (one_refused c.args.b (Save c.args.id) c.station_at-s.ensures.stations_len _ (asked (goal.at.returns-in_err-present_question c).After-present_question) _ c.in_err-present_question.was)

pub returns : goal.returns
unfolding effect_of
returns c =
    let leaves : ◌≡◌ {A = Effect} (record { shared = c.args.b.shared; station = c.save_turn-station.result }) (effect c.args.b.shared (Save c.args.id) (sent_read c.args.b (Save c.args.id)) (station_read c.args.b c.args.id)) = rw (c.save_turn-station.ensures, c.station_at-s.ensures.value) in
    rw c.put_back.ensures (one-accepted c.args.b (Save c.args.id) c.station_at-s.ensures.stations_len _ (asked (goal.at.returns c).After-present_question) refl c.in_ok-present_question.was _ (λ y. leaves))
