-- The consensus decides: its questions and its turn, on the station as it is read.
use mathlib.Core.Path.{◌≡◌, refl, ◌∙◌}
use Rattle.std.proofs.lemmas.Result.{err_from_is_err_and}
use Rattle.model.specs.Refusals.{reply_of}
use Rattle.model.specs.declared.Event.TheVariants.{Decide}
use Rattle.protocol.specs.Questions.{first_no, questions_of}
use mathlib.Core.Path.{ap}
use mathlib.Core.Bool.{Bool, cond, ◌&&◌}
use Rattle.protocol.specs.declared.Condition.{Condition}
use Rattle.protocol.specs.declared.Station.{Station}
use Rattle.protocol.specs.Questions.{was_proposed, no_other_word, may_give}
use Rattle.bench_state.specs.Parts.{decide_facts}
use Rattle.model.specs.QuestionLaws.{AllYes}
use Rattle.protocol.specs.Steps.{effect}
use Rattle.bench_step.proofs.Turns.{turn-decides}
use Rattle.bench_step.proofs.StationsRead.{station_read, sent_read}
use Rattle.bench_step.proofs.StepLaws.{facts_read, one_refused, one-accepted}
use Rattle.bench_step.proofs.lifecycle.decide.Goals.{After-decide_question}
use Rattle.bench_step.proofs.lifecycle.decide.Goals as goal

asked : (c : After-decide_question) → reply_of c.decide_question.result ≡ first_no (questions_of (facts_read c.args.b (Decide c.args.id c.args.to_move)) (Decide c.args.id c.args.to_move))
asked c = c.decide_question.ensures c.args.to_move
    ∙ ap (λ (x : Bool). first_no (questions_of (decide_facts c.args.b.shared c.condition_of.result x) (Decide c.args.id c.args.to_move))) (c.may_give-may.ensures ∙ ap (λ (x : Bool). cond c.args.b.shared.own x (was_proposed c.args.b.shared.consensus c.args.to_move && no_other_word c.args.b.shared.consensus.decision c.args.to_move)) (c.is_chosen-chosen.ensures c.args.b.ballots.acceptors))
    ∙ ap (λ (x : Condition). first_no (questions_of (decide_facts c.args.b.shared x (may_give c.args.b.shared c.args.b.ballots c.args.to_move)) (Decide c.args.id c.args.to_move))) (c.condition_of.ensures ∙ ap (λ (x : Station). x.controller.condition) c.station_at-s.ensures.value)

pub returns-in_err-decide_question : goal.returns-in_err-decide_question
returns-in_err-decide_question c =
    let p = err_from_is_err_and c.from_residual.result c.from_residual.ensures.1 in
    rw (p.1, p.2) (one_refused c.args.b (Decide c.args.id c.args.to_move) c.station_at-s.ensures.stations_len _ (asked (goal.at.returns-in_err-decide_question c).After-decide_question) _ c.in_err-decide_question.was)

pub returns : goal.returns
returns c =
    let leaves : AllYes (questions_of (facts_read c.args.b (Decide c.args.id c.args.to_move)) (Decide c.args.id c.args.to_move)) → c.decide_turn.result ≡ effect c.args.b.shared (Decide c.args.id c.args.to_move) (sent_read c.args.b (Decide c.args.id c.args.to_move)) (station_read c.args.b c.args.id) = (λ y. rw (c.decide_turn.ensures, c.station_at-s.ensures.value) (turn-decides _ _ _ _ (may_give c.args.b.shared c.args.b.ballots) _ y)) in
    rw c.put_back.ensures (one-accepted c.args.b (Decide c.args.id c.args.to_move) c.station_at-s.ensures.stations_len _ (asked (goal.at.returns c).After-decide_question) refl c.in_ok-decide_question.was _ leaves)
