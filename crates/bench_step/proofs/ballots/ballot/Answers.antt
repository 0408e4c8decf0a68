-- An event of ballots: its questions and its answer, on what is read of the bench.
use mathlib.Core.Path.{◌≡◌}
use Rattle.std.proofs.lemmas.Result.{err_from_is_err_and}
use Rattle.model.specs.Refusals.{reply_of}
use Rattle.model.specs.declared.Event.TheVariants.{OfBallots}
use Rattle.protocol.specs.Ballots.{acceptor}
use Rattle.protocol.specs.Questions.{reply}
use Rattle.bench_step.proofs.BallotLaws.{asked-read, answer_read, put-answer}
use Rattle.bench_step.proofs.StepLaws.{yes, refuses, accepts}
use Rattle.bench_step.proofs.ballots.ballot.Goals.{After-ballot_question}
use Rattle.bench_step.proofs.ballots.ballot.Goals as goal

asked : (c : After-ballot_question) → reply_of c.ballot_question.result ≡ reply c.args.b (OfBallots c.args.e)
unfolding acceptor
asked c =
    rw (c.ballot_question.ensures, c.condition_of.ensures, c.row_at-row.ensures.value, c.nth-a.ensures, c.new_acceptor.ensures, c.ballot_of-number.ensures, c.proposal_of-own.ensures, c.station_at-s.ensures.value, c.subject_of-id.ensures)
    (asked-read c.args.b c.args.e c.row_at-row.ensures.rows_len)

pub returns-in_err-ballot_question : goal.returns-in_err-ballot_question
returns-in_err-ballot_question c =
    let p = err_from_is_err_and c.from_residual.result c.from_residual.ensures.1 in
    rw (p.1, p.2) (refuses c.args.b (OfBallots c.args.e) _ (asked (goal.at.returns-in_err-ballot_question c).After-ballot_question) _ c.in_err-ballot_question.was)

pub returns : goal.returns
unfolding acceptor
returns c =
    let replied = asked (goal.at.returns c).After-ballot_question in
    let all = yes c.args.b (OfBallots c.args.e) _ replied c.in_ok-ballot_question.was in
    let found : c.answer_to-x.result ≡ answer_read c.args.b c.args.e c.row_at-row.ensures.rows_len all =
    rw (c.answer_to-x.ensures, c.row_at-row.ensures.value, c.nth-a.ensures, c.new_acceptor.ensures, c.ballot_of-number.ensures, c.proposal_of-own.ensures, c.station_at-s.ensures.value, c.subject_of-id.ensures) in
    accepts c.args.b (OfBallots c.args.e) _ replied c.in_ok-ballot_question.was _
    (rw (c.answered.ensures, c.row_at-row.ensures.value, c.ballot_of-number.ensures, c.subject_of-id.ensures)
    (put-answer c.args.b c.args.e c.row_at-row.ensures.rows_len all _ found))
