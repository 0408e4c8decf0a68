use Rattle.std.proofs.Common.{sym, ap, ◌∙◌}
use Rattle.model.specs.Ranges.{is_ballot}
use Rattle.std.proofs.lemmas.Result.{err_from_is_err_and}
-- `ballot_question` meets its contract: the head's questions first (`ballot-stopped`, `ballot-past` of Asked), then its own two.
use Rattle.message_record.specs.BallotMessages.{about_ballot}
use Rattle.model.specs.Questions.{first_no, unless}
use Rattle.message_record.proofs.Asked.{ballot-stopped, ballot-past}
use Rattle.message_record.proofs.ballots.ballot_question.Goals as goal

pub returns-in_err-head_question : goal.returns-in_err-head_question
returns-in_err-head_question c =
    let p = err_from_is_err_and c.from_residual.result c.from_residual.ensures.1 in rw (p.1, p.2) (ballot-stopped c.args.b _ c.in_err-head_question.ensures)

pub returns-then-not-ballot_suits : goal.returns-then-not-ballot_suits
unfolding about_ballot first_no unless
returns-then-not-ballot_suits c = ballot-past c.args.b _ c.in_ok-head_question.ensures (simp (← c.ballot_suits.ensures, c.if-not-ballot_suits.true))

pub returns-then-not-is_ballot : goal.returns-then-not-is_ballot
unfolding about_ballot first_no unless
returns-then-not-is_ballot c =
    ballot-past c.args.b _ c.in_ok-head_question.ensures (simp (← c.ballot_suits.ensures, c.if-not-ballot_suits.false, ap is_ballot (sym c.from.ensures) ∙ (sym c.is_ballot.ensures ∙ c.if-not-is_ballot.true)))

pub returns : goal.returns
unfolding about_ballot first_no unless
returns c =
    ballot-past c.args.b _ c.in_ok-head_question.ensures (simp (← c.ballot_suits.ensures, c.if-not-ballot_suits.false, ap is_ballot (sym c.from.ensures) ∙ (sym c.is_ballot.ensures ∙ c.if-not-is_ballot.false)))
