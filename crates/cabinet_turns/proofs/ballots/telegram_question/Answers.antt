use Rattle.cabinet_turns.specs.Ballots.{telegram_asked}
use Rattle.model.specs.Questions.{first_no, unless}
use Rattle.cabinet_turns.proofs.ballots.telegram_question.Goals as goal

pub returns-in-Plain : goal.returns-in-Plain
unfolding first_no unless telegram_asked
returns-in-Plain c = simp (c.in-Plain.is, c.message_question.ensures)

pub returns-in-OfBallot : goal.returns-in-OfBallot
unfolding first_no unless telegram_asked
returns-in-OfBallot c = simp c.in-OfBallot.is
