use Rattle.message_record.proofs.questions.telegram_question.Goals as goal

pub returns-in-Plain : goal.returns-in-Plain
returns-in-Plain c = simp (c.in-Plain.is, c.question.ensures)

pub returns-in-OfBallot : goal.returns-in-OfBallot
returns-in-OfBallot c = simp (c.in-OfBallot.is, c.ballot_question.ensures)
