use Rattle.bench_step.proofs.ballots.answer_to.Goals as goal

pub returns : goal.returns
returns c = rw (c.ballot_answer.ensures, c.word_in-reported.ensures, c.row_at.ensures.value, c.report_in-last.ensures)
