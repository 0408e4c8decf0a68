use Rattle.bench_state.proofs.ballots.ballot_question.Goals as goal

pub returns-in-Carry : goal.returns-in-Carry
returns-in-Carry c = rw c.in-Carry.is (c.carry_question.ensures c.args.word c.args.a)
