use Rattle.bench_back.proofs.act.Goals as goal

pub returns-in-Play : goal.returns-in-Play
returns-in-Play c older = rw c.in-Play.is (c.play.ensures _)

pub returns-in-Back : goal.returns-in-Back
returns-in-Back c older = rw c.in-Back.is (c.back.ensures older)
