use Rattle.protocol.specs.Steps.{perform}
use Rattle.bench_step.proofs.orders.opened.Goals as goal

pub returns : goal.returns
unfolding perform
returns c = simp (c.order_opened-shared.ensures, c.renew_all-renewed.ensures, c.new_ballots.ensures)
