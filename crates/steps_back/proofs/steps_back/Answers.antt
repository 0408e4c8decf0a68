use Rattle.steps_back.proofs.Readings.{all}
use Rattle.steps_back.proofs.steps_back.Goals as goal

pub returns : goal.returns
returns c = all c.demand_3.ensures c.termination.ensures c.clean_messages.ensures
    c.no_contradiction.ensures c.open_count.ensures
