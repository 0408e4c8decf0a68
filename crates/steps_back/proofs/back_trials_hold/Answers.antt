use Rattle.steps_back.proofs.Computed.{back_trials}
use Rattle.steps_back.proofs.back_trials_hold.Goals as goal

pub returns : goal.returns
returns c = back_trials
