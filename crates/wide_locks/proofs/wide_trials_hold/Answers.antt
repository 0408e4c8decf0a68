-- `wide_locks::wide_trials_hold` meets its contract: every definition that a run goes through is opened, and both sides compute to the same. Assumes nothing.
use mathlib.Core.Path.{refl}
use Rattle.protocol.specs.Computing.{whole_run}
use Rattle.protocol.specs.Sequence.{members}
use Rattle.protocol.specs.CleanOrders.{casts, timeouts, deliveries_of, deliveries, all_voted, all_acked, all_ended, clean_order}
use Rattle.protocol.specs.Rows.{answers_to, each, same, shows, passes}
use Rattle.protocol.specs.RowWords.{failing}
use Rattle.wide_locks.specs.WideTrials.{wide_table, WideTrialsHold}
use Rattle.wide_locks.proofs.wide_trials_hold.Goals as goal

trials : WideTrialsHold
unfolding failing wide_table clean_order all_ended all_acked all_voted deliveries deliveries_of timeouts casts passes shows same each answers_to members whole_run
trials = refl

pub returns : goal.returns
returns c = trials
