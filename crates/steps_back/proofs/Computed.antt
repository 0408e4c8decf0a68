-- The tables of trials: each definition that a run of acts goes through is opened, and both sides compute to the same. Assumes nothing.
use mathlib.Core.Path.{refl}
use Rattle.protocol.specs.Computing.{whole_run}
use Rattle.protocol.specs.Rows.{each, same}
use Rattle.protocol.specs.RowWords.{failing}
use Rattle.steps_back.specs.Memory.{past_after, set_back, answer, done, next, run_acts}
use Rattle.steps_back.specs.Trials.{answers_to, shows, passes, each_kind, remembered, BackTrialsHold}

pub back_trials : BackTrialsHold
unfolding failing each_kind remembered passes shows same each answers_to answer done next run_acts past_after set_back whole_run
back_trials = record { each-kind = refl; memory = refl }
