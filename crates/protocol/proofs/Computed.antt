-- Every table of trials: each definition that a run goes through is opened, and both sides compute to the same. Assumes nothing.
use mathlib.Core.Path.{refl}
use Rattle.protocol.specs.Computing.{whole_run}
use Rattle.protocol.specs.Sequence.{members, messages_of_kind, messages_of}
use Rattle.protocol.specs.CleanOrders.{casts, timeouts, deliveries_of, deliveries, all_voted, all_acked, all_ended, clean_order}
use Rattle.protocol.specs.Rows.{answers_to, open_after, each, same, shows, passes, sends_as}
use Rattle.protocol.specs.RowWords.{failing}
use Rattle.protocol.specs.RuleTrials.{rule_trials}
use Rattle.protocol.specs.StandbyTrials.{standby_trials, has_checkpoint, checkpoint_trials}
use Rattle.protocol.specs.QuestionTrials.{gives_all, as_asked, schedules}
use Rattle.protocol.specs.EarlyCallTrials.{early_calls, sequences}
use Rattle.protocol.specs.Alone.{called, called_all}
use Rattle.protocol.specs.StrayTrials.{numbers_of, answers_as, strays}
use Rattle.protocol.specs.AloneTrials.{taken_of, stands_as, alone_trials}
use Rattle.protocol.specs.BallotTrials.{all_shown, stands_in, ballot_passes, ballot_trials}
use Rattle.protocol.specs.BallotCallTrials.{mask_of, one_by_one, call_passes, ballot_call_trials}
use Rattle.protocol.specs.Calls.{valid_identity}
use Rattle.protocol.specs.BallotCalls.{takes_part, may_open_alone, open_call, ballot_addressed, is_of_owner, ballot_arrives, ballot_comes, receive_ballot, others, ballot_to_others, promise_sent, ballot_messages}
use Rattle.model.specs.Ranges.{is_ballot, sizes_in_range, is_controller}
use Rattle.message_record.specs.BallotMessages.{tells_nothing, tells_word, reports_last, tells_for_kind, ballot_suits}
use Rattle.ground.specs.Mask.{collect, insert}
use Rattle.protocol.specs.Trials.{table, TrialsHold}

pub trials : TrialsHold
unfolding failing table rule_trials standby_trials checkpoint_trials has_checkpoint schedules as_asked gives_all early_calls sequences clean_order all_ended all_acked all_voted deliveries deliveries_of timeouts casts passes sends_as messages_of messages_of_kind members shows same each answers_to open_after answers_as strays numbers_of stands_as alone_trials taken_of called called_all all_shown stands_in ballot_passes ballot_trials mask_of one_by_one call_passes ballot_call_trials valid_identity takes_part may_open_alone open_call ballot_addressed is_of_owner ballot_arrives ballot_comes receive_ballot others ballot_to_others promise_sent ballot_messages is_ballot sizes_in_range is_controller tells_nothing tells_word reports_last tells_for_kind ballot_suits collect insert whole_run
trials = record {
  starred = refl;
  rules = refl;
  standby = refl;
  checkpoints = refl;
  questions = refl;
  early-calls = refl;
  sequence = refl;
  answers = refl;
  open_gates = refl;
  stray = refl;
  alone = refl;
  ballots = refl;
  ballot-calls = refl;
}
