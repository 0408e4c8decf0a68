-- Closed runs compute: to unfold `whole_run` is to unfold every definition that a run and what is shown of its end go through. A definition that is new there is named here.
use Rattle.ground.specs.Quantify.{all_to, any_to, count_to}
use Rattle.ground.specs.Mask.{has, insert, remove, full_to, none_above, within, collect}
use Rattle.ground.specs.Lists.{nth, put}
use Rattle.votes.specs.VoteSets.{single, union, complete, unanimous}
use Rattle.votes.specs.Joining.{contradicts, join, join_all}
use Rattle.model.specs.Ranges.{sizes_in_range, is_controller, position_in_range}
use Rattle.model.specs.Routes.{vote_route, ack_route, help_route, route, recipients}
use Rattle.model.specs.Questions.{unless, first_no}
use Rattle.message_record.specs.Messages.{bits_in_range, knows_for_kind, suits}
use Rattle.protocol.specs.Controllers.{cleared, advance, learn, aim, keep_ack, drop_if, drop_to, drop_contradicting, keep_helped, freeze, add_caller, await, propose, conclude}
use Rattle.protocol.specs.Rules.{passing_over, contradicted, becomes, proposing, verdict, vote_rule, vote_arrives, count_own, first_timeout, ack_join, backups_complete, second_knows, decides, sufficient, answers_join, propose_if_sufficient, help_votes, frozen, ready, calls_help, second_timeout, ack_arrives, helped_arrives, keeps_call, answers_call, help_arrives}
use Rattle.protocol.specs.Ballots.{new_ballots, new_row, acceptor, row, owner, is_ballot, majority, chosen_in, is_chosen}
use Rattle.protocol.specs.BallotRules.{unanswered, promising, reporting, give_promise, prepare_arrives, accepting, accept, accept_arrives, counting, with_word, putting, put_word, put_if_majority, promise_arrives, giving, open_ballot}
use Rattle.protocol.specs.BallotSteps.{was_sent_in, row_after, answered, carried, ballots_after}
use Rattle.protocol.specs.Calls.{valid_identity, vote, addressed, arrives, contradicts_held, tested, receive, timeout, awaits_decision, decide, stop, checkpoint_of, save, restore, renew}
use Rattle.protocol.specs.Counts.{counts_after}
use Rattle.protocol.specs.Benches.{unsent_all, fresh, fresh_station, bench_of, station, sent_after}
use Rattle.protocol.specs.Events.{restore_from, answer_to}
use Rattle.protocol.specs.Questions.{reply}
use Rattle.protocol.specs.Steps.{renewed, order_opened, proposed_to, decided_as, station_after, answering, keeping, effect_of, perform, step, run}
use Rattle.protocol.specs.Display.{sum_to, sent_count, message_count}

unfoldable pub whole_run : Unit {0}
unfolding new_ballots new_row acceptor row owner is_ballot majority chosen_in is_chosen unanswered promising reporting give_promise prepare_arrives accepting accept accept_arrives counting with_word putting put_word put_if_majority promise_arrives giving open_ballot was_sent_in row_after answered carried ballots_after run step perform effect_of answer_to answering station_after restore_from keeping decided_as proposed_to order_opened renewed counts_after reply message_count sent_count sum_to sent_after station bench_of fresh_station fresh unsent_all renew restore save checkpoint_of stop decide awaits_decision timeout receive tested contradicts_held suits bits_in_range knows_for_kind arrives addressed vote valid_identity help_arrives keeps_call answers_call helped_arrives ack_arrives second_timeout calls_help ready frozen help_votes propose_if_sufficient answers_join sufficient decides second_knows backups_complete ack_join first_timeout count_own vote_arrives vote_rule verdict proposing becomes passing_over contradicted conclude propose await add_caller freeze keep_helped keep_ack drop_contradicting drop_to drop_if aim learn advance cleared first_no unless recipients route help_route ack_route vote_route position_in_range is_controller sizes_in_range join_all put nth unanimous complete join contradicts union single collect full_to none_above within remove insert has count_to any_to all_to
whole_run = tt
