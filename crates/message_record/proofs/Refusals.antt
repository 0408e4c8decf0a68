-- The refusals, by computing.
use mathlib.Core.Path.{refl}
use Rattle.ground.specs.Mask.{has, insert, none_above, within}
use Rattle.model.specs.Questions.{unless, first_no}
use Rattle.model.specs.Ranges.{sizes_in_range, is_controller, is_ballot}
use Rattle.model.specs.Routes.{vote_route, ack_route, help_route, route}
use Rattle.records.specs.Codec.{reads}
use Rattle.records.specs.Codes.{is_kind, kind_of, is_ballot_kind, ballot_kind_of, outcome_of}
use Rattle.message_record.specs.Messages.{bits_in_range, knows_for_kind, suits, about_message}
use Rattle.message_record.specs.BallotMessages.{tells_nothing, tells_word, reports_last, tells_for_kind, ballot_suits, about_ballot}
use Rattle.message_record.specs.Telegrams.{suits_width, fields_in, telegram_of, listed_in, form_of_twenty, form_for}
use Rattle.message_record.specs.Refusals.{answers_right, of_sixteen, of_twenty, of_twenty_with_ballot, of_twenty_four, Refusals}

pub refusals : Refusals
unfolding has insert none_above within unless first_no sizes_in_range is_controller is_ballot vote_route ack_route help_route route reads is_kind kind_of is_ballot_kind ballot_kind_of outcome_of bits_in_range knows_for_kind suits about_message tells_nothing tells_word reports_last tells_for_kind ballot_suits about_ballot suits_width fields_in telegram_of listed_in form_of_twenty form_for answers_right of_sixteen of_twenty of_twenty_with_ballot of_twenty_four
refusals = record { sixteen = refl; twenty = refl; twenty_with-ballot = refl; twenty-four = refl }
