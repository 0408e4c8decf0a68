-- The telegrams stand as their bytes, by computing.
use mathlib.Core.Path.{refl}
use Rattle.ground.specs.Mask.{has, insert, none_above, within}
use Rattle.model.specs.Questions.{unless, first_no}
use Rattle.model.specs.Ranges.{sizes_in_range, is_controller, is_ballot}
use Rattle.model.specs.Routes.{vote_route, ack_route, route}
use Rattle.records.specs.Codec.{reads, write_reply, writes}
use Rattle.records.specs.Codes.{is_kind, kind_of, is_ballot_kind, ballot_kind_of, outcome_of}
use Rattle.message_record.specs.Messages.{bits_in_range, knows_for_kind, suits, about_message}
use Rattle.message_record.specs.BallotMessages.{tells_nothing, tells_word, reports_last, tells_for_kind, ballot_suits, about_ballot}
use Rattle.message_record.specs.Telegrams.{width_for, suits_width, fields_in, fields_of, telegram_of, listed_in, form_of_twenty, form_for, form_of}
use Rattle.message_record.specs.ByteForByte.{ByteForByte}

pub byte_for-byte : ByteForByte
unfolding has insert none_above within unless first_no sizes_in_range is_controller is_ballot vote_route ack_route route reads write_reply writes is_kind kind_of is_ballot_kind ballot_kind_of outcome_of bits_in_range knows_for_kind suits about_message tells_nothing tells_word reports_last tells_for_kind ballot_suits about_ballot width_for suits_width fields_in fields_of telegram_of listed_in form_of_twenty form_for form_of
byte_for-byte = record {
  sixteen = (refl, refl);
  seventeen = (refl, refl);
  thirty_two = (refl, refl);
  ask = (refl, refl);
  promise = (refl, refl);
  put = (refl, refl);
  taken = (refl, refl);
  promise-of-24 = (refl, refl);
}
