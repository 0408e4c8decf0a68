-- The table holds by computation.
use mathlib.Core.Path.{refl}
use Rattle.text.specs.Text.{digits, decimal, signed}
use Rattle.words.specs.Words.{belongs, run, pieces, words_of}
use Rattle.words.specs.Numbers.{all_digits, number_in, signed_in, number_among}
use Rattle.model.specs.Questions.{unless, first_no}
use Rattle.records.specs.Codec.{reads}
use Rattle.records.specs.Codes.{is_kind, kind_of, is_ballot_kind, ballot_kind_of}
use Rattle.records.specs.Rows.{row_of as kind_row_of}
use Rattle.event_record.specs.Events.{fields_in, ballot_fields, event_fields, fields_of, rows, row_for}
use Rattle.schedule_text.specs.Forms.{row_of, slot_in, field_of, with_field, value_in, shown, left_out, spaced, line_of}
use Rattle.schedule_text.specs.Texts.{ended, read_words, read_line, read_lines, read_text, write_records, write_text}
use Rattle.schedule_text.specs.LineForLine.{LineForLine}

pub line_for-line : LineForLine
unfolding digits decimal signed belongs run pieces words_of all_digits number_in signed_in number_among unless first_no reads is_kind kind_of is_ballot_kind ballot_kind_of kind_row_of fields_in ballot_fields event_fields fields_of rows row_for row_of slot_in field_of with_field value_in shown left_out spaced line_of ended read_words read_line read_lines read_text write_records write_text
line_for-line = record {
  lock = (refl, refl);
  lock-own = (refl, refl);
  order = (refl, refl);
  willing = (refl, refl);
  unwilling = (refl, refl);
  vote = (refl, refl);
  acknowledgement = (refl, refl);
  help-call = (refl, refl);
  help-answer = (refl, refl);
  ask = (refl, refl);
  promise = (refl, refl);
  put = (refl, refl);
  taken = (refl, refl);
  bell = (refl, refl);
  move = (refl, refl);
  stay = (refl, refl);
  stop = (refl, refl);
  save = (refl, refl);
  restore = (refl, refl);
  back = (refl, refl);
  ballot = (refl, refl);
  others = refl;
  ended_by_return = refl;
  close_comment = refl;
  minus_nought = refl;
  no_text = refl;
  first = refl;
  more = refl;
  fewer = refl;
  lock-alone = refl;
  too-high = refl;
  too-low = refl;
  other_name = refl;
  no_number = refl;
  capital = refl;
  counted = refl;
  first-of-two = refl;
  fifth = refl;
  no-controller = refl;
  no-order = refl;
  no-willing = refl;
  no_word = refl;
  no-telegram = refl;
  longer = refl;
  shorter = refl;
  plus = refl;
  minus-alone = refl;
  comma = refl;
  colon = refl;
  f_too-high = refl;
  order_too-high = refl;
  target_too-high = refl;
  records = refl;
  short = refl;
}
