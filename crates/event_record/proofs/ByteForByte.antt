-- The events stand as their bytes, by computing.
use mathlib.Core.Path.{refl}
use Rattle.model.specs.Questions.{unless, first_no}
use Rattle.records.specs.Codec.{reads, write_reply, writes}
use Rattle.records.specs.Codes.{is_kind, kind_of, is_ballot_kind, ballot_kind_of}
use Rattle.records.specs.Rows.{row_of}
use Rattle.event_record.specs.Events.{fields_in, ballot_fields, event_fields, fields_of, rows, row_for}
use Rattle.event_record.specs.ByteForByte.{ByteForByte}

pub byte_for-byte : ByteForByte
unfolding unless first_no reads write_reply writes is_kind kind_of is_ballot_kind ballot_kind_of row_of fields_in ballot_fields event_fields fields_of rows row_for
byte_for-byte = record {
  lock = (refl, refl);
  lock-own = (refl, refl);
  lock_2 = refl;
  lock-value = refl;
  step_back = (refl, refl);
  step-back-a = refl;
  step-back-b = refl;
  step-back_c = refl;
  step-back-value = refl;
  step-back_256 = refl;
  opening = (refl, refl);
  opening_256 = (refl, refl);
  opening-b = refl;
  opening_c = refl;
  kind_11 = refl;
  ack = (refl, refl);
  ack-value = refl;
  ask = (refl, refl);
  promise = (refl, refl);
  put = (refl, refl);
  taken = (refl, refl);
  kind_0 = refl;
  kind_9 = refl;
}
