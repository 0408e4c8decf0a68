-- What is printed of some inputs, byte for byte: the line and the word that are named, and which bytes are a text.
use Rattle.std.specs.Prelude.{ℕ, ◌≡◌, refl, List, [], ◌∷◌}
use Prim.Native.String.{String}
use Rattle.text.specs.Text.{ascii, digits, decimal, signed}
use Rattle.words.specs.Words.{belongs, run, pieces, words_of}
use Rattle.words.specs.Numbers.{all_digits, number_in, signed_in, number_among}
use Rattle.model.specs.Questions.{unless, first_no}
use Rattle.records.specs.Codec.{reads}
use Rattle.records.specs.Codes.{is_kind, kind_of, is_ballot_kind, ballot_kind_of}
use Rattle.records.specs.Rows.{row_of as kind_row_of}
use Rattle.event_record.specs.Events.{fields_in, ballot_fields, event_fields, fields_of, rows, row_for}
use Rattle.schedule_text.specs.Forms.{row_of, slot_in, field_of, with_field, value_in, shown, left_out, spaced, line_of}
use Rattle.schedule_text.specs.Texts.{ended, read_words, read_line, read_lines, read_text, write_records, write_text}
use Rattle.schedule_input.specs.Input.{is_control, has_control, is_text, records_in, refused_line, refused_record, either_form, records_output, text_output}

-- what `text` prints of some bytes; `records` names the same line
abbrev Prints : List ℕ → String → Type 0
Prints s t = text_output s ≡ ascii t

abbrev Names : String → String → Type 0
Names s t = (text_output (ascii s) ≡ ascii t) × (records_output (ascii s) ≡ ascii t)

pub record Printed : Type 0 where
  pub line : Names "lock 2 1\n\nvoet 1 willing 500\n" "- line 3: voet\n"
  pub ended-early : Names "lock 2 1\nvote 1 willing # 500\n" "- line 2: end of line\n"
  pub forty : Names "order 123456789a123456789b123456789c123456789d123456789e\n" "- line 1: 123456789a123456789b123456789c123456789d\n"
  -- a text again, as the form has it
  pub text : Prints (ascii "lock 02 1 # two\n\nback") "lock 2 1\nback\n"
  pub nothing : Prints [] ""
  -- a mark alone, or the first byte of it, is a record that breaks off; so is a byte 0
  pub broken_off : Prints (0x4C ∷ []) "- record 0: 1\n"
  pub byte_0 : Prints (0 ∷ []) "- record 0: 1\n"
  -- and a small letter in its place is a word
  pub small : Prints (ascii "lE") "- line 1: lE\n"
  pub other-mark : Prints (ascii "LF") "- line 1: LF\n"

pub printed : Printed
unfolding digits decimal signed belongs run pieces words_of all_digits number_in signed_in number_among unless first_no reads is_kind kind_of is_ballot_kind ballot_kind_of kind_row_of fields_in ballot_fields event_fields fields_of rows row_for row_of slot_in field_of with_field value_in shown left_out spaced line_of ended read_words read_line read_lines read_text write_records write_text is_control has_control is_text records_in refused_line refused_record either_form
printed = record {
  line = (refl, refl);
  ended-early = (refl, refl);
  forty = (refl, refl);
  text = refl;
  nothing = refl;
  broken_off = refl;
  byte_0 = refl;
  small = refl;
  other-mark = refl;
}
