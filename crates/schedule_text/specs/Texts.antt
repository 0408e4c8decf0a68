-- A schedule as text and as records: what a line and a text stand for, and the text of records. The first line that is not of a form is refused with its number,
-- from 1 on, and the first word of it that was not expected, by its place from 0 on (that of its end, where one more was expected); the first record that
-- reading refuses with its index and the number of the question.
use Rattle.std.specs.Prelude.{ℕ, zero, suc, ◌+◌, ◌-◌, ◌/◌, cond, Option, Some, None, Result, Ok, Err, List, [], ◌∷◌, ◌++◌, leb, length, take, drop}
use Rattle.text.specs.Writing.{fitted}
use Rattle.words.specs.Words.{lines_of, uncommented, words_of}
use Rattle.event_record.specs.Events.{fields, fields_of, event_length, read_event, record_bytes}
use Rattle.event_record.specs.declared.Fields.{Fields}
use Rattle.event_record.specs.Events.{ReadEvent}
use Rattle.schedule_text.specs.Forms.{row_of, slot_in, with_field, value_in, line_of}
use Rattle.schedule_text.specs.declared.Slot.{Slot}
use Rattle.schedule_text.specs.declared.Slot.TheVariants.{Verb, A, B, Number, Target, Willing, Word, Telegram, Own, End}
use Rattle.schedule_text.specs.declared.Unexpected.{Unexpected}
use Rattle.schedule_text.specs.declared.TurnError.{TurnError}
use Rattle.schedule_text.specs.declared.TurnError.TheVariants.{Refused, NoRoom}

abbrev pub unused : Fields
unused = fields 0 0 0 0 0

abbrev pub slot_at : ℕ → Fields → Slot
slot_at i x = slot_in (row_of x.kind x.c) i

-- what a line stands for: the fields of a record, or nothing; or which of its words was not expected
abbrev pub LineRead : Type 0
LineRead = Result (Option Fields) Unexpected

abbrev pub unexpected : ℕ → LineRead
unexpected i = Err (record { 0 = i })

-- a line that ends there: before its first word it is blank; of a lock the arbiter may be left unsaid
unfoldable pub ended : Slot → ℕ → Fields → LineRead
ended Verb i x = Ok None
ended End i x = Ok (Some x)
ended Own i x = Ok (Some x)
ended A i x = unexpected i
ended B i x = unexpected i
ended Number i x = unexpected i
ended Target i x = unexpected i
ended Willing i x = unexpected i
ended Word i x = unexpected i
ended Telegram i x = unexpected i

-- the words of a line from word i on
abbrev pub taken : Option ℕ → ℕ → (ℕ → LineRead) → LineRead
taken (Some v) i rest = rest v
taken None i rest = unexpected i

unfoldable pub read_words : ℕ → Fields → List (List ℕ) → LineRead
read_words i x [] = ended (slot_at i x) i x
read_words i x (w ∷ ws) = taken (value_in (slot_at i x) w) i (λ v. read_words (suc i) (with_field (slot_at i x) v x) ws)

unfoldable pub read_line : List ℕ → LineRead
read_line l = read_words 0 unused (words_of l)

-- bytes; or the number of what is refused, and of the fault in it
pub data Turn : Type 0 where
  made : List ℕ → Turn
  refused : ℕ → ℕ → Turn

-- bytes before a result
abbrev pub after : List ℕ → Turn → Turn
after s (made t) = made (s ++ t)
after s (refused k q) = refused k q

-- the records of lines, from line k on: blank lines are passed over
abbrev pub onward : LineRead → ℕ → Turn → Turn
onward (Ok None) k rest = rest
onward (Ok (Some x)) k rest = after (record_bytes x) rest
onward (Err u) k rest = refused k u.0

-- the record of a line, if it stands for one
abbrev pub bytes_of_read : LineRead → List ℕ
bytes_of_read (Ok None) = []
bytes_of_read (Ok (Some x)) = record_bytes x
bytes_of_read (Err u) = []

unfoldable pub read_lines : ℕ → List (List ℕ) → Turn
read_lines k [] = made []
read_lines k (l ∷ ls) = onward (read_line (uncommented l)) k (read_lines (suc k) ls)

unfoldable pub read_text : List ℕ → Turn
read_text t = read_lines 1 (lines_of t)

-- the text of n records, from record k on
abbrev pub written : ReadEvent → ℕ → Turn → Turn
written (Ok act) k rest = after (line_of (fields_of act)) rest
written (Err q) k rest = refused k q

unfoldable pub write_records : ℕ → ℕ → List ℕ → Turn
write_records k zero s = made []
write_records k (suc n) s = written (read_event (take event_length s)) k (write_records (suc k) n (drop event_length s))

-- how many records there are, a short last piece among them
abbrev pub count : List ℕ → ℕ
count s = (length s + (event_length - 1)) / event_length

unfoldable pub write_text : List ℕ → Turn
write_text s = write_records 0 (count s) s

-- what is answered of a result, and a lent buffer afterwards: the bytes at its front, or as it was
unfoldable pub answer_to : Turn → List ℕ → Result ℕ TurnError
answer_to (made s) out = cond (leb (length s) (length out)) (Ok (length s)) (Err NoRoom)
answer_to (refused k q) out = Err (Refused k q)

unfoldable pub buffer_after : Turn → List ℕ → List ℕ
buffer_after (made s) out = fitted s out
buffer_after (refused k q) out = out
