-- Event records. One stands for an act: an event, or a step back.
use Rattle.std.specs.Prelude.{ℕ, Bool, cond, ◌&&◌, List, [], ◌∷◌, ◌++◌, get_or, Option, Result}
use Rattle.std.specs.Bool.{then_some}
use Rattle.model.specs.Numbers.{kind_number, ballot_kind_number}
use Rattle.model.specs.declared.Act.{Act}
use Rattle.model.specs.declared.Act.TheVariants.{Play, Back}
use Rattle.model.specs.declared.Event.{Event}
use Rattle.model.specs.declared.Event.TheVariants.{Lock, Order, Cast, Deliver, Timeout, Decide, Stop, Save, Restore, OfBallots}
use Rattle.model.specs.declared.BallotEvent.{BallotEvent}
use Rattle.model.specs.declared.BallotEvent.TheVariants.{Open, Carry}
use Rattle.records.specs.Bytes.{one, four, bytes_of_widths}
use Rattle.records.specs.Codes.{is_kind, kind_of, is_ballot_kind, ballot_kind_of, is_flag, flag_of, flag_number, unused}
use Rattle.records.specs.Codec.{marked, mark_bytes, Form, form_length, Codec, one_form, bytes_of, reads}
use Rattle.records.specs.Rows.{KindRow, row, row_of}
use Rattle.event_record.specs.declared.Fields.{Fields}

-- "kind; a; b; c; value", as the code has them and as numbers
abbrev pub fields : ℕ → ℕ → ℕ → ℕ → ℕ → Fields
fields k a b c v = record { kind = k; a = a; b = b; c = c; value = v }

unfoldable pub fields_in : List ℕ → Fields
fields_in v = fields (get_or v 0 0) (get_or v 1 0) (get_or v 2 0) (get_or v 3 0) (get_or v 4 0)

abbrev pub numbers_in : Fields → List ℕ
numbers_in x = x.kind ∷ x.a ∷ x.b ∷ x.c ∷ x.value ∷ []

-- the fields of an event of a ballot (document 02, U14)
unfoldable pub ballot_fields : BallotEvent → Fields
ballot_fields (Open id ballot) = fields 10 id 0 0 ballot
ballot_fields (Carry from to kind ballot) = fields 3 from to (ballot_kind_number kind) ballot

-- the fields of an event: "Unused fields are 0."
unfoldable pub event_fields : Event → Fields
event_fields (Lock n f own) = fields 0 n f (flag_number own) 0
event_fields (Order number) = fields 1 0 0 0 number
event_fields (Cast id willing target) = fields 2 id (flag_number willing) 0 target
event_fields (Deliver from to kind) = fields 3 from to (kind_number kind) 0
event_fields (Timeout id) = fields 4 id 0 0 0
event_fields (Decide id move) = fields 5 id (flag_number move) 0 0
event_fields (Stop id) = fields 6 id 0 0 0
event_fields (Save id) = fields 7 id 0 0 0
event_fields (Restore id) = fields 8 id 0 0 0
event_fields (OfBallots event) = ballot_fields event

-- of an act; document 02, U11: "Event kind 9, all fields 0"
unfoldable pub fields_of : Act → Fields
fields_of (Play e) = event_fields e
fields_of Back = fields 9 0 0 0 0

-- Document 02, U14: "A delivery of these kinds names the ballot in its value". Kinds 1 to 4 have no value.
abbrev pub delivery_listed : ℕ → ℕ → Bool
delivery_listed c value = cond (is_kind c) (unused value) (is_ballot_kind c)

abbrev pub delivery_of : ℕ → ℕ → ℕ → ℕ → Event
delivery_of a b c value = cond (is_kind c) (Deliver a b (kind_of c)) (OfBallots (Carry a b (ballot_kind_of c) value))

-- a row of the table: a kind of event, whether the other fields suit it, and the event that they then stand for
abbrev event : ℕ → Bool → Event → KindRow Act
event k listed e = row k listed (Play e)

-- "0 lock (a = n, b = f); 1 order (value = number); 2 vote (a, b = 1 willing or 0, value = target, two's complement); 3 deliver (a = from, b = to,
-- c = telegram kind); 4 bell (a); 5 arbiter (a, b = 0 Stay or 1 Move); 6 stop (a); 7 save (a); 8 restore (a). Unused fields are 0."
-- Document 02, U14: "Its lock event has c = 1; with c = 0 the arbiter stays as it is"; "Event kind 10 (a, value = b ..)".
-- U11: "Event kind 9, all fields 0".
unfoldable pub rows : Fields → List (KindRow Act)
rows x =
    event 0 (is_flag x.c && unused x.value) (Lock x.a x.b (flag_of x.c))
    ∷ event 1 (unused x.a && unused x.b && unused x.c) (Order x.value)
    ∷ event 2 (is_flag x.b && unused x.c) (Cast x.a (flag_of x.b) x.value)
    ∷ event 3 (delivery_listed x.c x.value) (delivery_of x.a x.b x.c x.value)
    ∷ event 4 (unused x.b && unused x.c && unused x.value) (Timeout x.a)
    ∷ event 5 (is_flag x.b && unused x.c && unused x.value) (Decide x.a (flag_of x.b))
    ∷ event 6 (unused x.b && unused x.c && unused x.value) (Stop x.a)
    ∷ event 7 (unused x.b && unused x.c && unused x.value) (Save x.a)
    ∷ event 8 (unused x.b && unused x.c && unused x.value) (Restore x.a)
    ∷ row 9 (unused x.a && unused x.b && unused x.c && unused x.value) Back
    ∷ event 10 (unused x.b && unused x.c) (OfBallots (Open x.a x.value))
    ∷ []

unfoldable pub row_for : Fields → KindRow Act
row_for x = row_of Back x.kind (rows x)

-- the act, if it is listed
unfoldable pub listed_act : Fields → Option Act
listed_act x = then_some (row_for x).listed (row_for x).value

-- "Event, 10 bytes: 4C 45; kind; a; b; c; value (4)." "Reading an event record puts 1 to 3", and writing 1.
abbrev pub event_form : Form Act
event_form = record {
  mark = marked 0x4C45;
  widths = one ∷ one ∷ one ∷ one ∷ four ∷ [];
  fields = λ act. numbers_in (fields_of act);
  value = λ v. (row_for (fields_in v)).value;
  listed = λ v. (row_for (fields_in v)).listed;
  asked = λ act. [];
}

abbrev pub events : Codec (Unit {0}) Act
events = one_form event_form

-- what its reader returns
abbrev pub ReadEvent : Type 0
ReadEvent = Result Act ℕ

-- short names for those who read schedules
abbrev pub event_length : ℕ
event_length = form_length event_form

abbrev pub read_event : List ℕ → ReadEvent
read_event s = reads events s

-- the bytes of a record with these fields
abbrev pub record_bytes : Fields → List ℕ
record_bytes x = mark_bytes event_form.mark ++ bytes_of_widths event_form.widths (numbers_in x)

abbrev pub event_bytes : Act → List ℕ
event_bytes act = bytes_of events act

-- "The records follow one another with nothing between them."
unfoldable pub records_of : List Act → List ℕ
records_of [] = []
records_of (act ∷ acts) = event_bytes act ++ records_of acts
