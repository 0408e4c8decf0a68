-- A record as bytes, described once: its mark, the widths of its fields, what stands in them, and what is asked of it. Document 01, "Records" and
-- "Questions put to a record or event". Each record is one such description, beside document 01's line on it: checkpoint_record, message_record and
-- event_record. What holds of all of them is in Promises, and is proved once, in CodecLaws.
use Rattle.std.specs.Prelude.{ℕ, ◌+◌, Bool, List, [], ◌∷◌, ◌++◌, eqb, length, Result, Ok, Err}
use Rattle.model.specs.Questions.{Reply, accepted, refused, Question, ask, first_no}
use Rattle.records.specs.Bytes.{number2, bytes2, Width, numbers_at, bytes_of_widths, total_width}

-- "Each record has a two-byte mark of its own kind"; a record without one can be described too
pub data Mark : Type 0 where
  marked : ℕ → Mark
  unmarked : Mark

abbrev pub mark_bytes : Mark → List ℕ
mark_bytes (marked m) = bytes2 m
mark_bytes unmarked = []

abbrev pub mark_length : Mark → ℕ
mark_length (marked m) = 2
mark_length unmarked = 0

-- 2: "Is the mark right?"
abbrev pub mark_question : Mark → List ℕ → List Question
mark_question (marked m) s = ask 2 (eqb (number2 s 0) m) ∷ []
mark_question unmarked s = []

-- a reader returns a value, or the number of a question. What that says in document 01's terms: the number, 0 for a record, and the record's value if there is one
pub record Reading (A : Type 0) : Type 0 where
  pub number : ℕ
  pub values : List A

abbrev pub is_record : {A : Type 0} → A → Reading A
is_record a = record { number = 0; values = a ∷ [] }

abbrev pub is_refusal : {A : Type 0} → ℕ → Reading A
is_refusal q = record { number = q; values = [] }

abbrev pub answer_of : {A : Type 0} → Result A ℕ → Reading A
answer_of (Ok a) = is_record a
answer_of (Err q) = is_refusal q

-- one form in which a value of A stands as bytes
pub record Form (A : Type 0) : Type 0 where
  pub mark : Mark
  -- the fields after the mark: how wide they are, what a value writes there, and the value that they stand for
  pub widths : List Width
  pub fields : A → List ℕ
  pub value : List ℕ → A
  -- 3, of the fields: "Are kind, outcome and flags listed values, unused fields 0?"
  pub listed : List ℕ → Bool
  -- the questions from 4 on, of the value; reading and writing ask them alike
  pub asked : A → List Question

module _ {A : Type 0} (k : Form A) where
  abbrev pub form_length : ℕ
  form_length = mark_length k.mark + total_width k.widths

  -- what stands in the fields of a record of this form, and the value of it
  abbrev pub fields_by : List ℕ → List ℕ
  fields_by s = numbers_at k.widths s (mark_length k.mark)

  abbrev pub value_by : List ℕ → A
  value_by s = k.value (fields_by s)

  abbrev pub form_bytes : A → List ℕ
  form_bytes a = mark_bytes k.mark ++ bytes_of_widths k.widths (k.fields a)

  -- "In this sequence": 1, "Is the slice exactly the record's length?"; 2; 3; the rest
  abbrev pub form_questions : List ℕ → List Question
  form_questions s = ask 1 (eqb (length s) form_length) ∷ (mark_question k.mark s ++ (ask 3 (k.listed (fields_by s)) ∷ k.asked (value_by s)))

-- the description of a record: S has a name for each of its forms, A is what it stands for
pub record Codec (S A : Type 0) : Type 0 where
  pub form : S → Form A
  -- by which form bytes are read, from their length and mark alone; and in which form a value is written
  pub form_on : List ℕ → S
  pub form_of : A → S

-- a record of one form
abbrev pub one_form : {A : Type 0} → Form A → Codec (Unit {0}) A
one_form k = record { form = λ u. k; form_on = λ s. tt; form_of = λ a. tt }

module _ {S A : Type 0} (c : Codec S A) where
  -- the form of bytes, and that of a value
  abbrev pub form_at : List ℕ → Form A
  form_at s = c.form (c.form_on s)

  abbrev pub own_form : A → Form A
  own_form a = c.form (c.form_of a)

  abbrev pub record_length : A → ℕ
  record_length a = form_length (own_form a)

  abbrev pub value_on : List ℕ → A
  value_on s = value_by (form_at s) s

  -- the record of a value
  abbrev pub bytes_of : A → List ℕ
  bytes_of a = form_bytes (own_form a) a

  abbrev pub read_questions : List ℕ → List Question
  read_questions s = form_questions (form_at s) s

  -- "A refused read returns the number and no record"
  abbrev pub returned : Reply → A → Result A ℕ
  returned accepted a = Ok a
  returned (refused q) a = Err q

  unfoldable pub reads : List ℕ → Result A ℕ
  reads s = returned (first_no (read_questions s)) (value_on s)

  -- writing asks 1 of the buffer; there is no mark to ask 2 of, and kinds, outcomes and flags are listed ones
  abbrev pub write_questions : List ℕ → A → List Question
  write_questions out a = ask 1 (eqb (length out) (record_length a)) ∷ (own_form a).asked a

  unfoldable pub write_reply : List ℕ → A → Reply
  write_reply out a = first_no (write_questions out a)

  -- a buffer after writing: the record's bytes, or what it held before
  abbrev pub written : Reply → A → List ℕ → List ℕ
  written accepted a before = bytes_of a
  written (refused q) a before = before

  -- "a refused write leaves its buffer untouched"
  unfoldable pub writes : List ℕ → A → List ℕ
  writes out a = written (write_reply out a) a out
