-- What is promised of a record, whichever it is. Each record's crate has these as the contract of a function.
use Rattle.std.specs.Prelude.{ℕ, ◌<◌, ◌^◌, ◌≡◌, List, [], ◌∷◌, Ok}
use Rattle.model.specs.Questions.{Reply, accepted, refused, numbers_asked, first_no}
use Rattle.records.specs.Bytes.{AllBytes, Width, one, two, four}
use Rattle.records.specs.Codec.{Reading, answer_of, is_record, is_refusal, value_by, form_questions, Codec, own_form, bytes_of, value_on, read_questions, reads, write_questions, write_reply, writes}

-- the code holds what stands in four bytes as a number of 32 bits
abbrev pub In32Bits : List Width → List ℕ → Type 0
In32Bits [] vs = Unit
In32Bits (w ∷ ws) [] = Unit
In32Bits (one ∷ ws) (v ∷ vs) = In32Bits ws vs
In32Bits (two ∷ ws) (v ∷ vs) = In32Bits ws vs
In32Bits (four ∷ ws) (v ∷ vs) = (v < 2 ^ 32) × In32Bits ws vs

-- the answer to questions about a value
abbrev pub answer_by : {A : Type 0} → Reply → A → Reading A
answer_by accepted a = is_record a
answer_by (refused q) a = is_refusal q

pub record Promises {S A : Type 0} (c : Codec S A) : Type 0 where
  -- "The first "no" gives its number", and 0 is a record
  pub answered : (s : List ℕ) → answer_of (reads c s) ≡ answer_by (first_no (read_questions c s)) (value_on c s)
  -- what is written reads back as it was: every value that passes the questions
  pub reads-back : (a : A) → In32Bits (own_form c a).widths ((own_form c a).fields a) → first_no ((own_form c a).asked a) ≡ accepted → reads c (bytes_of c a) ≡ Ok a
  -- what was read, written again, gives the same bytes: only written forms are read
  pub writes-back : (s : List ℕ) (a : A) → AllBytes s → reads c s ≡ Ok a → bytes_of c a ≡ s
  -- bytes that pass the questions of any of the forms are read, and none are of two forms
  pub forms-read : (k : S) (s : List ℕ) → AllBytes s → first_no (form_questions (c.form k) s) ≡ accepted → reads c s ≡ Ok (value_by (c.form k) s)
  pub one_form : (k k' : S) (s : List ℕ) → AllBytes s → first_no (form_questions (c.form k) s) ≡ accepted → first_no (form_questions (c.form k') s) ≡ accepted → k ≡ k'
  -- "a refused write leaves its buffer untouched"
  pub untouched : (out : List ℕ) (a : A) (q : ℕ) → write_reply c out a ≡ refused q → writes c out a ≡ out

-- "In this sequence, each where it applies": the numbers of the questions that reading puts by a form, and of those that writing in it does
pub record AskedInSequence {S A : Type 0} (c : Codec S A) (reading writing : S → List ℕ) : Type 0 where
  pub at_reading : (s : List ℕ) → numbers_asked (read_questions c s) ≡ reading (c.form_on s)
  pub at_writing : (out : List ℕ) (a : A) → numbers_asked (write_questions c out a) ≡ writing (c.form_of a)
