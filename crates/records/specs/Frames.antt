-- What the code of every record shares, by bytes and replies alone: questions 1 and 2, and a buffer after writing.
use Rattle.std.specs.Prelude.{ℕ, ◌≡◌, Bool, true, false, List, [], ◌∷◌, eqb, length, Result, Ok, Err}
use Rattle.model.specs.Questions.{Reply, accepted, refused, Question, ask, unless}
use Rattle.records.specs.Bytes.{number2}

abbrev pub frame_questions : ℕ → ℕ → List ℕ → List Question
frame_questions size mark s = ask 1 (eqb (length s) size) ∷ ask 2 (eqb (number2 s 0) mark) ∷ []

-- question 3: what fields stand for, if they are listed
abbrev pub if_listed : {A : Type 0} → Bool → A → Result A ℕ
if_listed true a = Ok a
if_listed false a = Err 3

-- what writing replies, where the record's own questions have been answered; and the buffer then
unfoldable pub put_reply : List ℕ → List ℕ → Reply → Reply
put_reply out content asked = unless 1 (eqb (length out) (length content)) asked

abbrev pub buffer_after : List ℕ → List ℕ → Reply → List ℕ
buffer_after out content accepted = content
buffer_after out content (refused q) = out

-- the content is put into a buffer of its length, unless the record was refused; r is the answer
abbrev pub PutUnless : List ℕ → Reply → List ℕ → List ℕ → Reply → Type 0
PutUnless content asked before after r = (r ≡ put_reply before content asked) × (after ≡ buffer_after before content r)
