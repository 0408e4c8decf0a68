-- Reading and writing by frames is reading and writing by the description: what each way out of a reader returns, and what a writer leaves.
use Rattle.std.specs.Prelude.{ℕ, ◌≡◌, Bool, true, false, List, ◌∷◌, ◌++◌, eqb, length, Result, Ok, Err}
use Rattle.std.proofs.Math.Path.{refl, sym, ap}
use Rattle.std.proofs.Common.{◌∙◌, eqb-true, arith}
use Rattle.model.specs.Questions.{Reply, accepted, refused, Question, ask, unless, first_no}
use Rattle.model.specs.QuestionLaws.{all_yes, first-accepted, first-refused}
use Rattle.records.specs.Codec.{Mark, marked, mark_question, form_length, fields_by, value_by, form_questions, Codec, own_form, record_length, bytes_of, returned, reads, write_reply, written, writes}
use Rattle.records.specs.Frames.{frame_questions, if_listed, put_reply, buffer_after, PutUnless}

-- a reader, from the form k that it took and what `frame_question` replied
module _ {S A : Type 0} (c : Codec S A) (s : List ℕ) (k : S) (on : k ≡ c.form_on s) (m : ℕ) (marks : (c.form k).mark ≡ marked m) where
  frame : List Question
  frame = frame_questions (form_length (c.form k)) m s

  rest : List Question
  rest = ask 3 ((c.form k).listed (fields_by (c.form k) s)) ∷ (c.form k).asked (value_by (c.form k) s)

  both : form_questions (c.form k) s ≡ frame ++ rest
  unfolding frame rest
  both = ap (λ (x : Mark). ask 1 (eqb (length s) (form_length (c.form k))) ∷ (mark_question x s ++ (ask 3 ((c.form k).listed (fields_by (c.form k) s)) ∷ (c.form k).asked (value_by (c.form k) s)))) marks

  replied : (r : Reply) → first_no (frame ++ rest) ≡ r → returned c r (value_by (c.form k) s) ≡ reads c s
  unfolding reads
  replied r h =
      sym (ap (λ (x : Reply). returned c x (value_by (c.form k) s)) (ap first_no both ∙ h))
      ∙ ap (λ (x : S). returned c (first_no (form_questions (c.form x) s)) (value_by (c.form x) s)) on

  pub frame_refused : (q : ℕ) → refused q ≡ first_no (frame_questions (form_length (c.form k)) m s) → Err q ≡ reads c s
  unfolding frame
  frame_refused q e = replied (refused q) (first-refused frame rest q (sym e))

  module _ (e : accepted ≡ first_no (frame_questions (form_length (c.form k)) m s)) where
    pub frame-length : length s ≡ form_length (c.form k)
    frame-length = eqb-true (length s) (form_length (c.form k)) (all_yes (frame_questions (form_length (c.form k)) m s) (sym e)).0

    listed-read : (t : Bool) → (c.form k).listed (fields_by (c.form k) s) ≡ t → (r : Reply) → unless 3 t (first_no ((c.form k).asked (value_by (c.form k) s))) ≡ r
        → returned c r (value_by (c.form k) s) ≡ reads c s
    unfolding frame rest first_no
    listed-read t l r h = replied r (first-accepted frame rest (sym e) ∙ rw l h)

    pub unlisted : (c.form k).listed (fields_by (c.form k) s) ≡ false → Err 3 ≡ reads c s
    unfolding unless
    unlisted l = listed-read false l (refused 3) refl

    -- the record's own questions, of the value that the code has read
    module _ (l : (c.form k).listed (fields_by (c.form k) s) ≡ true) (a : A) (v : a ≡ value_by (c.form k) s) where
      asked-read : (r : Reply) → r ≡ first_no ((c.form k).asked a) → returned c r (value_by (c.form k) s) ≡ reads c s
      unfolding unless
      asked-read r h = listed-read true l r (ap (λ (x : A). first_no ((c.form k).asked x)) (sym v) ∙ sym h)

      pub question-refused : (q : ℕ) → refused q ≡ first_no ((c.form k).asked a) → Err q ≡ reads c s
      question-refused q h = asked-read (refused q) h

      pub questions-passed : accepted ≡ first_no ((c.form k).asked a) → Ok a ≡ reads c s
      questions-passed h = ap Ok v ∙ asked-read accepted h

-- a writer, from the record's bytes and what its questions replied
module _ {S A : Type 0} (c : Codec S A) (a : A) (out content : List ℕ) (b : content ≡ bytes_of c a) (l : length (bytes_of c a) ≡ record_length c a) where
  kept : (r : Reply) → buffer_after out (bytes_of c a) r ≡ written c r a out
  kept accepted = refl
  kept (refused q) = refl

  -- what `write_record` replies and leaves
  pub record-written : {asked r : Reply} {after : List ℕ} → asked ≡ first_no ((own_form c a).asked a) → PutUnless content asked out after r
      → (r ≡ write_reply c out a) × (after ≡ writes c out a)
  unfolding put_reply write_reply writes first_no
  record-written e w =
      let size : length content ≡ record_length c a = ap length b ∙ l in
      let r = w.0 ∙ (λ i. unless 1 (eqb (length out) (size i)) (e i)) in
      (r, w.1 ∙ ((λ i. buffer_after out (b i) (r i)) ∙ kept (write_reply c out a)))

-- fields that the code has read are listed, and stand for what it read; or they are not, and it answers 3
is_ok : {A : Type 0} → Result A ℕ → ℕ
is_ok (Ok a) = 1
is_ok (Err q) = 0

value_or : {A : Type 0} → A → Result A ℕ → A
value_or d (Ok a) = a
value_or d (Err q) = d

refusal_or : {A : Type 0} → Result A ℕ → ℕ
refusal_or (Ok a) = 0
refusal_or (Err q) = q

pub listed-value : {A : Type 0} (t : Bool) (x a : A) → Ok x ≡ if_listed t a → (t ≡ true) × (x ≡ a)
unfolding is_ok value_or
listed-value true x a e = (refl, ap (value_or x) e)
listed-value false x a e = let z : ◌≡◌ {A = ℕ} 1 0 = ap is_ok e in absurd (omega arith)

pub listed-refused : {A : Type 0} (t : Bool) (a : A) (q : ℕ) → Err q ≡ if_listed t a → (t ≡ false) × (q ≡ 3)
unfolding is_ok refusal_or
listed-refused true a q e = let z : ◌≡◌ {A = ℕ} 0 1 = ap is_ok e in absurd (omega arith)
listed-refused false a q e = (refl, ap refusal_or e)
