-- The promises hold of every description that is lawful. A field's number and its bytes give each other back, then all fields of a record by going
-- along the widths, then the record by its questions.
use Rattle.std.specs.Prelude.{ℕ, ◌+◌, ◌*◌, ◌<◌, ◌≤◌, ◌^◌, ◌≡◌, refl, true, List, [], ◌∷◌, ◌++◌, eqb, length, drop, get_or, Ok}
use Rattle.std.proofs.Common.{sym, ◌∙◌, subst, append_assoc, arith, add-one, eq-eqb, eqb-true, length-append, drop_of_length-le, get_or-append-add, drop-cons}
use Rattle.std.proofs.Math.Path.{ap}
use Rattle.model.specs.Questions.{Reply, accepted, refused, Question, first_no}
use Rattle.model.specs.QuestionLaws.{AllYes, all_yes, yes-all}
use Rattle.records.specs.Bytes.{byte, number2, bytes2, bytes4, AllBytes, Width, one, two, four, size, number_at, bytes_of_width, numbers_at, bytes_of_widths, total_width}
use Rattle.records.proofs.ByteLaws.{number-of-two, number-of-four, of_two, of_four}
use Rattle.records.specs.Codec.{Mark, marked, unmarked, mark_bytes, mark_length, mark_question, Reading, answer_of, is_record, Form, form_length, fields_by, value_by, form_bytes, form_questions, Codec, own_form, value_on, bytes_of, read_questions, returned, reads, write_reply, written, writes}
use Rattle.records.specs.Promises.{In32Bits, answer_by, Promises}

-- numbers that their widths hold; what the code holds as a byte is one
abbrev pub Holds : Width → ℕ → Type 0
Holds one v = Unit
Holds two v = v < 65536
Holds four v = v < 2 ^ 32

abbrev pub Fit : List Width → List ℕ → Type 0
Fit [] [] = Unit
Fit [] (v ∷ vs) = ⊥
Fit (w ∷ ws) [] = ⊥
Fit (w ∷ ws) (v ∷ vs) = Holds w v × Fit ws vs

-- what stands after a beginning
after : (pre ys : List ℕ) (at i j : ℕ) → at ≡ length pre → j ≡ at + i → byte (pre ++ ys) j ≡ byte ys i
after pre ys at i j e f = let k : j ≡ length pre + i = omega arith in ap (byte (pre ++ ys)) k ∙ get_or-append-add pre ys i 0

number-back : (w : Width) (v : ℕ) → Holds w v → (pre rest : List ℕ) (at : ℕ) → at ≡ length pre → number_at w (pre ++ (bytes_of_width w v ++ rest)) at ≡ v
number-back one v h pre rest at e = after pre (v ∷ rest) at 0 at e (omega arith)
number-back two v h pre rest at e =
    let ys : List ℕ = bytes2 v ++ rest in
    let b0 : byte (pre ++ ys) at ≡ byte ys 0 = after pre ys at 0 at e (omega arith) in
    let b1 : byte (pre ++ ys) (at + 1) ≡ byte ys 1 = after pre ys at 1 (at + 1) e refl in
    (λ i. b0 i * 256 + b1 i) ∙ number-of-two v h
number-back four v h pre rest at e =
    let ys : List ℕ = bytes4 v ++ rest in
    let b0 : byte (pre ++ ys) at ≡ byte ys 0 = after pre ys at 0 at e (omega arith) in
    let b1 : byte (pre ++ ys) (at + 1) ≡ byte ys 1 = after pre ys at 1 (at + 1) e refl in
    let b2 : byte (pre ++ ys) (at + 2) ≡ byte ys 2 = after pre ys at 2 (at + 2) e refl in
    let b3 : byte (pre ++ ys) (at + 2 + 1) ≡ byte ys 3 = after pre ys at 3 (at + 2 + 1) e (omega arith) in
    (λ i. (b0 i * 256 + b1 i) * 65536 + (b2 i * 256 + b3 i)) ∙ number-of-four v h

length-of-width : (w : Width) (v : ℕ) → length (bytes_of_width w v) ≡ size w
length-of-width one v = refl
length-of-width two v = refl
length-of-width four v = refl

numbers-back : (ws : List Width) (vs : List ℕ) → Fit ws vs → (pre : List ℕ) (at : ℕ) → at ≡ length pre → numbers_at ws (pre ++ bytes_of_widths ws vs) at ≡ vs
numbers-back [] [] f pre at e = refl
numbers-back [] (v ∷ vs) f pre at e = absurd f
numbers-back (w ∷ ws) [] f pre at e = absurd f
numbers-back (w ∷ ws) (v ∷ vs) f pre at e =
    let b : List ℕ = bytes_of_width w v in
    let rest : List ℕ = bytes_of_widths ws vs in
    let l : length (pre ++ b) ≡ length pre + length b = length-append pre b in
    let k : length b ≡ size w = length-of-width w v in
    let here : number_at w (pre ++ (b ++ rest)) at ≡ v = number-back w v f.0 pre rest at e in
    let others : numbers_at ws (pre ++ (b ++ rest)) (at + size w) ≡ vs =
    ap (λ (s : List ℕ). numbers_at ws s (at + size w)) (sym (append_assoc pre b rest)) ∙ numbers-back ws vs f.1 (pre ++ b) (at + size w) (omega arith) in
    λ i. here i ∷ others i

length-of-widths : (ws : List Width) (vs : List ℕ) → Fit ws vs → length (bytes_of_widths ws vs) ≡ total_width ws
length-of-widths [] [] f = refl
length-of-widths [] (v ∷ vs) f = absurd f
length-of-widths (w ∷ ws) [] f = absurd f
length-of-widths (w ∷ ws) (v ∷ vs) f =
    let e : length (bytes_of_widths ws vs) ≡ total_width ws = length-of-widths ws vs f.1 in
    let k : length (bytes_of_width w v) ≡ size w = length-of-width w v in
    let l : length (bytes_of_width w v ++ bytes_of_widths ws vs) ≡ length (bytes_of_width w v) + length (bytes_of_widths ws vs) = length-append (bytes_of_width w v) (bytes_of_widths ws vs) in
    omega arith

-- the bytes of what stands on a record are the record's
next : (s : List ℕ) (at j : ℕ) → j ≡ at + 1 → at < length s → byte s at ∷ drop j s ≡ drop at s
next s at j e h = ap (λ (k : ℕ). byte s at ∷ drop k s) (e ∙ add-one at) ∙ sym (drop-cons s at 0 h)

number_same : (w : Width) (s : List ℕ) (at : ℕ) → AllBytes s → at + size w ≤ length s → bytes_of_width w (number_at w s at) ++ drop (at + size w) s ≡ drop at s
number_same one s at all h = next s at (at + 1) refl (omega arith)
number_same two s at all h =
    ap (λ (l : List ℕ). l ++ drop (at + 2) s) (of_two (byte s at) (byte s (at + 1)) (all at) (all (at + 1)))
    ∙ (ap (λ (l : List ℕ). byte s at ∷ l) (next s (at + 1) (at + 2) (omega arith) (omega arith)) ∙ next s at (at + 1) refl (omega arith))
number_same four s at all h =
    ap (λ (l : List ℕ). l ++ drop (at + 4) s) (of_four (byte s at) (byte s (at + 1)) (byte s (at + 2)) (byte s (at + 2 + 1)) (all at) (all (at + 1)) (all (at + 2)) (all (at + 2 + 1)))
    ∙ (ap (λ (l : List ℕ). byte s at ∷ byte s (at + 1) ∷ byte s (at + 2) ∷ l) (next s (at + 2 + 1) (at + 4) (omega arith) (omega arith))
    ∙ (ap (λ (l : List ℕ). byte s at ∷ byte s (at + 1) ∷ l) (next s (at + 2) (at + 2 + 1) (omega arith) (omega arith))
    ∙ (ap (λ (l : List ℕ). byte s at ∷ l) (next s (at + 1) (at + 2) (omega arith) (omega arith)) ∙ next s at (at + 1) refl (omega arith))))

numbers-same : (ws : List Width) (s : List ℕ) (at : ℕ) → AllBytes s → length s ≡ at + total_width ws → bytes_of_widths ws (numbers_at ws s at) ≡ drop at s
numbers-same [] s at all h = sym (drop_of_length-le s {i = at} (omega arith))
numbers-same (w ∷ ws) s at all h =
    ap (λ (l : List ℕ). bytes_of_width w (number_at w s at) ++ l) (numbers-same ws s (at + size w) all (omega arith)) ∙ number_same w s at all (omega arith)

count-of-numbers : (ws : List Width) (s : List ℕ) (at : ℕ) → length (numbers_at ws s at) ≡ length ws
count-of-numbers [] s at = refl
count-of-numbers (w ∷ ws) s at = let e : length (numbers_at ws s (at + size w)) ≡ length ws = count-of-numbers ws s (at + size w) in omega arith

-- the mark
abbrev MarkFits : Mark → Type 0
MarkFits (marked m) = m < 65536
MarkFits unmarked = Unit

mark-length : (m : Mark) → mark_length m ≡ length (mark_bytes m)
mark-length (marked m) = refl
mark-length unmarked = refl

mark-same : (m : Mark) (s : List ℕ) (qs : List Question) → AllBytes s → mark_length m ≤ length s → AllYes (mark_question m s ++ qs)
    → (mark_bytes m ++ drop (mark_length m) s ≡ s) × AllYes qs
mark-same (marked m) s qs all h y =
    let e : number2 s 0 ≡ m = eqb-true (number2 s 0) m y.0 in
    let front : bytes2 m ≡ byte s 0 ∷ byte s 1 ∷ [] = ap bytes2 (sym e) ∙ of_two (byte s 0) (byte s 1) (all 0) (all 1) in
    let same : mark_bytes (marked m) ++ drop 2 s ≡ s =
    ap (λ (l : List ℕ). l ++ drop 2 s) front ∙ (ap (λ (l : List ℕ). byte s 0 ∷ l) (next s 1 2 refl (omega arith)) ∙ next s 0 1 refl (omega arith)) in
    (same, y.1)
mark-same unmarked s qs all h y = (refl, y)

mark_right : (m : Mark) → MarkFits m → (rest : List ℕ) (qs : List Question) → AllYes qs → AllYes (mark_question m (mark_bytes m ++ rest) ++ qs)
mark_right (marked m) h rest qs y = (eq-eqb (number2 (bytes2 m ++ rest) 0) m (number-of-two m h), y)
mark_right unmarked h rest qs y = y

-- what a record's crate shows of its description
pub record Lawful {S A : Type 0} (c : Codec S A) : Type 0 where
  -- of each form: a mark of two bytes, and listed fields are those of their value
  pub mark_fits : (k : S) → MarkFits (c.form k).mark
  pub fields-of-value : (k : S) (vs : List ℕ) → length vs ≡ length (c.form k).widths → (c.form k).listed vs ≡ true → (c.form k).fields ((c.form k).value vs) ≡ vs
  -- of each value that passes its questions, in its own form
  pub value-of-fields : (a : A) → AllYes ((own_form c a).asked a) → (own_form c a).value ((own_form c a).fields a) ≡ a
  pub all_listed : (a : A) → AllYes ((own_form c a).asked a) → (own_form c a).listed ((own_form c a).fields a) ≡ true
  pub fit : (a : A) → In32Bits (own_form c a).widths ((own_form c a).fields a) → AllYes ((own_form c a).asked a) → Fit (own_form c a).widths ((own_form c a).fields a)
  -- the forms never overlap: bytes of a form are read by that form, and a value read by a form is written in it
  pub told-apart : (k : S) (a : A) → c.form_on (form_bytes (c.form k) a) ≡ k
  pub own : (k : S) (vs : List ℕ) → (c.form k).listed vs ≡ true → AllYes ((c.form k).asked ((c.form k).value vs)) → c.form_of ((c.form k).value vs) ≡ k

-- an answer tells a record from a refusal
told : {A : Type 0} (r : Reply) (x a : A) → answer_by r x ≡ is_record a → (r ≡ accepted) × (x ≡ a)
told {A = A} accepted x a e = (refl, ap (λ (y : Reading A). get_or y.values 0 x) e)
told {A = A} (refused q) x a e = let z : ◌≡◌ {A = ℕ} 0 1 = ap (λ (y : Reading A). length y.values) e in absurd (omega arith)

module _ {S A : Type 0} (c : Codec S A) (law : Lawful c) where
  answer-of : (r : Reply) (a : A) → answer_of (returned c r a) ≡ answer_by r a
  answer-of accepted a = refl
  answer-of (refused q) a = refl

  answered : (s : List ℕ) → answer_of (reads c s) ≡ answer_by (first_no (read_questions c s)) (value_on c s)
  unfolding reads
  answered s = answer-of (first_no (read_questions c s)) (value_on c s)

  -- bytes that one form lets through: they are the bytes of their value in that form, and that form is the value's own
  same_bytes : (k : S) (s : List ℕ) → AllBytes s → AllYes (form_questions (c.form k) s)
      → (form_bytes (c.form k) (value_by (c.form k) s) ≡ s) × (c.form_of (value_by (c.form k) s) ≡ k)
  same_bytes k s all told-all =
      let g : Form A = c.form k in
      let l : length s ≡ form_length g = eqb-true (length s) (form_length g) told-all.0 in
      let marks : (mark_bytes g.mark ++ drop (mark_length g.mark) s ≡ s) × ((g.listed (fields_by g s) ≡ true) × AllYes (g.asked (value_by g s))) =
      mark-same g.mark s _ all (omega arith) told-all.1 in
      let vs : g.fields (value_by g s) ≡ fields_by g s = law.fields-of-value k (fields_by g s) (count-of-numbers g.widths s (mark_length g.mark)) marks.1.0 in
      let body : bytes_of_widths g.widths (g.fields (value_by g s)) ≡ drop (mark_length g.mark) s =
      ap (bytes_of_widths g.widths) vs ∙ numbers-same g.widths s (mark_length g.mark) all l in
      (ap (λ (x : List ℕ). mark_bytes g.mark ++ x) body ∙ marks.0, law.own k (fields_by g s) marks.1.0 marks.1.1)

  writes-back : (s : List ℕ) (a : A) → AllBytes s → reads c s ≡ Ok a → bytes_of c a ≡ s
  unfolding reads
  writes-back s a all q =
      let r : (first_no (read_questions c s) ≡ accepted) × (value_on c s ≡ a) =
      told (first_no (read_questions c s)) (value_on c s) a (sym (answered s) ∙ ap answer_of q) in
      let b = same_bytes (c.form_on s) s all (all_yes (read_questions c s) r.0) in
      ap (bytes_of c) (sym r.1) ∙ (ap (λ (k : S). form_bytes (c.form k) (value_on c s)) b.1 ∙ b.0)

  -- the bytes of a value in its own form pass that form's questions and stand for the value
  same-value : (a : A) → In32Bits (own_form c a).widths ((own_form c a).fields a) → first_no ((own_form c a).asked a) ≡ accepted
      → (first_no (form_questions (own_form c a) (bytes_of c a)) ≡ accepted) × (value_by (own_form c a) (bytes_of c a) ≡ a)
  same-value a h passes =
      let g : Form A = own_form c a in
      let s : List ℕ = bytes_of c a in
      let rest : List ℕ = bytes_of_widths g.widths (g.fields a) in
      let yes : AllYes (g.asked a) = all_yes (g.asked a) passes in
      let fit : Fit g.widths (g.fields a) = law.fit a h yes in
      let vs : fields_by g s ≡ g.fields a = numbers-back g.widths (g.fields a) fit (mark_bytes g.mark) (mark_length g.mark) (mark-length g.mark) in
      let back : value_by g s ≡ a = ap g.value vs ∙ law.value-of-fields a yes in
      let l : length rest ≡ total_width g.widths = length-of-widths g.widths (g.fields a) fit in
      let m : mark_length g.mark ≡ length (mark_bytes g.mark) = mark-length g.mark in
      let whole : length (mark_bytes g.mark ++ rest) ≡ length (mark_bytes g.mark) + length rest = length-append (mark_bytes g.mark) rest in
      let lengths : eqb (length s) (form_length g) ≡ true = eq-eqb (length s) (form_length g) (omega arith) in
      let lists : g.listed (fields_by g s) ≡ true = ap g.listed vs ∙ law.all_listed a yes in
      let about : AllYes (g.asked (value_by g s)) = subst (λ (x : A). AllYes (g.asked x)) (sym back) yes in
      (yes-all (form_questions g s) (lengths, mark_right g.mark (law.mark_fits (c.form_of a)) rest _ (lists, about)), back)

  reads-back : (a : A) → In32Bits (own_form c a).widths ((own_form c a).fields a) → first_no ((own_form c a).asked a) ≡ accepted → reads c (bytes_of c a) ≡ Ok a
  unfolding reads
  reads-back a h passes =
      let b = same-value a h passes in
      ap (λ (k : S). returned c (first_no (form_questions (c.form k) (bytes_of c a))) (value_by (c.form k) (bytes_of c a))) (law.told-apart (c.form_of a) a)
      ∙ (ap (λ (r : Reply). returned c r (value_by (own_form c a) (bytes_of c a))) b.0 ∙ ap Ok b.1)

  -- bytes of a form are read by it, whichever it is
  form-told : (k : S) (s : List ℕ) → AllBytes s → first_no (form_questions (c.form k) s) ≡ accepted → c.form_on s ≡ k
  form-told k s all p =
      ap c.form_on (sym (same_bytes k s all (all_yes (form_questions (c.form k) s) p)).0) ∙ law.told-apart k (value_by (c.form k) s)

  forms-read : (k : S) (s : List ℕ) → AllBytes s → first_no (form_questions (c.form k) s) ≡ accepted → reads c s ≡ Ok (value_by (c.form k) s)
  unfolding reads
  forms-read k s all p =
      ap (λ (x : S). returned c (first_no (form_questions (c.form x) s)) (value_by (c.form x) s)) (form-told k s all p) ∙ ap (λ (r : Reply). returned c r (value_by (c.form k) s)) p

  one_form : (k k' : S) (s : List ℕ) → AllBytes s → first_no (form_questions (c.form k) s) ≡ accepted → first_no (form_questions (c.form k') s) ≡ accepted → k ≡ k'
  one_form k k' s all p q = sym (form-told k s all p) ∙ form-told k' s all q

  untouched : (out : List ℕ) (a : A) (q : ℕ) → write_reply c out a ≡ refused q → writes c out a ≡ out
  unfolding writes
  untouched out a q e = ap (λ (r : Reply). written c r a out) e

  pub promises-kept : Promises c
  promises-kept = record { answered = answered; reads-back = reads-back; writes-back = writes-back; forms-read = forms-read; one_form = one_form; untouched = untouched }
