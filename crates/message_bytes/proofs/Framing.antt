-- What the code answers in a form, as the description says it.
use Prim.Native.Nat.{ℕ, ◌+◌, ◌≤◌}
use mathlib.Core.Path.{◌≡◌, refl, sym, ◌∙◌, ap, subst}
use mathlib.Core.List.{List, ◌∷◌, ◌++◌}
use native.Mathlib.Omega.{arith}
use Rattle.std.proofs.Common.{length-append}
use lib.ListN.{length}
use Rattle.model.specs.Questions.{Reply, first_no}
use Rattle.model.specs.declared.Telegram.{Telegram}
use Rattle.records.specs.Bytes.{bytes2, bytes4, bytes_of_width}
use Rattle.records.specs.Codec.{form_length, fields_by, write_reply, writes}
use Rattle.records.specs.Frames.{frame_questions, PutUnless}
use Rattle.records.proofs.FrameLaws.{record-written}
use Rattle.message_record.specs.declared.BallotFields.{BallotFields}
use Rattle.message_record.specs.declared.Fields.{Fields}
use Rattle.message_record.specs.declared.MessageBody.{MessageBody}
use Rattle.message_record.specs.declared.MessageBody.TheVariants.{Votes, Ballot}
use Rattle.message_record.specs.declared.MessageWidth.{MessageWidth}
use Rattle.message_record.specs.declared.MessageWidth.TheVariants.{Short, Long}
use Rattle.message_record.specs.declared.TelegramForm.{TelegramForm}
use Rattle.message_record.specs.Telegrams.{formed, mark_of, set_width, more_numbers, no_more, fields_in, more_at, fields_of, asked_in, telegram_form, form_of, telegrams, bytes_in}

-- questions 1 and 2 by the length and the mark of a form are that form's
pub framed : (k : TelegramForm) (s : List ℕ) (size mark : ℕ) (q : Reply) → size ≡ form_length (telegram_form k) → mark ≡ mark_of k.width → q ≡ first_no (frame_questions size mark s)
    → q ≡ first_no (frame_questions (form_length (telegram_form k)) (mark_of k.width) s)
framed k s size mark q a b e = e ∙ (λ i. first_no (frame_questions (a i) (b i) s))

-- a record of any form has the bytes before its vote set
head-there : (w : MessageWidth) (b : MessageBody) (s : List ℕ) → length s ≡ form_length (telegram_form (formed w b)) → 12 ≤ length s
head-there Short Votes s e = omega arith
head-there Short Ballot s e = omega arith
head-there Long Votes s e = omega arith
head-there Long Ballot s e = omega arith

pub enough : (k : TelegramForm) (s : List ℕ) → length s ≡ form_length (telegram_form k) → 12 ≤ length s
enough k s e = head-there k.width k.body s e

-- the four bytes more of a form: none, or those after its vote set
more-after : (w : MessageWidth) (s : List ℕ) → more_at s (form_length (telegram_form (formed w Votes))) ≡ (fields_in (fields_by (telegram_form (formed w Ballot)) s)).more
unfolding fields_in
more-after Short s = refl
more-after Long s = refl

pub none-there : (w : MessageWidth) (b : MessageBody) (s : List ℕ) (r : BallotFields) → b ≡ Votes → r ≡ no_more → r ≡ (fields_in (fields_by (telegram_form (formed w b)) s)).more
unfolding fields_in
none-there w b s r e n = n ∙ ap (λ (y : MessageBody). (fields_in (fields_by (telegram_form (formed w y)) s)).more) (sym e)

pub four-there : (w : MessageWidth) (b : MessageBody) (s : List ℕ) (r : BallotFields) (at : ℕ) → b ≡ Ballot → at ≡ form_length (telegram_form (formed w Votes)) → r ≡ more_at s at
    → r ≡ (fields_in (fields_by (telegram_form (formed w b)) s)).more
four-there w b s r at e l n =
    n ∙ (ap (more_at s) l ∙ (more-after w s ∙ ap (λ (y : MessageBody). (fields_in (fields_by (telegram_form (formed w y)) s)).more) (sym e)))

length_in : (w : MessageWidth) (b : MessageBody) (x : Fields) → length (bytes_in (formed w b) x) ≡ form_length (telegram_form (formed w b))
length_in Short Votes x = refl
length_in Short Ballot x = refl
length_in Long Votes x = refl
length_in Long Ballot x = refl

-- a buffer after a content is one after the bytes that the content is
pub content-is : (out after x y : List ℕ) (q r : Reply) → x ≡ y → PutUnless x q out after r → PutUnless y q out after r
content-is out after x y q r e put = subst (λ (z : List ℕ). PutUnless z q out after r) e put

-- so where the body is known, and where the width is
pub in_body : (body known : MessageBody) (head sets : List ℕ) (x : BallotFields) (out after : List ℕ) (q r : Reply) → body ≡ known
    → PutUnless (head ++ (sets ++ more_numbers known x)) q out after r → PutUnless (head ++ (sets ++ more_numbers body x)) q out after r
in_body body known head sets x out after q r e put =
    content-is out after _ _ q r (ap (λ (y : MessageBody). head ++ (sets ++ more_numbers y x)) (sym e)) put

whole : (w : MessageWidth) (b : MessageBody) (x : Fields)
    → (bytes2 (mark_of w) ++ (x.kind ∷ x.n ∷ x.f ∷ x.from ∷ x.to ∷ x.spare ∷ bytes4 x.order)) ++ ((bytes_of_width (set_width w) x.votes.known ++ bytes_of_width (set_width w) x.votes.willing) ++ more_numbers b x.more)
    ≡ bytes_in (formed w b) x
whole Short Votes x = refl
whole Short Ballot x = refl
whole Long Votes x = refl
whole Long Ballot x = refl

pub in_form : (k : TelegramForm) (w : MessageWidth) (x : Fields) (head sets : List ℕ) (mark : ℕ) (out after : List ℕ) (q r : Reply) → k.width ≡ w → mark ≡ mark_of k.width
    → head ≡ bytes2 mark ++ (x.kind ∷ x.n ∷ x.f ∷ x.from ∷ x.to ∷ x.spare ∷ bytes4 x.order)
    → sets ≡ bytes_of_width (set_width w) x.votes.known ++ bytes_of_width (set_width w) x.votes.willing
    → PutUnless (head ++ (sets ++ more_numbers k.body x.more)) q out after r → PutUnless (bytes_in k x) q out after r
in_form k w x head sets mark out after q r e m h t put =
    let heads : head ≡ bytes2 (mark_of w) ++ (x.kind ∷ x.n ∷ x.f ∷ x.from ∷ x.to ∷ x.spare ∷ bytes4 x.order) =
    h ∙ ap (λ (y : ℕ). bytes2 y ++ (x.kind ∷ x.n ∷ x.f ∷ x.from ∷ x.to ∷ x.spare ∷ bytes4 x.order)) (m ∙ ap mark_of e) in
    content-is out after _ _ q r
    ((λ i. heads i ++ (t i ++ more_numbers k.body x.more)) ∙ (whole w k.body x ∙ ap (λ (y : MessageWidth). bytes_in (formed y k.body) x) (sym e))) put

-- what was put into a buffer as the bytes of a telegram's own form is what the description writes
pub written_in : (k : TelegramForm) (x : Fields) (t : Telegram) (out after : List ℕ) (q r : Reply) → k ≡ form_of t → x ≡ fields_of t → q ≡ first_no (asked_in k.width t)
    → PutUnless (bytes_in k x) q out after r → (r ≡ write_reply telegrams out t) × (after ≡ writes telegrams out t)
written_in k x t out after q r own same asked put =
    record-written telegrams t out (bytes_in k x) (λ i. bytes_in (own i) (same i)) (length_in (form_of t).width (form_of t).body (fields_of t))
    (asked ∙ ap (λ (y : TelegramForm). first_no (asked_in y.width t)) own) put
