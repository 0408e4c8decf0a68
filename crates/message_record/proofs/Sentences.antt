-- Document 02, U12 and U14, of telegrams: their sentences hold.
use Prim.Native.Nat.{ℕ, ◌≤◌, ◌<◌}
use mathlib.Core.Path.{◌≡◌, refl, sym, ◌∙◌, ap}
use mathlib.Core.Bool.{Bool, true, false, not, ◌&&◌, false≢true, and-false}
use mathlib.Core.List.{List, [], ◌∷◌}
use mathlib.Core.Logic.{◌⊎◌, inl, inr}
use native.Mathlib.Omega.{arith}
use borrow.Author.Tests.{eq-eqb, ne_eqb, eqb-true, eqb-false, le-leb, lt-leb, le-ltb, leb-true, ltb-true}
use lib.Dec.{eqb, leb, ltb}
use lib.ListN.{length}
use Rattle.ground.specs.Limit.{limit}
use Rattle.ground.specs.Tests.{split, and_l, and_r, and_i}
use Rattle.model.specs.Numbers.{is_none}
use Rattle.model.specs.Questions.{Reply, accepted, refused, number, is_accepted, Question, ask, unless, first_no}
use Rattle.model.specs.QuestionLaws.{all_yes, yes-all}
use Rattle.model.specs.Ranges.{sizes_in_range, different_controllers, is_ballot}
use Rattle.model.specs.Routes.{route}
use Rattle.model.specs.declared.BallotKind.{BallotKind}
use Rattle.model.specs.declared.BallotKind.TheVariants.{Prepare, Promise, Accept, Accepted}
use Rattle.model.specs.declared.BallotMessage.{BallotMessage}
use Rattle.model.specs.declared.Message.{Message}
use Rattle.model.specs.declared.Outcome.{Outcome}
use Rattle.model.specs.declared.Outcome.TheVariants.{None, Stay, Move}
use Rattle.model.specs.declared.Telegram.{Telegram}
use Rattle.model.specs.declared.Telegram.TheVariants.{Plain, OfBallot}
use Rattle.records.specs.Bytes.{byte, number2}
use Rattle.records.specs.Codec.{form_length, fields_by, value_by, form_bytes, form_questions, answer_of, bytes_of, returned, reads, write_reply}
use Rattle.records.specs.Codes.{is_kind, is_ballot_kind, is_outcome, unused}
use Rattle.message_record.specs.declared.MessageBody.{MessageBody}
use Rattle.message_record.specs.declared.MessageBody.TheVariants.{Votes, Ballot}
use Rattle.message_record.specs.declared.MessageWidth.{MessageWidth}
use Rattle.message_record.specs.declared.MessageWidth.TheVariants.{Short, Long}
use Rattle.std.specs.Prelude.{Result, Err}
use Rattle.message_record.specs.declared.TelegramForm.{TelegramForm}
use Rattle.message_record.specs.Messages.{suits, about_message}
use Rattle.message_record.specs.BallotMessages.{tells_nothing, tells_word, reports_last, tells_for_kind, ballot_suits, about_ballot}
use Rattle.message_record.specs.Telegrams.{formed, short_limit, width_for, suits_width, mark_of, fields_in, fields_of, telegram_of, listed_in, asked_in, telegram_form, form_of_twenty, form_for, form_of, telegrams}
use Rattle.message_record.specs.OldCabinets.{as_now, old_sizes, old_form, old_messages}
use Rattle.message_record.specs.Forms.{Suited, Forms}

-- in which form a telegram is written
short-up-to_16 : (n : ℕ) → n ≤ 16 → width_for n ≡ Short
unfolding width_for
short-up-to_16 n h = rw (le-leb n short_limit h)

long-from_17 : (n : ℕ) → 17 ≤ n → width_for n ≡ Long
unfolding width_for
long-from_17 n h = rw (lt-leb n short_limit (omega arith))

-- the bytes of a telegram in a width are its bytes where its n calls for that width
plain-bytes : (m : Message) (w : MessageWidth) → width_for m.n ≡ w → bytes_of telegrams (Plain m) ≡ form_bytes (telegram_form (formed w Votes)) (Plain m)
unfolding form_of
plain-bytes m w e = ap (λ (x : MessageWidth). form_bytes (telegram_form (formed x Votes)) (Plain m)) e

ballot-bytes : (b : BallotMessage) (w : MessageWidth) → width_for b.n ≡ w → bytes_of telegrams (OfBallot b) ≡ form_bytes (telegram_form (formed w Ballot)) (OfBallot b)
unfolding form_of
ballot-bytes b w e = ap (λ (x : MessageWidth). form_bytes (telegram_form (formed x Ballot)) (OfBallot b)) e

remains : (m : Message) → m.n ≤ 16 → bytes_of telegrams (Plain m) ≡ bytes_of old_messages m
unfolding fields_of
remains m h = plain-bytes m Short (short-up-to_16 m.n h)

-- question 4 of the short form, asked in two parts, is document 01's
old-sizes : (n f : ℕ) → old_sizes n f ≡ leb n 16 && sizes_in_range n f
unfolding old_sizes sizes_in_range
old-sizes n f = elim (split (leb n 16)) [
  | inl y ↦ let h : n ≤ 16 = leb-true n 16 y in rw (y, le-leb n limit (omega arith))
  | inr z ↦ elim (split (leb 2 n)) [ inl a ↦ rw (z, a) | inr b ↦ rw (z, b) ]
]

same-four : (a b : Bool) (qs : List Question) → first_no (ask 4 a ∷ ask 4 b ∷ qs) ≡ first_no (ask 4 (a && b) ∷ qs)
unfolding first_no unless
same-four true b qs = refl
same-four false b qs = refl

-- the questions after 4
others : Message → List Question
others m = ask 7 (different_controllers m.n m.from m.to) ∷ ask 8 (leb 1 m.order) ∷ ask 9 (suits m) ∷ ask 10 (route m.f m.kind m.from m.to) ∷ []

old-asked : (m : Message) → first_no (asked_in Short (Plain m)) ≡ first_no (old_form.asked m)
unfolding suits_width about_message others
old-asked m = same-four (leb m.n 16) (sizes_in_range m.n m.f) (others m) ∙ ap (λ (t : Bool). first_no (ask 4 t ∷ others m)) (sym (old-sizes m.n m.f))

remains-answered : (out : List ℕ) (m : Message) → m.n ≤ 16 → write_reply telegrams out (Plain m) ≡ write_reply old_messages out m
unfolding write_reply first_no form_of
remains-answered out m h =
    ap (λ (w : MessageWidth). unless 1 (eqb (length out) (form_length (telegram_form (formed w Votes)))) (first_no (asked_in w (Plain m)))) (short-up-to_16 m.n h)
    ∙ ap (unless 1 (eqb (length out) 16)) (old-asked m)

-- reading by the form that length and mark say
read_by : (k : TelegramForm) (s : List ℕ) → form_for (length s) (number2 s 0) ≡ k
    → reads telegrams s ≡ returned telegrams (first_no (form_questions (telegram_form k) s)) (value_by (telegram_form k) s)
unfolding reads
read_by k s e = ap (λ (x : TelegramForm). returned telegrams (first_no (form_questions (telegram_form x) s)) (value_by (telegram_form x) s)) e

other_length : (s : List ℕ) → (length s ≡ 20 → ⊥) → (length s ≡ 24 → ⊥) → form_for (length s) (number2 s 0) ≡ formed Short Votes
unfolding form_for
other_length s a b = rw (ne_eqb (length s) 24 b, ne_eqb (length s) 20 a)

by_16 : (s : List ℕ) → length s ≡ 16 → form_for (length s) (number2 s 0) ≡ formed Short Votes
by_16 s l = other_length s (λ z. omega arith) (λ z. omega arith)

by_24 : (s : List ℕ) → length s ≡ 24 → form_for (length s) (number2 s 0) ≡ formed Long Ballot
unfolding form_for
by_24 s l = rw (eq-eqb (length s) 24 l)

twenty : (s : List ℕ) → length s ≡ 20 → form_for (length s) (number2 s 0) ≡ form_of_twenty (number2 s 0)
unfolding form_for
twenty s l = rw (ne_eqb (length s) 24 (λ z. omega arith), eq-eqb (length s) 20 l)

by-short_20 : (s : List ℕ) → length s ≡ 20 → number2 s 0 ≡ 0x4C4B → form_for (length s) (number2 s 0) ≡ formed Short Ballot
unfolding form_of_twenty
by-short_20 s l m = twenty s l ∙ rw (eq-eqb (number2 s 0) 0x4C4B m)

by-long_20 : (s : List ℕ) → length s ≡ 20 → (number2 s 0 ≡ 0x4C4B → ⊥) → form_for (length s) (number2 s 0) ≡ formed Long Votes
unfolding form_of_twenty
by-long_20 s l m = twenty s l ∙ rw (ne_eqb (number2 s 0) 0x4C4B m)

same-questions : (s : List ℕ) → first_no (form_questions (telegram_form (formed Short Votes)) s) ≡ first_no (form_questions old_form s)
unfolding first_no fields_in telegram_of listed_in
same-questions s =
    ap (λ (r : Reply). unless 1 (eqb (length s) 16) (unless 2 (eqb (number2 s 0) 0x4C4B) (unless 3 (old_form.listed (fields_by old_form s)) r))) (old-asked (value_by old_form s))

same-returned : (r : Reply) (m : Message) → returned telegrams r (Plain m) ≡ as_now (returned old_messages r m)
same-returned accepted m = refl
same-returned (refused q) m = refl

remains-read : (s : List ℕ) → (length s ≡ 20 → ⊥) → (length s ≡ 24 → ⊥) → reads telegrams s ≡ as_now (reads old_messages s)
unfolding reads fields_in telegram_of
remains-read s a b =
    read_by (formed Short Votes) s (other_length s a b)
    ∙ (ap (λ (r : Reply). returned telegrams r (Plain (value_by old_form s))) (same-questions s) ∙ same-returned (first_no (form_questions old_form s)) (value_by old_form s))

-- a buffer of another length
other-buffer : (out : List ℕ) (t : Telegram) (k : TelegramForm) → form_of t ≡ k → (length out ≡ form_length (telegram_form k) → ⊥) → write_reply telegrams out t ≡ refused 1
unfolding write_reply first_no unless
other-buffer out t k e h = rw (e, ne_eqb (length out) (form_length (telegram_form k)) h)

plain_form : (m : Message) (w : MessageWidth) → width_for m.n ≡ w → form_of (Plain m) ≡ formed w Votes
unfolding form_of
plain_form m w e = ap (λ (x : MessageWidth). formed x Votes) e

ballot-form : (b : BallotMessage) (w : MessageWidth) → width_for b.n ≡ w → form_of (OfBallot b) ≡ formed w Ballot
unfolding form_of
ballot-form b w e = ap (λ (x : MessageWidth). formed x Ballot) e

-- no question but the first has the number 1, and none but the first two has 2
above : ℕ → List Question → Bool
above k [] = true
above k (q ∷ qs) = ltb k q.number && above k qs

not-below : (k : ℕ) (qs : List Question) → above k qs ≡ true → first_no qs ≡ refused k → ⊥
unfolding first_no unless above
not-below k [] t e = false≢true (sym (ap is_accepted e))
not-below k (q ∷ qs) t e = elim (split q.yes) [
  | inl y ↦ not-below k qs (and_r (ltb k q.number) (above k qs) t) (rw y at e)
  | inr y ↦ let l : k < q.number = ltb-true k q.number (and_l (ltb k q.number) (above k qs) t) in let z : q.number ≡ k = ap number (rw y at e) in absurd (omega arith)
]

-- a reader's refusal is one of the questions
told : (r : Reply) (t : Telegram) (k : ℕ) → (k ≡ 0 → ⊥) → returned telegrams r t ≡ Err k → r ≡ refused k
told accepted t k n e = absurd (n (sym (ap (λ (x : Result Telegram ℕ). (answer_of x).number) e)))
told (refused q) t k n e = ap refused (ap (λ (x : Result Telegram ℕ). (answer_of x).number) e)

-- the questions from 3 on
later : TelegramForm → List ℕ → List Question
later k s = ask 3 ((telegram_form k).listed (fields_by (telegram_form k) s)) ∷ asked_in k.width (value_by (telegram_form k) s)

later-above_2 : (w : MessageWidth) (b : MessageBody) (s : List ℕ) → above 2 (later (formed w b) s) ≡ true
unfolding later above about_message about_ballot telegram_of
later-above_2 w Votes s = refl
later-above_2 w Ballot s = refl

later-above_1 : (w : MessageWidth) (b : MessageBody) (s : List ℕ) → above 1 (later (formed w b) s) ≡ true
unfolding later above about_message about_ballot telegram_of
later-above_1 w Votes s = refl
later-above_1 w Ballot s = refl

admitted : (w : MessageWidth) (b : MessageBody) (s : List ℕ) → form_for (length s) (number2 s 0) ≡ formed w b → length s ≡ form_length (telegram_form (formed w b)) → reads telegrams s ≡ Err 1 → ⊥
unfolding first_no unless later above
admitted w b s e l one =
    let asked : first_no (form_questions (telegram_form (formed w b)) s) ≡ refused 1 = told _ _ 1 (λ z. omega arith) (sym (read_by (formed w b) s e) ∙ one) in
    let yes : eqb (length s) (form_length (telegram_form (formed w b))) ≡ true = eq-eqb _ _ l in
    not-below 1 (ask 2 (eqb (number2 s 0) (mark_of w)) ∷ later (formed w b) s) (later-above_1 w b s) (rw yes at asked)

mark_admitted : (w : MessageWidth) (b : MessageBody) (s : List ℕ) → form_for (length s) (number2 s 0) ≡ formed w b → length s ≡ form_length (telegram_form (formed w b)) → number2 s 0 ≡ mark_of w
    → reads telegrams s ≡ Err 2 → ⊥
unfolding first_no unless later
mark_admitted w b s e l m two =
    let asked : first_no (form_questions (telegram_form (formed w b)) s) ≡ refused 2 = told _ _ 2 (λ z. omega arith) (sym (read_by (formed w b) s e) ∙ two) in
    let long : eqb (length s) (form_length (telegram_form (formed w b))) ≡ true = eq-eqb _ _ l in
    let right : eqb (number2 s 0) (mark_of w) ≡ true = eq-eqb _ _ m in
    not-below 2 (later (formed w b) s) (later-above_2 w b s) (rw right at (rw long at asked))

admits_20 : (s : List ℕ) → length s ≡ 20 → reads telegrams s ≡ Err 1 → ⊥
admits_20 s l = elim (split (eqb (number2 s 0) 0x4C4B)) [
  | inl y ↦ admitted Short Ballot s (by-short_20 s l (eqb-true (number2 s 0) 0x4C4B y)) l
  | inr n ↦ admitted Long Votes s (by-long_20 s l (eqb-false (number2 s 0) 0x4C4B n)) l
]

either-mark : (s : List ℕ) → length s ≡ 20 → (number2 s 0 ≡ 0x4C4B) ⊎ (number2 s 0 ≡ 0x4C4C) → reads telegrams s ≡ Err 2 → ⊥
either-mark s l (inl m) = mark_admitted Short Ballot s (by-short_20 s l m) l m
either-mark s l (inr m) = mark_admitted Long Votes s (by-long_20 s l (λ z. omega arith)) l m

no_other : (s : List ℕ) → (length s ≡ 16 → ⊥) → (length s ≡ 20 → ⊥) → (length s ≡ 24 → ⊥) → reads telegrams s ≡ Err 1
unfolding first_no unless
no_other s a b c = read_by (formed Short Votes) s (other_length s b c) ∙ rw (ne_eqb (length s) 16 a)

-- what a form answers to bytes of its length: to another mark, to fields that are not listed, to another n
wrong-mark : (w : MessageWidth) (b : MessageBody) (s : List ℕ) → form_for (length s) (number2 s 0) ≡ formed w b → length s ≡ form_length (telegram_form (formed w b)) → (number2 s 0 ≡ mark_of w → ⊥)
    → reads telegrams s ≡ Err 2
unfolding first_no unless
wrong-mark w b s e l m = read_by (formed w b) s e ∙ rw (eq-eqb (length s) (form_length (telegram_form (formed w b))) l, ne_eqb (number2 s 0) (mark_of w) m)

not_listed : (w : MessageWidth) (b : MessageBody) (s : List ℕ) → form_for (length s) (number2 s 0) ≡ formed w b → length s ≡ form_length (telegram_form (formed w b)) → number2 s 0 ≡ mark_of w
    → listed_in b (fields_in (fields_by (telegram_form (formed w b)) s)) ≡ false → reads telegrams s ≡ Err 3
unfolding first_no unless
not_listed w b s e l m n =
    read_by (formed w b) s e ∙ rw (eq-eqb (length s) (form_length (telegram_form (formed w b))) l, eq-eqb (number2 s 0) (mark_of w) m, n)

size-refused : (w : MessageWidth) (b : MessageBody) (s : List ℕ) → length s ≡ form_length (telegram_form (formed w b)) → number2 s 0 ≡ mark_of w
    → listed_in b (fields_in (fields_by (telegram_form (formed w b)) s)) ≡ true → suits_width w (byte s 3) ≡ false
    → returned telegrams (first_no (form_questions (telegram_form (formed w b)) s)) (value_by (telegram_form (formed w b)) s) ≡ Err 4
unfolding first_no unless fields_in telegram_of
size-refused w Votes s l m y n = rw (eq-eqb (length s) (form_length (telegram_form (formed w Votes))) l, eq-eqb (number2 s 0) (mark_of w) m, y, n)
size-refused w Ballot s l m y n = rw (eq-eqb (length s) (form_length (telegram_form (formed w Ballot))) l, eq-eqb (number2 s 0) (mark_of w) m, y, n)

wrong_size : (w : MessageWidth) (b : MessageBody) (s : List ℕ) → form_for (length s) (number2 s 0) ≡ formed w b → length s ≡ form_length (telegram_form (formed w b)) → number2 s 0 ≡ mark_of w
    → listed_in b (fields_in (fields_by (telegram_form (formed w b)) s)) ≡ true → suits_width w (byte s 3) ≡ false → reads telegrams s ≡ Err 4
wrong_size w b s e l m y n = read_by (formed w b) s e ∙ size-refused w b s l m y n

-- listed or not, by the bytes
votes_unlisted : (w : MessageWidth) (s : List ℕ) → is_kind (byte s 2) ≡ false → listed_in Votes (fields_in (fields_by (telegram_form (formed w Votes)) s)) ≡ false
unfolding listed_in fields_in
votes_unlisted w s k = rw k

votes-listed : (w : MessageWidth) (s : List ℕ) → is_kind (byte s 2) ≡ true → byte s 7 ≡ 0 → listed_in Votes (fields_in (fields_by (telegram_form (formed w Votes)) s)) ≡ true
unfolding listed_in fields_in
votes-listed w s k z = rw (k, z)

ballot_unlisted : (w : MessageWidth) (s : List ℕ) → is_ballot_kind (byte s 2) ≡ false → listed_in Ballot (fields_in (fields_by (telegram_form (formed w Ballot)) s)) ≡ false
unfolding listed_in fields_in
ballot_unlisted w s k = rw k

-- of the word and the last byte, by the bytes where they stand
last-false : (a b c d : Bool) → c ≡ false → (a && b && (c && d)) ≡ false
last-false a b c d e = rw e (and-false (a && b))

short-word : (s : List ℕ) → 3 ≤ byte s 18 → listed_in Ballot (fields_in (fields_by (telegram_form (formed Short Ballot)) s)) ≡ false
unfolding listed_in fields_in
short-word s h = last-false (is_ballot_kind (byte s 2)) (unused (byte s 7)) (is_outcome (byte s 18)) (unused (byte s 19)) (lt-leb (byte s 18) 2 (omega arith))

long-word : (s : List ℕ) → 3 ≤ byte s 22 → listed_in Ballot (fields_in (fields_by (telegram_form (formed Long Ballot)) s)) ≡ false
unfolding listed_in fields_in
long-word s h = last-false (is_ballot_kind (byte s 2)) (unused (byte s 7)) (is_outcome (byte s 22)) (unused (byte s 23)) (lt-leb (byte s 22) 2 (omega arith))

short-listed : (s : List ℕ) → is_ballot_kind (byte s 2) ≡ true → byte s 7 ≡ 0 → byte s 18 ≤ 2 → byte s 19 ≡ 0 → listed_in Ballot (fields_in (fields_by (telegram_form (formed Short Ballot)) s)) ≡ true
unfolding listed_in fields_in
short-listed s k z o y = rw (k, z, le-leb (byte s 18) 2 o, y)

long-listed : (s : List ℕ) → is_ballot_kind (byte s 2) ≡ true → byte s 7 ≡ 0 → byte s 22 ≤ 2 → byte s 23 ≡ 0 → listed_in Ballot (fields_in (fields_by (telegram_form (formed Long Ballot)) s)) ≡ true
unfolding listed_in fields_in
long-listed s k z o y = rw (k, z, le-leb (byte s 22) 2 o, y)

-- 4C 4C is not 4C 4B
not_short : (s : List ℕ) → number2 s 0 ≡ 0x4C4C → number2 s 0 ≡ 0x4C4B → ⊥
not_short s m z = omega arith

too_wide : (n : ℕ) → 17 ≤ n → suits_width Short n ≡ false
unfolding suits_width
too_wide n h = lt-leb n short_limit (omega arith)

too_small : (n : ℕ) → n ≤ 16 → suits_width Long n ≡ false
unfolding suits_width
too_small n h = le-ltb short_limit n h

-- what kinds 5 to 8 tell
none : (o : Outcome) → is_none o ≡ true → o ≡ None
none None t = refl
none Stay t = absurd (false≢true t)
none Move t = absurd (false≢true t)

some : (o : Outcome) → not (is_none o) ≡ true → o ≡ None → ⊥
some o t e = false≢true (sym (ap (λ (x : Outcome). not (is_none x)) e) ∙ t)

some_back : (o : Outcome) → (o ≡ None → ⊥) → not (is_none o) ≡ true
some_back None n = absurd (n refl)
some_back Stay n = refl
some_back Move n = refl

tells : (b : BallotMessage) → ballot_suits b ≡ true → (b.votes.known ≡ 0) × ((b.votes.willing ≡ 0) × (tells_for_kind b.kind b.ballot b.last b.word ≡ true))
unfolding ballot_suits
tells b t =
    let known : ℕ = b.votes.known in
    let willing : ℕ = b.votes.willing in
    let rest = tells_for_kind b.kind b.ballot b.last b.word in
    let both : (eqb known 0 && eqb willing 0) ≡ true = and_l (eqb known 0 && eqb willing 0) rest t in
    (eqb-true known 0 (and_l (eqb known 0) (eqb willing 0) both), (eqb-true willing 0 (and_r (eqb known 0) (eqb willing 0) both), and_r (eqb known 0 && eqb willing 0) rest t))

nothing-told : (last : ℕ) (word : Outcome) → tells_nothing last word ≡ true → (last ≡ 0) × (word ≡ None)
unfolding tells_nothing
nothing-told last word t = (eqb-true last 0 (and_l (eqb last 0) (is_none word) t), none word (and_r (eqb last 0) (is_none word) t))

word-told : (last : ℕ) (word : Outcome) → tells_word last word ≡ true → (last ≡ 0) × (word ≡ None → ⊥)
unfolding tells_word
word-told last word t = (eqb-true last 0 (and_l (eqb last 0) (not (is_none word)) t), some word (and_r (eqb last 0) (not (is_none word)) t))

Reported : ℕ → ℕ → Outcome → Type 0
Reported ballot last word = ((last ≡ 0) × (word ≡ None)) ⊎ ((last ≡ 0 → ⊥) × ((word ≡ None → ⊥) × (last ≤ ballot)))

reported : (ballot last : ℕ) (word : Outcome) → reports_last ballot last word ≡ true → Reported ballot last word
unfolding reports_last Reported
reported ballot last word t = elim (split (eqb last 0)) [
  | inl y ↦ inl (eqb-true last 0 y, none word (rw y at t))
  | inr n ↦ let both : (not (is_none word) && leb last ballot) ≡ true = rw n at t in
      inr (eqb-false last 0 n, (some word (and_l (not (is_none word)) (leb last ballot) both), leb-true last ballot (and_r (not (is_none word)) (leb last ballot) both)))
]

reported-back : (ballot last : ℕ) (word : Outcome) → Reported ballot last word → reports_last ballot last word ≡ true
unfolding reports_last Reported
reported-back ballot last word (inl e) = rw (e.0, e.1)
reported-back ballot last word (inr e) = rw (ne_eqb last 0 e.0, some_back word e.1.0, le-leb last ballot e.1.1)

suited : (b : BallotMessage) → first_no (about_ballot b) ≡ accepted → Suited b
unfolding about_ballot is_ballot tells_for_kind Reported
suited b p =
    let all = all_yes (about_ballot b) p in
    let t = tells b all.1.1.1.0 in
    let of : (k : BallotKind) → b.kind ≡ k → tells_for_kind k b.ballot b.last b.word ≡ true =
    λ k e. ap (λ (x : BallotKind). tells_for_kind x b.ballot b.last b.word) (sym e) ∙ t.1.1 in
    record {
      known-empty = t.0;
      willing-empty = t.1.0;
      ask = λ e. nothing-told b.last b.word (of Prepare e);
      put = λ e. word-told b.last b.word (of Accept e);
      taken = λ e. word-told b.last b.word (of Accepted e);
      promise = λ e. reported b.ballot b.last b.word (of Promise e);
      low = leb-true 1 b.ballot (and_l (leb 1 b.ballot) (leb b.ballot 255) all.1.1.1.1.0);
      high = leb-true b.ballot 255 (and_r (leb 1 b.ballot) (leb b.ballot 255) all.1.1.1.1.0);
    }

tells-back : (k : BallotKind) (b : BallotMessage) → b.kind ≡ k → Suited b → tells_for_kind k b.ballot b.last b.word ≡ true
unfolding tells_for_kind tells_nothing tells_word Reported
tells-back Prepare b e s = rw ((s.ask e).0, (s.ask e).1)
tells-back Promise b e s = reported-back b.ballot b.last b.word (s.promise e)
tells-back Accept b e s = rw ((s.put e).0, some_back b.word (s.put e).1)
tells-back Accepted b e s = rw ((s.taken e).0, some_back b.word (s.taken e).1)

suits-back : (b : BallotMessage) → Suited b → ballot_suits b ≡ true
unfolding ballot_suits
suits-back b s =
    and_i (eqb b.votes.known 0 && eqb b.votes.willing 0) (tells_for_kind b.kind b.ballot b.last b.word)
    (and_i (eqb b.votes.known 0) (eqb b.votes.willing 0) (eq-eqb b.votes.known 0 s.known-empty) (eq-eqb b.votes.willing 0 s.willing-empty)) (tells-back b.kind b refl s)

between-any-two : (b : BallotMessage) → sizes_in_range b.n b.f ≡ true → different_controllers b.n b.from b.to ≡ true → 1 ≤ b.order → Suited b → first_no (about_ballot b) ≡ accepted
unfolding about_ballot is_ballot
between-any-two b four seven eight s =
    yes-all (about_ballot b) (
      four,
      (
        seven,
        (
          le-leb 1 b.order eight,
          (suits-back b s, (and_i (leb 1 b.ballot) (leb b.ballot 255) (le-leb 1 b.ballot s.low) (le-leb b.ballot 255 s.high), tt)),
        ),
      ),
    )

-- document 01's reader asks for 16 bytes
old-long : (m : Message) → reads old_messages (form_bytes (telegram_form (formed Long Votes)) (Plain m)) ≡ Err 1
unfolding reads first_no unless
old-long m = refl

old-ballot : (w : MessageWidth) (b : BallotMessage) → reads old_messages (form_bytes (telegram_form (formed w Ballot)) (OfBallot b)) ≡ Err 1
unfolding reads first_no unless
old-ballot Short b = refl
old-ballot Long b = refl

pub forms : Forms
unfolding fields_of
forms = record {
  remains = remains;
  remains-answered = remains-answered;
  remains-read = remains-read;
  from_17 = λ m h. plain-bytes m Long (long-from_17 m.n h);
  four-more = λ b h. ballot-bytes b Short (short-up-to_16 b.n h);
  four-more_17 = λ b h. ballot-bytes b Long (long-from_17 b.n h);
  short-buffer = λ out m h. other-buffer out (Plain m) (formed Short Votes) (plain_form m Short (short-up-to_16 m.n h));
  long-buffer = λ out m h. other-buffer out (Plain m) (formed Long Votes) (plain_form m Long (long-from_17 m.n h));
  short-ballot-buffer = λ out b h. other-buffer out (OfBallot b) (formed Short Ballot) (ballot-form b Short (short-up-to_16 b.n h));
  long-ballot-buffer = λ out b h. other-buffer out (OfBallot b) (formed Long Ballot) (ballot-form b Long (long-from_17 b.n h));
  admits_16 = λ s l. admitted Short Votes s (by_16 s l) l;
  admits_20 = admits_20;
  admits_24 = λ s l. admitted Long Ballot s (by_24 s l) l;
  no_other = no_other;
  mark-of_16 = λ s l m. wrong-mark Short Votes s (by_16 s l) l m;
  mark-of_20 = λ s l m h. wrong-mark Long Votes s (by-long_20 s l m) l h;
  mark-of_24 = λ s l m. wrong-mark Long Ballot s (by_24 s l) l m;
  either-mark = either-mark;
  kinds-of_16 = λ s l m k. not_listed Short Votes s (by_16 s l) l m (votes_unlisted Short s k);
  kinds-of_20 = λ s l m k. not_listed Short Ballot s (by-short_20 s l m) l m (ballot_unlisted Short s k);
  kinds-of-long_20 = λ s l m k. not_listed Long Votes s (by-long_20 s l (not_short s m)) l m (votes_unlisted Long s k);
  kinds-of_24 = λ s l m k. not_listed Long Ballot s (by_24 s l) l m (ballot_unlisted Long s k);
  word-of_20 = λ s l m h. not_listed Short Ballot s (by-short_20 s l m) l m (short-word s h);
  word-of_24 = λ s l m h. not_listed Long Ballot s (by_24 s l) l m (long-word s h);
  above_16 = λ s l m k z h. wrong_size Short Votes s (by_16 s l) l m (votes-listed Short s k z) (too_wide (byte s 3) h);
  below_17 = λ s l m k z h. wrong_size Long Votes s (by-long_20 s l (not_short s m)) l m (votes-listed Long s k z) (too_small (byte s 3) h);
  ballot-above_16 = λ s l m k z o y h. wrong_size Short Ballot s (by-short_20 s l m) l m (short-listed s k z o y) (too_wide (byte s 3) h);
  ballot-below_17 = λ s l m k z o y h. wrong_size Long Ballot s (by_24 s l) l m (long-listed s k z o y) (too_small (byte s 3) h);
  suited = suited;
  between-any-two = between-any-two;
  old_cabinets = λ m h. ap (reads old_messages) (plain-bytes m Long (long-from_17 m.n h)) ∙ old-long m;
  old_cabinets-ballots = λ b. ap (reads old_messages) (ballot-bytes b (width_for b.n) refl) ∙ old-ballot (width_for b.n) b;
}
