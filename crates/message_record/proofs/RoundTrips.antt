-- Telegrams as records, both ways round: the description is lawful, for either width and either body by the same laws. That the two sets fit their bytes is
-- what questions 4 and 9 say.
use Prim.Native.Nat.{ℕ, ◌*◌, ◌<◌, ◌≤◌, ◌^◌}
use mathlib.Core.Path.{◌≡◌, refl, sym, ◌∙◌, ap}
use mathlib.Core.Bool.{true, ◌&&◌}
use mathlib.Core.List.{List, [], ◌∷◌}
use mathlib.Core.Logic.{inl, inr}
use native.Mathlib.Omega.{arith}
use borrow.Author.Tests.{leb-true, leb-false, ltb-true, lt-leb, lt-ltb, eqb-true}
use lib.Dec.{leb, eqb}
use lib.ListN.{get_or, length}
use lib.Pow.{pow_mono}
use Rattle.ground.specs.Limit.{limit}
use Rattle.ground.specs.Mask.{none_above}
use Rattle.ground.specs.Tests.{and_l, and_r, split}
use Rattle.model.specs.Numbers.{kind_number, ballot_kind_number, outcome_number}
use Rattle.model.specs.Questions.{accepted, unless, first_no}
use Rattle.model.specs.QuestionLaws.{AllYes, all_yes}
use Rattle.model.specs.RangeLaws.{ranges}
use Rattle.model.specs.declared.BallotMessage.{BallotMessage}
use Rattle.model.specs.declared.Message.{Message}
use Rattle.model.specs.declared.Telegram.{Telegram}
use Rattle.model.specs.declared.Telegram.TheVariants.{Plain, OfBallot}
use Rattle.votes.specs.declared.VoteSet.{VoteSet}
use Rattle.records.specs.Bytes.{Width, one, two, four, size}
use Rattle.records.proofs.ByteLaws.{spread}
use Rattle.records.specs.Codes.{is_kind, kind_of, is_ballot_kind, ballot_kind_of, is_outcome, outcome_of, unused}
use Rattle.records.specs.CodeLaws.{kind-listed, kind-of-number, number-of-kind, ballot-kind-listed, ballot-kind-of-number, number-of-ballot-kind, outcome-listed, outcome-of-number, number-of-outcome}
use Rattle.records.proofs.CodecLaws.{Holds, Fit, Lawful, promises-kept}
use Rattle.records.specs.Promises.{In32Bits, Promises}
use Rattle.records.specs.Codec.{form_bytes, own_form, bytes_of, reads}
use Rattle.message_record.specs.declared.MessageBody.{MessageBody}
use Rattle.message_record.specs.declared.MessageBody.TheVariants.{Votes, Ballot}
use Rattle.message_record.specs.declared.MessageWidth.{MessageWidth}
use Rattle.message_record.specs.declared.MessageWidth.TheVariants.{Short, Long}
use Rattle.message_record.specs.declared.Fields.{Fields}
use Rattle.std.specs.Prelude.{Ok}
use Rattle.message_record.specs.Messages.{bits_in_range, willing_known, knows_for_kind, suits, about_message}
use Rattle.message_record.specs.BallotMessages.{tells_for_kind, ballot_suits, about_ballot}
use Rattle.message_record.specs.Telegrams.{about_telegram, size_of, formed, short_limit, width_for, suits_width, mark_of, set_width, numbers_in, fields_in, fields_of, telegram_of, listed_in, asked_in, telegram_form, form_of_twenty, form_for, form_of, telegrams}

-- a set with no bit above n fits bytes that have n bits
below : (n b v : ℕ) → n ≤ b → none_above n v ≡ true → v < 2 ^ b
unfolding none_above
below n b v h t =
    let less : v < 2 ^ n = ltb-true v (2 ^ n) t in
    let most : 2 ^ n ≤ 2 ^ b = pow_mono {i = n} {j = b} h in
    omega (arith, less, most)

set_fits : (w : Width) (n v : ℕ) → n ≤ 8 * size w → none_above n v ≡ true → Holds w v
set_fits one n v h t = tt
set_fits two n v h t = below n 16 v h t
set_fits four n v h t = below n 32 v h t

-- the empty set fits any
none_fits : (w : Width) (v : ℕ) → v ≡ 0 → Holds w v
none_fits one v e = tt
none_fits two v e = omega arith
none_fits four v e = omega arith

-- question 4, of the form: its sets have a bit for each of n
has_bits : (w : MessageWidth) (n : ℕ) → suits_width w n ≡ true → n ≤ limit → n ≤ 8 * size (set_width w)
unfolding suits_width
has_bits Short n t h = let few : n ≤ short_limit = leb-true n short_limit t in omega arith
has_bits Long n t h = h

-- both sets of a telegram fit
abbrev SetsFit : Width → VoteSet → Type 0
SetsFit w x = Holds w x.known × Holds w x.willing

sets-fit : (w : Width) (m : Message) → m.n ≤ 8 * size w → suits m ≡ true → SetsFit w m.votes
unfolding suits bits_in_range
sets-fit w m h t =
    let known : ℕ = m.votes.known in
    let willing : ℕ = m.votes.willing in
    let bits : bits_in_range m ≡ true =
    and_l (bits_in_range m) (willing_known m) (and_l (bits_in_range m && willing_known m) (knows_for_kind m.kind m.from known) t) in (
      set_fits w m.n known h (and_l (none_above m.n known) (none_above m.n willing) bits),
      set_fits w m.n willing h (and_r (none_above m.n known) (none_above m.n willing) bits),
    )

empty-sets-fit : (w : Width) (b : BallotMessage) → ballot_suits b ≡ true → SetsFit w b.votes
unfolding ballot_suits
empty-sets-fit w b t =
    let known : ℕ = b.votes.known in
    let willing : ℕ = b.votes.willing in
    let both : (eqb known 0 && eqb willing 0) ≡ true = and_l (eqb known 0 && eqb willing 0) (tells_for_kind b.kind b.ballot b.last b.word) t in (
      none_fits w known (eqb-true known 0 (and_l (eqb known 0) (eqb willing 0) both)),
      none_fits w willing (eqb-true willing 0 (and_r (eqb known 0) (eqb willing 0) both)),
    )

small : (m : Message) → AllYes (about_message m) → m.n ≤ limit
unfolding about_message
small m all = (ranges m.n m.f all.0).small

fit : (t : Telegram) → In32Bits (own_form telegrams t).widths ((own_form telegrams t).fields t) → AllYes ((own_form telegrams t).asked t)
    → Fit (own_form telegrams t).widths ((own_form telegrams t).fields t)
unfolding about_message about_ballot form_of fields_of
fit (Plain m) h all =
    let w : MessageWidth = width_for m.n in
    let b : SetsFit (set_width w) m.votes = sets-fit (set_width w) m (has_bits w m.n all.0 (small m all.1)) all.1.1.1.1.0 in
    (tt, (tt, (tt, (tt, (tt, (tt, (h.0, (b.0, (b.1, tt)))))))))
fit (OfBallot m) h all =
    let b : SetsFit (set_width (width_for m.n)) m.votes = empty-sets-fit (set_width (width_for m.n)) m all.1.1.1.1.0 in
    (tt, (tt, (tt, (tt, (tt, (tt, (h.0, (b.0, (b.1, (tt, (tt, (tt, (tt, tt)))))))))))))

value-of-fields : (t : Telegram) → (own_form telegrams t).value ((own_form telegrams t).fields t) ≡ t
unfolding form_of fields_of fields_in telegram_of
value-of-fields (Plain m) = rw (kind-of-number m.kind)
value-of-fields (OfBallot b) = rw (ballot-kind-of-number b.kind, outcome-of-number b.word)

all_listed : (t : Telegram) → (own_form telegrams t).listed ((own_form telegrams t).fields t) ≡ true
unfolding form_of fields_of fields_in listed_in
all_listed (Plain m) = rw (kind-listed m.kind)
all_listed (OfBallot b) = rw (ballot-kind-listed b.kind, outcome-listed b.word)

fields-of-value : (w : MessageWidth) (b : MessageBody) (v : List ℕ) → length v ≡ length (telegram_form (formed w b)).widths → listed_in b (fields_in v) ≡ true
    → numbers_in b (fields_of (telegram_of b (fields_in v))) ≡ v
unfolding listed_in fields_in fields_of telegram_of
fields-of-value w Votes v h t =
    let k : kind_number (kind_of (get_or v 0 0)) ≡ get_or v 0 0 = number-of-kind (get_or v 0 0) (and_l (is_kind (get_or v 0 0)) (unused (get_or v 5 0)) t) in
    let z : 0 ≡ get_or v 5 0 = sym (eqb-true (get_or v 5 0) 0 (and_r (is_kind (get_or v 0 0)) (unused (get_or v 5 0)) t)) in
    (λ i. k i ∷ get_or v 1 0 ∷ get_or v 2 0 ∷ get_or v 3 0 ∷ get_or v 4 0 ∷ z i ∷ get_or v 6 0 ∷ get_or v 7 0 ∷ get_or v 8 0 ∷ []) ∙ sym (spread 9 v h)
fields-of-value w Ballot v h t =
    let front : (is_ballot_kind (get_or v 0 0) && unused (get_or v 5 0)) ≡ true =
    and_l (is_ballot_kind (get_or v 0 0) && unused (get_or v 5 0)) (is_outcome (get_or v 11 0) && unused (get_or v 12 0)) t in
    let back : (is_outcome (get_or v 11 0) && unused (get_or v 12 0)) ≡ true =
    and_r (is_ballot_kind (get_or v 0 0) && unused (get_or v 5 0)) (is_outcome (get_or v 11 0) && unused (get_or v 12 0)) t in
    let k : ballot_kind_number (ballot_kind_of (get_or v 0 0)) ≡ get_or v 0 0 = number-of-ballot-kind (get_or v 0 0) (and_l (is_ballot_kind (get_or v 0 0)) (unused (get_or v 5 0)) front) in
    let z : 0 ≡ get_or v 5 0 = sym (eqb-true (get_or v 5 0) 0 (and_r (is_ballot_kind (get_or v 0 0)) (unused (get_or v 5 0)) front)) in
    let o : outcome_number (outcome_of (get_or v 11 0)) ≡ get_or v 11 0 = number-of-outcome (get_or v 11 0) (and_l (is_outcome (get_or v 11 0)) (unused (get_or v 12 0)) back) in
    let y : 0 ≡ get_or v 12 0 = sym (eqb-true (get_or v 12 0) 0 (and_r (is_outcome (get_or v 11 0)) (unused (get_or v 12 0)) back)) in
    (λ i. k i ∷ get_or v 1 0 ∷ get_or v 2 0 ∷ get_or v 3 0 ∷ get_or v 4 0 ∷ z i ∷ get_or v 6 0 ∷ get_or v 7 0 ∷ get_or v 8 0 ∷ get_or v 9 0 ∷ get_or v 10 0 ∷ o i ∷ y i ∷ [])
    ∙ sym (spread 13 v h)

-- bytes of a form are read by that form: lengths differ, and of 20 bytes the marks do
told-apart : (w : MessageWidth) (b : MessageBody) (t : Telegram) → telegrams.form_on (form_bytes (telegram_form (formed w b)) t) ≡ formed w b
unfolding form_for form_of_twenty
told-apart Short Votes t = refl
told-apart Short Ballot t = refl
told-apart Long Votes t = refl
told-apart Long Ballot t = refl

-- a form is let through for those n that are written in it, and for no others
own-width : (w : MessageWidth) (n : ℕ) → suits_width w n ≡ true → width_for n ≡ w
unfolding suits_width width_for
own-width Short n t = rw t
own-width Long n t = rw (lt-leb n short_limit (ltb-true short_limit n t))

own : (w : MessageWidth) (b : MessageBody) (x : Fields) → AllYes (asked_in w (telegram_of b x)) → form_of (telegram_of b x) ≡ formed w b
unfolding form_of telegram_of
own w Votes x all = ap (λ (y : MessageWidth). formed y Votes) (own-width w x.n all.0)
own w Ballot x all = ap (λ (y : MessageWidth). formed y Ballot) (own-width w x.n all.0)

own-suits : (n : ℕ) → suits_width (width_for n) n ≡ true
unfolding suits_width width_for
own-suits n = elim (split (leb n short_limit)) [
  | inl y ↦ rw (y, y)
  | inr z ↦ rw z (lt-ltb short_limit n (leb-false n short_limit z))
]

mark_fits : (w : MessageWidth) → mark_of w < 65536
mark_fits Short = omega arith
mark_fits Long = omega arith

lawful : Lawful telegrams
lawful = record {
  mark_fits = λ k. mark_fits k.width;
  fields-of-value = λ k. fields-of-value k.width k.body;
  value-of-fields = λ t all. value-of-fields t;
  all_listed = λ t all. all_listed t;
  fit = fit;
  told-apart = λ k. told-apart k.width k.body;
  own = λ k v l all. own k.width k.body (fields_in v) all;
}

pub promises : Promises telegrams
promises = promises-kept telegrams lawful

-- what passes the questions of a telegram passes those of the form that it is written in
pub telegram-passes : (t : Telegram) → first_no (about_telegram t) ≡ accepted → first_no ((own_form telegrams t).asked t) ≡ accepted
unfolding first_no unless form_of
telegram-passes t p = rw (own-suits (size_of t)) p

pub own-passes : (m : Message) → first_no (about_message m) ≡ accepted → first_no ((own_form telegrams (Plain m)).asked (Plain m)) ≡ accepted
own-passes m p = telegram-passes (Plain m) p

-- and its vote set needs no more than the 32 bits that the code holds, so that it is read back if its order does not either
message_in_32 : (w : MessageWidth) (m : Message) → m.order < 2 ^ 32 → AllYes (about_message m) → In32Bits (telegram_form (formed w Votes)).widths (numbers_in Votes (fields_of (Plain m)))
unfolding about_message fields_of
message_in_32 Short m h all = (h, tt)
message_in_32 Long m h all = let b : SetsFit four m.votes = sets-fit four m (small m all) all.1.1.1.0 in (h, (b.0, (b.1, tt)))

ballot_in_32 : (w : MessageWidth) (b : BallotMessage) → b.order < 2 ^ 32 → AllYes (about_ballot b)
    → In32Bits (telegram_form (formed w Ballot)).widths (numbers_in Ballot (fields_of (OfBallot b)))
unfolding about_ballot fields_of
ballot_in_32 Short b h all = (h, tt)
ballot_in_32 Long b h all = let x : SetsFit four b.votes = empty-sets-fit four b all.1.1.1.0 in (h, (x.0, (x.1, tt)))

pub message-back : (m : Message) → m.order < 2 ^ 32 → first_no (about_message m) ≡ accepted → reads telegrams (bytes_of telegrams (Plain m)) ≡ Ok (Plain m)
unfolding form_of
message-back m h p = promises.reads-back (Plain m) (message_in_32 (width_for m.n) m h (all_yes (about_message m) p)) (own-passes m p)

pub ballot-back : (b : BallotMessage) → b.order < 2 ^ 32 → first_no (about_ballot b) ≡ accepted → reads telegrams (bytes_of telegrams (OfBallot b)) ≡ Ok (OfBallot b)
unfolding form_of
ballot-back b h p = promises.reads-back (OfBallot b) (ballot_in_32 (width_for b.n) b h (all_yes (about_ballot b) p)) (telegram-passes (OfBallot b) p)
