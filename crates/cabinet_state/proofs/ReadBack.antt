-- What is written reads back as it was, and only written forms are read.
use Prim.Native.Nat.{ℕ, zero, suc, ◌+◌, ◌-◌, ◌%◌, ◌<◌}
use mathlib.Core.Path.{◌≡◌, refl, sym, ap, ◌∙◌}
use mathlib.Core.Bool.{Bool, true, false}
use mathlib.Core.List.{List}
use mathlib.Core.Logic.{inl, inr}
use native.Mathlib.Omega.{arith}
use native.Mathlib.Decide.{ℕ_discrete}
use lib.Dec.{eqb}
use lib.ListN.{length, get_or}
use lib.Seq.{ext_get_or}
use borrow.Author.Tests.{eqb-true, eq-eqb, lt-ltb, le-ltb}
use Rattle.ground.specs.Limit.{limit}
use Rattle.ground.specs.Tests.{and_i, split}
use Rattle.votes.specs.VoteSets.{empty}
use Rattle.votes.specs.declared.VoteSet.{VoteSet}
use Rattle.model.specs.Numbers.{outcome_number}
use Rattle.model.specs.declared.Outcome.{Outcome}
use Rattle.model.specs.declared.Outcome.TheVariants.{None, Stay, Move}
use Rattle.records.specs.Codes.{outcome_of, flag_of, flag_number}
use Rattle.protocol.specs.declared.Condition.{Condition}
use Rattle.protocol.specs.declared.Condition.TheVariants.{Running, Stopped, Standby}
use Rattle.protocol.specs.Controllers.{phase_in, outcome_in, in_phase}
use Rattle.cabinet_state.specs.declared.Cabinet.{Cabinet}
use Rattle.cabinet_state.specs.Tables.{tabulate, all_below}
use Rattle.cabinet_state.specs.Words.{mark_word, state_words, check_place, head_words, known_place, willing_place, word, head_from, head_of, ballots_from, ballots_of, column_in, column_of, check_to, check_of, with_check, words_of, cabinet_of, identity_in, condition_from, condition_in, sets_in, acks_in, helped_in, help_in, controller_in, sent_in, acceptor_in, report_in, tally_in, ballots_in, tag_of}
use Rattle.cabinet_state.specs.States.{same_words, written_form, state_refusal}
use Rattle.cabinet_state.specs.Encoding.{InWords, InBytes, Encoding}
use Rattle.cabinet_state.specs.FillLaws.{at-tabulate, length-tabulate, all-at}
use Rattle.cabinet_state.proofs.OneWord.{same_check, one_apart}

-- every word of a cabinet, from its place
abbrev word_at : Cabinet → ℕ → ℕ
word_at s = with_check (check_of s) (column_of s)

-- only written forms are read: a buffer that passes the test is written back the same
writes-back : (l : List ℕ) → length l ≡ state_words → written_form l ≡ true → words_of (cabinet_of l) ≡ l
unfolding words_of written_form same_words
writes-back l e t =
    ext_get_or 0 (tabulate state_words (word_at (cabinet_of l))) l (length-tabulate state_words (word_at (cabinet_of l)) ∙ sym e)
    (λ k h. let b : k < state_words = rw (sym (length-tabulate state_words (word_at (cabinet_of l)))) h in
    at-tabulate state_words (word_at (cabinet_of l)) k 0 b ∙ eqb-true _ _ (all-at state_words (λ j. eqb (word_at (cabinet_of l) j) (word l j)) k t b))

length-words : (s : Cabinet) → length (words_of s) ≡ state_words
unfolding words_of
length-words s = length-tabulate state_words (word_at s)

all_true : (n : ℕ) (g : ℕ → Bool) → ((k : ℕ) → k < n → g k ≡ true) → all_below n g ≡ true
unfolding all_below
all_true zero g h = refl
all_true (suc n) g h = and_i (all_below n g) (g n) (all_true n g (λ k m. h k (omega arith))) (h n (omega arith))

-- the words of a cabinet, one by one
at-word : (s : Cabinet) (k : ℕ) → k < state_words → word (words_of s) k ≡ word_at s k
unfolding words_of
at-word s k h = at-tabulate state_words (word_at s) k 0 h

at_column : (s : Cabinet) (k : ℕ) → k < check_place → word (words_of s) k ≡ column_of s k
at_column s k h = at-word s k (omega arith) ∙ rw (lt-ltb k check_place h)

at_head : (s : Cabinet) (k : ℕ) → k < head_words → word (words_of s) k ≡ get_or (head_of s) k 0
unfolding column_in
at_head s k h = at_column s k (omega arith) ∙ rw (lt-ltb k head_words h)

at-ballots : (s : Cabinet) (j : ℕ) → head_words + j < known_place → word (words_of s) (head_words + j) ≡ get_or (ballots_of s.ballots) j 0
unfolding column_in
at-ballots s j h =
    let e : head_words + j - head_words ≡ j = omega arith in
    at_column s (head_words + j) (omega arith) ∙ rw (le-ltb (head_words + j) head_words (omega arith), lt-ltb (head_words + j) known_place h, e)

at-known : (s : Cabinet) (j : ℕ) → j < limit → word (words_of s) (known_place + j) ≡ (get_or s.controller.acks.sets j empty).known
unfolding column_in
at-known s j h =
    let e : known_place + j - known_place ≡ j = omega arith in
    at_column s (known_place + j) (omega arith) ∙ rw (le-ltb (known_place + j) head_words (omega arith), le-ltb (known_place + j) known_place (omega arith), lt-ltb (known_place + j) willing_place (omega arith), e)

at-willing : (s : Cabinet) (j : ℕ) → j < limit → word (words_of s) (willing_place + j) ≡ (get_or s.controller.acks.sets j empty).willing
unfolding column_in
at-willing s j h =
    let e : willing_place + j - willing_place ≡ j = omega arith in
    at_column s (willing_place + j) (omega arith) ∙ rw (le-ltb (willing_place + j) head_words (omega arith), le-ltb (willing_place + j) known_place (omega arith), le-ltb (willing_place + j) willing_place (omega arith), e)

-- the acknowledgements read back
sets-back : (s : Cabinet) → length s.controller.acks.sets ≡ limit → sets_in (words_of s) ≡ s.controller.acks.sets
unfolding sets_in
sets-back s e =
    let g : ℕ → VoteSet = λ j. record { known = word (words_of s) (known_place + j); willing = word (words_of s) (willing_place + j) } in
    ext_get_or empty (tabulate limit g) s.controller.acks.sets (length-tabulate limit g ∙ sym e)
    (λ k h. let b : k < limit = rw (sym (length-tabulate limit g)) h in
    at-tabulate limit g k empty b ∙ simp (at-known s k b, at-willing s k b))

outcome-back : (o : Outcome) → outcome_of (outcome_number o % 256) ≡ o
unfolding outcome_of
outcome-back None = refl
outcome-back Stay = refl
outcome-back Move = refl

low : (x : ℕ) → x < 256 → x % 256 ≡ x
low x h = omega arith

number-back : (o : Outcome) → outcome_of (outcome_number o) ≡ o
unfolding outcome_of
number-back None = refl
number-back Stay = refl
number-back Move = refl

low-number : (o : Outcome) → outcome_number o % 256 ≡ outcome_number o
low-number None = refl
low-number Stay = refl
low-number Move = refl

low_tag : (k : Condition) → tag_of k % 256 ≡ tag_of k
low_tag (Running p) = refl
low_tag Stopped = refl
low_tag (Standby o) = refl

flag-back : (b : Bool) → flag_of (flag_number b % 256) ≡ b
flag-back true = refl
flag-back false = refl

condition-from : (k : Condition) → condition_from (tag_of k) (phase_in k) (outcome_number (outcome_in k)) ≡ k
condition-from (Running p) = ap (λ (o : Outcome). in_phase p.phase o) (number-back p.outcome)
condition-from Stopped = refl
condition-from (Standby o) = ap (λ (x : Outcome). Standby x) (number-back o)

from-three : {a a' b b' c c' : ℕ} → a ≡ a' → b ≡ b' → c ≡ c' → condition_from a b c ≡ condition_from a' b' c'
from-three {a = a} {a' = a'} {b = b} {b' = b'} {c = c} {c' = c'} p q r =
    ap (λ (x : ℕ). condition_from x b c) p ∙ ap (λ (x : ℕ). condition_from a' x c) q ∙ ap (λ (x : ℕ). condition_from a' b' x) r

condition-back : (s : Cabinet) → InBytes s → condition_in (words_of s) ≡ s.controller.condition
unfolding condition_in head_of head_from
condition-back s b =
    let k = s.controller.condition in
    let e₁ : word (words_of s) 6 % 256 ≡ tag_of k = ap (λ (x : ℕ). x % 256) (at_head s 6 (omega arith)) ∙ low_tag k in
    let e₂ : word (words_of s) 7 % 256 ≡ phase_in k = ap (λ (x : ℕ). x % 256) (at_head s 7 (omega arith)) ∙ low (phase_in k) b.phase in
    let e₃ : word (words_of s) 8 % 256 ≡ outcome_number (outcome_in k) = ap (λ (x : ℕ). x % 256) (at_head s 8 (omega arith)) ∙ low-number (outcome_in k) in
    from-three e₁ e₂ e₃ ∙ condition-from k

identity-back : (s : Cabinet) → InBytes s → identity_in (words_of s) ≡ s.me
unfolding identity_in head_of head_from
identity-back s b = simp (at_head s 1 (omega arith), at_head s 2 (omega arith), at_head s 3 (omega arith), at_head s 4 (omega arith), low s.me.n b.n, low s.me.f b.f, low s.me.id b.id)

sent_back : (s : Cabinet) → sent_in (words_of s) ≡ s.sent
unfolding sent_in head_of head_from
sent_back s = simp (at_head s 24 (omega arith), at_head s 25 (omega arith), at_head s 26 (omega arith), at_head s 27 (omega arith), at_head s 28 (omega arith), at_head s 29 (omega arith), at_head s 30 (omega arith), at_head s 31 (omega arith), at_head s 32 (omega arith), at_head s 33 (omega arith), at_head s 34 (omega arith), at_head s 35 (omega arith))

acks-back : (s : Cabinet) → InBytes s → acks_in (words_of s) ≡ s.controller.acks
unfolding acks_in head_of head_from
acks-back s b = simp (sets-back s b.sets, at_head s 15 (omega arith), at_head s 9 (omega arith), low s.controller.acks.cnt.0 b.cnt)

helped-back : (s : Cabinet) → InBytes s → helped_in (words_of s) ≡ s.controller.helped
unfolding helped_in head_of head_from
helped-back s b = simp (at_head s 16 (omega arith), at_head s 17 (omega arith), at_head s 18 (omega arith), at_head s 10 (omega arith), low s.controller.helped.cnt_help.0 b.helped)

help-back : (s : Cabinet) → help_in (words_of s) ≡ s.controller.help
unfolding help_in head_of head_from
help-back s = simp (at_head s 11 (omega arith), at_head s 19 (omega arith), at_head s 20 (omega arith), at_head s 21 (omega arith), flag-back s.controller.help.waiting)

controller-back : (s : Cabinet) → InBytes s → controller_in (words_of s) ≡ s.controller
unfolding controller_in head_of head_from
controller-back s b =
    simp (condition-back s b, acks-back s b, helped-back s b, help-back s, at_head s 12 (omega arith), at_head s 13 (omega arith), at_head s 14 (omega arith), at_head s 22 (omega arith), at_head s 23 (omega arith), outcome-back s.controller.proposal)

byte-back : (s : Cabinet) (j b : ℕ) → head_words + j < known_place → get_or (ballots_of s.ballots) j 0 ≡ b → b < 256 → word (words_of s) (head_words + j) % 256 ≡ b
byte-back s j b h e l = ap (λ (x : ℕ). x % 256) (at-ballots s j h ∙ e) ∙ low b l

outcome_in-back : (s : Cabinet) (j : ℕ) (o : Outcome) → head_words + j < known_place → get_or (ballots_of s.ballots) j 0 ≡ outcome_number o → outcome_of (word (words_of s) (head_words + j) % 256) ≡ o
outcome_in-back s j o h e = ap (λ (x : ℕ). outcome_of (x % 256)) (at-ballots s j h ∙ e) ∙ outcome-back o

flag_in-back : (s : Cabinet) (j : ℕ) (b : Bool) → head_words + j < known_place → get_or (ballots_of s.ballots) j 0 ≡ flag_number b → flag_of (word (words_of s) (head_words + j) % 256) ≡ b
flag_in-back s j b h e = ap (λ (x : ℕ). flag_of (x % 256)) (at-ballots s j h ∙ e) ∙ flag-back b

acceptor-back : (s : Cabinet) → InBytes s → acceptor_in (words_of s) ≡ s.ballots.acceptor
unfolding acceptor_in ballots_of ballots_from
acceptor-back s b =
    let a = s.ballots.acceptor in
    simp (byte-back s 0 a.highest (omega arith) refl b.highest, byte-back s 1 a.promised (omega arith) refl b.promised, byte-back s 2 a.last (omega arith) refl b.last, outcome_in-back s 3 a.word (omega arith) refl)

report-back : (s : Cabinet) → InBytes s → report_in (words_of s) ≡ s.ballots.report
unfolding report_in ballots_of ballots_from
report-back s b =
    let r = s.ballots.report in
    simp (flag_in-back s 4 r.given (omega arith) refl, byte-back s 5 r.last (omega arith) refl b.reported, outcome_in-back s 6 r.word (omega arith) refl)

tally-back : (s : Cabinet) → InBytes s → tally_in (words_of s) ≡ s.ballots.tally
unfolding tally_in ballots_of ballots_from
tally-back s b =
    let t = s.ballots.tally in
    simp (at-ballots s 8 (omega arith), byte-back s 9 t.top (omega arith) refl b.top, outcome_in-back s 10 t.top_word (omega arith) refl, outcome_in-back s 11 t.word (omega arith) refl)

ballots-back : (s : Cabinet) → InBytes s → ballots_in (words_of s) ≡ s.ballots
unfolding ballots_in ballots_of ballots_from
ballots-back s b =
    simp (acceptor-back s b, report-back s b, byte-back s 7 s.ballots.opened (omega arith) refl b.opened, tally-back s b, at-ballots s 12 (omega arith))

own_back : (s : Cabinet) → flag_of (word (words_of s) 5 % 256) ≡ s.own
unfolding head_of head_from
own_back s = ap (λ (x : ℕ). flag_of (x % 256)) (at_head s 5 (omega arith)) ∙ flag-back s.own

-- what is written reads back as it was
reads-back : (s : Cabinet) → InBytes s → cabinet_of (words_of s) ≡ s
unfolding cabinet_of
reads-back s b = simp (identity-back s b, own_back s, controller-back s b, sent_back s, ballots-back s b)

-- .. and is a state that is taken
written-taken : (s : Cabinet) → InBytes s → state_refusal (words_of s) ≡ 0
unfolding state_refusal written_form same_words head_of head_from
written-taken s b =
    rw (eq-eqb (length (words_of s)) state_words (length-words s), at_head s 0 (omega arith), reads-back s b, all_true state_words (λ k. eqb (word_at s k) (word (words_of s) k)) (λ k h. eq-eqb _ _ (sym (at-word s k h))))

-- what is taken has its length, and is as it is written
record Taken (l : List ℕ) : Type 0 where
  size : length l ≡ state_words
  form : written_form l ≡ true

taken_of : (l : List ℕ) → state_refusal l ≡ 0 → Taken l
unfolding state_refusal
taken_of l z = elim (split (eqb (length l) state_words)) [
  | inl y ↦ elim (split (eqb (word l 0) mark_word)) [
    | inl m ↦ elim (split (written_form l)) [
      | inl t ↦ record { size = eqb-true (length l) state_words y; form = t }
      | inr n ↦ let q : state_refusal l ≡ 3 = rw (y, m, n) in absurd (omega (arith, q, z))
    ]
    | inr n ↦ let q : state_refusal l ≡ 2 = rw (y, n) in absurd (omega (arith, q, z))
  ]
  | inr n ↦ let q : state_refusal l ≡ 1 = rw n in absurd (omega (arith, q, z))
]

-- the check word of a state that is taken is the check of the words before it
checked : (l : List ℕ) → Taken l → word l check_place ≡ check_to check_place (word l)
unfolding written_form same_words
checked l x =
    let s = cabinet_of l in
    let all : (k : ℕ) → k < state_words → word_at s k ≡ word l k = λ k h. eqb-true _ _ (all-at state_words (λ j. eqb (word_at s j) (word l j)) k x.form h) in
    let end : word_at s check_place ≡ check_of s = refl in
    sym (all check_place (omega arith)) ∙ end ∙ same_check check_place (column_of s) (word l)
    (λ k h. let here : word_at s k ≡ column_of s k = rw (lt-ltb k check_place h) in sym here ∙ all k (omega arith))

one_word : (l m : List ℕ) (j : ℕ) → InWords l → InWords m → state_refusal l ≡ 0 → state_refusal m ≡ 0 → ((k : ℕ) → (k ≡ j → ⊥) → word l k ≡ word m k) → l ≡ m
one_word l m j wl wm p q e =
    let x = taken_of l p in
    let y = taken_of m q in
    ext_get_or 0 l m (x.size ∙ sym y.size) (λ k h. elim (ℕ_discrete k j) [
      | yes z ↦ rw z (elim (ℕ_discrete j check_place) [
        | yes c ↦ rw c (checked l x ∙ same_check check_place (word l) (word m) (λ i r. e i (λ w. absurd (omega (arith, w, c, r)))) ∙ sym (checked m y))
        | no c ↦ let b : k < state_words = rw (sym x.size) h in
            one_apart check_place (word l) (word m) j (omega (arith, b, z, c)) (wl j) (wm j) e
            (sym (checked l x) ∙ e check_place (λ w. c (sym w)) ∙ checked m y)
      ])
      | no z ↦ e k z
    ])

pub encoding : Encoding
encoding = record { reads-back = reads-back; taken = written-taken; writes-back = λ l z. writes-back l (taken_of l z).size (taken_of l z).form; one_word = one_word }
