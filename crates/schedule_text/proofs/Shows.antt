-- Every act's line, word by word: it is those words, each can stand on a line, and read they give the act's fields back. By the kind of act.
use Prim.Native.Nat.{ℕ, suc, ◌-◌, ◌^◌, ◌<◌}
use mathlib.Core.Path.{◌≡◌, refl, ◌∙◌, ap}
use mathlib.Core.Bool.{Bool, true, false, ◌&&◌}
use mathlib.Core.List.{List, [], ◌∷◌, ◌++◌}
use native.Mathlib.Omega.{arith}
use borrow.Author.Tests.{ltb-true}
use lib.Dec.{ltb}
use lib.ListN.{length}
use Rattle.std.specs.Prelude.{Some, Ok}
use Rattle.ground.specs.Tests.{and_l, and_r}
use Rattle.text.specs.Text.{decimal, signed, line}
use Rattle.words.specs.Words.{belongs, pieces, lines_of, words_of, nth_word}
use Rattle.words.specs.Numbers.{number_among}
use Rattle.words.specs.NumberLaws.{number-back, signed_back}
use Rattle.words.specs.Joined.{all_of, Plain, AllPlain, joined, words_back, all_shown, line_first, decimal-plain, signed-plain}
use Rattle.words.specs.declared.Class.TheVariants.{Word, Line, Shown}
use Rattle.model.specs.declared.Act.{Act}
use Rattle.model.specs.declared.Act.TheVariants.{Play, Back}
use Rattle.model.specs.declared.Event.TheVariants.{Lock, Order, Cast, Deliver, Timeout, Decide, Stop, Save, Restore, OfBallots}
use Rattle.model.specs.declared.BallotEvent.TheVariants.{Open, Carry}
use Rattle.model.specs.declared.Kind.TheVariants.{Vote, Ack, Help, Helped}
use Rattle.model.specs.declared.BallotKind.TheVariants.{Prepare, Promise, Accept, Accepted}
use Rattle.event_record.specs.Events.{fields, ballot_fields, event_fields, fields_of, record_bytes}
use Rattle.event_record.specs.declared.Fields.{Fields}
use Rattle.schedule_text.specs.Forms.{verbs, telegrams, willings, decisions, own, row_of, slot_in, field_of, with_field, value_in, shown, left_out, spaced, line_of}
use Rattle.schedule_text.specs.Texts.{LineRead, unused, ended, read_words, read_line, after, onward, read_lines}

-- what a record's bytes hold
pub record Held (x : Fields) : Type 0 where
  pub a : x.a < 256
  pub b : x.b < 256
  pub c : x.c < 256
  pub value : x.value < 2 ^ 32

pub record Shows (x : Fields) : Type 0 where
  pub first : List ℕ
  pub others : List (List ℕ)
  pub text : line_of x ≡ line (first ∷ others)
  pub plain : AllPlain (first ∷ others)
  pub back : read_words 0 unused (first ∷ others) ≡ Ok (Some x)

-- a name is a word that can stand on a line, by computation
plain_name : List ℕ → Bool
plain_name w = ltb 0 (length w) && (all_of Word w && (all_of Line w && all_of Shown w))

plain_name_lem : (w : List ℕ) → plain_name w ≡ true → Plain w
unfolding plain_name
plain_name_lem w t =
    let u = and_r (ltb 0 (length w)) (all_of Word w && (all_of Line w && all_of Shown w)) t in
    let v = and_r (all_of Word w) (all_of Line w && all_of Shown w) u in
    record {
      some = ltb-true 0 (length w) (and_l (ltb 0 (length w)) (all_of Word w && (all_of Line w && all_of Shown w)) t);
      word = and_l (all_of Word w) (all_of Line w && all_of Shown w) u;
      line = and_l (all_of Line w) (all_of Shown w) v;
      shown = and_r (all_of Line w) (all_of Shown w) v;
    }

-- a name of some, and the number that it is read as
record Named (first : ℕ) (names : List ℕ) (k v : ℕ) : Type 0 where
  plain : Plain (nth_word names k)
  back : number_among first (words_of names) (nth_word names k) ≡ Some v

named : (first : ℕ) (names : List ℕ) (k v : ℕ) → plain_name (nth_word names k) ≡ true → number_among first (words_of names) (nth_word names k) ≡ Some v → Named first names k v
named first names k v p b = record { plain = plain_name_lem (nth_word names k) p; back = b }

verb_0 : Named 0 verbs 0 0
unfolding words_of pieces belongs number_among all_of plain_name
verb_0 = named 0 verbs 0 0 refl refl

verb_1 : Named 0 verbs 1 1
unfolding words_of pieces belongs number_among all_of plain_name
verb_1 = named 0 verbs 1 1 refl refl

verb_2 : Named 0 verbs 2 2
unfolding words_of pieces belongs number_among all_of plain_name
verb_2 = named 0 verbs 2 2 refl refl

verb_3 : Named 0 verbs 3 3
unfolding words_of pieces belongs number_among all_of plain_name
verb_3 = named 0 verbs 3 3 refl refl

verb_4 : Named 0 verbs 4 4
unfolding words_of pieces belongs number_among all_of plain_name
verb_4 = named 0 verbs 4 4 refl refl

verb_5 : Named 0 verbs 5 5
unfolding words_of pieces belongs number_among all_of plain_name
verb_5 = named 0 verbs 5 5 refl refl

verb_6 : Named 0 verbs 6 6
unfolding words_of pieces belongs number_among all_of plain_name
verb_6 = named 0 verbs 6 6 refl refl

verb_7 : Named 0 verbs 7 7
unfolding words_of pieces belongs number_among all_of plain_name
verb_7 = named 0 verbs 7 7 refl refl

verb_8 : Named 0 verbs 8 8
unfolding words_of pieces belongs number_among all_of plain_name
verb_8 = named 0 verbs 8 8 refl refl

verb_9 : Named 0 verbs 9 9
unfolding words_of pieces belongs number_among all_of plain_name
verb_9 = named 0 verbs 9 9 refl refl

verb_10 : Named 0 verbs 10 10
unfolding words_of pieces belongs number_among all_of plain_name
verb_10 = named 0 verbs 10 10 refl refl

telegram_0 : Named 1 telegrams 0 1
unfolding words_of pieces belongs number_among all_of plain_name
telegram_0 = named 1 telegrams 0 1 refl refl

telegram_1 : Named 1 telegrams 1 2
unfolding words_of pieces belongs number_among all_of plain_name
telegram_1 = named 1 telegrams 1 2 refl refl

telegram_2 : Named 1 telegrams 2 3
unfolding words_of pieces belongs number_among all_of plain_name
telegram_2 = named 1 telegrams 2 3 refl refl

telegram_3 : Named 1 telegrams 3 4
unfolding words_of pieces belongs number_among all_of plain_name
telegram_3 = named 1 telegrams 3 4 refl refl

telegram_4 : Named 1 telegrams 4 5
unfolding words_of pieces belongs number_among all_of plain_name
telegram_4 = named 1 telegrams 4 5 refl refl

telegram_5 : Named 1 telegrams 5 6
unfolding words_of pieces belongs number_among all_of plain_name
telegram_5 = named 1 telegrams 5 6 refl refl

telegram_6 : Named 1 telegrams 6 7
unfolding words_of pieces belongs number_among all_of plain_name
telegram_6 = named 1 telegrams 6 7 refl refl

telegram_7 : Named 1 telegrams 7 8
unfolding words_of pieces belongs number_among all_of plain_name
telegram_7 = named 1 telegrams 7 8 refl refl

willing_name_0 : Named 0 willings 0 0
unfolding words_of pieces belongs number_among all_of plain_name
willing_name_0 = named 0 willings 0 0 refl refl

willing_name_1 : Named 0 willings 1 1
unfolding words_of pieces belongs number_among all_of plain_name
willing_name_1 = named 0 willings 1 1 refl refl

decision_0 : Named 0 decisions 0 0
unfolding words_of pieces belongs number_among all_of plain_name
decision_0 = named 0 decisions 0 0 refl refl

decision_1 : Named 0 decisions 1 1
unfolding words_of pieces belongs number_among all_of plain_name
decision_1 = named 0 decisions 1 1 refl refl

own_name_0 : Named 1 own 0 1
unfolding words_of pieces belongs number_among all_of plain_name
own_name_0 = named 1 own 0 1 refl refl

lock : (n f : ℕ) → n < 256 → f < 256 → Shows (fields 0 n f 0 0)
unfolding line_of row_of slot_in field_of with_field value_in shown left_out spaced read_words ended
lock n f hn hf = record {
  first = nth_word verbs 0;
  others = decimal n ∷ decimal f ∷ [];
  text = refl;
  plain = (verb_0.plain, (decimal-plain n, (decimal-plain f, tt)));
  back = rw (verb_0.back, number-back 255 n (omega arith) (omega arith), number-back 255 f (omega arith) (omega arith));
}

lock-own : (n f : ℕ) → n < 256 → f < 256 → Shows (fields 0 n f 1 0)
unfolding line_of row_of slot_in field_of with_field value_in shown left_out spaced read_words ended
lock-own n f hn hf = record {
  first = nth_word verbs 0;
  others = decimal n ∷ decimal f ∷ nth_word own 0 ∷ [];
  text = refl;
  plain = (verb_0.plain, (decimal-plain n, (decimal-plain f, (own_name_0.plain, tt))));
  back = rw (verb_0.back, number-back 255 n (omega arith) (omega arith), number-back 255 f (omega arith) (omega arith), own_name_0.back);
}

order : (v : ℕ) → v < 2 ^ 32 → Shows (fields 1 0 0 0 v)
unfolding line_of row_of slot_in field_of with_field value_in shown left_out spaced read_words ended
order v hv = record {
  first = nth_word verbs 1;
  others = decimal v ∷ [];
  text = refl;
  plain = (verb_1.plain, (decimal-plain v, tt));
  back = rw (verb_1.back, number-back (2 ^ 32 - 1) v (omega arith) (omega arith));
}

willing : (k t : ℕ) → k < 256 → t < 2 ^ 32 → Shows (fields 2 k 1 0 t)
unfolding line_of row_of slot_in field_of with_field value_in shown left_out spaced read_words ended
willing k t hk ht = record {
  first = nth_word verbs 2;
  others = decimal k ∷ nth_word willings 1 ∷ signed t ∷ [];
  text = refl;
  plain = (verb_2.plain, (decimal-plain k, (willing_name_1.plain, (signed-plain t, tt))));
  back = rw (verb_2.back, number-back 255 k (omega arith) (omega arith), willing_name_1.back, signed_back t ht);
}

unwilling : (k t : ℕ) → k < 256 → t < 2 ^ 32 → Shows (fields 2 k 0 0 t)
unfolding line_of row_of slot_in field_of with_field value_in shown left_out spaced read_words ended
unwilling k t hk ht = record {
  first = nth_word verbs 2;
  others = decimal k ∷ nth_word willings 0 ∷ signed t ∷ [];
  text = refl;
  plain = (verb_2.plain, (decimal-plain k, (willing_name_0.plain, (signed-plain t, tt))));
  back = rw (verb_2.back, number-back 255 k (omega arith) (omega arith), willing_name_0.back, signed_back t ht);
}

deliver-vote : (i j : ℕ) → i < 256 → j < 256 → Shows (fields 3 i j 1 0)
unfolding line_of row_of slot_in field_of with_field value_in shown left_out spaced read_words ended
deliver-vote i j hi hj = record {
  first = nth_word verbs 3;
  others = nth_word telegrams 0 ∷ decimal i ∷ decimal j ∷ [];
  text = refl;
  plain = (verb_3.plain, (telegram_0.plain, (decimal-plain i, (decimal-plain j, tt))));
  back = rw (verb_3.back, telegram_0.back, number-back 255 i (omega arith) (omega arith), number-back 255 j (omega arith) (omega arith));
}

deliver-acknowledgement : (i j : ℕ) → i < 256 → j < 256 → Shows (fields 3 i j 2 0)
unfolding line_of row_of slot_in field_of with_field value_in shown left_out spaced read_words ended
deliver-acknowledgement i j hi hj = record {
  first = nth_word verbs 3;
  others = nth_word telegrams 1 ∷ decimal i ∷ decimal j ∷ [];
  text = refl;
  plain = (verb_3.plain, (telegram_1.plain, (decimal-plain i, (decimal-plain j, tt))));
  back = rw (verb_3.back, telegram_1.back, number-back 255 i (omega arith) (omega arith), number-back 255 j (omega arith) (omega arith));
}

deliver-help-call : (i j : ℕ) → i < 256 → j < 256 → Shows (fields 3 i j 3 0)
unfolding line_of row_of slot_in field_of with_field value_in shown left_out spaced read_words ended
deliver-help-call i j hi hj = record {
  first = nth_word verbs 3;
  others = nth_word telegrams 2 ∷ decimal i ∷ decimal j ∷ [];
  text = refl;
  plain = (verb_3.plain, (telegram_2.plain, (decimal-plain i, (decimal-plain j, tt))));
  back = rw (verb_3.back, telegram_2.back, number-back 255 i (omega arith) (omega arith), number-back 255 j (omega arith) (omega arith));
}

deliver-help-answer : (i j : ℕ) → i < 256 → j < 256 → Shows (fields 3 i j 4 0)
unfolding line_of row_of slot_in field_of with_field value_in shown left_out spaced read_words ended
deliver-help-answer i j hi hj = record {
  first = nth_word verbs 3;
  others = nth_word telegrams 3 ∷ decimal i ∷ decimal j ∷ [];
  text = refl;
  plain = (verb_3.plain, (telegram_3.plain, (decimal-plain i, (decimal-plain j, tt))));
  back = rw (verb_3.back, telegram_3.back, number-back 255 i (omega arith) (omega arith), number-back 255 j (omega arith) (omega arith));
}

deliver-ask : (i j v : ℕ) → i < 256 → j < 256 → v < 2 ^ 32 → Shows (fields 3 i j 5 v)
unfolding line_of row_of slot_in field_of with_field value_in shown left_out spaced read_words ended
deliver-ask i j v hi hj hv = record {
  first = nth_word verbs 3;
  others = nth_word telegrams 4 ∷ decimal v ∷ decimal i ∷ decimal j ∷ [];
  text = refl;
  plain = (verb_3.plain, (telegram_4.plain, (decimal-plain v, (decimal-plain i, (decimal-plain j, tt)))));
  back = rw (verb_3.back, telegram_4.back, number-back (2 ^ 32 - 1) v (omega arith) (omega arith), number-back 255 i (omega arith) (omega arith), number-back 255 j (omega arith) (omega arith));
}

deliver-promise : (i j v : ℕ) → i < 256 → j < 256 → v < 2 ^ 32 → Shows (fields 3 i j 6 v)
unfolding line_of row_of slot_in field_of with_field value_in shown left_out spaced read_words ended
deliver-promise i j v hi hj hv = record {
  first = nth_word verbs 3;
  others = nth_word telegrams 5 ∷ decimal v ∷ decimal i ∷ decimal j ∷ [];
  text = refl;
  plain = (verb_3.plain, (telegram_5.plain, (decimal-plain v, (decimal-plain i, (decimal-plain j, tt)))));
  back = rw (verb_3.back, telegram_5.back, number-back (2 ^ 32 - 1) v (omega arith) (omega arith), number-back 255 i (omega arith) (omega arith), number-back 255 j (omega arith) (omega arith));
}

deliver-put : (i j v : ℕ) → i < 256 → j < 256 → v < 2 ^ 32 → Shows (fields 3 i j 7 v)
unfolding line_of row_of slot_in field_of with_field value_in shown left_out spaced read_words ended
deliver-put i j v hi hj hv = record {
  first = nth_word verbs 3;
  others = nth_word telegrams 6 ∷ decimal v ∷ decimal i ∷ decimal j ∷ [];
  text = refl;
  plain = (verb_3.plain, (telegram_6.plain, (decimal-plain v, (decimal-plain i, (decimal-plain j, tt)))));
  back = rw (verb_3.back, telegram_6.back, number-back (2 ^ 32 - 1) v (omega arith) (omega arith), number-back 255 i (omega arith) (omega arith), number-back 255 j (omega arith) (omega arith));
}

deliver-taken : (i j v : ℕ) → i < 256 → j < 256 → v < 2 ^ 32 → Shows (fields 3 i j 8 v)
unfolding line_of row_of slot_in field_of with_field value_in shown left_out spaced read_words ended
deliver-taken i j v hi hj hv = record {
  first = nth_word verbs 3;
  others = nth_word telegrams 7 ∷ decimal v ∷ decimal i ∷ decimal j ∷ [];
  text = refl;
  plain = (verb_3.plain, (telegram_7.plain, (decimal-plain v, (decimal-plain i, (decimal-plain j, tt)))));
  back = rw (verb_3.back, telegram_7.back, number-back (2 ^ 32 - 1) v (omega arith) (omega arith), number-back 255 i (omega arith) (omega arith), number-back 255 j (omega arith) (omega arith));
}

bell : (k : ℕ) → k < 256 → Shows (fields 4 k 0 0 0)
unfolding line_of row_of slot_in field_of with_field value_in shown left_out spaced read_words ended
bell k hk = record {
  first = nth_word verbs 4;
  others = decimal k ∷ [];
  text = refl;
  plain = (verb_4.plain, (decimal-plain k, tt));
  back = rw (verb_4.back, number-back 255 k (omega arith) (omega arith));
}

stop : (k : ℕ) → k < 256 → Shows (fields 6 k 0 0 0)
unfolding line_of row_of slot_in field_of with_field value_in shown left_out spaced read_words ended
stop k hk = record {
  first = nth_word verbs 6;
  others = decimal k ∷ [];
  text = refl;
  plain = (verb_6.plain, (decimal-plain k, tt));
  back = rw (verb_6.back, number-back 255 k (omega arith) (omega arith));
}

save : (k : ℕ) → k < 256 → Shows (fields 7 k 0 0 0)
unfolding line_of row_of slot_in field_of with_field value_in shown left_out spaced read_words ended
save k hk = record {
  first = nth_word verbs 7;
  others = decimal k ∷ [];
  text = refl;
  plain = (verb_7.plain, (decimal-plain k, tt));
  back = rw (verb_7.back, number-back 255 k (omega arith) (omega arith));
}

restore : (k : ℕ) → k < 256 → Shows (fields 8 k 0 0 0)
unfolding line_of row_of slot_in field_of with_field value_in shown left_out spaced read_words ended
restore k hk = record {
  first = nth_word verbs 8;
  others = decimal k ∷ [];
  text = refl;
  plain = (verb_8.plain, (decimal-plain k, tt));
  back = rw (verb_8.back, number-back 255 k (omega arith) (omega arith));
}

arbiter-stay : (k : ℕ) → k < 256 → Shows (fields 5 k 0 0 0)
unfolding line_of row_of slot_in field_of with_field value_in shown left_out spaced read_words ended
arbiter-stay k hk = record {
  first = nth_word verbs 5;
  others = decimal k ∷ nth_word decisions 0 ∷ [];
  text = refl;
  plain = (verb_5.plain, (decimal-plain k, (decision_0.plain, tt)));
  back = rw (verb_5.back, number-back 255 k (omega arith) (omega arith), decision_0.back);
}

arbiter-move : (k : ℕ) → k < 256 → Shows (fields 5 k 1 0 0)
unfolding line_of row_of slot_in field_of with_field value_in shown left_out spaced read_words ended
arbiter-move k hk = record {
  first = nth_word verbs 5;
  others = decimal k ∷ nth_word decisions 1 ∷ [];
  text = refl;
  plain = (verb_5.plain, (decimal-plain k, (decision_1.plain, tt)));
  back = rw (verb_5.back, number-back 255 k (omega arith) (omega arith), decision_1.back);
}

back-line : Shows (fields 9 0 0 0 0)
unfolding line_of row_of slot_in field_of with_field value_in shown left_out spaced read_words ended
back-line = record {
  first = nth_word verbs 9;
  others = [];
  text = refl;
  plain = (verb_9.plain, tt);
  back = rw verb_9.back;
}

ballot : (k v : ℕ) → k < 256 → v < 2 ^ 32 → Shows (fields 10 k 0 0 v)
unfolding line_of row_of slot_in field_of with_field value_in shown left_out spaced read_words ended
ballot k v hk hv = record {
  first = nth_word verbs 10;
  others = decimal k ∷ decimal v ∷ [];
  text = refl;
  plain = (verb_10.plain, (decimal-plain k, (decimal-plain v, tt)));
  back = rw (verb_10.back, number-back 255 k (omega arith) (omega arith), number-back (2 ^ 32 - 1) v (omega arith) (omega arith));
}

pub shows : (act : Act) → Held (fields_of act) → Shows (fields_of act)
unfolding fields_of event_fields ballot_fields
shows (Play (Lock n f false)) h = lock n f h.a h.b
shows (Play (Lock n f true)) h = lock-own n f h.a h.b
shows (Play (Order v)) h = order v h.value
shows (Play (Cast k true t)) h = willing k t h.a h.value
shows (Play (Cast k false t)) h = unwilling k t h.a h.value
shows (Play (Deliver i j Vote)) h = deliver-vote i j h.a h.b
shows (Play (Deliver i j Ack)) h = deliver-acknowledgement i j h.a h.b
shows (Play (Deliver i j Help)) h = deliver-help-call i j h.a h.b
shows (Play (Deliver i j Helped)) h = deliver-help-answer i j h.a h.b
shows (Play (Timeout k)) h = bell k h.a
shows (Play (Decide k false)) h = arbiter-stay k h.a
shows (Play (Decide k true)) h = arbiter-move k h.a
shows (Play (Stop k)) h = stop k h.a
shows (Play (Save k)) h = save k h.a
shows (Play (Restore k)) h = restore k h.a
shows (Play (OfBallots (Open k v))) h = ballot k v h.a h.value
shows (Play (OfBallots (Carry i j Prepare v))) h = deliver-ask i j v h.a h.b h.value
shows (Play (OfBallots (Carry i j Promise v))) h = deliver-promise i j v h.a h.b h.value
shows (Play (OfBallots (Carry i j Accept v))) h = deliver-put i j v h.a h.b h.value
shows (Play (OfBallots (Carry i j Accepted v))) h = deliver-taken i j v h.a h.b h.value
shows Back h = back-line

-- so the line is read as the record, whatever stands after it
pub line-back : (x : Fields) → Shows x → (k : ℕ) (rest : List ℕ) → read_lines k (lines_of (line_of x ++ rest)) ≡ after (record_bytes x) (read_lines (suc k) (lines_of rest))
unfolding read_lines read_line
line-back x s k rest =
    let ws : List (List ℕ) = s.first ∷ s.others in
    let e : lines_of (line_of x ++ rest) ≡ joined ws ∷ lines_of rest = ap (λ (t : List ℕ). lines_of (t ++ rest)) s.text ∙ line_first s.first s.others rest s.plain in
    ap (read_lines k) e
    ∙ ap (λ (l : List ℕ). onward (read_words 0 unused (words_of l)) k (read_lines (suc k) (lines_of rest))) (all_shown ws s.plain)
    ∙ ap (λ (us : List (List ℕ)). onward (read_words 0 unused us) k (read_lines (suc k) (lines_of rest))) (words_back ws s.plain)
    ∙ ap (λ (r : LineRead). onward r k (read_lines (suc k) (lines_of rest))) s.back
