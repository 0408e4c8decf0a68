-- The text of a schedule is a text: no byte of it is a control byte but newlines, and it begins with a word.
use Prim.Native.Nat.{ℕ, zero, suc, ◌-◌, ◌^◌, ◌<◌}
use mathlib.Core.Path.{◌≡◌, refl, sym, ◌∙◌, ap}
use mathlib.Core.Bool.{Bool, true, false, not, ◌&&◌}
use mathlib.Core.List.{List, [], ◌∷◌, ◌++◌, append_assoc}
use native.Mathlib.Omega.{arith}
use borrow.Author.Tests.{le-ltb}
use lib.Dec.{eqb, ltb}
use lib.ListN.{length, take, drop, get_or}
use Rattle.ground.specs.Tests.{no_both, by_cond, and_l, and_r, or_no, or_no_l, or_no_r}
use Rattle.text.specs.Text.{ascii, digit, digits, decimal, signed}
use Rattle.words.specs.Words.{belongs, pieces, words_of, nth_word}
use Rattle.model.specs.declared.Act.{Act}
use Rattle.model.specs.declared.Act.TheVariants.{Play, Back}
use Rattle.model.specs.declared.Event.{Event}
use Rattle.model.specs.declared.Event.TheVariants.{Lock, Order, Cast, Deliver, Timeout, Decide, Stop, Save, Restore, OfBallots}
use Rattle.model.specs.declared.BallotEvent.{BallotEvent}
use Rattle.model.specs.declared.BallotEvent.TheVariants.{Open, Carry}
use Rattle.event_record.specs.Events.{ballot_fields, event_fields, fields_of, read_event}
use Rattle.event_record.specs.declared.Fields.{Fields}
use Rattle.event_record.specs.Events.{ReadEvent}
use Rattle.std.specs.Prelude.{Ok, Err}
use Rattle.schedule_text.specs.Forms.{verbs, telegrams, willings, decisions, own, row_of, field_of, shown, left_out, spaced, line_of}
use Rattle.schedule_text.specs.Texts.{Turn, made, refused, after, written, write_records, count, write_text}
use Rattle.schedule_text.specs.declared.Slot.{Slot}
use Rattle.schedule_text.specs.declared.Slot.TheVariants.{Verb, A, B, Number, Target, Willing, Word, Telegram, Own, End}
use Rattle.schedule_input.specs.Input.{marked, is_control, has_control, is_text}

abbrev Plain : List ℕ → Type 0
Plain s = has_control s ≡ false

both-plain : (s t : List ℕ) → Plain s → Plain t → Plain (s ++ t)
unfolding has_control
both-plain [] t p q = q
both-plain (b ∷ s) t p q = or_no (is_control b) (has_control (s ++ t)) (or_no_l (is_control b) (has_control s) p) (both-plain s t (or_no_r (is_control b) (has_control s) p) q)

-- names
unfoldable plain : List (List ℕ) → Bool
plain [] = true
plain (w ∷ ws) = not (has_control w) && plain ws

not-true : (b : Bool) → not b ≡ true → b ≡ false
not-true true e = sym e
not-true false e = refl

nth-plain : (ws : List (List ℕ)) (k : ℕ) → plain ws ≡ true → Plain (get_or ws k [])
unfolding plain has_control
nth-plain [] k t = refl
nth-plain (w ∷ ws) zero t = not-true (has_control w) (and_l (not (has_control w)) (plain ws) t)
nth-plain (w ∷ ws) (suc k) t = nth-plain ws k (and_r (not (has_control w)) (plain ws) t)

names-plain : (plain (words_of verbs) ≡ true) × (plain (words_of telegrams) ≡ true) × (plain (words_of willings) ≡ true) × (plain (words_of decisions) ≡ true) × (plain (words_of own) ≡ true)
unfolding plain words_of pieces belongs has_control is_control
names-plain = (refl, refl, refl, refl, refl)

-- numbers
digit-plain : (d : ℕ) → Plain (digit d ∷ [])
unfolding has_control is_control
digit-plain d = rw (le-ltb (digit d) 32 (omega arith))

digits-plain : (k v : ℕ) → Plain (digits k v)
unfolding digits has_control
digits-plain zero v = refl
digits-plain (suc k) v =
    by_cond Plain (ltb v 10) (digit v ∷ []) _
    (λ _. digit-plain v)
    (λ _. both-plain (digits k _) (digit _ ∷ []) (digits-plain k _) (digit-plain _))

decimal-plain : (v : ℕ) → Plain (decimal v)
unfolding decimal
decimal-plain v = digits-plain 10 v

sign-plain : Plain (ascii "-")
unfolding has_control is_control
sign-plain = refl

signed-plain : (v : ℕ) → Plain (signed v)
unfolding signed
signed-plain v =
    by_cond Plain (ltb v (2 ^ 31)) (decimal v) (ascii "-" ++ decimal (2 ^ 32 - v))
    (λ _. decimal-plain v)
    (λ _. both-plain (ascii "-") (decimal (2 ^ 32 - v)) sign-plain (decimal-plain (2 ^ 32 - v)))

-- lines
none-plain : Plain []
unfolding has_control
none-plain = refl

shown-plain : (s : Slot) (v : ℕ) → Plain (shown s v)
unfolding shown
shown-plain Verb v = nth-plain (words_of verbs) v names-plain.0
shown-plain A v = decimal-plain v
shown-plain B v = decimal-plain v
shown-plain Number v = decimal-plain v
shown-plain Target v = signed-plain v
shown-plain Willing v = nth-plain (words_of willings) v names-plain.2
shown-plain Word v = nth-plain (words_of decisions) v names-plain.3
shown-plain Telegram v = nth-plain (words_of telegrams) (v - 1) names-plain.1
shown-plain Own v = nth-plain (words_of own) (v - 1) names-plain.4
shown-plain End v = none-plain

space-plain : Plain (ascii " ")
unfolding has_control is_control
space-plain = refl

end-plain : Plain (ascii "\n")
unfolding has_control is_control
end-plain = refl

spaced-plain : (s : Slot) (x : Fields) → Plain (spaced s x)
unfolding spaced
spaced-plain s x =
    by_cond Plain (left_out s x.c) [] (ascii " " ++ shown s (field_of s x))
    (λ _. none-plain)
    (λ _. both-plain (ascii " ") (shown s (field_of s x)) space-plain (shown-plain s (field_of s x)))

line_plain : (x : Fields) → Plain (line_of x)
unfolding line_of
line_plain x =
    let r = row_of x.kind x.c in
    let fourth = both-plain (spaced r.fourth x) (ascii "\n") (spaced-plain r.fourth x) end-plain in
    let third = both-plain (spaced r.third x) _ (spaced-plain r.third x) fourth in
    let second = both-plain (spaced r.second x) _ (spaced-plain r.second x) third in
    let first = both-plain (spaced r.first x) _ (spaced-plain r.first x) second in
    both-plain (shown Verb x.kind) _ (shown-plain Verb x.kind) first

-- a line begins with a word, and no word with 4C
unfoldable begins : List ℕ → Bool
begins [] = false
begins (b ∷ w) = not (eqb b 0x4C)

other-mark : (w u : List ℕ) → begins w ≡ true → marked (w ++ u) ≡ false
unfolding begins
other-mark [] u t = absurd (no_both false t refl)
other-mark (b ∷ []) [] t = not-true (eqb b 0x4C) t
other-mark (b ∷ []) (c ∷ u) t = rw (not-true (eqb b 0x4C) t)
other-mark (b ∷ c ∷ w) u t = rw (not-true (eqb b 0x4C) t)

unfoldable all_begin : List (List ℕ) → Bool
all_begin [] = true
all_begin (w ∷ ws) = begins w && all_begin ws

nth-begins : (ws : List (List ℕ)) (k : ℕ) → all_begin ws ≡ true → k < length ws → begins (get_or ws k []) ≡ true
unfolding all_begin
nth-begins [] k t h = absurd (omega arith)
nth-begins (w ∷ ws) zero t h = and_l (begins w) (all_begin ws) t
nth-begins (w ∷ ws) (suc k) t h = nth-begins ws k (and_r (begins w) (all_begin ws) t) (omega arith)

verbs_begin : (all_begin (words_of verbs) ≡ true) × (length (words_of verbs) ≡ 11)
unfolding all_begin begins words_of pieces belongs
verbs_begin = (refl, refl)

ballot-kind : (e : BallotEvent) → (ballot_fields e).kind < 11
unfolding ballot_fields
ballot-kind (Open id ballot) = omega arith
ballot-kind (Carry from to kind ballot) = omega arith

event-kind : (e : Event) → (event_fields e).kind < 11
unfolding event_fields
event-kind (Lock n f o) = omega arith
event-kind (Order number) = omega arith
event-kind (Cast id willing target) = omega arith
event-kind (Deliver from to kind) = omega arith
event-kind (Timeout id) = omega arith
event-kind (Decide id move) = omega arith
event-kind (Stop id) = omega arith
event-kind (Save id) = omega arith
event-kind (Restore id) = omega arith
event-kind (OfBallots e) = ballot-kind e

kind-of : (act : Act) → (fields_of act).kind < 11
unfolding fields_of
kind-of (Play e) = event-kind e
kind-of Back = omega arith

line-begun : (x : Fields) (u : List ℕ) → x.kind < 11 → marked (line_of x ++ u) ≡ false
unfolding line_of shown
line-begun x u h =
    let w = nth_word verbs x.kind in
    let k : x.kind < length (words_of verbs) = rw verbs_begin.1 h in
    ap marked (append_assoc w _ u) ∙ other-mark w _ (nth-begins (words_of verbs) x.kind verbs_begin.0 k)

begun : (act : Act) (u : List ℕ) → marked (line_of (fields_of act) ++ u) ≡ false
begun act u = line-begun (fields_of act) u (kind-of act)

-- texts
abbrev Text : Turn → Type 0
Text (made t) = Plain t × (marked t ≡ false)
Text (refused k q) = Unit

after_text : (act : Act) (r : Turn) → Text r → Text (after (line_of (fields_of act)) r)
after_text act (made t) p = (both-plain (line_of (fields_of act)) t (line_plain (fields_of act)) p.0, begun act t)
after_text act (refused k q) p = tt

written-text : (r : ReadEvent) (k : ℕ) (rest : Turn) → Text rest → Text (written r k rest)
written-text (Ok act) k rest p = after_text act rest p
written-text (Err q) k rest p = tt

records-text : (n k : ℕ) (s : List ℕ) → Text (write_records k n s)
unfolding write_records
records-text zero k s = (none-plain, refl)
records-text (suc n) k s = written-text (read_event (take 10 s)) k (write_records (suc k) n (drop 10 s)) (records-text n (suc k) (drop 10 s))

is-text : (r : Turn) (t : List ℕ) → Text r → r ≡ made t → is_text t ≡ true
unfolding is_text
is-text (made u) t p e = let f : u ≡ t = cc in rw (← f, p.0, p.1)
is-text (refused k q) t p e = let z : ◌≡◌ {A = ℕ} 0 1 = cc in absurd (omega arith)

pub text_of : (s t : List ℕ) → write_text s ≡ made t → is_text t ≡ true
unfolding write_text
text_of s t e = is-text (write_records 0 (count s) s) t (records-text (count s) 0 s) e
