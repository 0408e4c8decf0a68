-- How long a text can be: no line has more than 80 bytes.
use Rattle.std.specs.Prelude.{ℕ, zero, suc, ◌+◌, ◌-◌, ◌*◌, ◌≤◌, ◌≡◌, refl, Bool, true, ◌&&◌, List, [], ◌∷◌, ◌++◌, leb, length, take, drop, get_or}
use Rattle.std.proofs.Common.{arith, leb-true, length-append}
use Rattle.ground.specs.Tests.{by_cond, and_l, and_r}
use Rattle.text.specs.Text.{ascii}
use Rattle.text.specs.Lengths.{decimal-length, signed-length}
use Rattle.words.specs.Words.{belongs, pieces, words_of}
use Rattle.event_record.specs.Events.{fields_of, read_event}
use Rattle.event_record.specs.declared.Fields.{Fields}
use Rattle.event_record.specs.Events.{ReadEvent}
use Rattle.std.specs.Prelude.{Ok, Err}
use Rattle.schedule_text.specs.Forms.{verbs, telegrams, willings, decisions, own, row_of, field_of, shown, left_out, spaced, line_of}
use Rattle.schedule_text.specs.Texts.{Turn, made, refused, after, written, write_records}
use Rattle.schedule_text.specs.declared.Slot.{Slot}
use Rattle.schedule_text.specs.declared.Slot.TheVariants.{Verb, A, B, Number, Target, Willing, Word, Telegram, Own, End}

-- no name has more than 15 bytes
unfoldable short : List (List ℕ) → Bool
short [] = true
short (w ∷ ws) = leb (length w) 15 && short ws

nth-short : (ws : List (List ℕ)) (k : ℕ) → short ws ≡ true → length (get_or ws k []) ≤ 15
unfolding short
nth-short [] k t = omega arith
nth-short (w ∷ ws) zero t = leb-true (length w) 15 (and_l (leb (length w) 15) (short ws) t)
nth-short (w ∷ ws) (suc k) t = nth-short ws k (and_r (leb (length w) 15) (short ws) t)

names-short : (short (words_of verbs) ≡ true) × (short (words_of telegrams) ≡ true) × (short (words_of willings) ≡ true) × (short (words_of decisions) ≡ true) × (short (words_of own) ≡ true)
unfolding short words_of pieces belongs
names-short = (refl, refl, refl, refl, refl)

shown-length : (s : Slot) (v : ℕ) → length (shown s v) ≤ 15
unfolding shown
shown-length Verb v = nth-short (words_of verbs) v names-short.0
shown-length A v = omega (arith, decimal-length v)
shown-length B v = omega (arith, decimal-length v)
shown-length Number v = omega (arith, decimal-length v)
shown-length Target v = omega (arith, signed-length v)
shown-length Willing v = nth-short (words_of willings) v names-short.2
shown-length Word v = nth-short (words_of decisions) v names-short.3
shown-length Telegram v = nth-short (words_of telegrams) (v - 1) names-short.1
shown-length Own v = nth-short (words_of own) (v - 1) names-short.4
shown-length End v = omega arith

spaced-length : (s : Slot) (x : Fields) → length (spaced s x) ≤ 16
unfolding spaced
spaced-length s x =
    by_cond (λ (t : List ℕ). length t ≤ 16) (left_out s x.c) [] (ascii " " ++ shown s (field_of s x))
    (λ _. omega arith)
    (λ _. omega (arith, shown-length s (field_of s x)))

line-length : (x : Fields) → length (line_of x) ≤ 80
unfolding line_of
line-length x =
    let r = row_of x.kind x.c in
    simp length-append (omega (arith, shown-length Verb x.kind, spaced-length r.first x, spaced-length r.second x, spaced-length r.third x, spaced-length r.fourth x))

abbrev pub Within : ℕ → Turn → Type 0
Within m (made t) = length t ≤ m
Within m (refused k q) = Unit

after-within : (m n : ℕ) (s : List ℕ) (r : Turn) → length s ≤ m → Within n r → Within (m + n) (after s r)
after-within m n s (made t) h w = let e = length-append s t in omega arith
after-within m n s (refused k q) h w = tt

pub records-within : (n k : ℕ) (s : List ℕ) → Within (80 * n) (write_records k n s)
unfolding write_records
records-within zero k s = omega arith
records-within (suc n) k s = by_record (read_event (take 10 s)) (records-within n (suc k) (drop 10 s))
  where
    more : (r : Turn) → Within (80 + 80 * n) r → Within (80 * suc n) r
    more (made t) w = omega arith
    more (refused j q) w = tt

    by_record : (r : ReadEvent) → Within (80 * n) (write_records (suc k) n (drop 10 s)) → Within (80 * suc n) (written r k (write_records (suc k) n (drop 10 s)))
    by_record (Err q) w = tt
    by_record (Ok act) w = more (after (line_of (fields_of act)) (write_records (suc k) n (drop 10 s))) (after-within 80 (80 * n) (line_of (fields_of act)) (write_records (suc k) n (drop 10 s)) (line-length (fields_of act)) w)
