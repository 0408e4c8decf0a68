-- Laws of the table of forms: past it there is no form, and what a word stands for fits the field.
use Rattle.std.specs.Prelude.{ℕ, ◌-◌, ◌^◌, ◌≤◌, ◌<◌, ◌≡◌, refl, Some, List, length}
use Rattle.std.proofs.Common.{arith}
use Rattle.std.proofs.Math.ListN.{get_or-eq_default}
use Rattle.words.specs.Words.{belongs, pieces, words_of}
use Rattle.words.specs.NumberLaws.{not-above, signed_in_32, among-names}
use Rattle.schedule_text.specs.Forms.{verbs, telegrams, willings, decisions, own, row, rows, row_of, room, value_in}
use Rattle.schedule_text.specs.declared.Slot.{Slot}
use Rattle.schedule_text.specs.declared.Slot.TheVariants.{Verb, A, B, Number, Target, Willing, Word, Telegram, Own, End}

pub no-form : (kind c : ℕ) → 11 ≤ kind → row_of kind c ≡ row End End End End
unfolding row_of
no-form kind c h = get_or-eq_default (rows c) (row End End End End) h

-- how many names there are
count-verbs : length (words_of verbs) ≡ 11
unfolding words_of pieces belongs
count-verbs = refl

count-telegrams : length (words_of telegrams) ≡ 8
unfolding words_of pieces belongs
count-telegrams = refl

count-willings : length (words_of willings) ≡ 2
unfolding words_of pieces belongs
count-willings = refl

count-decisions : length (words_of decisions) ≡ 2
unfolding words_of pieces belongs
count-decisions = refl

count-own : length (words_of own) ≡ 1
unfolding words_of pieces belongs
count-own = refl

pub fits_field : (s : Slot) (w : List ℕ) (v : ℕ) → Some v ≡ value_in s w → v ≤ room s
unfolding value_in room
fits_field Verb w v e = let h = among-names 0 (words_of verbs) w v e in omega (arith, count-verbs)
fits_field A w v e = not-above 255 w v e
fits_field B w v e = not-above 255 w v e
fits_field Number w v e = not-above (2 ^ 32 - 1) w v e
fits_field Target w v e = let h = signed_in_32 w v e in omega arith
fits_field Willing w v e = let h = among-names 0 (words_of willings) w v e in omega (arith, count-willings)
fits_field Word w v e = let h = among-names 0 (words_of decisions) w v e in omega (arith, count-decisions)
fits_field Telegram w v e = let h = among-names 1 (words_of telegrams) w v e in omega (arith, count-telegrams)
fits_field Own w v e = let h = among-names 1 (words_of own) w v e in omega (arith, count-own)
fits_field End w v e = let z : ◌≡◌ {A = ℕ} 0 1 = cc in absurd (omega arith)

-- a number in the room of a byte, or of four
pub in-byte : (s : Slot) (v : ℕ) → room s ≡ 255 → v ≤ room s → v < 2 ^ 8
in-byte s v e h = omega arith

pub in_four : (s : Slot) (v : ℕ) → room s ≡ 2 ^ 32 - 1 → v ≤ room s → v < 2 ^ 32
in_four s v e h = omega arith
