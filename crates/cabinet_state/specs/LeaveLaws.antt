-- Leaving by a reply and by its number are the same, but for a refusal of number 0, which no question has.
use Rattle.std.specs.Prelude.{◌≡◌, refl, ℕ, Bool, true, false, cond, ◌&&◌, List, Result, Ok, Err, length, eqb}
use Rattle.std.proofs.Common.{◌∙◌, ne_eqb}
use Rattle.model.specs.Questions.{accepted, refused, number}
use Rattle.model.specs.Refusals.{refusal_number, reply_of, reply_by}
use Rattle.model.specs.RefusalLaws.{never_zero}
use Rattle.model.specs.declared.Refusal.{Refusal}
use Rattle.cabinet_state.specs.declared.Cabinet.{Cabinet}
use Rattle.cabinet_state.specs.Words.{state_words, words_of}
use Rattle.cabinet_state.specs.States.{leave_number, leave_words, left_words}

unwritten : (b : Bool) (m l : List ℕ) → l ≡ cond (b && false) m l
unwritten true m l = refl
unwritten false m l = refl

-- a number is 0 where there is no refusal
pub of_number : (l : List ℕ) (s : Cabinet) → left_words l accepted s ≡ leave_words l 0 s
unfolding left_words
of_number l s = refl

pub of_refusal : (l : List ℕ) (q : ℕ) (s : Cabinet) → (q ≡ 0 → ⊥) → left_words l (refused q) s ≡ leave_words l q s
unfolding left_words leave_words
of_refusal l q s h = rw (ne_eqb q 0 h) (unwritten (eqb (length l) state_words) (words_of s) l)

-- a refusal that is named by its question
pub of_question : (l m : List ℕ) (a r : Result Unit Refusal) (s : Cabinet)
    → (number (reply_by refusal_number r) ≡ leave_number l (number (reply_by refusal_number a))) × (m ≡ left_words l (reply_by refusal_number a) s)
    → (number (reply_of r) ≡ leave_number l (number (reply_of a))) × (m ≡ leave_words l (number (reply_of a)) s)
of_question l m (Ok a) (Ok r) s (e, w) = (e, w ∙ of_number l s)
of_question l m (Ok a) (Err p) s (e, w) = (e, w ∙ of_number l s)
of_question l m (Err q) (Ok r) s (e, w) = (e, w ∙ of_refusal l (refusal_number q) s (never_zero q))
of_question l m (Err q) (Err p) s (e, w) = (e, w ∙ of_refusal l (refusal_number q) s (never_zero q))
