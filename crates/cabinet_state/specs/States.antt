-- Which words are a cabinet's state, and what a call leaves of them.
use Rattle.std.specs.Prelude.{ℕ, Bool, cond, ◌&&◌, List, eqb, length}
use Rattle.model.specs.Questions.{Reply, accepted, refused}
use Rattle.cabinet_state.specs.declared.Cabinet.{Cabinet}
use Rattle.cabinet_state.specs.Tables.{all_below}
use Rattle.cabinet_state.specs.Words.{mark_word, state_words, word, with_check, check_of, column_of, cabinet_of, words_of}

-- are these the words that a cabinet is written as, word for word
unfoldable pub same_words : ℕ → (ℕ → ℕ) → List ℕ → Bool
same_words check g l = all_below state_words (λ k. eqb (with_check check g k) (word l k))

-- are they those that the cabinet they stand for would be written as, the check word too
unfoldable pub written_form : List ℕ → Bool
written_form l = same_words (check_of (cabinet_of l)) (column_of (cabinet_of l)) l

-- 0, or the question that they fail. 1: are there as many words as a state has? 2: do they begin with the mark and this version? 3: are all of them as they are
-- written? A damaged state fails this one.
unfoldable pub state_refusal : List ℕ → ℕ
state_refusal l = cond (eqb (length l) state_words) (cond (eqb (word l 0) mark_word) (cond (written_form l) 0 3) 2) 1

-- the number that a writing call answers, and the words after it: a refusal leaves them as they were
unfoldable pub leave_number : List ℕ → ℕ → ℕ
leave_number l q = cond (eqb (length l) state_words) q 1

unfoldable pub leave_words : List ℕ → ℕ → Cabinet → List ℕ
leave_words l q s = cond (eqb (length l) state_words && eqb q 0) (words_of s) l

-- The words by a reply: one that accepts has the number 0, and any refusal leaves them as they were, whatever its number.
unfoldable pub left_words : List ℕ → Reply → Cabinet → List ℕ
left_words l accepted s = leave_words l 0 s
left_words l (refused q) s = l
