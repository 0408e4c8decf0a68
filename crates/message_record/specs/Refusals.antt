-- What reading answers to bytes of each form: none with a fault, then one fault each, in the sequence of the questions; last, faults of two questions.
use Rattle.std.specs.Prelude.{ℕ, ◌≡◌, Bool, true, ◌&&◌, List, [], ◌∷◌, ◌++◌, eqb}
use Rattle.records.specs.Bytes.{bytes2, bytes4}
use Rattle.records.specs.Codec.{answer_of, reads}
use Rattle.message_record.specs.Telegrams.{telegrams}

-- bytes, and the number that they get: 0 for a record
pub record Trial : Type 0 where
  pub bytes : List ℕ
  pub answer : ℕ

abbrev gets : List ℕ → ℕ → Trial
gets s q = record { bytes = s; answer = q }

unfoldable pub answers_right : List Trial → Bool
answers_right [] = true
answers_right (t ∷ ts) = eqb (answer_of (reads telegrams t.bytes)).number t.answer && answers_right ts

-- the bytes up to the order; the vote set of either width; a ballot's four bytes more
abbrev head : ℕ → ℕ → ℕ → ℕ → ℕ → ℕ → ℕ → ℕ → List ℕ
head mark kind n f from to spare order = bytes2 mark ++ (kind ∷ n ∷ f ∷ from ∷ to ∷ spare ∷ bytes4 order)

abbrev short : ℕ → ℕ → List ℕ
short known willing = bytes2 known ++ bytes2 willing

abbrev long : ℕ → ℕ → List ℕ
long known willing = bytes4 known ++ bytes4 willing

abbrev more : ℕ → ℕ → ℕ → ℕ → List ℕ
more ballot last word spare = ballot ∷ last ∷ word ∷ spare ∷ []

-- 16 bytes, 4C 4B: the vote of 2 to 1 in a lock of 3 with f = 1
unfoldable pub of_sixteen : List Trial
of_sixteen =
    gets (head 0x4C4B 1 3 1 2 1 0 7 ++ short 2 2) 0
    -- lengths, and the mark of the long forms
    ∷ gets [] 1
    ∷ gets (head 0x4C4B 1 3 1 2 1 0 7 ++ bytes2 2) 1
    ∷ gets (head 0x4C4B 1 3 1 2 1 0 7 ++ (short 2 2 ++ (0 ∷ []))) 1
    ∷ gets (head 0x4C4C 1 3 1 2 1 0 7 ++ short 2 2) 2
    -- kinds that do not suit, the spare byte
    ∷ gets (head 0x4C4B 0 3 1 2 1 0 7 ++ short 2 2) 3
    ∷ gets (head 0x4C4B 5 3 1 2 1 0 7 ++ short 2 2) 3
    ∷ gets (head 0x4C4B 1 3 1 2 1 1 7 ++ short 2 2) 3
    -- n against the form, n and f
    ∷ gets (head 0x4C4B 1 17 1 2 1 0 7 ++ short 2 2) 4
    ∷ gets (head 0x4C4B 1 1 1 2 1 0 7 ++ short 2 2) 4
    ∷ gets (head 0x4C4B 1 3 0 2 1 0 7 ++ short 2 2) 4
    ∷ gets (head 0x4C4B 1 3 3 2 1 0 7 ++ short 2 2) 4
    -- sender and receiver, the order
    ∷ gets (head 0x4C4B 1 3 1 0 1 0 7 ++ short 2 2) 7
    ∷ gets (head 0x4C4B 1 3 1 2 4 0 7 ++ short 2 2) 7
    ∷ gets (head 0x4C4B 1 3 1 2 2 0 7 ++ short 2 2) 7
    ∷ gets (head 0x4C4B 1 3 1 2 1 0 0 ++ short 2 2) 8
    -- a vote that knows another, or nobody; willing beyond known; a bit above n; a help call that knows one; an acknowledgement without its sender
    ∷ gets (head 0x4C4B 1 3 1 2 1 0 7 ++ short 3 2) 9
    ∷ gets (head 0x4C4B 1 3 1 2 1 0 7 ++ short 0 0) 9
    ∷ gets (head 0x4C4B 2 3 1 1 2 0 7 ++ short 1 2) 9
    ∷ gets (head 0x4C4B 2 3 1 1 2 0 7 ++ short 9 1) 9
    ∷ gets (head 0x4C4B 3 3 1 2 3 0 7 ++ short 1 0) 9
    ∷ gets (head 0x4C4B 2 3 1 1 2 0 7 ++ short 2 2) 9
    -- a vote to one that is no holder
    ∷ gets (head 0x4C4B 1 3 1 2 3 0 7 ++ short 2 2) 10
    -- the first "no"
    ∷ gets (head 0x4C45 5 17 0 0 0 1 0 ++ short 9 2) 2
    ∷ gets (head 0x4C4B 5 17 0 0 0 1 0 ++ short 9 2) 3
    ∷ gets (head 0x4C4B 1 17 0 0 0 0 0 ++ short 9 2) 4
    ∷ gets (head 0x4C4B 1 3 1 0 0 0 0 ++ short 9 2) 7
    ∷ gets (head 0x4C4B 1 3 1 2 3 0 0 ++ short 9 2) 8
    ∷ gets (head 0x4C4B 1 3 1 2 3 0 7 ++ short 9 2) 9
    ∷ []

-- 20 bytes, 4C 4C: the vote of 20 to 1 in a lock of 24 with f = 5
unfoldable pub of_twenty : List Trial
of_twenty =
    gets (head 0x4C4C 1 24 5 20 1 0 7 ++ long 0x80000 0x80000) 0
    ∷ gets (head 0x4C4C 1 24 5 20 1 0 7 ++ (long 0x80000 0x80000 ++ (0 ∷ []))) 1
    ∷ gets (head 0x4C45 1 24 5 20 1 0 7 ++ long 0x80000 0x80000) 2
    ∷ gets (head 0x4C4C 0 24 5 20 1 0 7 ++ long 0x80000 0x80000) 3
    ∷ gets (head 0x4C4C 5 24 5 20 1 0 7 ++ long 0x80000 0x80000) 3
    ∷ gets (head 0x4C4C 1 24 5 20 1 1 7 ++ long 0x80000 0x80000) 3
    ∷ gets (head 0x4C4C 1 16 5 2 1 0 7 ++ long 2 2) 4
    ∷ gets (head 0x4C4C 1 33 5 20 1 0 7 ++ long 0x80000 0x80000) 4
    ∷ gets (head 0x4C4C 1 24 0 20 1 0 7 ++ long 0x80000 0x80000) 4
    ∷ gets (head 0x4C4C 1 24 24 20 1 0 7 ++ long 0x80000 0x80000) 4
    ∷ gets (head 0x4C4C 1 24 5 25 1 0 7 ++ long 0x80000 0x80000) 7
    ∷ gets (head 0x4C4C 1 24 5 20 0 0 7 ++ long 0x80000 0x80000) 7
    ∷ gets (head 0x4C4C 1 24 5 20 20 0 7 ++ long 0x80000 0x80000) 7
    ∷ gets (head 0x4C4C 1 24 5 20 1 0 0 ++ long 0x80000 0x80000) 8
    ∷ gets (head 0x4C4C 1 24 5 20 1 0 7 ++ long 0x80001 0x80000) 9
    ∷ gets (head 0x4C4C 2 24 5 1 20 0 7 ++ long 0x1000001 1) 9
    ∷ gets (head 0x4C4C 1 24 5 20 21 0 7 ++ long 0x80000 0x80000) 10
    ∷ []

-- 20 bytes, 4C 4B: the promise of 3 to 2 in a lock of 3 with f = 1, of ballot 5
unfoldable pub of_twenty_with_ballot : List Trial
of_twenty_with_ballot =
    gets (head 0x4C4B 6 3 1 3 2 0 7 ++ (short 0 0 ++ more 5 4 2 0)) 0
    -- lengths, marks
    ∷ gets (head 0x4C4B 6 3 1 3 2 0 7 ++ (short 0 0 ++ (5 ∷ 4 ∷ 2 ∷ []))) 1
    ∷ gets (head 0x4C4B 6 3 1 3 2 0 7 ++ (long 0 0 ++ more 5 4 2 0)) 2
    ∷ gets (head 0x4C45 6 3 1 3 2 0 7 ++ (short 0 0 ++ more 5 4 2 0)) 2
    -- kinds that do not suit, the spare bytes, a word above 2
    ∷ gets (head 0x4C4B 1 3 1 3 2 0 7 ++ (short 0 0 ++ more 5 4 2 0)) 3
    ∷ gets (head 0x4C4B 4 3 1 3 2 0 7 ++ (short 0 0 ++ more 5 4 2 0)) 3
    ∷ gets (head 0x4C4B 9 3 1 3 2 0 7 ++ (short 0 0 ++ more 5 4 2 0)) 3
    ∷ gets (head 0x4C4B 6 3 1 3 2 1 7 ++ (short 0 0 ++ more 5 4 2 0)) 3
    ∷ gets (head 0x4C4B 6 3 1 3 2 0 7 ++ (short 0 0 ++ more 5 4 3 0)) 3
    ∷ gets (head 0x4C4B 6 3 1 3 2 0 7 ++ (short 0 0 ++ more 5 4 2 1)) 3
    -- n against the form, n and f
    ∷ gets (head 0x4C4B 6 17 1 3 2 0 7 ++ (short 0 0 ++ more 5 4 2 0)) 4
    ∷ gets (head 0x4C4B 6 3 0 3 2 0 7 ++ (short 0 0 ++ more 5 4 2 0)) 4
    ∷ gets (head 0x4C4B 6 3 3 3 2 0 7 ++ (short 0 0 ++ more 5 4 2 0)) 4
    -- sender and receiver, the order
    ∷ gets (head 0x4C4B 6 3 1 0 2 0 7 ++ (short 0 0 ++ more 5 4 2 0)) 7
    ∷ gets (head 0x4C4B 6 3 1 3 4 0 7 ++ (short 0 0 ++ more 5 4 2 0)) 7
    ∷ gets (head 0x4C4B 6 3 1 3 3 0 7 ++ (short 0 0 ++ more 5 4 2 0)) 7
    ∷ gets (head 0x4C4B 6 3 1 3 2 0 0 ++ (short 0 0 ++ more 5 4 2 0)) 8
    -- a sheet that is not empty
    ∷ gets (head 0x4C4B 6 3 1 3 2 0 7 ++ (short 4 0 ++ more 5 4 2 0)) 9
    ∷ gets (head 0x4C4B 6 3 1 3 2 0 7 ++ (short 0 4 ++ more 5 4 2 0)) 9
    -- an ask: with nothing, a ballot last taken, a word
    ∷ gets (head 0x4C4B 5 3 1 2 3 0 7 ++ (short 0 0 ++ more 5 0 0 0)) 0
    ∷ gets (head 0x4C4B 5 3 1 2 3 0 7 ++ (short 0 0 ++ more 5 4 0 0)) 9
    ∷ gets (head 0x4C4B 5 3 1 2 3 0 7 ++ (short 0 0 ++ more 5 0 2 0)) 9
    -- a promise: with neither, with its own ballot, with one above it, with one of the two alone
    ∷ gets (head 0x4C4B 6 3 1 3 2 0 7 ++ (short 0 0 ++ more 5 0 0 0)) 0
    ∷ gets (head 0x4C4B 6 3 1 3 2 0 7 ++ (short 0 0 ++ more 5 5 1 0)) 0
    ∷ gets (head 0x4C4B 6 3 1 3 2 0 7 ++ (short 0 0 ++ more 5 6 1 0)) 9
    ∷ gets (head 0x4C4B 6 3 1 3 2 0 7 ++ (short 0 0 ++ more 5 4 0 0)) 9
    ∷ gets (head 0x4C4B 6 3 1 3 2 0 7 ++ (short 0 0 ++ more 5 0 1 0)) 9
    -- a put and a taken: with a word, without one, with a ballot last taken
    ∷ gets (head 0x4C4B 7 3 1 2 3 0 7 ++ (short 0 0 ++ more 5 0 1 0)) 0
    ∷ gets (head 0x4C4B 7 3 1 2 3 0 7 ++ (short 0 0 ++ more 5 0 0 0)) 9
    ∷ gets (head 0x4C4B 7 3 1 2 3 0 7 ++ (short 0 0 ++ more 5 4 1 0)) 9
    ∷ gets (head 0x4C4B 8 3 1 3 2 0 7 ++ (short 0 0 ++ more 5 0 1 0)) 0
    ∷ gets (head 0x4C4B 8 3 1 3 2 0 7 ++ (short 0 0 ++ more 5 0 0 0)) 9
    ∷ gets (head 0x4C4B 8 3 1 3 2 0 7 ++ (short 0 0 ++ more 5 4 1 0)) 9
    -- ballots from 1 to 255
    ∷ gets (head 0x4C4B 5 3 1 2 3 0 7 ++ (short 0 0 ++ more 0 0 0 0)) 28
    ∷ gets (head 0x4C4B 5 3 1 2 3 0 7 ++ (short 0 0 ++ more 1 0 0 0)) 0
    ∷ gets (head 0x4C4B 5 3 1 2 3 0 7 ++ (short 0 0 ++ more 255 0 0 0)) 0
    -- the first "no"
    ∷ gets (head 0x4C45 1 17 0 0 0 1 0 ++ (short 4 4 ++ more 0 4 3 1)) 2
    ∷ gets (head 0x4C4B 1 17 0 0 0 1 0 ++ (short 4 4 ++ more 0 4 3 1)) 3
    ∷ gets (head 0x4C4B 6 17 0 0 0 0 0 ++ (short 4 4 ++ more 0 4 2 0)) 4
    ∷ gets (head 0x4C4B 6 3 1 0 0 0 0 ++ (short 4 4 ++ more 0 4 2 0)) 7
    ∷ gets (head 0x4C4B 6 3 1 3 2 0 0 ++ (short 4 4 ++ more 0 4 2 0)) 8
    ∷ gets (head 0x4C4B 6 3 1 3 2 0 7 ++ (short 4 4 ++ more 0 4 2 0)) 9
    ∷ gets (head 0x4C4B 6 3 1 3 2 0 7 ++ (short 0 0 ++ more 0 4 2 0)) 9
    ∷ []

-- 24 bytes, 4C 4C: the promise of 3 to 20 in a lock of 24 with f = 5, of ballot 44
unfoldable pub of_twenty_four : List Trial
of_twenty_four =
    gets (head 0x4C4C 6 24 5 3 20 0 7 ++ (long 0 0 ++ more 44 20 1 0)) 0
    ∷ gets (head 0x4C4C 6 24 5 3 20 0 7 ++ (long 0 0 ++ (44 ∷ 20 ∷ 1 ∷ []))) 1
    ∷ gets (head 0x4C4C 6 24 5 3 20 0 7 ++ (long 0 0 ++ (44 ∷ 20 ∷ 1 ∷ 0 ∷ 0 ∷ []))) 1
    ∷ gets (head 0x4C4B 6 24 5 3 20 0 7 ++ (long 0 0 ++ more 44 20 1 0)) 2
    ∷ gets (head 0x4C4C 1 24 5 3 20 0 7 ++ (long 0 0 ++ more 44 20 1 0)) 3
    ∷ gets (head 0x4C4C 9 24 5 3 20 0 7 ++ (long 0 0 ++ more 44 20 1 0)) 3
    ∷ gets (head 0x4C4C 6 24 5 3 20 1 7 ++ (long 0 0 ++ more 44 20 1 0)) 3
    ∷ gets (head 0x4C4C 6 24 5 3 20 0 7 ++ (long 0 0 ++ more 44 20 3 0)) 3
    ∷ gets (head 0x4C4C 6 24 5 3 20 0 7 ++ (long 0 0 ++ more 44 20 1 1)) 3
    ∷ gets (head 0x4C4C 6 16 5 3 2 0 7 ++ (long 0 0 ++ more 44 20 1 0)) 4
    ∷ gets (head 0x4C4C 6 33 5 3 20 0 7 ++ (long 0 0 ++ more 44 20 1 0)) 4
    ∷ gets (head 0x4C4C 6 24 24 3 20 0 7 ++ (long 0 0 ++ more 44 20 1 0)) 4
    ∷ gets (head 0x4C4C 6 24 5 25 20 0 7 ++ (long 0 0 ++ more 44 20 1 0)) 7
    ∷ gets (head 0x4C4C 6 24 5 3 20 0 0 ++ (long 0 0 ++ more 44 20 1 0)) 8
    ∷ gets (head 0x4C4C 6 24 5 3 20 0 7 ++ (long 0x800000 0 ++ more 44 20 1 0)) 9
    ∷ gets (head 0x4C4C 6 24 5 3 20 0 7 ++ (long 0 0x800000 ++ more 44 20 1 0)) 9
    ∷ gets (head 0x4C4C 6 24 5 3 20 0 7 ++ (long 0 0 ++ more 44 45 1 0)) 9
    ∷ gets (head 0x4C4C 7 24 5 20 3 0 7 ++ (long 0 0 ++ more 44 0 0 0)) 9
    ∷ gets (head 0x4C4C 5 24 5 20 3 0 7 ++ (long 0 0 ++ more 0 0 0 0)) 28
    ∷ []

pub record Refusals : Type 0 where
  pub sixteen : answers_right of_sixteen ≡ true
  pub twenty : answers_right of_twenty ≡ true
  pub twenty_with-ballot : answers_right of_twenty_with_ballot ≡ true
  pub twenty-four : answers_right of_twenty_four ≡ true
