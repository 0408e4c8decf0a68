-- Lines and the records that they stand for, of every form; and lines with one fault each.
use Rattle.std.specs.Prelude.{ℕ, ◌≡◌, List, [], ◌∷◌}
use Prim.Native.String.{String}
use Rattle.text.specs.Text.{ascii}
use Rattle.schedule_text.specs.Texts.{made, refused, read_text, write_text}

-- "4C 45; kind; a; b; c; value (4)"
abbrev bytes : ℕ → ℕ → ℕ → ℕ → ℕ → ℕ → ℕ → ℕ → List ℕ
bytes kind a b c v3 v2 v1 v0 = 0x4C ∷ 0x45 ∷ kind ∷ a ∷ b ∷ c ∷ v3 ∷ v2 ∷ v1 ∷ v0 ∷ []

-- the line is written of those bytes, and read as them
abbrev Line : String → List ℕ → Type 0
Line l s = (write_text s ≡ made (ascii l)) × (read_text (ascii l) ≡ made s)

-- a text in other words
abbrev Reads : String → List ℕ → Type 0
Reads t s = read_text (ascii t) ≡ made s

-- a text whose word i of line k is not expected
abbrev Gets : String → ℕ → ℕ → Type 0
Gets t k i = read_text (ascii t) ≡ refused k i

pub record LineForLine : Type 0 where
  pub lock : Line "lock 2 1\n" (bytes 0 2 1 0 0 0 0 0)
  pub lock-own : Line "lock 5 2 own-arbiter\n" (bytes 0 5 2 1 0 0 0 0)
  pub order : Line "order 1\n" (bytes 1 0 0 0 0 0 0 1)
  pub willing : Line "vote 1 willing 500\n" (bytes 2 1 1 0 0 0 1 244)
  pub unwilling : Line "vote 2 unwilling -250\n" (bytes 2 2 0 0 255 255 255 6)
  pub vote : Line "deliver vote 1 2\n" (bytes 3 1 2 1 0 0 0 0)
  pub acknowledgement : Line "deliver acknowledgement 1 2\n" (bytes 3 1 2 2 0 0 0 0)
  pub help-call : Line "deliver help-call 3 2\n" (bytes 3 3 2 3 0 0 0 0)
  pub help-answer : Line "deliver help-answer 2 3\n" (bytes 3 2 3 4 0 0 0 0)
  pub ask : Line "deliver ask 4 1 3\n" (bytes 3 1 3 5 0 0 0 4)
  pub promise : Line "deliver promise 4 3 1\n" (bytes 3 3 1 6 0 0 0 4)
  pub put : Line "deliver put 4 1 3\n" (bytes 3 1 3 7 0 0 0 4)
  pub taken : Line "deliver taken 4 3 1\n" (bytes 3 3 1 8 0 0 0 4)
  pub bell : Line "bell 1\n" (bytes 4 1 0 0 0 0 0 0)
  pub move : Line "arbiter 1 move\n" (bytes 5 1 1 0 0 0 0 0)
  pub stay : Line "arbiter 2 stay\n" (bytes 5 2 0 0 0 0 0 0)
  pub stop : Line "stop 1\n" (bytes 6 1 0 0 0 0 0 0)
  pub save : Line "save 1\n" (bytes 7 1 0 0 0 0 0 0)
  pub restore : Line "restore 1\n" (bytes 8 1 0 0 0 0 0 0)
  pub back : Line "back\n" (bytes 9 0 0 0 0 0 0 0)
  pub ballot : Line "ballot 1 4\n" (bytes 10 1 0 0 0 0 0 4)
  -- comments, blank lines, tabs, returns, noughts before a number, and a last line without its end
  pub others : Reads "# a lock\n\n  lock\t02 1 # of two\r\nbell 1" (0x4C ∷ 0x45 ∷ 0 ∷ 2 ∷ 1 ∷ 0 ∷ 0 ∷ 0 ∷ 0 ∷ 0 ∷ bytes 4 1 0 0 0 0 0 0)
  -- a return at a line's end, a comment right after a word, and a nought with a sign
  pub ended_by_return : Reads "bell 1\r\n" (bytes 4 1 0 0 0 0 0 0)
  pub close_comment : Reads "bell 1#2\n" (bytes 4 1 0 0 0 0 0 0)
  pub minus_nought : Reads "vote 1 willing -0\n" (bytes 2 1 1 0 0 0 0 0)
  pub no_text : Reads "" []
  -- a first word that is none; one too many; one too few; numbers that do not fit; another's name; no number
  pub first : Gets "lock 2 1\n\nvoet 1 willing 500\n" 3 0
  pub more : Gets "bell 1 2\n" 1 2
  pub fewer : Gets "lock 2 1\nvote 1 willing\n" 2 3
  pub lock-alone : Gets "lock 2\n" 1 2
  pub too-high : Gets "stop 256\n" 1 1
  pub too-low : Gets "vote 1 willing -2147483649\n" 1 3
  pub other_name : Gets "arbiter 1 willing\n" 1 2
  pub no_number : Gets "order one\n" 1 1
  pub capital : Gets "Lock 2 1\n" 1 0
  -- comments, blank lines and returns are counted as lines are; of two faults the first is named, of two lines and of two words
  pub counted : Gets "# a lock\r\n\nlock 2 1\r\nvoet\n" 4 0
  pub first-of-two : Gets "bell one two\nvoet\n" 1 1
  pub fifth : Gets "deliver ask 4 1 3 1\n" 1 5
  -- a line that ends before each of the places
  pub no-controller : Gets "bell\n" 1 1
  pub no-order : Gets "order\n" 1 1
  pub no-willing : Gets "vote 1\n" 1 2
  pub no_word : Gets "arbiter 1\n" 1 2
  pub no-telegram : Gets "deliver\n" 1 1
  -- a name with a letter more, and with one fewer
  pub longer : Gets "locks 2 1\n" 1 0
  pub shorter : Gets "loc 2 1\n" 1 0
  -- what is no number, and numbers one too high
  pub plus : Gets "vote 1 willing +5\n" 1 3
  pub minus-alone : Gets "vote 1 willing -\n" 1 3
  pub comma : Gets "vote 1 willing 1,000\n" 1 3
  pub colon : Gets "order 1:\n" 1 1
  pub f_too-high : Gets "lock 2 256\n" 1 2
  pub order_too-high : Gets "order 4294967296\n" 1 1
  pub target_too-high : Gets "vote 1 willing 2147483648\n" 1 3
  -- of two records that do not read, the first, by its index and the question: a kind that is none, and one that breaks off
  pub records : write_text (0x4C ∷ 0x45 ∷ 4 ∷ 1 ∷ 0 ∷ 0 ∷ 0 ∷ 0 ∷ 0 ∷ 0 ∷ 0x4C ∷ 0x45 ∷ 11 ∷ 1 ∷ 0 ∷ 0 ∷ 0 ∷ 0 ∷ 0 ∷ 0 ∷ 0x4C ∷ []) ≡ refused 1 3
  pub short : write_text (0x4C ∷ []) ≡ refused 0 1
