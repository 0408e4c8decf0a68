-- The line that eight locks share. Document 02, U8: "A flight of locks has one line."
use Rattle.std.specs.Prelude.{ℕ, zero, suc, ◌+◌, Bool, true, false, cond, ◌&&◌, List, [], ◌∷◌, leb, ltb, replicate}
use Rattle.ground.specs.Lists.{nth, put}
use Rattle.line.specs.declared.Line.{Line}
use Rattle.line.specs.declared.Done.{Done}
use Rattle.line.specs.declared.Act.{Act}
use Rattle.line.specs.declared.Act.TheVariants.{Turn, Call}
use Rattle.line.specs.declared.Answer.{Answer}
use Rattle.line.specs.declared.Answer.TheVariants.{Accepted, Refused, Served, Nobody}

-- nobody has called, and nobody was served
abbrev pub new_line : Line
new_line = record { calling = replicate 8 false; last = 0 }

-- "Locks 1 to 8"
abbrev pub is_lock : ℕ → Bool
is_lock k = leb 1 k && leb k 8

-- is lock k calling; a number that is no lock never is
unfoldable pub calls : Line → ℕ → Bool
calls l k = is_lock k && nth false l.calling k

-- the line with a call of lock k; the line where a turn has served lock k and ended its call
abbrev pub called : Line → ℕ → Line
called l k = record { calling = put l.calling k true; last = l.last }

abbrev pub ended : Line → ℕ → Line
ended l k = record { calling = put l.calling k false; last = k }

abbrev pub unchanged : Line → Answer → Done
unchanged l a = record { line = l; answer = a }

-- A call. "Refused: 25, a lock number outside 1 to 8."
unfoldable pub call_of : Line → ℕ → Done
call_of l k = cond (is_lock k) (record { line = called l k; answer = Accepted }) (unchanged l Refused)

-- "going up .., with 1 following 8": the lock after k. "The first turn starts from 1": 0 stands for none served yet.
-- (In a value that no acts lead to, the last served can be above 8; after it comes 1.)
unfoldable pub up : ℕ → ℕ
up k = cond (ltb k 8) (k + 1) 1

-- "the first caller met going up from" lock k, in so many steps; 0 if none of them calls
unfoldable pub first_caller : Line → ℕ → ℕ → ℕ
first_caller l zero k = 0
first_caller l (suc steps) k = cond (calls l k) k (first_caller l steps (up k))

-- "The one served is the first caller met going up from the lock after the last served": eight steps meet every lock
abbrev pub next : Line → ℕ
next l = first_caller l 8 (up l.last)

-- A turn. "A turn without callers serves none and leaves the last served as it was"; else it "serves one caller and ends its call".
unfoldable pub turn_of : Line → Done
turn_of l = cond (ltb (next l) 1) (unchanged l Nobody) (record { line = ended l (next l); answer = Served (next l) })

unfoldable pub perform : Line → Act → Done
perform l Turn = turn_of l
perform l (Call k) = call_of l k

-- the line after a list of acts
unfoldable pub run : Line → List Act → Line
run l [] = l
run l (a ∷ acts) = run (perform l a).line acts

-- document 02's number for the answer to a call; a turn is never refused
abbrev pub number : Answer → ℕ
number Accepted = 0
number Refused = 25
number (Served k) = 0
number Nobody = 0
