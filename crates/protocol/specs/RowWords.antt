-- The words that the tables of trials are written in.
use Rattle.std.specs.Prelude.{ℕ, suc, ◌-◌, ◌^◌, ◌≡◌, Bool, true, false, cond, List, [], ◌∷◌, replicate}
use Rattle.model.specs.declared.Outcome.{Outcome}
use Rattle.model.specs.declared.Outcome.TheVariants.{None}
use Rattle.model.specs.declared.Event.{Event}
use Rattle.protocol.specs.Rows.{Line, Inside, Trial}

-- a C line, and a T line
abbrev pub C : ℕ → Outcome → ℕ → Line
C stage outcome position = record { stage = stage; outcome = outcome; position = position }

abbrev pub T : ℕ → ℕ → ℕ → ℕ → List ℕ
T votes acks calls answers = votes ∷ acks ∷ calls ∷ answers ∷ []

-- inside a controller with so many acknowledgements and help answers: nothing more; a word put; it waits
abbrev pub held : ℕ → ℕ → Inside
held cnt cnt-help = record { cnt = cnt; cnt-help = cnt-help; callers = []; waits = false; proposal = None }

abbrev pub proposed : Outcome → ℕ → ℕ → Inside
proposed word cnt cnt-help = record { cnt = cnt; cnt-help = cnt-help; callers = []; waits = false; proposal = word }

abbrev pub waits : ℕ → ℕ → Inside
waits cnt cnt-help = record { cnt = cnt; cnt-help = cnt-help; callers = []; waits = true; proposal = None }

-- and these have called it
abbrev pub called_by : List ℕ → Inside → Inside
called_by who x = record { cnt = x.cnt; cnt-help = x.cnt-help; callers = who; waits = x.waits; proposal = x.proposal }

-- a row after which no word is put
abbrev pub silent : List Event → List ℕ → List Line → List ℕ → List Inside → Trial
silent events answers lines message_counts inside = record { events = events; answers = answers; lines = lines; message_counts = message_counts; words = []; inside = inside }

-- a row after which one word is put
abbrev pub putting : Outcome → List Event → List ℕ → List Line → List ℕ → List Inside → Trial
putting word events answers lines message_counts inside = record { events = events; answers = answers; lines = lines; message_counts = message_counts; words = word ∷ []; inside = inside }

-- a position of −x mm: its two's complement in 32 bits; −250 is 4294967046
abbrev pub minus : ℕ → ℕ
minus x = 2 ^ 32 - x

-- the answers to k events, all accepted
abbrev pub all_accepted : ℕ → List ℕ
all_accepted k = replicate k 0

-- the place of the first row that does not pass, counted from k; 0 where there is none. And: every row of a table passes
unfoldable pub failing : {A : Type 0} → (A → Bool) → ℕ → List A → ℕ
failing test k [] = 0
failing test k (r ∷ rs) = cond (test r) (failing test (suc k) rs) k

abbrev pub AllPass : {A : Type 0} → (A → Bool) → List A → Type 0
AllPass test rows = failing test 1 rows ≡ 0
