-- HOW LISTS WITH KEPT CALLS RELATE TO DOCUMENT 01'S. There a help call that comes before stage 3 is passed over; by document 02, U4 it is kept and answered at
-- the second timeout. Every list gives the bench that document 01 gives when each kept call is delivered once more right after its receiver's second timeout.
-- `as_document_01` in src/lib.rt has it as its contract.
use Rattle.std.specs.Prelude.{ℕ, ◌≡◌, Bool, false, cond, ◌&&◌, List, [], ◌∷◌, ◌++◌, map, eqb, leb}
use Rattle.model.specs.declared.Kind.TheVariants.{Vote, Ack, Help, Helped}
use Rattle.model.specs.declared.Event.{Event}
use Rattle.model.specs.declared.Event.TheVariants.{Lock, Order, Cast, Deliver, Timeout, Decide, Stop, Save, Restore, OfBallots}
use Rattle.protocol.specs.declared.Controller.{Controller}
use Rattle.protocol.specs.declared.Bench.{Bench}
use Rattle.protocol.specs.Controllers.{phase, with_help}
use Rattle.protocol.specs.Benches.{new_bench, station, controller, sent_by}
use Rattle.protocol.specs.Questions.{is_accepted, reply}
use Rattle.protocol.specs.Steps.{step}
use Rattle.protocol.specs.Sequence.{members}
use Rattle.protocol.specs.Claim.{after}

-- a help call to one that is before stage 3
abbrev pub is_early : Bench → Event → Bool
is_early b (Lock n f own) = false
is_early b (Order o) = false
is_early b (Cast i willing target) = false
is_early b (Deliver i j Vote) = false
is_early b (Deliver i j Ack) = false
is_early b (Deliver i j Help) = leb (phase (controller b j)) 2
is_early b (Deliver i j Helped) = false
is_early b (Timeout i) = false
is_early b (Decide i move) = false
is_early b (Stop i) = false
is_early b (Save i) = false
is_early b (Restore i) = false
is_early b (OfBallots e) = false

-- Document 01's bench: "Before stage 3 it is passed over." So none is kept, and a second timeout answers nobody; in all else it steps as the bench does
unfoldable pub step01 : Bench → Event → Bench
step01 b e = cond (is_early b e) b (step b e)

unfoldable pub run01 : Bench → List Event → Bench
run01 b [] = b
run01 b (e ∷ es) = run01 (step01 b e) es

-- right after an accepted second timeout, each call that was kept, in rising order of caller
abbrev pub is_second_timeout : Bench → ℕ → Bool
is_second_timeout b i = is_accepted (reply b (Timeout i)) && eqb (phase (controller b i)) 2

abbrev pub kept_calls : Bench → ℕ → List Event
kept_calls b i = map (λ j. Deliver j i Help) (members b.shared.n (controller b i).help.callers)

abbrev pub once_more : Bench → Event → List Event
once_more b (Lock n f own) = []
once_more b (Order o) = []
once_more b (Cast i willing target) = []
once_more b (Deliver i j kind) = []
once_more b (Timeout i) = cond (is_second_timeout b i) (kept_calls b i) []
once_more b (Decide i move) = []
once_more b (Stop i) = []
once_more b (Save i) = []
once_more b (Restore i) = []
once_more b (OfBallots e) = []

-- the list with each kept call once more, along the bench that keeps them
unfoldable pub lengthened : Bench → List Event → List Event
lengthened b [] = []
lengthened b (e ∷ es) = e ∷ (once_more b e ++ lengthened (step b e) es)

-- a controller without the calls that it keeps
abbrev pub with_callers : Controller → ℕ → Controller
with_callers c m = with_help c (record { waiting = c.help.waiting; votes = c.help.votes; callers = m })

unfoldable pub without_kept : Controller → Controller
without_kept c = cond (leb (phase c) 2) (with_callers c 0) c

-- the same bench, but for the calls kept
pub record SameButKept (b b₁ : Bench) : Type 0 where
  pub shared : b.shared ≡ b₁.shared
  pub ballots : b.ballots ≡ b₁.ballots
  pub controllers : (i : ℕ) → without_kept (controller b i) ≡ controller b₁ i
  pub sent : (i : ℕ) → sent_by b i ≡ sent_by b₁ i
  pub saved : (i : ℕ) → (station b i).saved ≡ (station b₁ i).saved

pub record AsDocument01 : Type 0 where
  -- after every list
  pub bench : (es : List Event) → SameButKept (after es) (run01 new_bench (lengthened new_bench es))
  -- and each event is answered there as it is here
  pub answers : (es : List Event) (e : Event) → reply (after es) e ≡ reply (run01 new_bench (lengthened new_bench es)) e
