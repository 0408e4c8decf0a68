-- A bench with memory. Document 02, U11, "A step back on the bench".
use Rattle.std.specs.Prelude.{ℕ, Bool, true, false, cond, List, [], ◌∷◌, ◌++◌, take}
use Rattle.model.specs.declared.Event.{Event}
use Rattle.model.specs.declared.Event.TheVariants.{Lock, Order, Cast, Deliver, Timeout, Decide, Stop, Save, Restore, OfBallots}
use Rattle.model.specs.Questions.{Reply, ask, first_no, is_accepted}
use Rattle.protocol.specs.declared.Bench.{Bench}
use Rattle.protocol.specs.Benches.{new_bench}
use Rattle.protocol.specs.Questions.{reply}
use Rattle.protocol.specs.Steps.{step}
use Rattle.model.specs.declared.Act.{Act}
use Rattle.model.specs.declared.Act.TheVariants.{Play, Back}

-- "lock events cannot be undone"
abbrev pub can_be_undone : Event → Bool
can_be_undone (Lock n f own) = false
can_be_undone (Order o) = true
can_be_undone (Cast i willing target) = true
can_be_undone (Deliver i j kind) = true
can_be_undone (Timeout i) = true
can_be_undone (Decide i move) = true
can_be_undone (Stop i) = true
can_be_undone (Save i) = true
can_be_undone (Restore i) = true
can_be_undone (OfBallots e) = true

-- the bench, and the bench before each remembered event, the newest first
pub record Remembering : Type 0 where
  pub bench : Bench
  pub past : List Bench

abbrev pub new_remembering : Remembering
new_remembering = record { bench = new_bench; past = [] }

-- "Up to 64 such events are remembered: one more pushes out the oldest"; with a lock nothing is
abbrev pub most_remembered : ℕ
most_remembered = 64

unfoldable pub past_after : Remembering → Event → List Bench
past_after s e = cond (can_be_undone e) (take most_remembered (s.bench ∷ s.past)) []

-- "The bench after it is equal, the remembered events aside, in every field to the bench before that event"; "one undone is dropped"
unfoldable pub set_back : Remembering → List Bench → Remembering
set_back s [] = s
set_back s (before ∷ older) = record { bench = before; past = older }

-- "Refused: 26, nothing to undo; after question 5."
abbrev pub is_some : List Bench → Bool
is_some [] = false
is_some (b ∷ bs) = true

abbrev pub back_reply : Bool → Bool → Reply
back_reply locked some = first_no (ask 5 locked ∷ ask 26 some ∷ [])

unfoldable pub answer : Remembering → Act → Reply
answer s (Play e) = reply s.bench e
answer s Back = back_reply s.bench.shared.locked (is_some s.past)

-- what an accepted act does; and any
unfoldable pub done : Remembering → Act → Remembering
done s (Play e) = record { bench = step s.bench e; past = past_after s e }
done s Back = set_back s s.past

unfoldable pub next : Remembering → Act → Remembering
next s a = cond (is_accepted (answer s a)) (done s a) s

unfoldable pub run_acts : Remembering → List Act → Remembering
run_acts s [] = s
run_acts s (a ∷ acts) = run_acts (next s a) acts

-- "the accepted events, without the undone ones and the steps back": an accepted event is left from then on; an accepted step back takes the last
-- that is left away
abbrev pub without_last : List Event → List Event
without_last [] = []
without_last (e ∷ []) = []
without_last (e ∷ e' ∷ es) = e ∷ without_last (e' ∷ es)

abbrev pub left_by : List Event → Act → List Event
left_by es (Play e) = es ++ (e ∷ [])
left_by es Back = without_last es

unfoldable pub left_from : Remembering → List Event → List Act → List Event
left_from s es [] = es
left_from s es (a ∷ acts) = left_from (next s a) (cond (is_accepted (answer s a)) (left_by es a) es) acts

-- of a list of acts from a new bench on
abbrev pub left : List Act → List Event
left acts = left_from new_remembering [] acts
