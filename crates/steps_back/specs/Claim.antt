-- STEPS BACK: what is claimed of every list of acts, events and steps back, that a new bench is given, refused ones included. To be held against
-- document 02, U11. It has no premise. `steps_back` in src/lib.rt has it as its contract; the proof is in proofs/.
use Rattle.std.specs.Prelude.{ℕ, suc, ◌+◌, ◌*◌, ◌≤◌, min, ◌≡◌, Bool, true, false, List, [], ◌∷◌, ◌++◌, map, length}
use Rattle.model.specs.Numbers.{is_none}
use Rattle.model.specs.Questions.{accepted, refused}
use Rattle.model.specs.declared.Kind.TheVariants.{Vote, Ack, Help, Helped}
use Rattle.model.specs.declared.Outcome.{Outcome}
use Rattle.model.specs.declared.Outcome.TheVariants.{Stay, Move}
use Rattle.model.specs.declared.Event.{Event}
use Rattle.model.specs.declared.Event.TheVariants.{Lock, Timeout, Restore}
use Rattle.protocol.specs.declared.Bench.{Bench}
use Rattle.protocol.specs.Questions.{reply}
use Rattle.protocol.specs.Display.{shown_outcome, shown_position, message_count}
use Rattle.protocol.specs.Claim.{after, SameOrder, IsSecondTimeout, Clean, AllWilling, OneUnwilling, WillingVote}
use Rattle.protocol.specs.Termination.{Premise, Meets, RunsAt}
use Rattle.protocol.specs.CleanMessages.{CleanEnd}
use Rattle.protocol.specs.Counts.{open_gates_of}
use Rattle.protocol.specs.OpenCount.{full_count}
use Rattle.steps_back.specs.Memory.{Remembering, new_remembering, answer, run_acts, left}
use Rattle.model.specs.declared.Act.{Act}
use Rattle.model.specs.declared.Act.TheVariants.{Play, Back}

-- A moment is the time after any act: the list of acts up to there. The bench at it, with and without what is remembered; how many events are remembered.
abbrev pub at : List Act → Remembering
at acts = run_acts new_remembering acts

abbrev pub bench : List Act → Bench
bench acts = (at acts).bench

abbrev pub remembers : List Act → ℕ
remembers acts = length (at acts).past

-- its lock's n and f
abbrev pub n-at : List Act → ℕ
n-at acts = (bench acts).shared.n

abbrev pub f-at : List Act → ℕ
f-at acts = (bench acts).shared.f

abbrev pub Accepted : List Act → Act → Type 0
Accepted acts a = answer (at acts) a ≡ accepted

abbrev pub NoLock : Event → Type 0
NoLock e = (n f : ℕ) (own : Bool) → e ≡ Lock n f own → ⊥

-- the event e was accepted in these acts, at a moment at which the events es were left
pub record Came (acts : List Act) (es : List Event) (e : Event) : Type 0 where
  pub before : List Act
  pub since : List Act
  pub parts : acts ≡ before ++ (Play e ∷ since)
  pub taken : Accepted before (Play e)
  pub was-left : left before ≡ es

-- what a step back after these acts does: "undoes the last accepted event that is neither a step back nor undone already; lock events cannot be undone";
-- "The bench after it is equal, the remembered events aside, in every field to the bench before that event"
pub record Undoes (acts : List Act) : Type 0 where
  pub rest : List Event
  pub event : Event
  pub last : left acts ≡ rest ++ (event ∷ [])
  pub no-lock : NoLock event
  pub came : Came acts rest event
  pub as_before : bench (acts ++ (Back ∷ [])) ≡ bench came.before
  pub now-left : left (acts ++ (Back ∷ [])) ≡ rest

-- what its C line shows at the moment
pub record Holds (acts : List Act) (i : ℕ) (x : Outcome) : Type 0 where
  pub shows : shown_outcome (bench acts) i ≡ x
  pub some : is_none x ≡ false

pub record HoldsSome (acts : List Act) (i : ℕ) : Type 0 where
  pub outcome : Outcome
  pub holds : Holds acts i outcome

-- of two moments: the events left at the later one are those left at the earlier one, so that none of these has been undone, and `more`. That it comes later
-- in one list need not be said.
abbrev pub Kept : List Act → List Act → List Event → Type 0
Kept earlier later more = left later ≡ left earlier ++ more

-- "a gate set back by a step back has not been moved": it moves at an event, put after these acts
abbrev pub Moves : List Act → Event → ℕ → Type 0
Moves acts e k = shown_position (bench (acts ++ (Play e ∷ []))) k ≡ shown_position (bench acts) k → ⊥

pub record StepsBack : Type 0 where
  -- THE EVENTS LEFT, "the accepted events, without the undone ones and the steps back". An event that is accepted is left from then on,
  pub stays : (acts : List Act) (e : Event) → Accepted acts (Play e) → left (acts ++ (Play e ∷ [])) ≡ left acts ++ (e ∷ [])
  -- what is refused changes nothing of them, and a step back takes the last of them away (`undoes`, below).
  pub passed : (acts : List Act) (a : Act) (q : ℕ) → answer (at acts) a ≡ refused q → left (acts ++ (a ∷ [])) ≡ left acts
  -- At every moment the bench, the remembered events aside, is the one that they lead to from a new bench;
  pub as-left : (acts : List Act) → bench acts ≡ after (left acts)
  -- each of them was accepted, those before it being left then: so the moments of the list of events left are moments of the list of acts.
  pub moments : (acts : List Act) (es : List Event) (e : Event) (rest : List Event) → left acts ≡ es ++ (e ∷ rest) → Came acts es e
  -- Every event is answered as it is after those left;
  pub answers : (acts : List Act) (e : Event) → answer (at acts) (Play e) ≡ reply (after (left acts)) e
  -- "a refused event leaves the bench untouched", what is remembered too, and so does a refused step back.
  pub untouched : (acts : List Act) (a : Act) (q : ℕ) → answer (at acts) a ≡ refused q → at (acts ++ (a ∷ [])) ≡ at acts
  -- With no step back all is as without a memory.
  pub plain : (es : List Event) → bench (map Play es) ≡ after es
  -- A STEP BACK
  pub undoes : (acts : List Act) → Accepted acts Back → Undoes acts
  -- "take back an event and try another": right after an event that it can undo, all is as if that had not been put.
  pub tried : (acts : List Act) (e : Event) → Accepted acts (Play e) → NoLock e → bench (acts ++ (Play e ∷ Back ∷ [])) ≡ bench acts
  pub tried-left : (acts : List Act) (e : Event) → Accepted acts (Play e) → NoLock e → left (acts ++ (Play e ∷ Back ∷ [])) ≡ left acts
  -- "Up to 64 such events are remembered: one more pushes out the oldest, one undone is dropped."
  pub one_more : (acts : List Act) (e : Event) → Accepted acts (Play e) → NoLock e → remembers (acts ++ (Play e ∷ [])) ≡ min 64 (suc (remembers acts))
  pub none-at-lock : (acts : List Act) (n f : ℕ) (own : Bool) → Accepted acts (Play (Lock n f own)) → remembers (acts ++ (Play (Lock n f own) ∷ [])) ≡ 0
  pub one_fewer : (acts : List Act) → Accepted acts Back → suc (remembers (acts ++ (Back ∷ []))) ≡ remembers acts
  -- "Refused: 26, nothing to undo; after question 5." Nothing else is asked.
  pub no-lock_yet : (acts : List Act) → (bench acts).shared.locked ≡ false → answer (at acts) Back ≡ refused 5
  pub something : (acts : List Act) → 1 ≤ remembers acts → Accepted acts Back
  pub nothing : (acts : List Act) → (bench acts).shared.locked ≡ true → remembers acts ≡ 0 → answer (at acts) Back ≡ refused 26
  -- "All of demand 3, its list now with kind 9 and its clean orders included, and U5 and U10 are then read over the accepted events, without the undone
  -- ones and the steps back". DEMAND 3: "any two outcomes held for one order, by whichever controllers and at whichever moments of it, are the same;
  pub agreement : (earlier later : List Act) (more : List Event) (i j : ℕ) (x y : Outcome) → Kept earlier later more → SameOrder (left earlier) more
      → Holds earlier i x → Holds later j y → x ≡ y
  -- none is Move unless every controller's willing vote was accepted before in that order;
  pub validity : (acts : List Act) (i : ℕ) → Holds acts i Move → (k : ℕ) → 1 ≤ k → k ≤ n-at acts → WillingVote (left acts) k
  -- a gate moves at most once in an order,
  pub moves-once : (acts : List Act) (e : Event) (later : List Act) (e' : Event) (more : List Event) (k : ℕ) → Kept (acts ++ (Play e ∷ [])) later more
      → SameOrder (left (acts ++ (Play e ∷ []))) (more ++ (e' ∷ [])) → Moves acts e k → Moves later e' k → ⊥
  -- and at no restore;
  pub still-at-restore : (acts : List Act) (i k : ℕ) → Moves acts (Restore i) k → ⊥
  -- and in every clean order each second bell leaves its controller holding Move if all are willing, Stay if not."
  pub clean-move : (acts : List Act) (i : ℕ) → Accepted acts (Play (Timeout i)) → IsSecondTimeout (n-at acts) (f-at acts) (left acts) i
      → Clean (n-at acts) (f-at acts) (left acts ++ (Timeout i ∷ [])) → AllWilling (left acts) → Holds (acts ++ (Play (Timeout i) ∷ [])) i Move
  pub clean-stay : (acts : List Act) (i : ℕ) → Accepted acts (Play (Timeout i)) → IsSecondTimeout (n-at acts) (f-at acts) (left acts) i
      → Clean (n-at acts) (f-at acts) (left acts ++ (Timeout i ∷ [])) → OneUnwilling (left acts) → Holds (acts ++ (Play (Timeout i) ∷ [])) i Stay
  -- "In any order, kinds 1 and 2 together are at most 2fn telegrams."
  pub at-most_2fn : (acts : List Act) → message_count (bench acts) Vote + message_count (bench acts) Ack ≤ 2 * (f-at acts * n-at acts)
  -- U5: "each running controller has an outcome"
  pub hears : (acts : List Act) → ((p : Premise) → Meets p (left acts)) → (i : ℕ) → RunsAt (left acts) i → HoldsSome acts i
  -- U10: "For a clean order that has ended everywhere, the figure is to be exactly 2fn, fn of each kind, with no help call and no answer"
  pub exactly_2fn : (acts : List Act) → CleanEnd (left acts) → message_count (bench acts) Vote + message_count (bench acts) Ack ≡ 2 * (f-at acts * n-at acts)
  pub votes : (acts : List Act) → CleanEnd (left acts) → message_count (bench acts) Vote ≡ f-at acts * n-at acts
  pub acks : (acts : List Act) → CleanEnd (left acts) → message_count (bench acts) Ack ≡ f-at acts * n-at acts
  pub no-help : (acts : List Act) → CleanEnd (left acts) → message_count (bench acts) Help ≡ 0
  pub no-helped : (acts : List Act) → CleanEnd (left acts) → message_count (bench acts) Helped ≡ 0
  -- U7 and U9 are said of "any list from a new bench", and so of these: 24 is never answered, and the count kept of gates still open is the full count.
  pub never_24 : (acts : List Act) (a : Act) → answer (at acts) a ≡ refused 24 → ⊥
  pub counted : (acts : List Act) → open_gates_of (bench acts).shared ≡ full_count (bench acts)
