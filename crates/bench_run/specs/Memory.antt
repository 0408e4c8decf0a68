-- What a run remembers, so that steps can be taken back: which record it plays next, and how many steps can be taken back. Document 02, U11.
use Rattle.std.specs.Prelude.{ℕ, ◌+◌, ◌-◌, ◌%◌, ◌≡◌, Bool, true, false, cond, not, List, eqb, ltb, get_or}
use Rattle.model.specs.declared.Act.TheVariants.{Play, Back}
use Rattle.event_record.specs.Events.{ReadEvent}
use Rattle.std.specs.Prelude.{Ok, Err}
use Rattle.model.specs.Questions.{number}
use Rattle.protocol.specs.declared.Bench.{Bench}
use Rattle.steps_back.specs.Memory.{most_remembered, back_reply}
use Rattle.bench_run.specs.declared.Next.{Next}
use Rattle.bench_run.specs.declared.Next.TheVariants.{Play as Plays, Other}
use Rattle.bench_run.specs.declared.Pause.TheVariants.{Refused as Unread, Back as StepBack, Note}

-- so many events are a page, and the places of two pages are kept
abbrev pub page_size : ℕ
page_size = 128

abbrev pub ring_size : ℕ
ring_size = 256

-- where the record lies that is played now: of an event that is played again, or the next one
unfoldable pub place_of : List ℕ → ℕ → ℕ → ℕ → ℕ
place_of ring noted k left = cond (ltb k noted) (get_or ring ((left - (noted - k)) % ring_size) 0) k

-- what comes next
unfoldable pub next_of : ReadEvent → Next
next_of (Err q) = Other (Unread q)
next_of (Ok (Play e)) = Plays e
next_of (Ok Back) = Other StepBack

unfoldable pub next_at : Bool → ReadEvent → Next
next_at pending r = cond pending (Other Note) (next_of r)

-- how many steps can be taken back after one more event
unfoldable pub remembered : ℕ → ℕ → ℕ
remembered undoable left = cond (eqb left 0) 0 (cond (ltb undoable most_remembered) (undoable + 1) most_remembered)

-- the number of a step back's answer
abbrev pub back_number : Bool → ℕ → ℕ
back_number locked undoable = number (back_reply locked (not (eqb undoable 0)))

-- what a step back leaves, k records being played with it: the first one of a schedule begins again; one that is refused changes nothing; one that is accepted
-- goes to the front of the page in which the event stood that is undone
pub record BackTaken (remembers locked : Bool) (undoable left k answer k' noted' left' undoable' : ℕ) : Type 0 where
  pub first : remembers ≡ false → (answer ≡ 0) × (k' ≡ 0) × (noted' ≡ 0) × (left' ≡ 0) × (undoable' ≡ 0)
  pub asked : remembers ≡ true → answer ≡ back_number locked undoable
  pub refused : remembers ≡ true → (answer ≡ 0 → ⊥) → (k' ≡ k) × (noted' ≡ k - 1) × (left' ≡ left) × (undoable' ≡ undoable)
  pub taken : remembers ≡ true → answer ≡ 0 → (k' ≡ k - (left - 1) % page_size) × (noted' ≡ k) × (left' ≡ left - 1) × (undoable' ≡ undoable - 1)

-- the bench that is kept for a page
abbrev pub kept_of : ℕ → Bench → Bench → Bench
kept_of i even odd = cond (ltb (i % ring_size) page_size) even odd
