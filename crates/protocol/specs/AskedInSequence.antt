-- IN WHICH SEQUENCE THE BENCH PUTS ITS QUESTIONS, a line a kind of event: their numbers, of every bench. Document 01, "Questions put to a record or event": "In this
-- sequence, each where it applies." What each asks stands in Questions, and QuestionTrials has events beside their numbers. `asked_in_sequence` in src/lib.rt has it
-- as its contract; the records have theirs.
use Rattle.std.specs.Prelude.{ℕ, ◌≡◌, Bool, List, [], ◌∷◌}
use Rattle.model.specs.Questions.{numbers_asked}
use Rattle.model.specs.declared.Kind.{Kind}
use Rattle.model.specs.declared.BallotKind.{BallotKind}
use Rattle.model.specs.declared.BallotEvent.TheVariants.{Open, Carry}
use Rattle.model.specs.declared.Event.{Event}
use Rattle.model.specs.declared.Event.TheVariants.{Lock, Order, Cast, Deliver, Timeout, Decide, Stop, Save, Restore, OfBallots}
use Rattle.protocol.specs.declared.Bench.{Bench}
use Rattle.protocol.specs.Questions.{questions}

abbrev pub asks_at : Bench → Event → List ℕ
asks_at b e = numbers_asked (questions b e)

pub record AskedInSequence (b : Bench) : Type 0 where
  pub lock : (n f : ℕ) (own : Bool) → asks_at b (Lock n f own) ≡ 4 ∷ 6 ∷ []
  pub order : (o : ℕ) → asks_at b (Order o) ≡ 5 ∷ 8 ∷ 12 ∷ 13 ∷ []
  pub vote : (i : ℕ) (willing : Bool) (target : ℕ) → asks_at b (Cast i willing target) ≡ 5 ∷ 7 ∷ 11 ∷ 14 ∷ 15 ∷ 16 ∷ []
  -- 24: "last of all questions" (document 02, U7)
  pub deliver : (i j : ℕ) (kind : Kind) → asks_at b (Deliver i j kind) ≡ 5 ∷ 7 ∷ 10 ∷ 14 ∷ 15 ∷ 17 ∷ 24 ∷ []
  pub timeout : (i : ℕ) → asks_at b (Timeout i) ≡ 5 ∷ 7 ∷ 14 ∷ 15 ∷ 16 ∷ []
  pub decide : (i : ℕ) (move : Bool) → asks_at b (Decide i move) ≡ 5 ∷ 7 ∷ 14 ∷ 15 ∷ 16 ∷ 18 ∷ []
  pub stop : (i : ℕ) → asks_at b (Stop i) ≡ 5 ∷ 7 ∷ 14 ∷ 15 ∷ []
  pub save : (i : ℕ) → asks_at b (Save i) ≡ 5 ∷ 7 ∷ 14 ∷ 15 ∷ []
  pub restore : (i : ℕ) → asks_at b (Restore i) ≡ 5 ∷ 7 ∷ 14 ∷ 15 ∷ 19 ∷ []
  -- 28 and 29: "both after question 16" (document 02, U14)
  pub open-ballot : (i ballot : ℕ) → asks_at b (OfBallots (Open i ballot)) ≡ 5 ∷ 7 ∷ 14 ∷ 15 ∷ 28 ∷ 29 ∷ []
  pub carry : (i j : ℕ) (kind : BallotKind) (ballot : ℕ) → asks_at b (OfBallots (Carry i j kind ballot)) ≡ 5 ∷ 7 ∷ 14 ∷ 15 ∷ 28 ∷ 17 ∷ []
