-- The code's refusals and document 01's numbers.
use Rattle.std.specs.Prelude.{ℕ, Result, Ok, Err}
use Rattle.model.specs.Questions.{Reply, accepted, refused}
use Rattle.model.specs.declared.Refusal.{Refusal}
use Rattle.model.specs.declared.Refusal.TheVariants.{Length, Mark, Listed, Sizes, LockSetUp, NoLock, Controllers, OrderNumber, VoteSet, Route}
use Rattle.model.specs.declared.Refusal.TheVariants.{Position, LaterOrder, GatesClosed, OrderOpen, Condition, Stage, Sent, WordPut, Saved, LevelRange}
use Rattle.model.specs.declared.Refusal.TheVariants.{LevelOrder, Lockages, Drawn, Contradiction, Lock, Remembered, Schedules, Ballot, BallotWord, OwnCard}

-- each question has the number that the documents give it
abbrev pub refusal_number : Refusal → ℕ
refusal_number Length = 1
refusal_number Mark = 2
refusal_number Listed = 3
refusal_number Sizes = 4
refusal_number LockSetUp = 5
refusal_number NoLock = 6
refusal_number Controllers = 7
refusal_number OrderNumber = 8
refusal_number VoteSet = 9
refusal_number Route = 10
refusal_number Position = 11
refusal_number LaterOrder = 12
refusal_number GatesClosed = 13
refusal_number OrderOpen = 14
refusal_number Condition = 15
refusal_number Stage = 16
refusal_number Sent = 17
refusal_number WordPut = 18
refusal_number Saved = 19
refusal_number LevelRange = 20
refusal_number LevelOrder = 21
refusal_number Lockages = 22
refusal_number Drawn = 23
refusal_number Contradiction = 24
refusal_number Lock = 25
refusal_number Remembered = 26
refusal_number Schedules = 27
refusal_number Ballot = 28
refusal_number BallotWord = 29
refusal_number OwnCard = 30

-- what the code's answer says in document 01's terms
abbrev pub reply_of : {A : Type 0} → Result A Refusal → Reply
reply_of (Ok a) = accepted
reply_of (Err q) = refused (refusal_number q)

-- an answer by a reply: what is accepted gives this
abbrev pub replied : {A : Type 0} → Reply → A → Result A ℕ
replied accepted a = Ok a
replied (refused q) a = Err q

-- the same answer, with the number of the question
abbrev pub numbered : {A : Type 0} → Result A Refusal → Result A ℕ
numbered (Ok a) = Ok a
numbered (Err q) = Err (refusal_number q)

-- the same two of a refusal that has its number in another way
abbrev pub reply_by : {A Q : Type 0} → (Q → ℕ) → Result A Q → Reply
reply_by number (Ok a) = accepted
reply_by number (Err q) = refused (number q)

abbrev pub numbered_by : {A Q : Type 0} → (Q → ℕ) → Result A Q → Result A ℕ
numbered_by number (Ok a) = Ok a
numbered_by number (Err q) = Err (number q)
