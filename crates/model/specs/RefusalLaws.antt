-- Laws of refusals: what `?` lets through was answered "yes", and what it returns early is the first "no".
use Rattle.std.specs.Prelude.{◌≡◌, refl, Bool, true, false, cond, Result, Ok, Err, List, ltb}
use Rattle.std.proofs.Common.{sym, ap}
use Rattle.ground.specs.Tests.{no_both}
use Rattle.model.specs.Questions.{accepted, refused, Question, first_no}
use Rattle.model.specs.QuestionLaws.{AllYes, all_yes}
use Rattle.model.specs.Refusals.{refusal_number, reply_of}
use Rattle.model.specs.declared.Refusal.{Refusal}
use Rattle.model.specs.declared.Refusal.TheVariants.{Length, Mark, Listed, Sizes, LockSetUp, NoLock, Controllers, OrderNumber, VoteSet, Route}
use Rattle.model.specs.declared.Refusal.TheVariants.{Position, LaterOrder, GatesClosed, OrderOpen, Condition, Stage, Sent, WordPut, Saved, LevelRange}
use Rattle.model.specs.declared.Refusal.TheVariants.{LevelOrder, Lockages, Drawn, Contradiction, Lock, Remembered, Schedules, Ballot, BallotWord, OwnCard}

-- one question, by the contract of `ask`
pub asked : (yes : Bool) (q : Refusal) {r : Result Unit Refusal} → r ≡ cond yes (Ok tt) (Err q) → r ≡ Ok tt → yes ≡ true
asked true q e o = refl
asked false q e o = cc

-- a list of them
pub passed : {A : Type 0} {r : Result A Refusal} {a : A} (qs : List Question) → reply_of r ≡ first_no qs → r ≡ Ok a → AllYes qs
passed qs e o = all_yes qs (rw o at (sym e))

pub stopped : {A : Type 0} {r : Result A Refusal} {q : Refusal} (qs : List Question) → reply_of r ≡ first_no qs → r ≡ Err q → first_no qs ≡ refused (refusal_number q)
stopped qs e o = rw o at (sym e)

-- no refusal has the number 0, which means accepted
from_1 : (q : Refusal) → ltb 0 (refusal_number q) ≡ true
from_1 Length = refl
from_1 Mark = refl
from_1 Listed = refl
from_1 Sizes = refl
from_1 LockSetUp = refl
from_1 NoLock = refl
from_1 Controllers = refl
from_1 OrderNumber = refl
from_1 VoteSet = refl
from_1 Route = refl
from_1 Position = refl
from_1 LaterOrder = refl
from_1 GatesClosed = refl
from_1 OrderOpen = refl
from_1 Condition = refl
from_1 Stage = refl
from_1 Sent = refl
from_1 WordPut = refl
from_1 Saved = refl
from_1 LevelRange = refl
from_1 LevelOrder = refl
from_1 Lockages = refl
from_1 Drawn = refl
from_1 Contradiction = refl
from_1 Lock = refl
from_1 Remembered = refl
from_1 Schedules = refl
from_1 Ballot = refl
from_1 BallotWord = refl
from_1 OwnCard = refl

pub never_zero : (q : Refusal) → refusal_number q ≡ 0 → ⊥
never_zero q z = no_both (ltb 0 (refusal_number q)) (from_1 q) (ap (ltb 0) z)
