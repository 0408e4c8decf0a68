-- THE CLAIM: what the line promises of every list of acts, calls and turns, from a new line on. To be held against document 02, U8.
-- It goes by the answers given. `fair_line` in src/lib.rt has it as its contract; the proof is in proofs/.
use Rattle.std.specs.Prelude.{ℕ, suc, ◌+◌, ◌-◌, ◌≤◌, ◌≡◌, Bool, true, false, cond, ◌||◌, List, [], ◌∷◌, ◌++◌, eqb, ltb}
use Rattle.line.specs.declared.Line.{Line}
use Rattle.line.specs.declared.Act.{Act}
use Rattle.line.specs.declared.Act.TheVariants.{Turn, Call}
use Rattle.line.specs.declared.Answer.{Answer}
use Rattle.line.specs.declared.Answer.TheVariants.{Accepted, Refused, Served, Nobody}
use Rattle.line.specs.Turns.{new_line, calls, perform, run, number}

-- the line after these acts, the first of which a new line was given
abbrev pub after : List Act → Line
after acts = run new_line acts

-- what an act after these answers
abbrev pub answer : List Act → Act → Answer
answer acts a = (perform (after acts) a).answer

-- how many of the acts are turns
abbrev pub turns : List Act → ℕ
turns [] = 0
turns (Turn ∷ acts) = suc (turns acts)
turns (Call k ∷ acts) = turns acts

-- does this answer say that lock k was served
abbrev pub names : ℕ → Answer → Bool
names k Accepted = false
names k Refused = false
names k (Served j) = eqb k j
names k Nobody = false

-- does any of these acts serve lock k
unfoldable pub serves_any : Line → ℕ → List Act → Bool
serves_any l k [] = false
serves_any l k (a ∷ acts) = names k (perform l a).answer || serves_any (perform l a).line k acts

-- the last served, once an act has got this answer
abbrev pub latest : ℕ → Answer → ℕ
latest last Accepted = last
latest last Refused = last
latest last (Served k) = k
latest last Nobody = last

unfoldable pub last_in : Line → ℕ → List Act → ℕ
last_in l last [] = last
last_in l last (a ∷ acts) = last_in (perform l a).line (latest last (perform l a).answer) acts

-- the last served of these acts, by their answers; 0 if none was
abbrev pub last_served : List Act → ℕ
last_served acts = last_in new_line 0 acts

-- The locks passed "going up from the lock after the last served, with 1 following 8" before lock k is met: those between the two; or those from
-- the last served up to 8, and then those from 1 up to k. With 0 for the last served, those from 1 up to k: "the first turn starts from 1".
unfoldable pub passed : ℕ → ℕ → ℕ
passed last k = cond (ltb last k) (k - last - 1) ((8 - last) + (k - 1))

-- lock k is calling: a call of it was accepted, and none of the acts since has served it
pub record Calling (acts : List Act) (k : ℕ) : Type 0 where
  pub before : List Act
  pub since : List Act
  pub parts : acts ≡ before ++ (Call k ∷ since)
  pub taken : number (answer before (Call k)) ≡ 0
  pub unserved : serves_any (after (before ++ (Call k ∷ []))) k since ≡ false

-- acts with only seven turns that come after a call of lock k and do not serve it
pub record KeptSeven (k : ℕ) : Type 0 where
  pub before : List Act
  pub since : List Act
  pub taken : number (answer before (Call k)) ≡ 0
  pub seven : turns since ≡ 7
  pub unserved : serves_any (after (before ++ (Call k ∷ []))) k since ≡ false

-- a turn after these acts serves a lock
pub record ServesOne (acts : List Act) : Type 0 where
  pub lock : ℕ
  pub served : answer acts Turn ≡ Served lock

pub record FairLine : Type 0 where
  -- "No sequence of other locks' calls may keep a calling lock beyond the eighth turn after its call": any acts after it with eight turns serve it,
  pub eighth : (before since : List Act) (k : ℕ) → number (answer before (Call k)) ≡ 0 → 8 ≤ turns since
      → serves_any (after (before ++ (Call k ∷ []))) k since ≡ true
  -- and for every lock it can be the eighth: seven turns may not do.
  pub tight : (k : ℕ) → 1 ≤ k → k ≤ 8 → KeptSeven k
  -- "a turn serves one caller": who is served was calling,
  pub served-called : (acts : List Act) (k : ℕ) → answer acts Turn ≡ Served k → Calling acts k
  -- and where one is calling, one is served.
  pub serves : (acts : List Act) (k : ℕ) → Calling acts k → ServesOne acts
  -- "The one served is the first caller met going up from the lock after the last served, with 1 following 8; the first turn starts from 1":
  -- no caller is met before it.
  pub first : (acts : List Act) (k j : ℕ) → answer acts Turn ≡ Served k → Calling acts j → passed (last_served acts) k ≤ passed (last_served acts) j
  -- "and ends its call",
  pub ends : (acts : List Act) (k : ℕ) → answer acts Turn ≡ Served k → Calling (acts ++ (Turn ∷ [])) k → ⊥
  -- and no other's: the line knows every lock that is calling, and no call is lost.
  pub known : (acts : List Act) (k : ℕ) → Calling acts k → calls (after acts) k ≡ true
  pub only-known : (acts : List Act) (k : ℕ) → calls (after acts) k ≡ true → Calling acts k
  -- "A call by a lock already calling changes nothing."
  pub called-again : (acts : List Act) (k : ℕ) → Calling acts k → after (acts ++ (Call k ∷ [])) ≡ after acts
  -- "A turn without callers serves none and leaves the last served as it was."
  pub idle : (acts : List Act) → ((k : ℕ) → Calling acts k → ⊥) → answer acts Turn ≡ Nobody
  pub idle-last : (acts : List Act) → ((k : ℕ) → Calling acts k → ⊥) → (after (acts ++ (Turn ∷ []))).last ≡ (after acts).last
  -- (nothing else of the line is changed then, and what it keeps as its last is the last served)
  pub idle-line : (acts : List Act) → ((k : ℕ) → Calling acts k → ⊥) → after (acts ++ (Turn ∷ [])) ≡ after acts
  pub keeps-last : (acts : List Act) → (after acts).last ≡ last_served acts
  -- "Refused: 25, a lock number outside 1 to 8"; nothing is changed then,
  pub outside : (acts : List Act) (k : ℕ) → (1 ≤ k → k ≤ 8 → ⊥) → number (answer acts (Call k)) ≡ 25
  pub refused : (acts : List Act) (k : ℕ) → number (answer acts (Call k)) ≡ 25 → after (acts ++ (Call k ∷ [])) ≡ after acts
  -- and no lock is refused.
  pub locks : (acts : List Act) (k : ℕ) → 1 ≤ k → k ≤ 8 → number (answer acts (Call k)) ≡ 0
