-- Events and the step back as their bytes (document 01, "Records"; document 02, U11 and U14), and what reading answers to bytes of those kinds with one fault.
use Rattle.std.specs.Prelude.{ℕ, ◌≡◌, true, false, List, [], ◌∷◌, replicate}
use Rattle.model.specs.declared.Kind.TheVariants.{Ack}
use Rattle.model.specs.declared.BallotKind.TheVariants.{Prepare, Promise, Accept, Accepted}
use Rattle.model.specs.declared.BallotEvent.TheVariants.{Open, Carry}
use Rattle.model.specs.declared.Act.{Act}
use Rattle.model.specs.declared.Act.TheVariants.{Play, Back}
use Rattle.model.specs.declared.Event.TheVariants.{Lock, Deliver, OfBallots}
use Rattle.records.specs.Codec.{reads, writes}
use Rattle.std.specs.Prelude.{Ok, Err}
use Rattle.event_record.specs.Events.{events}

-- "4C 45; kind; a; b; c; value (4)"
abbrev bytes : ℕ → ℕ → ℕ → ℕ → ℕ → ℕ → List ℕ
bytes kind a b c high low = 0x4C ∷ 0x45 ∷ kind ∷ a ∷ b ∷ c ∷ 0 ∷ 0 ∷ high ∷ low ∷ []

-- the act is written as those bytes, and read back from them; bytes that are refused
abbrev StandsAs : Act → List ℕ → Type 0
StandsAs act s = (writes events (replicate 10 0) act ≡ s) × (reads events s ≡ Ok act)

abbrev Gets : List ℕ → ℕ → Type 0
Gets s q = reads events s ≡ Err q

pub record ByteForByte : Type 0 where
  -- "Its lock event has c = 1; with c = 0 the arbiter stays as it is"; c is a flag
  pub lock : StandsAs (Play (Lock 3 2 false)) (bytes 0 3 2 0 0 0)
  pub lock-own : StandsAs (Play (Lock 3 2 true)) (bytes 0 3 2 1 0 0)
  pub lock_2 : Gets (bytes 0 3 2 2 0 0) 3
  pub lock-value : Gets (bytes 0 3 2 1 0 1) 3
  -- "Event kind 9, all fields 0"
  pub step_back : StandsAs Back (bytes 9 0 0 0 0 0)
  pub step-back-a : Gets (bytes 9 1 0 0 0 0) 3
  pub step-back-b : Gets (bytes 9 0 1 0 0 0) 3
  pub step-back_c : Gets (bytes 9 0 0 1 0 0) 3
  pub step-back-value : Gets (bytes 9 0 0 0 0 1) 3
  pub step-back_256 : Gets (bytes 9 0 0 0 1 0) 3
  -- "Event kind 10 (a, value = b ..)": b and c are 0; the value is not asked here
  pub opening : StandsAs (Play (OfBallots (Open 2 5))) (bytes 10 2 0 0 0 5)
  pub opening_256 : StandsAs (Play (OfBallots (Open 2 256))) (bytes 10 2 0 0 1 0)
  pub opening-b : Gets (bytes 10 2 1 0 0 5) 3
  pub opening_c : Gets (bytes 10 2 0 1 0 5) 3
  pub kind_11 : Gets (bytes 11 2 0 0 0 5) 3
  -- "A delivery of these kinds names the ballot in its value": a = from, b = to, c = 5 ask, 6 promise, 7 put, 8 taken; kinds 1 to 4 have no value, and there is no 0 and no 9
  pub ack : StandsAs (Play (Deliver 1 2 Ack)) (bytes 3 1 2 2 0 0)
  pub ack-value : Gets (bytes 3 1 2 2 0 5) 3
  pub ask : StandsAs (Play (OfBallots (Carry 1 2 Prepare 4))) (bytes 3 1 2 5 0 4)
  pub promise : StandsAs (Play (OfBallots (Carry 2 1 Promise 4))) (bytes 3 2 1 6 0 4)
  pub put : StandsAs (Play (OfBallots (Carry 1 2 Accept 255))) (bytes 3 1 2 7 0 255)
  pub taken : StandsAs (Play (OfBallots (Carry 2 1 Accepted 0))) (bytes 3 2 1 8 0 0)
  pub kind_0 : Gets (bytes 3 1 2 0 0 4) 3
  pub kind_9 : Gets (bytes 3 1 2 9 0 4) 3
