-- Telegrams of each form, byte for byte (document 02, U12 and U14).
use Rattle.std.specs.Prelude.{ℕ, ◌≡◌, List, [], ◌∷◌, length, replicate, Ok}
use Rattle.model.specs.declared.Kind.{Kind}
use Rattle.model.specs.declared.Kind.TheVariants.{Vote, Ack}
use Rattle.model.specs.declared.BallotKind.{BallotKind}
use Rattle.model.specs.declared.BallotKind.TheVariants.{Prepare, Promise, Accept, Accepted}
use Rattle.model.specs.declared.Outcome.{Outcome}
use Rattle.model.specs.declared.Outcome.TheVariants.{None, Stay, Move}
use Rattle.model.specs.declared.Telegram.{Telegram}
use Rattle.model.specs.declared.Telegram.TheVariants.{Plain, OfBallot}
use Rattle.records.specs.Codec.{reads, writes}
use Rattle.message_record.specs.Telegrams.{telegrams}

abbrev telegram : Kind → ℕ → ℕ → ℕ → ℕ → ℕ → ℕ → ℕ → Telegram
telegram kind n f from to order known willing =
    Plain (record { kind = kind; n = n; f = f; from = from; to = to; order = order; votes = record { known = known; willing = willing } })

-- one of a ballot, with an empty vote set
abbrev of_ballot : BallotKind → ℕ → ℕ → ℕ → ℕ → ℕ → ℕ → ℕ → Outcome → Telegram
of_ballot kind n f from to order ballot last word =
    OfBallot (record { kind = kind; n = n; f = f; from = from; to = to; order = order; votes = record { known = 0; willing = 0 }; ballot = ballot; last = last; word = word })

-- the telegram is written as those bytes, and read back from them
abbrev StandsAs : Telegram → List ℕ → Type 0
StandsAs t s = (writes telegrams (replicate (length s) 0) t ≡ s) × (reads telegrams s ≡ Ok t)

pub record ByteForByte : Type 0 where
  -- the acknowledgement of 1 to 16, which knows all of 1 to 16: all but 16 are willing
  pub sixteen
      : StandsAs (telegram Ack 16 15 1 16 7 0xFFFF 0x7FFF) (0x4C ∷ 0x4B ∷ 2 ∷ 16 ∷ 15 ∷ 1 ∷ 16 ∷ 0 ∷ 0 ∷ 0 ∷ 0 ∷ 7 ∷ 0xFF ∷ 0xFF ∷ 0x7F ∷ 0xFF ∷ [])
  -- the same of 1 to 17: all but 16 are willing
  pub seventeen
      : StandsAs (telegram Ack 17 16 1 17 7 0x1FFFF 0x17FFF)
      (0x4C ∷ 0x4C ∷ 2 ∷ 17 ∷ 16 ∷ 1 ∷ 17 ∷ 0 ∷ 0 ∷ 0 ∷ 0 ∷ 7 ∷ 0 ∷ 1 ∷ 0xFF ∷ 0xFF ∷ 0 ∷ 1 ∷ 0x7F ∷ 0xFF ∷ [])
  -- the vote of 32 to 1
  pub thirty_two
      : StandsAs (telegram Vote 32 31 32 1 7 0x80000000 0x80000000)
      (0x4C ∷ 0x4C ∷ 1 ∷ 32 ∷ 31 ∷ 32 ∷ 1 ∷ 0 ∷ 0 ∷ 0 ∷ 0 ∷ 7 ∷ 0x80 ∷ 0 ∷ 0 ∷ 0 ∷ 0x80 ∷ 0 ∷ 0 ∷ 0 ∷ [])
  -- in a lock of three: 2 asks 3 for its ballot 5, 3 promises it and reports that it took Move in ballot 4, 2 puts that word, 3 has taken it
  pub ask : StandsAs (of_ballot Prepare 3 1 2 3 7 5 0 None) (0x4C ∷ 0x4B ∷ 5 ∷ 3 ∷ 1 ∷ 2 ∷ 3 ∷ 0 ∷ 0 ∷ 0 ∷ 0 ∷ 7 ∷ 0 ∷ 0 ∷ 0 ∷ 0 ∷ 5 ∷ 0 ∷ 0 ∷ 0 ∷ [])
  pub promise : StandsAs (of_ballot Promise 3 1 3 2 7 5 4 Move) (0x4C ∷ 0x4B ∷ 6 ∷ 3 ∷ 1 ∷ 3 ∷ 2 ∷ 0 ∷ 0 ∷ 0 ∷ 0 ∷ 7 ∷ 0 ∷ 0 ∷ 0 ∷ 0 ∷ 5 ∷ 4 ∷ 2 ∷ 0 ∷ [])
  pub put : StandsAs (of_ballot Accept 3 1 2 3 7 5 0 Move) (0x4C ∷ 0x4B ∷ 7 ∷ 3 ∷ 1 ∷ 2 ∷ 3 ∷ 0 ∷ 0 ∷ 0 ∷ 0 ∷ 7 ∷ 0 ∷ 0 ∷ 0 ∷ 0 ∷ 5 ∷ 0 ∷ 2 ∷ 0 ∷ [])
  pub taken : StandsAs (of_ballot Accepted 3 1 3 2 7 5 0 Move) (0x4C ∷ 0x4B ∷ 8 ∷ 3 ∷ 1 ∷ 3 ∷ 2 ∷ 0 ∷ 0 ∷ 0 ∷ 0 ∷ 7 ∷ 0 ∷ 0 ∷ 0 ∷ 0 ∷ 5 ∷ 0 ∷ 2 ∷ 0 ∷ [])
  -- in a lock of 24: 3 promises 20 its ballot 44, and took Stay in ballot 20
  pub promise-of-24
      : StandsAs (of_ballot Promise 24 5 3 20 7 44 20 Stay)
      (0x4C ∷ 0x4C ∷ 6 ∷ 24 ∷ 5 ∷ 3 ∷ 20 ∷ 0 ∷ 0 ∷ 0 ∷ 0 ∷ 7 ∷ 0 ∷ 0 ∷ 0 ∷ 0 ∷ 0 ∷ 0 ∷ 0 ∷ 0 ∷ 44 ∷ 20 ∷ 1 ∷ 0 ∷ [])
