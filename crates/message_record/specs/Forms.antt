-- Document 02, U12 and U14, of telegrams, sentence by sentence. That no bytes are of two forms, and both round trips, are among the promises of every record.
use Rattle.std.specs.Prelude.{ℕ, ◌≤◌, ◌≡◌, true, false, List, [], ◌∷◌, ◌++◌, ◌⊎◌, length, Err}
use Rattle.model.specs.Numbers.{kind_number, ballot_kind_number, outcome_number}
use Rattle.model.specs.Questions.{accepted, refused, first_no}
use Rattle.model.specs.Ranges.{sizes_in_range, different_controllers}
use Rattle.model.specs.declared.BallotKind.TheVariants.{Prepare, Promise, Accept, Accepted}
use Rattle.model.specs.declared.BallotMessage.{BallotMessage}
use Rattle.model.specs.declared.Message.{Message}
use Rattle.model.specs.declared.Outcome.TheVariants.{None}
use Rattle.model.specs.declared.Telegram.TheVariants.{Plain, OfBallot}
use Rattle.records.specs.Bytes.{byte, number2, bytes2, bytes4}
use Rattle.records.specs.Codes.{is_kind, is_ballot_kind}
use Rattle.records.specs.Codec.{bytes_of, reads, write_reply}
use Rattle.message_record.specs.BallotMessages.{about_ballot}
use Rattle.message_record.specs.Telegrams.{telegrams}
use Rattle.message_record.specs.OldCabinets.{as_now, old_messages}

-- U14's sentences on a telegram of kinds 5 to 8
pub record Suited (b : BallotMessage) : Type 0 where
  -- "with empty sheets"
  pub known-empty : b.votes.known ≡ 0
  pub willing-empty : b.votes.willing ≡ 0
  -- "Ask has the middle two 0"
  pub ask : b.kind ≡ Prepare → (b.last ≡ 0) × (b.word ≡ None)
  -- "put and taken have last 0 and a word"
  pub put : b.kind ≡ Accept → (b.last ≡ 0) × (b.word ≡ None → ⊥)
  pub taken : b.kind ≡ Accepted → (b.last ≡ 0) × (b.word ≡ None → ⊥)
  -- "a promise has both or neither, last not above its ballot"
  pub promise : b.kind ≡ Promise → ((b.last ≡ 0) × (b.word ≡ None)) ⊎ ((b.last ≡ 0 → ⊥) × ((b.word ≡ None → ⊥) × (b.last ≤ b.ballot)))
  -- "Ballots go from 1 to 255"
  pub low : 1 ≤ b.ballot
  pub high : b.ballot ≤ 255

pub record Forms : Type 0 where
  -- U12. "Up to 16 the telegram remains as it is": what is written, what a writer answers, and how every slice but those of 20 and 24 bytes is read
  pub remains : (m : Message) → m.n ≤ 16 → bytes_of telegrams (Plain m) ≡ bytes_of old_messages m
  pub remains-answered : (out : List ℕ) (m : Message) → m.n ≤ 16 → write_reply telegrams out (Plain m) ≡ write_reply old_messages out m
  pub remains-read : (s : List ℕ) → (length s ≡ 20 → ⊥) → (length s ≡ 24 → ⊥) → reads telegrams s ≡ as_now (reads old_messages s)
  -- "From 17 up it is 20 bytes with mark 4C 4C, known and willing of 4 bytes each."
  pub from_17 : (m : Message) → 17 ≤ m.n
      → bytes_of telegrams (Plain m) ≡ 0x4C ∷ 0x4C ∷ kind_number m.kind ∷ m.n ∷ m.f ∷ m.from ∷ m.to ∷ 0 ∷ (bytes4 m.order ++ (bytes4 m.votes.known ++ bytes4 m.votes.willing))
  -- U14. "four bytes more: ballot, ballot last taken (0 none), word (0 none, 1 Stay, 2 Move), 0"
  pub four-more : (b : BallotMessage) → b.n ≤ 16
      → bytes_of telegrams (OfBallot b)
      ≡ 0x4C ∷ 0x4B ∷ ballot_kind_number b.kind ∷ b.n ∷ b.f ∷ b.from ∷ b.to ∷ 0
      ∷ (bytes4 b.order ++ (bytes2 b.votes.known ++ (bytes2 b.votes.willing ++ (b.ballot ∷ b.last ∷ outcome_number b.word ∷ 0 ∷ []))))
  pub four-more_17 : (b : BallotMessage) → 17 ≤ b.n
      → bytes_of telegrams (OfBallot b)
      ≡ 0x4C ∷ 0x4C ∷ ballot_kind_number b.kind ∷ b.n ∷ b.f ∷ b.from ∷ b.to ∷ 0
      ∷ (bytes4 b.order ++ (bytes4 b.votes.known ++ (bytes4 b.votes.willing ++ (b.ballot ∷ b.last ∷ outcome_number b.word ∷ 0 ∷ []))))
  -- a writer asks for that length: a buffer of another gets 1
  pub short-buffer : (out : List ℕ) (m : Message) → m.n ≤ 16 → (length out ≡ 16 → ⊥) → write_reply telegrams out (Plain m) ≡ refused 1
  pub long-buffer : (out : List ℕ) (m : Message) → 17 ≤ m.n → (length out ≡ 20 → ⊥) → write_reply telegrams out (Plain m) ≡ refused 1
  pub short-ballot-buffer : (out : List ℕ) (b : BallotMessage) → b.n ≤ 16 → (length out ≡ 20 → ⊥) → write_reply telegrams out (OfBallot b) ≡ refused 1
  pub long-ballot-buffer : (out : List ℕ) (b : BallotMessage) → 17 ≤ b.n → (length out ≡ 24 → ⊥) → write_reply telegrams out (OfBallot b) ≡ refused 1
  -- U12: "On reading, question 1 admits both lengths", 24 with U14, and no other
  pub admits_16 : (s : List ℕ) → length s ≡ 16 → reads telegrams s ≡ Err 1 → ⊥
  pub admits_20 : (s : List ℕ) → length s ≡ 20 → reads telegrams s ≡ Err 1 → ⊥
  pub admits_24 : (s : List ℕ) → length s ≡ 24 → reads telegrams s ≡ Err 1 → ⊥
  pub no_other : (s : List ℕ) → (length s ≡ 16 → ⊥) → (length s ≡ 20 → ⊥) → (length s ≡ 24 → ⊥) → reads telegrams s ≡ Err 1
  -- U12: "a mark of the other length gets 2". U14: "20 bytes now admit either mark, 24 just 4C 4C"
  pub mark-of_16 : (s : List ℕ) → length s ≡ 16 → (number2 s 0 ≡ 0x4C4B → ⊥) → reads telegrams s ≡ Err 2
  pub mark-of_20 : (s : List ℕ) → length s ≡ 20 → (number2 s 0 ≡ 0x4C4B → ⊥) → (number2 s 0 ≡ 0x4C4C → ⊥) → reads telegrams s ≡ Err 2
  pub mark-of_24 : (s : List ℕ) → length s ≡ 24 → (number2 s 0 ≡ 0x4C4C → ⊥) → reads telegrams s ≡ Err 2
  pub either-mark : (s : List ℕ) → length s ≡ 20 → (number2 s 0 ≡ 0x4C4B) ⊎ (number2 s 0 ≡ 0x4C4C) → reads telegrams s ≡ Err 2 → ⊥
  -- U14: "a word above 2, or a kind that does not suit mark and length, gets 3"
  pub kinds-of_16 : (s : List ℕ) → length s ≡ 16 → number2 s 0 ≡ 0x4C4B → is_kind (byte s 2) ≡ false → reads telegrams s ≡ Err 3
  pub kinds-of_20 : (s : List ℕ) → length s ≡ 20 → number2 s 0 ≡ 0x4C4B → is_ballot_kind (byte s 2) ≡ false → reads telegrams s ≡ Err 3
  pub kinds-of-long_20 : (s : List ℕ) → length s ≡ 20 → number2 s 0 ≡ 0x4C4C → is_kind (byte s 2) ≡ false → reads telegrams s ≡ Err 3
  pub kinds-of_24 : (s : List ℕ) → length s ≡ 24 → number2 s 0 ≡ 0x4C4C → is_ballot_kind (byte s 2) ≡ false → reads telegrams s ≡ Err 3
  pub word-of_20 : (s : List ℕ) → length s ≡ 20 → number2 s 0 ≡ 0x4C4B → 3 ≤ byte s 18 → reads telegrams s ≡ Err 3
  pub word-of_24 : (s : List ℕ) → length s ≡ 24 → number2 s 0 ≡ 0x4C4C → 3 ≤ byte s 22 → reads telegrams s ≡ Err 3
  -- U12: "The long form with n below 17, and the short form with n above 16, get 4", once 1, 2 and 3 are answered yes
  pub above_16 : (s : List ℕ) → length s ≡ 16 → number2 s 0 ≡ 0x4C4B → is_kind (byte s 2) ≡ true → byte s 7 ≡ 0 → 17 ≤ byte s 3 → reads telegrams s ≡ Err 4
  pub below_17 : (s : List ℕ) → length s ≡ 20 → number2 s 0 ≡ 0x4C4C → is_kind (byte s 2) ≡ true → byte s 7 ≡ 0 → byte s 3 ≤ 16 → reads telegrams s ≡ Err 4
  pub ballot-above_16 : (s : List ℕ) → length s ≡ 20 → number2 s 0 ≡ 0x4C4B → is_ballot_kind (byte s 2) ≡ true → byte s 7 ≡ 0 → byte s 18 ≤ 2 → byte s 19 ≡ 0 → 17 ≤ byte s 3
      → reads telegrams s ≡ Err 4
  pub ballot-below_17 : (s : List ℕ) → length s ≡ 24 → number2 s 0 ≡ 0x4C4C → is_ballot_kind (byte s 2) ≡ true → byte s 7 ≡ 0 → byte s 22 ≤ 2 → byte s 23 ≡ 0 → byte s 3 ≤ 16
      → reads telegrams s ≡ Err 4
  -- U14: what the questions of kinds 5 to 8 let through; and they "go between any two": beside the numbers that every telegram has, nothing else is asked
  pub suited : (b : BallotMessage) → first_no (about_ballot b) ≡ accepted → Suited b
  pub between-any-two : (b : BallotMessage) → sizes_in_range b.n b.f ≡ true → different_controllers b.n b.from b.to ≡ true → 1 ≤ b.order → Suited b → first_no (about_ballot b) ≡ accepted
  -- U12: "old cabinets meet the long form with refusal 1", and so they do every telegram of a ballot
  pub old_cabinets : (m : Message) → 17 ≤ m.n → reads old_messages (bytes_of telegrams (Plain m)) ≡ Err 1
  pub old_cabinets-ballots : (b : BallotMessage) → reads old_messages (bytes_of telegrams (OfBallot b)) ≡ Err 1
