-- What is promised of the words of a cabinet: both ways round, only written forms are taken, and one changed word is always noticed.
use Rattle.std.specs.Prelude.{ℕ, ◌<◌, ◌≡◌, List, length}
use Rattle.ground.specs.Limit.{limit}
use Rattle.protocol.specs.Controllers.{phase_in}
use Rattle.cabinet_state.specs.declared.Cabinet.{Cabinet}
use Rattle.cabinet_state.specs.Words.{word, cabinet_of, words_of}
use Rattle.cabinet_state.specs.States.{state_refusal}

-- what the types of the code say of every cabinet: its small numbers are bytes, and there are as many acknowledgements as the limit says
pub record InBytes (s : Cabinet) : Type 0 where
  pub n : s.me.n < 256
  pub f : s.me.f < 256
  pub id : s.me.id < 256
  pub phase : phase_in s.controller.condition < 256
  pub cnt : s.controller.acks.cnt.0 < 256
  pub helped : s.controller.helped.cnt_help.0 < 256
  pub sets : length s.controller.acks.sets ≡ limit
  pub highest : s.ballots.acceptor.highest < 256
  pub promised : s.ballots.acceptor.promised < 256
  pub last : s.ballots.acceptor.last < 256
  pub reported : s.ballots.report.last < 256
  pub opened : s.ballots.opened < 256
  pub top : s.ballots.tally.top < 256

-- words of 32 bits
abbrev pub InWords : List ℕ → Type 0
InWords l = (k : ℕ) → word l k < 4294967296

pub record Encoding : Type 0 where
  -- what is written reads back as it was, and is taken
  pub reads-back : (s : Cabinet) → InBytes s → cabinet_of (words_of s) ≡ s
  pub taken : (s : Cabinet) → InBytes s → state_refusal (words_of s) ≡ 0
  -- only written forms are taken
  pub writes-back : (l : List ℕ) → state_refusal l ≡ 0 → words_of (cabinet_of l) ≡ l
  -- no two states that are taken differ in one word alone: so any change of one word, a turned bit among them, is refused
  pub one_word : (l m : List ℕ) (j : ℕ) → InWords l → InWords m → state_refusal l ≡ 0 → state_refusal m ≡ 0 → ((k : ℕ) → (k ≡ j → ⊥) → word l k ≡ word m k) → l ≡ m
