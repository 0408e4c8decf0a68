-- THE WORD THAT A BALLOT HAS SETTLED, as a cabinet knows it. Document 02, U14: "At such a lock question 18 asks instead whether more than n/2 have taken the word in
-- one ballot." Off the bench the ballot's owner counts who has. Said of any cabinet and any call; `settled_word` in src/lib.rt has it as its contract.
use Rattle.std.specs.Prelude.{ℕ, ◌≤◌, ◌≡◌, Bool, true, false, List, ◌⊎◌}
use Rattle.ground.specs.Mask.{has}
use Rattle.model.specs.Numbers.{word_of, is_none}
use Rattle.model.specs.declared.BallotKind.TheVariants.{Accepted}
use Rattle.model.specs.declared.BallotMessage.{BallotMessage}
use Rattle.model.specs.declared.Telegram.TheVariants.{OfBallot}
use Rattle.records.specs.Codec.{reads}
use Rattle.records.specs.Codes.{flag_number}
use Rattle.message_record.specs.Telegrams.{telegrams}
use Rattle.std.specs.Prelude.{Ok}
use Rattle.protocol.specs.declared.Bench.{Bench}
use Rattle.protocol.specs.Controllers.{outcome, or_else}
use Rattle.protocol.specs.Ballots.{majority, row}
use Rattle.protocol.specs.BallotClaim.{Chosen}
use Rattle.cabinet_state.specs.declared.Cabinet.{Cabinet}
use Rattle.cabinet_turns.specs.Ballots.{settled}
use Rattle.cabinet.specs.Acts.{Act, Receiving, Deciding, number_of}
use Rattle.cabinet_alone.specs.Acts.{after}

-- is j counted as one that has taken the word of the cabinet's own ballot
abbrev pub is_counted : Cabinet → ℕ → Bool
is_counted s j = has s.ballots.accepted_by j

-- the same order and the same own ballot
pub record SameBallot (s next : Cabinet) : Type 0 where
  pub order : next.me.order ≡ s.me.order
  pub ballot : next.ballots.opened ≡ s.ballots.opened

-- the call brought a taken of j's: of this order, in this ballot, of the word that was put there
pub record Told (a : Act) (next : Cabinet) (j : ℕ) : Type 0 where
  pub bytes : List ℕ
  pub came : a ≡ Receiving bytes
  pub telegram : BallotMessage
  pub read : reads telegrams bytes ≡ Ok (OfBallot telegram)
  pub taken : telegram.kind ≡ Accepted
  pub from : telegram.from ≡ j
  pub order : telegram.order ≡ next.me.order
  pub ballot : telegram.ballot ≡ next.ballots.opened
  pub word : telegram.word ≡ next.ballots.tally.word

-- the cabinet has taken that word there itself
pub record TookItself (next : Cabinet) (j : ℕ) : Type 0 where
  pub own : j ≡ next.me.id
  pub ballot : next.ballots.acceptor.last ≡ next.ballots.opened
  pub word : next.ballots.acceptor.word ≡ next.ballots.tally.word

pub record SettledWord : Type 0 where
  -- a word is settled if it was put in the own ballot and "more than n/2" are counted there, and only then
  pub was-put : (s : Cabinet) (w : Bool) → settled s ≡ word_of w → s.ballots.tally.word ≡ word_of w
  pub by-majority : (s : Cabinet) (w : Bool) → settled s ≡ word_of w → majority s.me.n s.ballots.accepted_by ≡ true
  pub settles : (s : Cabinet) (w : Bool) → s.ballots.tally.word ≡ word_of w → majority s.me.n s.ballots.accepted_by ≡ true → settled s ≡ word_of w
  -- who is counted after a call was counted before it, in the same order and ballot; or has told; or is the cabinet itself
  pub counted : (a : Act) (s : Cabinet) (j : ℕ) → is_counted (after a s) j ≡ true
      → ((is_counted s j ≡ true) × SameBallot s (after a s)) ⊎ (Told a (after a s) j ⊎ TookItself (after a s) j)
  -- and the word is the same: once put it stays, as long as the order and the ballot do
  pub word-stays : (a : Act) (s : Cabinet) → SameBallot s (after a s) → 1 ≤ s.ballots.opened → is_none s.ballots.tally.word ≡ false
      → (after a s).ballots.tally.word ≡ s.ballots.tally.word
  -- so where those who are counted have taken it, as the bench has them, it is chosen there: what `BallotsAgree` says of a word chosen holds of it
  pub chosen : (s : Cabinet) (b : Bench) (w : Bool) → b.shared.n ≡ s.me.n
      → ((j : ℕ) → is_counted s j ≡ true → has (row b.ballots s.ballots.opened).accepted_by j ≡ true)
      → (row b.ballots s.ballots.opened).tally.word ≡ s.ballots.tally.word → settled s ≡ word_of w → Chosen b w
  -- a word that `cabinet_decide` takes, the settled one or the arbiter's, "becomes the outcome if there is none"
  pub decides : (s : Cabinet) (w : Bool) → number_of (Deciding (flag_number w)) s ≡ 0
      → outcome (after (Deciding (flag_number w)) s).controller ≡ or_else (outcome s.controller) (word_of w)
