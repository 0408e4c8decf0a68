-- BALLOTS ARE NOT HOLLOW: what BallotClaim.antt says of words chosen and given is said of something (document 02, U14). For every n and f that a lock accepts
-- there is a list, at a lock with c = 1, in which a word is put, a ballot reaches its majority, and each controller is given that word and holds it.
-- `ballots_not_hollow` in src/lib.rt has it as its contract; the proof is in proofs/settles.
use Rattle.std.specs.Prelude.{ℕ, ◌≤◌, ◌≡◌, Bool, true, List}
use Rattle.model.specs.Ranges.{sizes_in_range}
use Rattle.model.specs.Numbers.{word_of}
use Rattle.model.specs.declared.Event.{Event}
use Rattle.model.specs.declared.Event.TheVariants.{Decide}
use Rattle.protocol.specs.Controllers.{runs}
use Rattle.protocol.specs.Benches.{controller}
use Rattle.protocol.specs.Questions.{was_proposed}
use Rattle.protocol.specs.Claim.{after, InOrder, Holds}
use Rattle.protocol.specs.BallotClaim.{Chosen}

-- a list of events, put to a new bench, that sets up a lock of n and f with c = 1, and settles an order there by a ballot
pub record ChosenList (n f : ℕ) : Type 0 where
  pub events : List Event
  pub lock-n : (after events).shared.n ≡ n
  pub lock-f : (after events).shared.f ≡ f
  pub own : (after events).shared.own ≡ true
  pub running : (i : ℕ) → 1 ≤ i → i ≤ n → runs (controller (after events) i) ≡ true
  -- in the order of its end this word was put, is chosen, was given to each controller, and is held by each
  pub word : Bool
  pub put : was_proposed (after events).shared.consensus word ≡ true
  pub chosen : Chosen (after events) word
  pub given : (i : ℕ) → 1 ≤ i → i ≤ n → InOrder events (Decide i word)
  pub holds : (i : ℕ) → 1 ≤ i → i ≤ n → Holds events i (word_of word)

-- n from 2 to the limit, "f from 1 to n − 1"
pub record BallotsNotHollow : Type 0 where
  pub settles : (n f : ℕ) → sizes_in_range n f ≡ true → ChosenList n f
