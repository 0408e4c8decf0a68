-- WHAT HOLDS OF BALLOTS, of every list of events, whichever asks, promises, puts and takens are lost, repeated or late and whoever stops (document 02, U14): "Demand 3
-- must hold there with no assumption on an arbiter left, lost and repeated ballots included." Demand 3 itself is Claim.antt's, of locks of both kinds. Here is what
-- takes the arbiter's place in it. `ballots_agree` in src/lib.rt has it as its contract.
use Rattle.std.specs.Prelude.{ℕ, ◌≡◌, Bool, true, List, ◌++◌}
use Rattle.model.specs.Numbers.{word_of}
use Rattle.model.specs.declared.Event.{Event}
use Rattle.model.specs.declared.Event.TheVariants.{Decide}
use Rattle.protocol.specs.declared.Bench.{Bench}
use Rattle.protocol.specs.Ballots.{majority, row}
use Rattle.protocol.specs.Questions.{was_proposed, no_other_word}
use Rattle.protocol.specs.Claim.{after, Accepted, SameOrder}

-- a word is chosen: "more than n/2 have taken the word in one ballot"
pub record Chosen (b : Bench) (move : Bool) : Type 0 where
  pub ballot : ℕ
  pub word : (row b.ballots ballot).tally.word ≡ word_of move
  pub taken : majority b.shared.n (row b.ballots ballot).accepted_by ≡ true

pub record BallotsAgree : Type 0 where
  -- two words chosen in one order, at whichever moments of it, are the same
  pub one_word : (es more : List Event) (x y : Bool) → SameOrder es more → Chosen (after es) x → Chosen (after (es ++ more)) y → x ≡ y
  -- a word chosen stays chosen, as long as the order lasts
  pub stays : (es more : List Event) (x : Bool) → SameOrder es more → Chosen (after es) x → Chosen (after (es ++ more)) x
  -- it was put by a controller in this order
  pub was-put : (es : List Event) (x : Bool) → Chosen (after es) x → was_proposed (after es).shared.consensus x ≡ true
  -- "At such a lock question 18 asks instead": a word given there is chosen,
  pub given-is-chosen : (es : List Event) (i : ℕ) (x : Bool) → (after es).shared.own ≡ true → Accepted es (Decide i x) → Chosen (after es) x
  -- and would pass the arbiter's question of document 01 too: it was put in this order, and no other was given
  pub given-was-put : (es : List Event) (i : ℕ) (x : Bool) → Accepted es (Decide i x) → was_proposed (after es).shared.consensus x ≡ true
  pub no-other-given : (es : List Event) (i : ℕ) (x : Bool) → Accepted es (Decide i x) → no_other_word (after es).shared.consensus.decision x ≡ true
