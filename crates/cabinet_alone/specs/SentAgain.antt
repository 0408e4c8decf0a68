-- WHAT IS SENT AGAIN IS WHAT WAS SENT. A cabinet keeps of each kind one vote set and its receivers; what was sent stays so, whatever is called and whatever comes over the
-- line, until a new order or a waking. So a telegram of kinds 1 to 4 that was sent can be sent again, to the same receiver with the same vote set. `sent_again` in src/lib.rt has it as its contract.
use Rattle.std.specs.Prelude.{ℕ, ◌≡◌, Bool, true, false, not, ◌&&◌, List, [], ◌∷◌}
use Rattle.ground.specs.Mask.{has}
use Rattle.model.specs.declared.Kind.{Kind}
use Rattle.protocol.specs.declared.Outgoing.{Outgoing}
use Rattle.protocol.specs.Benches.{of_kind}
use Rattle.cabinet_state.specs.declared.Cabinet.{Cabinet}
use Rattle.cabinet.specs.Acts.{Act, Ordering, Voting, Receiving, TimingOut, Deciding, Stopping, Waking, Opening}
use Rattle.cabinet_alone.specs.Runs.{Run, cabinet, further}

-- the calls after which nothing is sent again: a new order, and a waking
abbrev pub forgets : Act → Bool
forgets (Ordering k) = true
forgets (Voting w t) = false
forgets (Receiving bytes) = false
forgets TimingOut = false
forgets (Deciding w) = false
forgets Stopping = false
forgets (Waking bytes) = true
forgets (Opening b) = false

unfoldable pub none_forgets : List Act → Bool
none_forgets [] = true
none_forgets (a ∷ acts) = not (forgets a) && none_forgets acts

-- what a cabinet has sent of a kind; j was sent one
abbrev pub sent_of : Kind → Cabinet → Outgoing
sent_of kind s = of_kind kind s.sent

abbrev pub was_sent : Outgoing → ℕ → Bool
was_sent o j = has o.to j

pub record SentAgain : Type 0 where
  -- who was sent a telegram of a kind was sent it still, after any calls that do not forget, and with the same vote set
  pub stays-sent : (r : Run) (more : List Act) (kind : Kind) (j : ℕ) → none_forgets more ≡ true → was_sent (sent_of kind (cabinet r)) j ≡ true → was_sent (sent_of kind (cabinet (further r more))) j ≡ true
  pub same-votes : (r : Run) (more : List Act) (kind : Kind) (j : ℕ) → none_forgets more ≡ true → was_sent (sent_of kind (cabinet r)) j ≡ true
      → (sent_of kind (cabinet (further r more))).votes ≡ (sent_of kind (cabinet r)).votes
