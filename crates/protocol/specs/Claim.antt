-- THE CLAIM: demand 3, about every list of events that a new bench is given, refused ones included. To be held against document 01,
-- "The words of demand 3", sentence by sentence. It has no premise. `demand_3` in src/lib.rt has it as its contract; the proof is in proofs/.
use Rattle.std.specs.Prelude.{ℕ, suc, ◌+◌, ◌*◌, ◌≤◌, ◌<◌, ◌≡◌, Bool, true, false, ◌||◌, List, [], ◌∷◌, ◌++◌, ◌⊎◌}
use Rattle.model.specs.Routes.{vote_route, ack_route}
use Rattle.model.specs.Numbers.{is_none}
use Rattle.model.specs.declared.Kind.TheVariants.{Vote, Ack}
use Rattle.model.specs.declared.Outcome.{Outcome}
use Rattle.model.specs.declared.Outcome.TheVariants.{Stay, Move}
use Rattle.model.specs.declared.Event.{Event}
use Rattle.model.specs.declared.Event.TheVariants.{Lock, Order, Cast, Deliver, Timeout, Decide, Stop, Save, Restore, OfBallots}
use Rattle.protocol.specs.declared.Bench.{Bench}
use Rattle.protocol.specs.Benches.{new_bench}
use Rattle.protocol.specs.Questions.{accepted, is_accepted, reply}
use Rattle.protocol.specs.Steps.{step, run}
use Rattle.protocol.specs.Display.{shown_outcome, shown_position, message_count}

-- "The first goes to a new bench, without lock, order, telegrams, words or cards; each later one to the bench that the one before returned or left."
-- "A moment is the time after any event of the list": a moment is the list up to there, and this is the bench at it.
abbrev pub after : List Event → Bench
after es = run new_bench es

-- "*Accepted* goes by the answer given": of the event e, put after the events es
abbrev pub Accepted : List Event → Event → Type 0
Accepted es e = reply (after es) e ≡ accepted

-- "An order lasts from its accepted order event until the next accepted one": the moments es and es ++ more are of one order
-- when no order event of `more` is accepted
abbrev pub opens_order : Bench → Event → Bool
opens_order b (Lock n f own) = false
opens_order b (Order o) = is_accepted (reply b (Order o))
opens_order b (Cast i willing target) = false
opens_order b (Deliver i j kind) = false
opens_order b (Timeout i) = false
opens_order b (Decide i move) = false
opens_order b (Stop i) = false
opens_order b (Save i) = false
opens_order b (Restore i) = false
opens_order b (OfBallots e) = false

unfoldable pub opens_any : Bench → List Event → Bool
opens_any b [] = false
opens_any b (e ∷ es) = opens_order b e || opens_any (step b e) es

abbrev pub SameOrder : List Event → List Event → Type 0
SameOrder es more = opens_any (after es) more ≡ false

-- the event e was accepted, at the moment `before`, in the order of the moment es
pub record InOrder (es : List Event) (e : Event) : Type 0 where
  pub before : List Event
  pub rest : List Event
  pub parts : es ≡ before ++ (e ∷ rest)
  pub taken : Accepted before e
  pub same : SameOrder before (e ∷ rest)

-- "What a controller holds, and its position, is what its C line would show at that moment; "-" is no outcome."
pub record Holds (es : List Event) (i : ℕ) (x : Outcome) : Type 0 where
  pub shows : shown_outcome (after es) i ≡ x
  pub some : is_none x ≡ false

-- it holds an outcome
pub record HoldsSome (es : List Event) (i : ℕ) : Type 0 where
  pub outcome : Outcome
  pub holds : Holds es i outcome

-- "A gate moves at an event that changes its position": at e, put after es
abbrev pub Moves : List Event → Event → ℕ → Type 0
Moves es e k = shown_position (after (es ++ (e ∷ []))) k ≡ shown_position (after es) k → ⊥

module _ (n f : ℕ) where
  -- "A second bell is the second accepted bell in the order of one of 1 to f + 1, the first of any other": an accepted timeout of i after es is one
  abbrev pub IsSecondTimeout : List Event → ℕ → Type 0
  IsSecondTimeout es i = (suc f < i) ⊎ InOrder es (Timeout i)

  -- "every controller's vote was accepted, and every vote telegram of the Vote rule delivered"
  pub record CastBy (es : List Event) (k : ℕ) : Type 0 where
    pub willing : Bool
    pub target : ℕ
    pub vote : InOrder es (Cast k willing target)

  pub record VotesIn (es : List Event) : Type 0 where
    pub cast : (k : ℕ) → 1 ≤ k → k ≤ n → CastBy es k
    pub delivered : (i j : ℕ) → 1 ≤ i → i ≤ n → 1 ≤ j → j ≤ n → vote_route f i j ≡ true → InOrder es (Deliver i j Vote)

  -- "every acknowledgement, of 1 to f to all others and of f + 1 to 1 to f, was delivered"
  pub record AcksIn (es : List Event) : Type 0 where
    pub delivered : (i j : ℕ) → 1 ≤ i → i ≤ n → 1 ≤ j → j ≤ n → ack_route f i j ≡ true → InOrder es (Deliver i j Ack)

  -- "An order is *clean* at a moment of it when
  pub record Clean (es : List Event) : Type 0 where
    -- no stop in it was accepted up to then;
    pub no_stop : (i : ℕ) → InOrder es (Stop i) → ⊥
    -- every controller's vote was accepted, and every vote telegram of the Vote rule delivered, before the order's first accepted bell;
    pub votes-first : (i : ℕ) (timeout : InOrder es (Timeout i)) → ((j : ℕ) → InOrder timeout.before (Timeout j) → ⊥) → VotesIn timeout.before
    -- and every acknowledgement .. was delivered before the first of its second bells."
    pub acks-first : (i : ℕ) (timeout : InOrder es (Timeout i)) → IsSecondTimeout timeout.before i
        → ((j : ℕ) (earlier : InOrder timeout.before (Timeout j)) → IsSecondTimeout earlier.before j → ⊥) → AcksIn timeout.before

-- "All are willing when each of those votes has b = 1."
abbrev pub AllWilling : List Event → Type 0
AllWilling es = (k : ℕ) (willing : Bool) (target : ℕ) → InOrder es (Cast k willing target) → willing ≡ true

pub record OneUnwilling (es : List Event) : Type 0 where
  pub who : ℕ
  pub target : ℕ
  pub vote : InOrder es (Cast who false target)

-- controller k's willing vote was accepted before, in the order of the moment
pub record WillingVote (es : List Event) (k : ℕ) : Type 0 where
  pub target : ℕ
  pub vote : InOrder es (Cast k true target)

-- Demand 3 itself, in the words of the buyer's order; what they mean is document 01's, above.
pub record Demand3 : Type 0 where
  -- "any two outcomes held for one order, by whichever controllers and at whichever moments of it, are the same;
  pub agreement : (es more : List Event) (i j : ℕ) (x y : Outcome) → SameOrder es more → Holds es i x → Holds (es ++ more) j y → x ≡ y
  -- none is Move unless every controller's willing vote was accepted before in that order;
  pub validity : (es : List Event) (i : ℕ) → Holds es i Move → (k : ℕ) → 1 ≤ k → k ≤ (after es).shared.n → WillingVote es k
  -- a gate moves at most once in an order,
  pub moves-once : (es : List Event) (e : Event) (more : List Event) (e' : Event) (k : ℕ)
      → SameOrder (es ++ (e ∷ [])) (more ++ (e' ∷ [])) → Moves es e k → Moves (es ++ (e ∷ more)) e' k → ⊥
  -- and at no restore;
  pub still-at-restore : (es : List Event) (i k : ℕ) → Moves es (Restore i) k → ⊥
  -- and in every clean order each second bell leaves its controller holding Move if all are willing,
  pub clean-move : (es : List Event) (i : ℕ) → Accepted es (Timeout i) → IsSecondTimeout (after es).shared.n (after es).shared.f es i
      → Clean (after es).shared.n (after es).shared.f (es ++ (Timeout i ∷ [])) → AllWilling es → Holds (es ++ (Timeout i ∷ [])) i Move
  -- Stay if not."
  pub clean-stay : (es : List Event) (i : ℕ) → Accepted es (Timeout i) → IsSecondTimeout (after es).shared.n (after es).shared.f es i
      → Clean (after es).shared.n (after es).shared.f (es ++ (Timeout i ∷ [])) → OneUnwilling es → Holds (es ++ (Timeout i ∷ [])) i Stay
  -- "The bench program": "In any order, kinds 1 and 2 together are at most 2fn telegrams."
  pub at-most_2fn : (es : List Event) → message_count (after es) Vote + message_count (after es) Ack ≤ 2 * ((after es).shared.f * (after es).shared.n)
