-- THE CLAIM IS NOT HOLLOW: what Claim.antt says of clean orders is said of something. For every n and f that a lock accepts, and every controller of it,
-- there is a list with a clean order in which that controller's second timeout comes next: one where all are willing, one where somebody is not.
-- Nor is CleanMessages.antt: for every n and f there is a clean order that has ended everywhere, willing and not.
-- `clean_orders_exist` in src/lib.rt has it as its contract; the proof is in proofs/.
use Rattle.std.specs.Prelude.{ℕ, ◌≤◌, ◌≡◌, Bool, true, false, List, [], ◌∷◌, ◌++◌}
use Rattle.model.specs.Ranges.{sizes_in_range}
use Rattle.model.specs.declared.Outcome.{Outcome}
use Rattle.model.specs.declared.Outcome.TheVariants.{Stay, Move}
use Rattle.model.specs.declared.Event.{Event}
use Rattle.model.specs.declared.Event.TheVariants.{Timeout}
use Rattle.protocol.specs.Claim.{after, Accepted, Holds, IsSecondTimeout, Clean, AllWilling, OneUnwilling}
use Rattle.protocol.specs.CleanOrders.{clean_order}
use Rattle.protocol.specs.CleanMessages.{CleanEnd}

-- a list of events, put to a new bench, that sets up a lock of n and f and ends just before a second timeout of controller i in a clean order
pub record CleanList (n f i : ℕ) : Type 0 where
  pub events : List Event
  pub lock-n : (after events).shared.n ≡ n
  pub lock-f : (after events).shared.f ≡ f
  -- the timeout of i is accepted there, it is a second timeout, and right after it the order is clean
  pub timeout : Accepted events (Timeout i)
  pub second : IsSecondTimeout n f events i
  pub clean : Clean n f (events ++ (Timeout i ∷ []))

-- all are willing, and so, by demand 3, the timeout leaves controller i holding Move
pub record MoveList (n f i : ℕ) : Type 0 where
  pub list : CleanList n f i
  pub willing : AllWilling list.events
  pub holds : Holds (list.events ++ (Timeout i ∷ [])) i Move

-- somebody is not willing, and so, by demand 3, it leaves controller i holding Stay
pub record StayList (n f i : ℕ) : Type 0 where
  pub list : CleanList n f i
  pub unwilling : OneUnwilling list.events
  pub holds : Holds (list.events ++ (Timeout i ∷ [])) i Stay

-- the list of CleanOrders in which each k votes w k: it sets up a lock of n and f, and at its end the order is clean and has ended everywhere, with x
pub record EndedList (n f : ℕ) (w : ℕ → Bool) (x : Outcome) : Type 0 where
  pub lock-n : (after (clean_order n f w)).shared.n ≡ n
  pub lock-f : (after (clean_order n f w)).shared.f ≡ f
  pub end : CleanEnd (clean_order n f w)
  pub holds : (i : ℕ) → 1 ≤ i → i ≤ n → Holds (clean_order n f w) i x

-- all are willing, and all hold Move
pub record MoveEnd (n f : ℕ) : Type 0 where
  pub list : EndedList n f (λ k. true) Move
  pub willing : AllWilling (clean_order n f (λ k. true))

-- somebody is not willing, and all hold Stay
pub record StayEnd (n f : ℕ) : Type 0 where
  pub list : EndedList n f (λ k. false) Stay
  pub unwilling : OneUnwilling (clean_order n f (λ k. false))

-- n from 2 to the limit, "f from 1 to n − 1", and any controller i of 1 to n; and to the end of the order
pub record NotHollow : Type 0 where
  pub moves : (n f i : ℕ) → sizes_in_range n f ≡ true → 1 ≤ i → i ≤ n → MoveList n f i
  pub stays : (n f i : ℕ) → sizes_in_range n f ≡ true → 1 ≤ i → i ≤ n → StayList n f i
  pub ends-move : (n f : ℕ) → sizes_in_range n f ≡ true → MoveEnd n f
  pub ends_stay : (n f : ℕ) → sizes_in_range n f ≡ true → StayEnd n f
