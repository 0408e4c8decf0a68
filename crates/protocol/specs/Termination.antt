-- TERMINATION: document 02, U5, "Every running gate hears". It stands beside demand 3 (Claim.antt), about every list of events that a new bench is
-- given, refused ones included, and every moment of an open order. The premise on f stands here alone: no part of demand 3 has it.
-- `termination` in src/lib.rt has it as its contract; the proof is in proofs/, and assumes nothing.
use Rattle.std.specs.Prelude.{ℕ, suc, ◌≤◌, ◌≡◌, Bool, true, false, not, List, [], ◌∷◌, ◌++◌}
use Rattle.ground.specs.Quantify.{count_to}
use Rattle.model.specs.Ranges.{sizes_in_range}
use Rattle.model.specs.Numbers.{is_none}
use Rattle.model.specs.declared.Kind.{Kind}
use Rattle.model.specs.declared.Kind.TheVariants.{Vote, Ack, Help, Helped}
use Rattle.model.specs.declared.Outcome.TheVariants.{None}
use Rattle.model.specs.declared.Event.{Event}
use Rattle.model.specs.declared.Event.TheVariants.{Lock, Order, Cast, Deliver, Timeout, Decide, Stop}
use Rattle.protocol.specs.declared.Bench.{Bench}
use Rattle.protocol.specs.Controllers.{is_stopped, runs, has_helped}
use Rattle.protocol.specs.Benches.{controller}
use Rattle.protocol.specs.Display.{shown_stage, shown_outcome, WasSent}
use Rattle.protocol.specs.Claim.{after, SameOrder, InOrder, HoldsSome}

-- controller i of the lock runs at the moment es
pub record RunsAt (es : List Event) (i : ℕ) : Type 0 where
  pub low : 1 ≤ i
  pub high : i ≤ (after es).shared.n
  pub running : runs (controller (after es) i) ≡ true

-- how many are stopped or standing by
abbrev pub down : Bench → ℕ
down b = count_to b.shared.n (λ k. not (runs (controller b k)))

-- it put a word, since it last began; one that runs began with the order of the moment
abbrev pub HasPut : List Event → ℕ → Type 0
HasPut es i = is_none (controller (after es) i).proposal ≡ false

-- it was given the arbiter's answer: an arbiter event to it was accepted in the order of the moment
pub record WasGiven (es : List Event) (i : ℕ) : Type 0 where
  pub move : Bool
  pub event : InOrder es (Decide i move)

-- the four premises
pub data Premise : Type 0 where
  few-down : Premise
  at-stage_3 : Premise
  delivered : Premise
  answered : Premise

-- what each says of the moment es, in the request's own words: "in an open order
abbrev pub Meets : Premise → List Event → Type 0
-- with at most f controllers stopped or standing by,
Meets few-down es = down (after es) ≤ (after es).shared.f
-- every running one at stage 3,
Meets at-stage_3 es = (i : ℕ) → RunsAt es i → shown_stage (after es) i ≡ 3
-- every telegram sent to a running controller delivered at least one time,
Meets delivered es = (kind : Kind) (i j : ℕ) → WasSent (after es) kind i j → RunsAt es j → InOrder es (Deliver i j kind)
-- and the arbiter's answer given to every running controller that put a word,
Meets answered es = (i : ℕ) → RunsAt es i → HasPut es i → WasGiven es i

-- each running controller has an outcome." That is `hears`, below. That an order is open need not be said: before the first, all are at stage 0.

-- It is not hollow. A list, put to a new bench, that sets up a lock of n and f, stops f controllers and meets all premises;
pub record MetList (n f : ℕ) : Type 0 where
  pub events : List Event
  pub lock-n : (after events).shared.n ≡ n
  pub lock-f : (after events).shared.f ≡ f
  pub stopped : count_to n (λ k. is_stopped (controller (after events) k).condition) ≡ f
  pub meets : (p : Premise) → Meets p events

-- and one in which, in the order of its end, a controller waited for others' answers, and another's came and was counted; by `hears` it has an outcome
-- at the end
pub record WaitedList (n f : ℕ) : Type 0 where
  pub list : MetList n f
  pub who : ℕ
  pub other : ℕ
  pub different : other ≡ who → ⊥
  pub answer : InOrder list.events (Deliver other who Helped)
  pub waited : (controller (after answer.before) who).help.waiting ≡ true
  pub unheard : has_helped (controller (after answer.before) who) other ≡ false
  pub heard : has_helped (controller (after (answer.before ++ (Deliver other who Helped ∷ []))) who) other ≡ true
  pub running : RunsAt list.events who
  pub holds : HoldsSome list.events who

-- Nor can the bench be brought to where the premises are out of reach: more events of the order after which they are met, each controller running or
-- stopped as it was
pub record Onward (es : List Event) : Type 0 where
  pub more : List Event
  pub same : SameOrder es more
  pub running : (i : ℕ) → runs (controller (after (es ++ more)) i) ≡ runs (controller (after es) i)
  pub stopped : (i : ℕ) → is_stopped (controller (after (es ++ more)) i).condition ≡ is_stopped (controller (after es) i).condition
  pub meets : (p : Premise) → Meets p (es ++ more)

-- Each premise is needed: a list that lacks one of them and meets the others, and leaves a running controller with no outcome
pub record Lacking : Type 0 where
  pub premise : Premise
  pub events : List Event
  pub who : ℕ

pub record Needed (r : Lacking) : Type 0 where
  pub lacks : Meets r.premise r.events → ⊥
  pub others : (p : Premise) → (p ≡ r.premise → ⊥) → Meets p r.events
  pub running : RunsAt r.events r.who
  pub holds-none : shown_outcome (after r.events) r.who ≡ None

abbrev pub AllNeeded : List Lacking → Type 0
AllNeeded [] = Unit {0}
AllNeeded (r ∷ rs) = Needed r × AllNeeded rs

-- all willing, with target 0
abbrev pub votes3 : List Event → List Event
votes3 es = Lock 3 1 false ∷ Order 1 ∷ Cast 1 true 0 ∷ Cast 2 true 0 ∷ Cast 3 true 0 ∷ es

-- 1 is stopped, and its vote has come to 2
abbrev pub without1 : List Event → List Event
without1 es = votes3 (Stop 1 ∷ Deliver 1 2 Vote ∷ es)

unfoldable pub lackings : List Lacking
lackings =
    -- two stopped where f is 1: 3 waits, and nobody is left to answer its call
    record { premise = few-down; events = votes3 (Stop 1 ∷ Stop 2 ∷ Timeout 3 ∷ []); who = 3 }
    -- 2 is at stage 1 and keeps the call of 3, which waits
    ∷ record { premise = at-stage_3; events = without1 (Timeout 3 ∷ Deliver 3 2 Help ∷ []); who = 3 }
    -- the acknowledgement of 1 has not come to 3, which waits
    ∷ record { premise = delivered; events = votes3 (Stop 2 ∷ Deliver 2 1 Vote ∷ Deliver 3 1 Vote ∷ Timeout 1 ∷ Timeout 1 ∷ Timeout 3 ∷ Decide 1 true ∷ []); who = 3 }
    -- the call of 3 has not come to 2
    ∷ record { premise = delivered; events = without1 (Timeout 2 ∷ Timeout 2 ∷ Timeout 3 ∷ Deliver 2 3 Help ∷ Deliver 3 2 Helped ∷ Decide 2 true ∷ []); who = 3 }
    -- it has, and the answer of 2 has not come to 3
    ∷ record { premise = delivered; events = without1 (Timeout 2 ∷ Timeout 2 ∷ Timeout 3 ∷ Deliver 2 3 Help ∷ Deliver 3 2 Helped ∷ Decide 2 true ∷ Deliver 3 2 Help ∷ []); who = 3 }
    -- it has, so 3 put a word, and the arbiter has answered 2 alone; of a call that came to 2 at stage 3,
    ∷ record {
      premise = answered;
      events = without1 (Timeout 2 ∷ Timeout 2 ∷ Timeout 3 ∷ Deliver 2 3 Help ∷ Deliver 3 2 Helped ∷ Decide 2 true ∷ Deliver 3 2 Help ∷ Deliver 2 3 Helped ∷ []);
      who = 3;
    }
    -- and of one that came to 2 at stage 1, and was kept
    ∷ record {
      premise = answered;
      events = without1 (Timeout 3 ∷ Deliver 3 2 Help ∷ Timeout 2 ∷ Timeout 2 ∷ Deliver 2 3 Help ∷ Deliver 3 2 Helped ∷ Decide 2 true ∷ Deliver 2 3 Helped ∷ []);
      who = 3;
    }
    -- none is stopped, both put Move, and the arbiter has answered neither
    ∷ record {
      premise = answered;
      events = Lock 2 1 false ∷ Order 1 ∷ Cast 1 true 0 ∷ Cast 2 true 0 ∷ Deliver 1 2 Vote ∷ Deliver 2 1 Vote ∷ Timeout 1 ∷ Timeout 2 ∷ Timeout 1 ∷ Timeout 2
          ∷ Deliver 1 2 Ack ∷ Deliver 2 1 Ack ∷ [];
      who = 1;
    }
    ∷ []

pub record Termination : Type 0 where
  -- "each running controller has an outcome"
  pub hears : (es : List Event) → ((p : Premise) → Meets p es) → (i : ℕ) → RunsAt es i → HoldsSome es i
  -- n from 2 to the limit, "f from 1 to n − 1"
  pub met : (n f : ℕ) → sizes_in_range n f ≡ true → MetList n f
  -- f up to n − 2; with n − f ≡ 1 a controller's own answer is enough, and none waits
  pub waited : (n f : ℕ) → sizes_in_range n f ≡ true → suc (suc f) ≤ n → WaitedList n f
  -- from every moment of an open order with at most f controllers stopped or standing by
  pub onward : (es : List Event) → 1 ≤ (after es).shared.order → (after es).shared.own ≡ false → Meets few-down es → Onward es
  pub needed : AllNeeded lackings
