-- The bench seen as functions of the controller's number, with n and f as they were locked. The questions and the effect of an event are the
-- definitions' own; only where the stations lie differs. Simulation.antt shows that the bench of the declared types steps as its view does, and
-- Performed.antt which rule an accepted event comes down to.
use Prim.Native.Nat.{ℕ, zero, suc}
use mathlib.Core.Path.{◌≡◌, refl, sym}
use mathlib.Core.Logic.{inl, inr}
use lib.Dec.{eqb}
use Rattle.ground.specs.Tests.{split}
use native.Mathlib.Omega.{arith}
use mathlib.Core.Bool.{Bool, true, false, cond, ◌&&◌}
use lib.ListN.{replicate}
use Rattle.ground.specs.Lists.{nth}
use Rattle.ground.specs.Update.{upd, fun_ext}
use Rattle.model.specs.declared.Outcome.{Outcome}
use Rattle.model.specs.declared.Outcome.TheVariants.{None}
use Rattle.model.specs.declared.Event.{Event}
use Rattle.protocol.specs.declared.Controller.{Controller}
use Rattle.protocol.specs.declared.Sent.{Sent}
use Rattle.protocol.specs.declared.Station.{Station}
use Rattle.protocol.specs.declared.Consensus.{Consensus}
use Rattle.protocol.specs.declared.Counts.{Counts}
use Rattle.protocol.specs.declared.Shared.{Shared}
use Rattle.protocol.specs.declared.Effect.{Effect}
use Rattle.protocol.specs.declared.Ballots.{Ballots}
use Rattle.protocol.specs.Ballots.{new_ballots, is_chosen}
use Rattle.protocol.specs.Benches.{unsent_all, no_consensus}
use Rattle.protocol.specs.Events.{subject, source}
use Rattle.protocol.specs.Questions.{Reply, is_accepted, unless, first_no, may_open, was_proposed, no_other_word, facts_of, questions_of}
use Rattle.protocol.specs.Steps.{renewed, order_opened, effect}
use Rattle.std.specs.Prelude.{Option, Some, None}
use Rattle.model.specs.declared.Checkpoint.{Checkpoint}

-- what one order has brought: what was sent, the consensus
pub record OrderState : Type 0 where
  pub sent : ℕ → Sent
  pub consensus : Consensus

pub record View : Type 0 where
  pub own : Bool
  pub order : ℕ
  pub state : OrderState
  pub ctl : ℕ → Controller
  pub saved : ℕ → Option Checkpoint
  pub counts : Counts
  pub ballots : Ballots

-- two are the same that are the same part by part: own, order, sent, consensus, controllers, checkpoints, counts, ballots
pub same_view : (v w : View) → v.own ≡ w.own → v.order ≡ w.order → v.state.sent ≡ w.state.sent → v.state.consensus ≡ w.state.consensus → v.ctl ≡ w.ctl → v.saved ≡ w.saved → v.counts ≡ w.counts → v.ballots ≡ w.ballots → v ≡ w
same_view v w own order sent consensus ctl saved counts ballots = λ p. record {
  own = own p;
  order = order p;
  state = record { sent = sent p; consensus = consensus p };
  ctl = ctl p;
  saved = saved p;
  counts = counts p;
  ballots = ballots p;
}

unfoldable pub new_order_state : OrderState
new_order_state = record { sent = λ k. unsent_all; consensus = no_consensus }

-- the order and the outcome on a checkpoint; 0 and none where there is none
abbrev pub saved_order : Option Checkpoint → ℕ
saved_order None = 0
saved_order (Some c) = c.order

abbrev pub saved_outcome : Option Checkpoint → Outcome
saved_outcome None = None
saved_outcome (Some c) = c.outcome

-- controller i's station; and the view with what an event leaves
abbrev pub station_v : View → ℕ → Station
station_v v i = record { controller = v.ctl i; sent = v.state.sent i; saved = v.saved i }

unfoldable pub put_back_v : View → ℕ → Effect → View
put_back_v v i t = record {
  own = t.shared.own;
  order = t.shared.order;
  state = record { sent = upd v.state.sent i t.station.sent; consensus = t.shared.consensus };
  ctl = upd v.ctl i t.station.controller;
  saved = upd v.saved i t.station.saved;
  counts = t.shared.counts;
  ballots = v.ballots;
}

-- the view with other ballots
unfoldable pub ballots_v : View → Ballots → View
ballots_v v s = record { own = v.own; order = v.order; state = v.state; ctl = v.ctl; saved = v.saved; counts = v.counts; ballots = s }

-- question 18, in both its forms: that at c = 1 document 01's holds too is shown in Simulation
abbrev pub may_give_v : Shared → Ballots → Bool → Bool
may_give_v m s move = was_proposed m.consensus move && no_other_word m.consensus.decision move && cond m.own (is_chosen m.n s move) true

module _ (n f : ℕ) where
  abbrev pub shared_v : View → Shared
  shared_v v = record { locked = true; n = n; f = f; own = v.own; order = v.order; consensus = v.state.consensus; counts = v.counts }

  -- the questions, but for 24: that it is answered yes is shown in Simulation
  unfoldable pub accepts : View → Event → Bool
  accepts v e = is_accepted (first_no (questions_of (facts_of (shared_v v) v.ballots e (station_v v (subject e)) (v.state.sent (source e)) (may_open (shared_v v)) (may_give_v (shared_v v) v.ballots) true) e))

  -- a new order
  unfoldable pub opened_v : View → ℕ → View
  opened_v v o = record {
    own = (order_opened (shared_v v) o).own;
    order = (order_opened (shared_v v) o).order;
    state = record { sent = λ k. (renewed (station_v v k)).sent; consensus = (order_opened (shared_v v) o).consensus };
    ctl = λ k. (renewed (station_v v k)).controller;
    saved = λ k. (renewed (station_v v k)).saved;
    counts = (order_opened (shared_v v) o).counts;
    ballots = new_ballots;
  }

  -- what an accepted event does at the station of its controller
  abbrev pub play_one_v : View → Event → View
  play_one_v v e = put_back_v v (subject e) (effect (shared_v v) e (v.state.sent (source e)) (station_v v (subject e)))

-- a part of a function changed at one place
pub part : {A B : Type 0} (g : A → B) (F : ℕ → A) (i : ℕ) (a : A) → (λ (k : ℕ). g (upd F i a k)) ≡ upd (λ k. g (F k)) i (g a)
unfolding upd
part g F i a = fun_ext (λ k. g (upd F i a k)) (upd (λ k. g (F k)) i (g a)) (λ k. elim (split (eqb k i)) [ inl e ↦ rw e | inr e ↦ rw e ])

-- in a list of copies
pub all-of_copies : {A : Type 0} (P : A → Type 0) (d a : A) → P d → P a → (m k : ℕ) → P (nth d (replicate m a) k)
unfolding nth
all-of_copies P d a x y m zero = x
all-of_copies P d a x y zero (suc k) = x
all-of_copies P d a x y (suc m) (suc zero) = y
all-of_copies P d a x y (suc m) (suc (suc k)) = all-of_copies P d a x y m (suc k)

-- an accepted event passed each test: one premise each, so that `search` finds them
pub ask_l : (q : ℕ) (t : Bool) (rest : Reply) → is_accepted (unless q t rest) ≡ true → t ≡ true
unfolding unless
ask_l q true rest e = refl
ask_l q false rest e = e

pub ask_r : (q : ℕ) (t : Bool) (rest : Reply) → is_accepted (unless q t rest) ≡ true → is_accepted rest ≡ true
unfolding unless
ask_r q true rest e = e
ask_r q false rest e = let z : true ≡ false = sym e in absurd (no z)
  where
    no : true ≡ false → ⊥
    no z = let y : ◌≡◌ {A = ℕ} 0 1 = cc in omega arith
