-- WHAT A RESTART MAY DO. A cabinet that was ended begins, and wakes from its card: it stands by in the card's order, and runs in the next. So none ever runs, or has
-- anything to send, in an order in which it may have voted before it was ended. Said of any cabinet, any card and any calls; `restart` in src/lib.rt has it as its contract.
use Rattle.std.specs.Prelude.{ℕ, ◌<◌, ◌≤◌, ◌≡◌, true, false, List, []}
use Rattle.model.specs.declared.Checkpoint.{Checkpoint}
use Rattle.model.specs.declared.Outcome.TheVariants.{None}
use Rattle.records.specs.Codec.{reads}
use Rattle.checkpoint_record.specs.Checkpoints.{checkpoints}
use Rattle.std.specs.Prelude.{Ok}
use Rattle.protocol.specs.declared.Condition.{Condition}
use Rattle.protocol.specs.Controllers.{is_running, is_standby, in_phase}
use Rattle.cabinet_state.specs.declared.Cabinet.{Cabinet}
use Rattle.cabinet_turns.specs.Telegrams.{telegrams_sent}
use Rattle.cabinet.specs.Acts.{Act, Ordering, Waking, number_of}
use Rattle.cabinet_alone.specs.Acts.{after, after_all}

abbrev pub condition : Cabinet → Condition
condition s = s.controller.condition

-- it wakes from bytes that read as card p, and the call is answered 0
pub record Wakes (bytes : List ℕ) (p : Checkpoint) (s : Cabinet) : Type 0 where
  pub card : reads checkpoints bytes ≡ Ok p
  pub answer : number_of (Waking bytes) s ≡ 0

-- the cabinet then; and after any calls
abbrev pub awake : List ℕ → Cabinet → Cabinet
awake bytes s = after (Waking bytes) s

abbrev pub called : List ℕ → Cabinet → List Act → Cabinet
called bytes s more = after_all more (awake bytes s)

pub record Restart : Type 0 where
  -- the card is this controller's own: of its number, n and f
  pub own-card : (bytes : List ℕ) (p : Checkpoint) (s : Cabinet) → Wakes bytes p s → (p.id ≡ s.me.id) × ((p.n ≡ s.me.n) × (p.f ≡ s.me.f))
  -- it stands by, in no order before the card's or its own, and has nothing to send
  pub stands_by : (bytes : List ℕ) (p : Checkpoint) (s : Cabinet) → Wakes bytes p s → is_standby (condition (awake bytes s)) ≡ true
  pub in_order : (bytes : List ℕ) (p : Checkpoint) (s : Cabinet) → Wakes bytes p s → (p.order ≤ (awake bytes s).me.order) × (s.me.order ≤ (awake bytes s).me.order)
  pub silent : (bytes : List ℕ) (p : Checkpoint) (s : Cabinet) → Wakes bytes p s → telegrams_sent (awake bytes s) ≡ []
  -- whatever is called then: in the card's order, or one before it, it does not run and has nothing to send
  pub never-again : (bytes : List ℕ) (p : Checkpoint) (s : Cabinet) (more : List Act) → Wakes bytes p s → (called bytes s more).me.order ≤ p.order
      → (is_running (condition (called bytes s more)) ≡ false) × (telegrams_sent (called bytes s more) ≡ [])
  -- it runs in the next: a new order has a later number, and one that stands by begins in it at stage 0, without outcome
  pub runs-next : (k : ℕ) (s : Cabinet) → is_standby (condition s) ≡ true → number_of (Ordering k) s ≡ 0 → (s.me.order < k) × (condition (after (Ordering k) s) ≡ in_phase 0 None)
