-- The arbiter's word, a save, a new order and an event of ballots keep the invariant: a word given was put, so it has grounds, and no other is given; a
-- checkpoint has the outcome that is held; a new order begins with nothing sent.
use Prim.Native.Nat.{ℕ, ◌≤◌, ◌<◌}
use mathlib.Core.Path.{◌≡◌, refl, sym, ◌∙◌, ap}
use mathlib.Core.Bool.{Bool, true, false, cond, true≢false, false≢true}
use native.Mathlib.Omega.{arith}
use lib.ListN.{length}
use mathlib.Core.Logic.{inr}
use Rattle.ground.specs.Tests.{no_both, by_cond}
use Rattle.ground.specs.Quantify.{count_to}
use Rattle.ground.specs.Mask.{has}
use Rattle.ground.proofs.MaskLaws.{has-none, none_has}
use Rattle.ground.specs.Update.{upd-all}
use Rattle.votes.specs.VoteSets.{empty}
use Rattle.model.specs.Numbers.{word_of}
use Rattle.model.specs.declared.Checkpoint.{Checkpoint}
use Rattle.model.specs.declared.Outcome.{Outcome}
use Rattle.model.specs.declared.Outcome.TheVariants.{None}
use Rattle.protocol.specs.declared.Condition.{Condition}
use Rattle.protocol.specs.declared.Condition.TheVariants.{Stopped}
use Rattle.protocol.specs.declared.Controller.{Controller}
use Rattle.protocol.specs.declared.Counts.{Counts}
use Rattle.protocol.specs.declared.Ballots.{Ballots}
use Rattle.protocol.specs.declared.Sent.{Sent}
use Rattle.protocol.specs.Controllers.{is_running, phase_in, outcome_in, is_stopped, runs, phase, outcome, in_phase, cleared, noting, conclude}
use Rattle.protocol.specs.Rules.{becomes}
use Rattle.protocol.specs.Calls.{renew}
use Rattle.protocol.specs.Benches.{unsent_all}
use Rattle.protocol.specs.Questions.{no_other_word}
use Rattle.protocol.specs.Steps.{renewed, order_opened}
use Rattle.protocol.proofs.view.View.{OrderState, View, ballots_v, new_order_state, saved_order, saved_outcome, opened_v}
use Rattle.protocol.proofs.view.Performed.{chosen, saved_v}
use Rattle.protocol.proofs.invariant.Words.{word-is, none-word, noting-runs, noting-phase, noting-outcome, given_is}
use Rattle.protocol.proofs.invariant.Invariant.{OutcomeGrounds, Own, HeldSound, Inv}
use Rattle.protocol.proofs.invariant.Growth.{out_mono, ctl_mono}
use Rattle.protocol.proofs.invariant.TrueVotes.{empty_ok}
use Rattle.protocol.proofs.invariant.Commit.{Fits, grown-refl, becomes_fits}
use Rattle.protocol.proofs.invariant.Arrivals.{count-zero}
use Rattle.std.specs.Prelude.{Option, Some}

-- the choice is made, or given again
pub chosen-inv : (n f : ℕ) (b : View) (w : Bool) → Inv n f b → cond w b.state.consensus.move_proposed b.state.consensus.stay_proposed ≡ true → no_other_word b.state.consensus.decision w ≡ true → Inv n f (chosen b w)
unfolding chosen
chosen-inv n f b w inv p q = record {
  lines = inv.lines;
  owns = inv.owns;
  ctls = λ k. ctl_mono b.state.sent b.state.sent (λ k. grown-refl k (b.state.sent k)) b.state.consensus.decision (word_of w) (λ v e. given_is b.state.consensus.decision w v q e) n f k (b.ctl k) (inv.ctls k);
  saved_old = inv.saved_old;
  saved_ok = λ k e v x. out_mono b.state.sent b.state.sent (λ k. grown-refl k (b.state.sent k)) b.state.consensus.decision (word_of w) (λ v e. given_is b.state.consensus.decision w v q e) n f v (inv.saved_ok k e v x);
  move = inv.move;
  stay = inv.stay;
  chosen = λ v e. let z : w ≡ v = word-is w v e in rw z at p;
}

own_concluded : (n f i : ℕ) (o : Outcome) (c : Controller) (l : Sent) → (runs c ≡ true → 3 ≤ phase c) → Own n f i c l → Own n f i (conclude c o) l
unfolding conclude
own_concluded n f i v c l late o =
    let p : is_running (noting c.condition v) ≡ runs c = noting-runs c.condition v in
    let q : phase_in (noting c.condition v) ≡ phase c = noting-phase c.condition v in
    record {
      phased = record {
        fresh0 = λ r e. o.phased.fresh0 (sym p ∙ r) (sym q ∙ e);
        fresh1 = λ r e. o.phased.fresh1 (sym p ∙ r) (rw q at e);
        fresh2 = λ r e. o.phased.fresh2 (sym p ∙ r) (rw q at e);
        undecided = λ r e. absurd (far (late (sym p ∙ r)) (rw q at e));
        own = λ e. o.phased.own (rw q at e);
        same = λ e. o.phased.same (rw q at e);
        late = λ e. o.phased.late (rw q at e);
      };
      helping = record {
        help-copy = λ e. o.helping.help-copy (rw q at e);
        answered = λ e. o.helping.answered (rw q at e);
        waiter = λ e. absurd (false≢true e);
        idle = λ e. refl;
        early = λ e. o.helping.early (rw q at e);
      };
      counted = record {
        own-ack = λ e. o.counted.own-ack (rw q at e);
        ack-count = o.counted.ack-count;
        help-count = o.counted.help-count;
        room = o.counted.room;
      };
    }
  where
    far : 3 ≤ phase c → phase c ≤ 2 → ⊥
    far x y = omega arith

ctl_concluded : (n f : ℕ) (L : ℕ → Sent) (ch : Outcome) (i : ℕ) (c : Controller) (o : Outcome) → HeldSound n f L ch i c → ((v : Bool) → outcome_in (noting c.condition o) ≡ word_of v → OutcomeGrounds n f L ch v) → HeldSound n f L ch i (conclude c o)
unfolding conclude
ctl_concluded n f L ch i c v o h = record { votes_ok = o.votes_ok; acks_ok = o.acks_ok; helps_ok = o.helps_ok; helped_ok = o.helped_ok; calls_ok = o.calls_ok; outcome_ok = h }

pub decide_fits : (n f : ℕ) (b : View) (i : ℕ) (w : Bool) → Inv n f b → (runs (b.ctl i) ≡ true → 3 ≤ phase (b.ctl i)) → cond w b.state.consensus.move_proposed b.state.consensus.stay_proposed ≡ true → b.state.consensus.decision ≡ word_of w → Fits n f b i (becomes (conclude (b.ctl i) (word_of w)))
decide_fits n f b i w inv late p ch = becomes_fits n f b inv i (conclude (b.ctl i) (word_of w))
    (own_concluded n f i (word_of w) (b.ctl i) (b.state.sent i) late (inv.owns i))
    (ctl_concluded n f b.state.sent b.state.consensus.decision i (b.ctl i) (word_of w) (inv.ctls i) (λ v e. noting-outcome (b.ctl i).condition w v ((inv.ctls i).outcome_ok v) (given w v p ch) e))
  where
    given : (w v : Bool) → cond w b.state.consensus.move_proposed b.state.consensus.stay_proposed ≡ true → b.state.consensus.decision ≡ word_of w → w ≡ v → OutcomeGrounds n f b.state.sent b.state.consensus.decision v
    given true true p ch e = (inv.move p, inr ch)
    given false false p ch e = inr ch
    given true false p ch e = absurd (true≢false e)
    given false true p ch e = absurd (false≢true e)

pub saved-inv : (n f : ℕ) (b : View) (i : ℕ) (checkpoint : Checkpoint) → checkpoint.order ≡ b.order → checkpoint.outcome ≡ outcome (b.ctl i) → Inv n f b → Inv n f (saved_v b i checkpoint)
unfolding saved_v
saved-inv n f b i checkpoint p q inv = record {
  lines = inv.lines;
  owns = inv.owns;
  ctls = inv.ctls;
  move = inv.move;
  stay = inv.stay;
  saved_old = upd-all (λ k (c : Option Checkpoint). saved_order c ≤ b.order) b.saved i (Some checkpoint) (omega arith) inv.saved_old;
  saved_ok = upd-all (λ k (c : Option Checkpoint). saved_order c ≡ b.order → (v : Bool) → saved_outcome c ≡ word_of v → OutcomeGrounds n f b.state.sent b.state.consensus.decision v) b.saved i (Some checkpoint) (λ e v x. (inv.ctls i).outcome_ok v (sym q ∙ x)) inv.saved_ok;
  chosen = inv.chosen;
}

-- a controller that holds nothing, at stage 0
pub record Blank (c : Controller) : Type 0 where
  pub votes : c.votes ≡ empty
  pub phase : phase c ≡ 0
  pub acks-none : c.acks.from ≡ 0
  pub helps-none : c.helped.from ≡ 0
  pub helped : c.helped.votes ≡ empty
  pub cnt-none : c.acks.cnt.0 ≡ 0
  pub cnt-help-none : c.helped.cnt_help.0 ≡ 0
  pub waiting : c.help.waiting ≡ false
  pub calls-none : c.help.callers ≡ 0
  pub outcome : outcome c ≡ None

cleared-blank : (k : Condition) (c : Controller) → phase_in k ≡ 0 → outcome_in k ≡ None → Blank (cleared k c)
unfolding cleared
cleared-blank k c p q = record { votes = refl; phase = p; acks-none = refl; helps-none = refl; helped = refl; cnt-none = refl; cnt-help-none = refl; waiting = refl; calls-none = refl; outcome = q }

pub renew-blank : (c : Controller) → Blank (renew c)
unfolding renew
renew-blank c = by_cond Blank (is_stopped c.condition) _ _ (λ e. cleared-blank Stopped c refl refl) (λ e. cleared-blank (in_phase 0 None) c refl refl)

pub record RenewKeeps (c c' : Controller) : Type 0 where
  pub acks : c'.acks.sets ≡ c.acks.sets
  pub position : c'.gate.position ≡ c.gate.position

pub renew-keeps : (c : Controller) → RenewKeeps c (renew c)
unfolding renew cleared
renew-keeps c = by_cond (RenewKeeps c) (is_stopped c.condition) (cleared Stopped c) (cleared (in_phase 0 None) c) (λ e. record { acks = refl; position = refl }) (λ e. record { acks = refl; position = refl })

-- a bench on which nothing has happened keeps the invariant, whatever checkpoints of older orders it has
pub blank-inv : (n f o : ℕ) (w : OrderState) (ctl : ℕ → Controller) (saved : ℕ → Option Checkpoint) (counts : Counts) → ((k : ℕ) → w.sent k ≡ unsent_all) → w.consensus.move_proposed ≡ false → w.consensus.stay_proposed ≡ false → w.consensus.decision ≡ None
    → ((k : ℕ) → Blank (ctl k)) → ((k : ℕ) → 1 ≤ k → k ≤ n → n ≤ length (ctl k).acks.sets) → ((k : ℕ) → saved_order (saved k) ≤ o) → ((k : ℕ) → saved_order (saved k) ≡ o → saved_outcome (saved k) ≡ None)
    → (own : Bool) (bs : Ballots) → Inv n f (record { own = own; order = o; state = w; ctl = ctl; saved = saved; counts = counts; ballots = bs })
unfolding unsent_all
blank-inv n f o w ctl saved counts ln pm ps ch bl room old fresh own bs = record {
  lines = λ k. rw (ln k) (record { ack_ok = λ e. none_has k e; help_ok = λ e. none_has k e; ack_in-help = λ e. none_has k e; vote-to = λ j e. none_has j e; ack-to = λ j e. none_has j e; help-to = λ j e. none_has j e; helped-to = λ j e. none_has j e; vote-within = λ j e. none_has j e; vote_only = λ j e. none_has j e });
  owns = λ k. let s : phase (ctl k) ≡ 0 = (bl k).phase in record {
    phased = record {
      fresh0 = λ e r. rw (ln k) (has-none k);
      fresh1 = λ e r. rw (ln k) (has-none k);
      fresh2 = λ e r. rw (ln k) (has-none k);
      undecided = λ e r. (bl k).outcome;
      own = λ e. absurd (omega arith);
      same = λ e. absurd (omega arith);
      late = λ e. absurd (omega arith);
    };
    helping = record {
      help-copy = λ e. absurd (omega arith);
      answered = λ e. absurd (omega arith);
      waiter = λ e. absurd (no_both (ctl k).help.waiting e (bl k).waiting);
      idle = λ e. (bl k).waiting;
      early = λ e. (bl k).helps-none;
    };
    counted = record {
      own-ack = λ e. absurd (omega arith);
      ack-count = (bl k).cnt-none ∙ sym (count-zero n) ∙ ap (λ (m : ℕ). count_to n (has m)) (sym (bl k).acks-none);
      help-count = (bl k).cnt-help-none ∙ sym (count-zero n) ∙ ap (λ (m : ℕ). count_to n (has m)) (sym (bl k).helps-none);
      room = room k;
    };
  };
  ctls = λ k. record {
    votes_ok = rw (bl k).votes (empty_ok _);
    helped_ok = rw (bl k).helped (empty_ok _);
    acks_ok = λ j e. none_has j (sym (ap (λ (m : ℕ). has m j) (bl k).acks-none) ∙ e);
    helps_ok = λ j e. none_has j (sym (ap (λ (m : ℕ). has m j) (bl k).helps-none) ∙ e);
    calls_ok = λ j e. none_has j (sym (ap (λ (m : ℕ). has m j) (bl k).calls-none) ∙ e);
    outcome_ok = λ v e. none-word v (sym (bl k).outcome ∙ e);
  };
  move = λ e. absurd (no_both w.consensus.move_proposed e pm);
  stay = λ e. absurd (no_both w.consensus.stay_proposed e ps);
  saved_old = old;
  saved_ok = λ k e v x. none-word v (sym (fresh k e) ∙ x);
  chosen = λ v e. none-word v (sym ch ∙ e);
}

pub opened-inv : (n f : ℕ) (b : View) (o : ℕ) → b.order < o → Inv n f b → Inv n f (opened_v n f b o)
unfolding opened_v new_order_state order_opened renewed
opened-inv n f b o h inv = blank-inv n f o _ _ b.saved _ (λ k. refl) refl refl refl (λ k. renew-blank (b.ctl k)) (λ k x y. rw (renew-keeps (b.ctl k)).acks ((inv.owns k).counted.room x y))
    (λ k. let q : saved_order (b.saved k) ≤ b.order = inv.saved_old k in omega arith) (λ k e. let q : saved_order (b.saved k) ≤ b.order = inv.saved_old k in absurd (omega arith)) b.own _

-- an event of ballots
pub ballots-inv : (n f : ℕ) (b : View) (s : Ballots) → Inv n f b → Inv n f (ballots_v b s)
unfolding ballots_v
ballots-inv n f b s inv = record { lines = inv.lines; owns = inv.owns; ctls = inv.ctls; move = inv.move; stay = inv.stay; saved_old = inv.saved_old; saved_ok = inv.saved_ok; chosen = inv.chosen }
