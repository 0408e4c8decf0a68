-- What the turns of a run leave is the effect of the accepted event: behind the questions, a controller's call is its rule.
use Prim.Native.Nat.{ℕ, ◌-◌}
use mathlib.Core.Path.{◌≡◌, refl, sym, ap, ◌∙◌}
use mathlib.Core.Bool.{Bool, true, false, cond, not, ◌&&◌, ◌||◌, or-false, false≢true}
use mathlib.Core.Logic.{inl, inr}
use lib.Dec.{eqb, leb}
use lib.ListN.{get_or, set}
use borrow.Author.Tests.{ne_eqb}
use Rattle.ground.specs.Tests.{split, or-second}
use Rattle.ground.specs.Lists.{put}
use Rattle.ground.specs.Mask.{has, insert}
use Rattle.votes.specs.VoteSets.{empty}
use Rattle.votes.specs.declared.VoteSet.{VoteSet}
use Rattle.model.specs.Ranges.{is_backup}
use Rattle.model.specs.Routes.{recipients}
use Rattle.model.specs.Numbers.{word_of}
use Rattle.model.specs.declared.Kind.TheVariants.{Ack}
use Rattle.model.specs.declared.Outcome.TheVariants.{None}
use Rattle.protocol.specs.declared.Acks.{Acks}
use Rattle.protocol.specs.declared.Condition.{Condition}
use Rattle.protocol.specs.declared.Condition.TheVariants.{Running, Stopped, Standby}
use Rattle.protocol.specs.declared.Controller.{Controller}
use Rattle.protocol.specs.declared.Effect.{Effect}
use Rattle.protocol.specs.declared.Identity.{Identity}
use Rattle.protocol.specs.declared.Shared.{Shared}
use Rattle.protocol.specs.declared.Station.{Station}
use Rattle.protocol.specs.Controllers.{is_running, is_standby, is_stopped, phase_in, outcome_in, in_phase, phase, has_ack, has_called, bump, learn, aim, advance, keep_ack, add_caller, cleared, conclude}
use Rattle.protocol.specs.Rules.{passing_over, becomes, sending, acks_to, vote_rule, vote_arrives, ack_arrives, help_arrives, keeps_call, answers_call, count_own, first_timeout, second_timeout, sufficient, propose_if_sufficient}
use Rattle.protocol.specs.Calls.{valid_identity, timeout, awaits_decision, decide, stop, restore}
use Rattle.protocol.specs.Counts.{counts_after}
use Rattle.protocol.specs.CountLaws.{counts-stay}
use Rattle.protocol.specs.Benches.{sent_after}
use Rattle.protocol.specs.Events.{restore_from}
use Rattle.protocol.specs.Steps.{proposed_to, with_counts, station_after, answering}
use Rattle.bench_turns.specs.Turns.{outcome_saved}
use Rattle.std.specs.Prelude.{Option, Some, None, is_some}
use Rattle.model.specs.declared.Checkpoint.{Checkpoint}
pub use Rattle.bench_turns.proofs.BallotLaws.{same_set}

-- with no word put, and a condition that stays, or moves on with its outcome, what is shared stays
proposed-none : (m : Shared) → proposed_to m None ≡ m
unfolding proposed_to
proposed-none m = rw (or-false m.consensus.move_proposed, or-false m.consensus.stay_proposed)

shared-stays : (m : Shared) (k : Condition) → with_counts (proposed_to m None) (counts_after k k m.counts) ≡ m
shared-stays m k = ap (with_counts (proposed_to m None)) (counts-stay k m.counts) ∙ ap (λ (x : Shared). with_counts x m.counts) (proposed-none m)

shared_advanced : (m : Shared) (k : Condition) (s : ℕ) → is_running k ≡ true → with_counts (proposed_to m None) (counts_after k (in_phase s (outcome_in k)) m.counts) ≡ m
unfolding counts_after
shared_advanced m (Running p) s r = shared-stays m (Running p)
shared_advanced m Stopped s r = absurd (false≢true r)
shared_advanced m (Standby o) s r = absurd (false≢true r)

-- the turns that change nothing but the station
pub cast_leaves : (m : Shared) (s : Station) (i : ℕ) (w : Bool) (t : ℕ) → is_running s.controller.condition ≡ true
    → ◌≡◌ {A = Effect} (record { shared = m; station = station_after s (vote_rule m.n m.f i w t s.controller) }) (answering m s (vote_rule m.n m.f i w t s.controller))
unfolding answering vote_rule advance aim learn
cast_leaves m s i w t r = ap (λ (x : Shared). record { shared = x; station = station_after s (vote_rule m.n m.f i w t s.controller) }) (sym (shared_advanced m s.controller.condition _ r))

pub vote_leaves : (m : Shared) (s : Station) (v : VoteSet) → ◌≡◌ {A = Effect} (record { shared = m; station = station_after s (vote_arrives v s.controller) }) (answering m s (vote_arrives v s.controller))
unfolding answering station_after sent_after vote_arrives becomes passing_over learn
vote_leaves m s v = elim (split (leb (phase s.controller) 1)) [
  | inl y ↦ rw (y, shared-stays m s.controller.condition)
  | inr n ↦ rw (n, shared-stays m s.controller.condition)
]

pub help_leaves : (m : Shared) (s : Station) (j : ℕ) → ◌≡◌ {A = Effect} (record { shared = m; station = station_after s (help_arrives j s.controller) }) (answering m s (help_arrives j s.controller))
unfolding answering station_after sent_after help_arrives keeps_call answers_call becomes passing_over add_caller
help_leaves m s j = elim (split (has_called s.controller j)) [
  | inl y ↦ rw (y, shared-stays m s.controller.condition)
  | inr n ↦ elim (split (leb (phase s.controller) 2)) [
    | inl y ↦ rw (n, y, shared-stays m s.controller.condition)
    | inr k ↦ rw (n, k, shared-stays m s.controller.condition)
  ]
]

passed_leaves : (m : Shared) (s : Station) → ◌≡◌ {A = Effect} (record { shared = m; station = s }) (answering m s (passing_over s.controller))
unfolding answering station_after sent_after passing_over
passed_leaves m s = rw (shared-stays m s.controller.condition)

-- an acknowledgement, which the run lays into the station itself: passed over; kept by one that does not wait; and by one that waits
abbrev pub holding : Station → Controller → Station
holding s c = record { controller = c; sent = s.sent; saved = s.saved }

module _ (m : Shared) (s : Station) (j : ℕ) (v : VoteSet) where
  pub ack-passed : (not (has_ack s.controller j) && (leb (phase s.controller) 2 || s.controller.help.waiting)) ≡ false
      → ◌≡◌ {A = Effect} (record { shared = m; station = s }) (answering m s (ack_arrives m.n m.f j v s.controller))
  unfolding ack_arrives
  ack-passed n = rw n (passed_leaves m s)

  module _ (y : (not (has_ack s.controller j) && (leb (phase s.controller) 2 || s.controller.help.waiting)) ≡ true) where
    pub ack-kept : s.controller.help.waiting ≡ false
        → ◌≡◌ {A = Effect} (record { shared = m; station = holding s (keep_ack s.controller j v) }) (answering m s (ack_arrives m.n m.f j v s.controller))
    unfolding ack_arrives propose_if_sufficient sufficient keep_ack answering station_after sent_after becomes
    ack-kept n = rw (y, n, shared-stays m s.controller.condition)

    pub ack-settled : answering m (holding s (keep_ack s.controller j v)) (propose_if_sufficient m.n m.f (becomes (keep_ack s.controller j v)))
        ≡ answering m s (ack_arrives m.n m.f j v s.controller)
    unfolding ack_arrives keep_ack answering station_after
    ack-settled = rw y

abbrev pub with_acks : Controller → Acks → Controller
with_acks c a = record { condition = c.condition; votes = c.votes; acks = a; helped = c.helped; help = c.help; proposal = c.proposal; gate = c.gate }

-- the first timeout: the run lays the own acknowledgement into the station, and the turn does the rest
pub own-laid : (c : Controller) (f i at : ℕ) (keeps : Bool) → at ≡ i - 1 → keeps ≡ (is_backup f i && not (has c.acks.from i))
    → with_acks c (record {
      sets = set c.acks.sets at (cond keeps c.votes (get_or c.acks.sets at empty));
      from = cond keeps (insert c.acks.from i) c.acks.from;
      cnt = record { 0 = cond keeps (bump c.acks.cnt.0) c.acks.cnt.0 };
    }) ≡ count_own f i c
unfolding count_own keep_ack put
own-laid c f i at keeps p e = elim (split (is_backup f i && not (has c.acks.from i))) [
  | inl y ↦ rw (e, y, p)
  | inr n ↦ rw (e, n, same_set c.acks.sets at empty)
]

own-votes : (f i : ℕ) (c : Controller) → ((count_own f i c).votes ≡ c.votes) × ((count_own f i c).condition ≡ c.condition)
unfolding count_own keep_ack
own-votes f i c = elim (split (is_backup f i && not (has_ack c i))) [
  | inl y ↦ rw y (refl, refl)
  | inr n ↦ rw n (refl, refl)
]

pub first_leaves : (m : Shared) (s : Station) (i : ℕ) → is_running s.controller.condition ≡ true
    → ◌≡◌ {A = Effect} (record {
      shared = m;
      station = station_after (holding s (count_own m.f i s.controller)) (sending (advance (count_own m.f i s.controller) 2) (acks_to (recipients m.n m.f Ack i) (count_own m.f i s.controller).votes));
    }) (answering m s (first_timeout m.n m.f i s.controller))
unfolding answering first_timeout advance station_after
first_leaves m s i r =
    let o = own-votes m.f i s.controller in
    rw (o.0, o.1, shared_advanced m s.controller.condition 2 r)

-- behind the questions, the controller's call is its rule
module _ (me : Identity) (c : Controller) (v : valid_identity me ≡ true) (r : is_running c.condition ≡ true) where
  pub timeout-first : phase c ≡ 1 → first_timeout me.n me.f me.id c ≡ timeout me c
  unfolding timeout
  timeout-first e = rw (v, r, e)

  pub timeout-second : (phase c ≡ 1 → ⊥) → (eqb (phase c) 1 || eqb (phase c) 2) ≡ true → second_timeout me.n me.f me.id c ≡ timeout me c
  unfolding timeout
  timeout-second n h = rw (v, r, ne_eqb (phase c) 1 n, or-second (eqb (phase c) 1) (eqb (phase c) 2) (ne_eqb (phase c) 1 n) h)

awaiting : (k : Condition) → (is_standby k || eqb (phase_in k) 3) ≡ true → (is_standby k || (is_running k && eqb (phase_in k) 3)) ≡ true
awaiting (Running p) h = h
awaiting Stopped h = absurd (false≢true h)
awaiting (Standby o) h = refl

pub decide_rule : (move : Bool) (c : Controller) → (is_standby c.condition || eqb (phase_in c.condition) 3) ≡ true → becomes (conclude c (word_of move)) ≡ decide move c
unfolding decide awaits_decision
decide_rule move c h = rw (awaiting c.condition h)

pub stop_rule : (c : Controller) → (is_running c.condition || is_standby c.condition) ≡ true → becomes (cleared Stopped c) ≡ stop c
unfolding stop
stop_rule c h = rw h

pub restore_rule : (me : Identity) (saved : Option Checkpoint) (c : Controller) → is_stopped c.condition ≡ true → is_some saved ≡ true
    → becomes (cleared (Standby (outcome_saved saved me.order)) c) ≡ restore_from me saved c
unfolding restore_from restore
restore_rule me None c s y = absurd (false≢true y)
restore_rule me (Some p) c s y = rw s
