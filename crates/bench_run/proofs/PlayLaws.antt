-- One event of a run: its questions, asked of the station that is read; what is left where they are answered "no", and where they are answered "yes".
use Rattle.std.specs.Prelude.{is_some}
use Prim.Native.Nat.{ℕ, ◌+◌, ◌-◌, ◌*◌, ◌≤◌, ◌<◌, min}
use mathlib.Core.Path.{◌≡◌, refl, sym, ap, subst, ◌∙◌}
use mathlib.Core.Bool.{Bool, true, false, cond, not, ◌&&◌, ◌||◌}
use mathlib.Core.List.{List, []}
use native.Mathlib.Omega.{arith}
use lib.Dec.{leb, ltb}
use lib.ListN.{length, drop, get_or, set}
use borrow.Author.Tests.{not-true}
use lib.Seq.{set-set, get_or-set_same}
use Rattle.ground.specs.Limit.{limit}
use Rattle.ground.specs.Firsts.{map_first}
use Rattle.ground.specs.Lists.{put}
use Rattle.ground.specs.Mask.{has, insert}
use Rattle.votes.specs.VoteSets.{empty}
use Rattle.votes.specs.declared.VoteSet.{VoteSet}
use Rattle.model.specs.QuestionLaws.{AllYes}
use Rattle.model.specs.Numbers.{word_of}
use Rattle.model.specs.Ranges.{is_backup}
use Rattle.model.specs.Routes.{recipients}
use Rattle.model.specs.declared.Kind.{Kind}
use Rattle.model.specs.declared.Kind.TheVariants.{Vote, Ack, Help, Helped}
use Rattle.model.specs.declared.Event.{Event}
use Rattle.model.specs.declared.Event.TheVariants.{Lock, Order, Cast, Deliver, Timeout, Decide, Stop, Save, Restore}
use Rattle.event_record.specs.Events.{read_event}
use Rattle.std.specs.Prelude.{Ok}
use Rattle.protocol.specs.declared.Ballots.{Ballots}
use Rattle.protocol.specs.declared.Condition.{Condition}
use Rattle.protocol.specs.declared.Condition.TheVariants.{Stopped, Standby}
use Rattle.protocol.specs.declared.Effect.{Effect}
use Rattle.protocol.specs.declared.Outgoing.{Outgoing}
use Rattle.protocol.specs.declared.Shared.{Shared}
use Rattle.protocol.specs.declared.Station.{Station}
use Rattle.protocol.specs.Ballots.{new_ballots}
use Rattle.protocol.specs.Benches.{fresh_station, new_bench, all_undecided, identity, of_kind}
use Rattle.protocol.specs.Controllers.{phase_in, phase, advance, bump, cleared, conclude, keep_ack}
use Rattle.protocol.specs.Rules.{becomes, sending, acks_to, count_own, second_timeout, propose_if_sufficient, vote_arrives, help_arrives, helped_arrives, vote_rule}
use Rattle.protocol.specs.Calls.{arrives, save}
use Rattle.protocol.specs.Events.{subject, source}
use Rattle.protocol.specs.Questions.{number, first_no, questions_of, facts_of, may_open, may_give}
use Rattle.protocol.specs.Steps.{station_after, renewed, order_opened, decided_as, answering, keeping, run}
use Rattle.bench_state.specs.Parts.{facts_at, own_facts, decide_facts, open_facts}
use Rattle.bench_turns.specs.Turns.{outcome_saved}
use Rattle.bench_turns.proofs.OneStation.{changes_station}
use Rattle.model.specs.declared.Act.TheVariants.{Play}
use Rattle.schedule_reader.specs.Pieces.{record_at}
use Rattle.bench_run.specs.declared.Next.{Next}
use Rattle.bench_run.specs.declared.Next.TheVariants.{Play as Plays}
use Rattle.bench_run.specs.Memory.{place_of, next_at}
use Rattle.bench_run.specs.Schedule.{piece}
use Rattle.bench_run.proofs.Asking.{stationed}
use Rattle.bench_run.proofs.Idle.{enough}
use Rattle.bench_run.proofs.Quiet.{quiet}
use Rattle.bench_run.proofs.Local.{bench_with, Asked, seat-of, replied, untouched, yes-to-all, done, valid, few, all_stations, order-opened, lock-set}
use Rattle.bench_run.proofs.Records.{Task, Notes, Upto, in-room, let_through, event-ready, event-read}
use Rattle.bench_run.proofs.TurnLaws.{same_set, own-laid, holding, with_acks, cast_leaves, vote_leaves, help_leaves, ack-passed, ack-kept, ack-settled, first_leaves, timeout-first, timeout-second, decide_rule, stop_rule, restore_rule}
use Rattle.bench_run.proofs.Untested.{untested_effect}

-- the place of a number, and the station that the code reads there
abbrev pub PlaceOf : ℕ → ℕ → Type 0
PlaceOf i at = (at < limit) × (1 ≤ i → i ≤ limit → at ≡ i - 1)

abbrev pub station_at : List Station → ℕ → Station
station_at l at = get_or l at (fresh_station [])

-- a run stands before a record, and has read an event from it
pub record Reading (task : Task) (notes : Notes) (k spot : ℕ) (m : Shared) (bs : Ballots) (l : List Station) (out : List ℕ) (e : Event) : Type 0 where
  pub upto : Upto task notes k (bench_with m bs l) out
  pub more : k < task.all
  pub place : spot ≡ place_of notes.ring notes.noted k notes.count
  pub ready : (notes.on && ltb notes.noted k) ≡ false
  pub read : read_event (piece task.s spot) ≡ Ok (Play e)

-- from what the code has read
pub reading : (s : List ℕ) (from : ℕ) (out₀ : List ℕ) (all : ℕ) (notes : Notes) (k spot : ℕ) (m : Shared) (bs : Ballots) (l : List Station) (out : List ℕ) (e : Event)
    → Upto (record { s = drop from s; out = out₀; all = all }) notes k (bench_with m bs l) out → k < all → spot ≡ place_of notes.ring notes.noted k notes.count
    → (t : Bool) → t ≡ (notes.on && ltb notes.noted k) → (n : Next) → n ≡ next_at t (record_at s (from + spot * 10)) → n ≡ Plays e
    → Reading (record { s = drop from s; out = out₀; all = all }) notes k spot m bs l out e
reading s from out₀ all notes k spot m bs l out e p h pl t d n r g = record {
  upto = p;
  more = h;
  place = pl;
  ready = sym d ∙ event-ready s from spot t n r e g;
  read = event-read s from spot t n r e g;
}

-- its answer has room
pub in_place : (task : Task) (notes : Notes) (k spot : ℕ) (m : Shared) (bs : Ballots) (l : List Station) (out : List ℕ) (e : Event) → Reading task notes k spot m bs l out e → spot < length out
in_place task notes k spot m bs l out e g = in-room task notes k (bench_with m bs l) out g.upto g.more spot g.place g.ready

-- the questions of an event of one controller, asked of its station
module _ (task : Task) (notes : Notes) (k spot : ℕ) (m : Shared) (bs : Ballots) (l : List Station) (out : List ℕ) (e : Event) (g : Reading task notes k spot m bs l out e) where
  -- the bench of the records so far
  here : bench_with m bs l ≡ run new_bench g.upto.list
  here = g.upto.here

  pub asked_of : (at o q : ℕ) → PlaceOf (subject e) at → PlaceOf (source e) o
      → q ≡ number (first_no (questions_of (facts_of m bs e (station_at l at) (station_at l o).sent (may_open m) (may_give m bs) true) e)) → Asked m bs l e (station_at l at) (station_at l o) at q
  asked_of at o q p r a = record { list = g.upto.list; here = here; place = p.1; read = refl; origin = seat-of m bs l (source e) o r.1; asked = a }

  module _ (at o q : ℕ) (a : Asked m bs l e (station_at l at) (station_at l o) at q) where
    pub refused : (q ≡ 0 → ⊥) → Upto task notes (k + 1) (bench_with m bs l) (set out spot q)
    refused n = let_through task notes k (bench_with m bs l) out g.upto g.more spot g.place g.ready e g.read (bench_with m bs l) q (untouched _ _ _ _ _ _ _ _ a n) (replied _ _ _ _ _ _ _ _ a)

    pub accepted : q ≡ 0 → changes_station e ≡ true → (t : Effect) → t ≡ untested_effect m e (station_at l o).sent (station_at l at)
        → Upto task notes (k + 1) (bench_with t.shared bs (set l at t.station)) (set out spot q)
    accepted z one t w = let_through task notes k (bench_with m bs l) out g.upto g.more spot g.place g.ready e g.read
        (bench_with t.shared bs (set l at t.station)) q (done _ _ _ _ _ _ _ _ a z one t w) (replied _ _ _ _ _ _ _ _ a)

    pub all_yes : q ≡ 0 → AllYes (questions_of (facts_of m bs e (station_at l at) (station_at l o).sent (may_open m) (may_give m bs) true) e)
    all_yes z = yes-to-all _ _ _ _ _ _ _ _ a z

-- a lock and an order
module _ (task : Task) (notes : Notes) (k spot : ℕ) (m : Shared) (bs : Ballots) (l : List Station) (out : List ℕ) where
  at_first : PlaceOf 0 0
  at_first = (omega arith, λ x y. absurd (omega arith))

  module _ (n f : ℕ) (own : Bool) (q : ℕ) (g : Reading task notes k spot m bs l out (Lock n f own)) (a : q ≡ number (first_no (questions_of (open_facts m false) (Lock n f own)))) where
    lock-asked : Asked m bs l (Lock n f own) (station_at l 0) (station_at l 0) 0 q
    lock-asked = asked_of task notes k spot m bs l out (Lock n f own) g 0 0 q at_first at_first a

    pub lock-refused : (q ≡ 0 → ⊥) → Upto task notes (k + 1) (bench_with m bs l) (set out spot q)
    lock-refused = refused task notes k spot m bs l out (Lock n f own) g 0 0 q lock-asked

    pub lock-accepted : q ≡ 0 → (m' : Shared) → m' ≡ record { locked = true; n = n; f = f; own = own; order = m.order; consensus = m.consensus; counts = all_undecided n }
        → Upto task notes (k + 1) (bench_with m' bs l) (set out spot q)
    lock-accepted z m' w = let_through task notes k (bench_with m bs l) out g.upto g.more spot g.place g.ready (Lock n f own) g.read
        (bench_with m' bs l) q (ap (λ (x : Shared). bench_with x bs l) w ∙ lock-set m bs l g.upto.list g.upto.here n f own q a z) (replied _ _ _ _ _ _ _ _ lock-asked)

  module _ (o q : ℕ) (g : Reading task notes k spot m bs l out (Order o)) (v : Bool) (w : v ≡ may_open m) (a : q ≡ number (first_no (questions_of (open_facts m v) (Order o)))) where
    order_question : q ≡ number (first_no (questions_of (open_facts m (may_open m)) (Order o)))
    order_question = a ∙ ap (λ (x : Bool). number (first_no (questions_of (open_facts m x) (Order o)))) w

    order-asked : Asked m bs l (Order o) (station_at l 0) (station_at l 0) 0 q
    order-asked = asked_of task notes k spot m bs l out (Order o) g 0 0 q at_first at_first order_question

    pub order-refused : (q ≡ 0 → ⊥) → Upto task notes (k + 1) (bench_with m bs l) (set out spot q)
    order-refused = refused task notes k spot m bs l out (Order o) g 0 0 q order-asked

    pub order-accepted : q ≡ 0 → (m' : Shared) → m' ≡ order_opened m o → (l' : List Station) → l' ≡ map_first renewed m.n l → (bs' : Ballots) → bs' ≡ new_ballots
        → Upto task notes (k + 1) (bench_with m' bs' l') (set out spot q)
    order-accepted z m' x l' y bs' u = let_through task notes k (bench_with m bs l) out g.upto g.more spot g.place g.ready (Order o) g.read
        (bench_with m' bs' l') q
        (ap (λ (v : Shared). bench_with v bs' l') x ∙ ap (λ (v : Ballots). bench_with (order_opened m o) v l') u ∙ ap (bench_with (order_opened m o) new_ballots) (y ∙ enough (bench_with m bs l) g.upto.list g.upto.here)
        ∙ order-opened m bs l g.upto.list g.upto.here o q order_question z)
        (replied _ _ _ _ _ _ _ _ order-asked)

    -- at a lock with an arbiter the ballots are new as they are
    pub order_quiet : q ≡ 0 → (m' : Shared) → m' ≡ order_opened m o → not m'.own ≡ true → (l' : List Station) → l' ≡ map_first renewed m.n l → Upto task notes (k + 1) (bench_with m' bs l') (set out spot q)
    order_quiet z m' x h l' y = order-accepted z m' x l' y bs (quiet (bench_with m bs l) g.upto.list g.upto.here (sym (ap (λ (v : Shared). v.own) x ∙ (unfold order_opened in refl)) ∙ not-true m'.own h))

-- so many stations are renewed
pub order-size : (m : Shared) (l : List Station) (o : ℕ) (m' : Shared) → m' ≡ order_opened m o → (end i : ℕ) → end ≡ min m'.n limit → length l ≡ limit → i ≡ end → i ≡ min m.n (length l)
unfolding order_opened
order-size m l o m' e end i u size x = x ∙ u ∙ ap (λ (y : Shared). min y.n limit) e ∙ ap (min m.n) (sym size)

-- an event of the controller of one station: at its place the condition is c
module _ (task : Task) (notes : Notes) (k spot : ℕ) (m : Shared) (bs : Ballots) (l : List Station) (out : List ℕ) (i at q : ℕ) (p : PlaceOf i at) (c : Condition) (d : c ≡ (station_at l at).controller.condition) where
  abbrev own : Station
  own = station_at l at

  module _ (w : Bool) (t : ℕ) (g : Reading task notes k spot m bs l out (Cast i w t)) (a : q ≡ number (first_no (questions_of (own_facts m c) (Cast i w t)))) where
    cast-asked : Asked m bs l (Cast i w t) own own at q
    cast-asked = asked_of task notes k spot m bs l out (Cast i w t) g at at q p p (a ∙ ap (λ (x : Condition). number (first_no (questions_of (own_facts m x) (Cast i w t)))) d)

    pub cast-refused : (q ≡ 0 → ⊥) → Upto task notes (k + 1) (bench_with m bs l) (set out spot q)
    cast-refused = refused task notes k spot m bs l out (Cast i w t) g at at q cast-asked

    pub cast-accepted : q ≡ 0 → (x : Station) → x ≡ station_after own (vote_rule m.n m.f i w t own.controller) → Upto task notes (k + 1) (bench_with m bs (set l at x)) (set out spot q)
    unfolding untested_effect
    cast-accepted z x e =
        let y = all_yes task notes k spot m bs l out (Cast i w t) g at at q cast-asked z in
        accepted task notes k spot m bs l out (Cast i w t) g at at q cast-asked z refl (record { shared = m; station = x })
        (ap (λ (v : Station). record { shared = m; station = v }) e ∙ cast_leaves m own i w t y.1.1.1.1.0)

  module _ (g : Reading task notes k spot m bs l out (Timeout i)) (a : q ≡ number (first_no (questions_of (own_facts m c) (Timeout i)))) where
    timeout-asked : Asked m bs l (Timeout i) own own at q
    timeout-asked = asked_of task notes k spot m bs l out (Timeout i) g at at q p p (a ∙ ap (λ (x : Condition). number (first_no (questions_of (own_facts m x) (Timeout i)))) d)

    pub timeout-refused : (q ≡ 0 → ⊥) → Upto task notes (k + 1) (bench_with m bs l) (set out spot q)
    timeout-refused = refused task notes k spot m bs l out (Timeout i) g at at q timeout-asked

    module _ (z : q ≡ 0) where
      yes : AllYes (questions_of (facts_of m bs (Timeout i) own own.sent (may_open m) (may_give m bs) true) (Timeout i))
      yes = all_yes task notes k spot m bs l out (Timeout i) g at at q timeout-asked z

      first-accepted : phase own.controller ≡ 1 → (x : Station)
          → x ≡ station_after (holding own (count_own m.f i own.controller)) (sending (advance (count_own m.f i own.controller) 2) (acks_to (recipients m.n m.f Ack i) (count_own m.f i own.controller).votes))
          → Upto task notes (k + 1) (bench_with m bs (set l at x)) (set out spot q)
      unfolding untested_effect
      first-accepted h x e = accepted task notes k spot m bs l out (Timeout i) g at at q timeout-asked z refl (record { shared = m; station = x })
          (ap (λ (v : Station). record { shared = m; station = v }) e
          ∙ first_leaves m own i yes.1.1.1.0
          ∙ ap (answering m own) (timeout-first (identity m i) own.controller (valid m bs l g.upto.list g.upto.here i yes.0 yes.1.0 yes.1.1.0) yes.1.1.1.0 h))

      -- with the own acknowledgement laid part by part
      pub first-laid : (f : ℕ) → f ≡ phase own.controller → f ≡ 1 → (keeps : Bool) → keeps ≡ (is_backup m.f i && not (has own.controller.acks.from i))
          → (v : VoteSet) → v ≡ cond keeps own.controller.votes (get_or own.controller.acks.sets at empty)
          → (from : ℕ) → from ≡ cond keeps (insert own.controller.acks.from i) own.controller.acks.from
          → (cnt : ℕ) → cnt ≡ cond keeps (bump own.controller.acks.cnt.0) own.controller.acks.cnt.0
          → (y : Station) → y ≡ holding own (with_acks own.controller (record { sets = set own.controller.acks.sets at v; from = from; cnt = record { 0 = cnt } }))
          → (x : Station) → x ≡ station_after y (sending (advance y.controller 2) (acks_to (recipients m.n m.f Ack i) y.controller.votes))
          → Upto task notes (k + 1) (bench_with m bs (set l at x)) (set out spot q)
      first-laid f h1 h2 keeps e v e1 from e2 cnt e3 y e4 x e5 =
          let seated = stationed (facts_of m bs (Timeout i) own own.sent (may_open m) (may_give m bs) true) (Timeout i) (few (bench_with m bs l) g.upto.list g.upto.here) refl yes in
          let place : at ≡ i - 1 = p.1 seated.of-subject.low seated.of-subject.high in
          let own-kept : y ≡ holding own (count_own m.f i own.controller) = rw (e4, e1, e2, e3) (ap (holding own) (own-laid own.controller m.f i at keeps place e)) in
          first-accepted (sym h1 ∙ h2) x (e5 ∙ ap (λ (w : Station). station_after w (sending (advance w.controller 2) (acks_to (recipients m.n m.f Ack i) w.controller.votes))) own-kept)

      pub second-accepted : (phase own.controller ≡ 1 → ⊥) → (t : Effect) → t ≡ answering m own (second_timeout m.n m.f i own.controller)
          → Upto task notes (k + 1) (bench_with t.shared bs (set l at t.station)) (set out spot q)
      unfolding untested_effect
      second-accepted h t e = accepted task notes k spot m bs l out (Timeout i) g at at q timeout-asked z refl t
          (e ∙ ap (answering m own) (timeout-second (identity m i) own.controller (valid m bs l g.upto.list g.upto.here i yes.0 yes.1.0 yes.1.1.0) yes.1.1.1.0 h yes.1.1.1.1.0))

  module _ (v may : Bool) (u : may ≡ may_give m bs v) (g : Reading task notes k spot m bs l out (Decide i v)) (a : q ≡ number (first_no (questions_of (decide_facts m c may) (Decide i v)))) where
    decide-asked : Asked m bs l (Decide i v) own own at q
    decide-asked = asked_of task notes k spot m bs l out (Decide i v) g at at q p p
        (a ∙ ap (λ (x : Condition). number (first_no (questions_of (decide_facts m x may) (Decide i v)))) d ∙ ap (λ (x : Bool). number (first_no (questions_of (decide_facts m own.controller.condition x) (Decide i v)))) u)

    pub decide-refused : (q ≡ 0 → ⊥) → Upto task notes (k + 1) (bench_with m bs l) (set out spot q)
    decide-refused = refused task notes k spot m bs l out (Decide i v) g at at q decide-asked

    pub decide-accepted : q ≡ 0 → (t : Effect) → t ≡ answering (decided_as m v) own (becomes (conclude own.controller (word_of v)))
        → Upto task notes (k + 1) (bench_with t.shared bs (set l at t.station)) (set out spot q)
    unfolding untested_effect
    decide-accepted z t e =
        let y = all_yes task notes k spot m bs l out (Decide i v) g at at q decide-asked z in
        accepted task notes k spot m bs l out (Decide i v) g at at q decide-asked z refl t (e ∙ ap (answering (decided_as m v) own) (decide_rule v own.controller y.1.1.1.1.0))

  module _ (g : Reading task notes k spot m bs l out (Stop i)) (a : q ≡ number (first_no (questions_of (own_facts m c) (Stop i)))) where
    stop-asked : Asked m bs l (Stop i) own own at q
    stop-asked = asked_of task notes k spot m bs l out (Stop i) g at at q p p (a ∙ ap (λ (x : Condition). number (first_no (questions_of (own_facts m x) (Stop i)))) d)

    pub stop-refused : (q ≡ 0 → ⊥) → Upto task notes (k + 1) (bench_with m bs l) (set out spot q)
    stop-refused = refused task notes k spot m bs l out (Stop i) g at at q stop-asked

    pub stop-accepted : q ≡ 0 → (t : Effect) → t ≡ answering m own (becomes (cleared Stopped own.controller))
        → Upto task notes (k + 1) (bench_with t.shared bs (set l at t.station)) (set out spot q)
    unfolding untested_effect
    stop-accepted z t e =
        let y = all_yes task notes k spot m bs l out (Stop i) g at at q stop-asked z in
        accepted task notes k spot m bs l out (Stop i) g at at q stop-asked z refl t (e ∙ ap (answering m own) (stop_rule own.controller y.1.1.1.0))

  module _ (g : Reading task notes k spot m bs l out (Save i)) (a : q ≡ number (first_no (questions_of (own_facts m c) (Save i)))) where
    save-asked : Asked m bs l (Save i) own own at q
    save-asked = asked_of task notes k spot m bs l out (Save i) g at at q p p (a ∙ ap (λ (x : Condition). number (first_no (questions_of (own_facts m x) (Save i)))) d)

    pub save-refused : (q ≡ 0 → ⊥) → Upto task notes (k + 1) (bench_with m bs l) (set out spot q)
    save-refused = refused task notes k spot m bs l out (Save i) g at at q save-asked

    pub save-accepted : q ≡ 0 → (x : Station) → x ≡ keeping own (save (identity m i) own.controller) → Upto task notes (k + 1) (bench_with m bs (set l at x)) (set out spot q)
    unfolding untested_effect
    save-accepted z x e = accepted task notes k spot m bs l out (Save i) g at at q save-asked z refl (record { shared = m; station = x }) (ap (λ (v : Station). record { shared = m; station = v }) e)

  module _ (v : Bool) (b : v ≡ is_some own.saved) (g : Reading task notes k spot m bs l out (Restore i)) (a : q ≡ number (first_no (questions_of (facts_at m c v 0 true) (Restore i)))) where
    restore-asked : Asked m bs l (Restore i) own own at q
    restore-asked = asked_of task notes k spot m bs l out (Restore i) g at at q p p
        (a ∙ ap (λ (x : Condition). number (first_no (questions_of (facts_at m x v 0 true) (Restore i)))) d ∙ ap (λ (x : Bool). number (first_no (questions_of (facts_at m own.controller.condition x 0 true) (Restore i)))) b)

    pub restore-refused : (q ≡ 0 → ⊥) → Upto task notes (k + 1) (bench_with m bs l) (set out spot q)
    restore-refused = refused task notes k spot m bs l out (Restore i) g at at q restore-asked

    pub restore-accepted : q ≡ 0 → (t : Effect) → t ≡ answering m own (becomes (cleared (Standby (outcome_saved own.saved m.order)) own.controller))
        → Upto task notes (k + 1) (bench_with t.shared bs (set l at t.station)) (set out spot q)
    unfolding untested_effect
    restore-accepted z t e =
        let y = all_yes task notes k spot m bs l out (Restore i) g at at q restore-asked z in
        accepted task notes k spot m bs l out (Restore i) g at at q restore-asked z refl t (e ∙ ap (answering m own) (restore_rule (identity m i) own.saved own.controller y.1.1.1.0 y.1.1.1.1.0))

  -- a message of controller j, of a kind: u are the messages of that kind that it has sent
  module _ (j o : ℕ) (r : PlaceOf j o) (kind : Kind) (u : Outgoing) (b : u ≡ of_kind kind (station_at l o).sent) (g : Reading task notes k spot m bs l out (Deliver j i kind))
      (a : q ≡ number (first_no (questions_of (facts_at m c false u.to true) (Deliver j i kind)))) where
    delivery-asked : Asked m bs l (Deliver j i kind) own (station_at l o) at q
    delivery-asked = asked_of task notes k spot m bs l out (Deliver j i kind) g at o q p r
        (a ∙ ap (λ (x : Condition). number (first_no (questions_of (facts_at m x false u.to true) (Deliver j i kind)))) d
        ∙ ap (λ (x : Outgoing). number (first_no (questions_of (facts_at m own.controller.condition false x.to true) (Deliver j i kind)))) b)

    pub delivery-refused : (q ≡ 0 → ⊥) → Upto task notes (k + 1) (bench_with m bs l) (set out spot q)
    delivery-refused = refused task notes k spot m bs l out (Deliver j i kind) g at o q delivery-asked

    delivered : q ≡ 0 → (t : Effect) → t ≡ answering m own (arrives kind m.n m.f j (of_kind kind (station_at l o).sent).votes own.controller)
        → Upto task notes (k + 1) (bench_with t.shared bs (set l at t.station)) (set out spot q)
    unfolding untested_effect
    delivered z t e = accepted task notes k spot m bs l out (Deliver j i kind) g at o q delivery-asked z refl t e

    -- a vote, a help call, a help answer
    arrived : (x : Kind) → kind ≡ x → answering m own (arrives x m.n m.f j (of_kind x (station_at l o).sent).votes own.controller)
        ≡ answering m own (arrives kind m.n m.f j (of_kind kind (station_at l o).sent).votes own.controller)
    arrived x h = ap (λ (y : Kind). answering m own (arrives y m.n m.f j (of_kind y (station_at l o).sent).votes own.controller)) (sym h)

    pub vote-accepted : kind ≡ Vote → q ≡ 0 → (x : Station) → x ≡ station_after own (vote_arrives (station_at l o).sent.vote.votes own.controller)
        → Upto task notes (k + 1) (bench_with m bs (set l at x)) (set out spot q)
    unfolding arrives
    vote-accepted h z x e = delivered z (record { shared = m; station = x })
        (ap (λ (v : Station). record { shared = m; station = v }) e ∙ vote_leaves m own (station_at l o).sent.vote.votes ∙ arrived Vote h)

    pub help-accepted : kind ≡ Help → q ≡ 0 → (x : Station) → x ≡ station_after own (help_arrives j own.controller) → Upto task notes (k + 1) (bench_with m bs (set l at x)) (set out spot q)
    unfolding arrives
    help-accepted h z x e = delivered z (record { shared = m; station = x }) (ap (λ (v : Station). record { shared = m; station = v }) e ∙ help_leaves m own j ∙ arrived Help h)

    pub helped-accepted : kind ≡ Helped → q ≡ 0 → (v : Outgoing) → v ≡ of_kind Helped (station_at l o).sent
        → (t : Effect) → t ≡ answering m own (helped_arrives m.n m.f j v.votes own.controller) → Upto task notes (k + 1) (bench_with t.shared bs (set l at t.station)) (set out spot q)
    unfolding arrives
    helped-accepted h z v f t e = delivered z t
        (e ∙ ap (λ (y : Outgoing). answering m own (helped_arrives m.n m.f j y.votes own.controller)) f ∙ arrived Helped h)

    -- an acknowledgement: is it taken?
    module _ (h : kind ≡ Ack) (z : q ≡ 0) (c₂ : Condition) (d₂ : c₂ ≡ own.controller.condition) (takes : Bool)
        (w : takes ≡ (not (has own.controller.acks.from j) && (leb (phase_in c₂) 2 || own.controller.help.waiting))) where
      taken_as : takes ≡ (not (has own.controller.acks.from j) && (leb (phase own.controller) 2 || own.controller.help.waiting))
      taken_as = w ∙ ap (λ (x : Condition). not (has own.controller.acks.from j) && (leb (phase_in x) 2 || own.controller.help.waiting)) d₂

      abbrev votes : VoteSet
      votes = (station_at l o).sent.ack.votes

      pub ack-passed-over : takes ≡ false → Upto task notes (k + 1) (bench_with m bs l) (set out spot q)
      unfolding arrives
      ack-passed-over n = subst (λ (x : List Station). Upto task notes (k + 1) (bench_with m bs x) (set out spot q)) (same_set l at (fresh_station []))
          (delivered z (record { shared = m; station = own }) (ack-passed m own j votes (sym taken_as ∙ n) ∙ arrived Ack h))

      -- the station as the run lays it
      abbrev laid : Station
      laid = holding own (with_acks own.controller (record {
        sets = set own.controller.acks.sets o votes;
        from = insert own.controller.acks.from j;
        cnt = record { 0 = bump own.controller.acks.cnt.0 };
      }))

      sender : o ≡ j - 1
      sender =
          let y = all_yes task notes k spot m bs l out (Deliver j i kind) g at o q delivery-asked z in
          let x = stationed (facts_of m bs (Deliver j i kind) own (station_at l o).sent (may_open m) (may_give m bs) true) (Deliver j i kind) (few (bench_with m bs l) g.upto.list g.upto.here) refl y in
          r.1 x.of-source.low x.of-source.high

      laid_as : laid ≡ holding own (keep_ack own.controller j votes)
      unfolding keep_ack put
      laid_as = rw sender

      module _ (y : takes ≡ true) where
        pub ack-held : own.controller.help.waiting ≡ false → (n f : ℕ) (x : Station) → n ≡ insert own.controller.acks.from j → f ≡ bump own.controller.acks.cnt.0
            → x ≡ holding own (with_acks own.controller (record { sets = set own.controller.acks.sets o votes; from = n; cnt = record { 0 = f } }))
            → Upto task notes (k + 1) (bench_with m bs (set l at x)) (set out spot q)
        unfolding arrives
        ack-held idle n f x a1 a2 a3 = delivered z (record { shared = m; station = x })
            (ap (λ (v : Station). record { shared = m; station = v }) (rw (a3, a1, a2) laid_as) ∙ ack-kept m own j votes (sym taken_as ∙ y) idle ∙ arrived Ack h)

        pub ack-put : (n f : ℕ) (x : Station) → n ≡ insert own.controller.acks.from j → f ≡ bump own.controller.acks.cnt.0
            → x ≡ holding own (with_acks own.controller (record { sets = set own.controller.acks.sets o votes; from = n; cnt = record { 0 = f } }))
            → (t : Effect) → t ≡ answering m (station_at (set l at x) at) (propose_if_sufficient m.n m.f (becomes (station_at (set l at x) at).controller))
            → Upto task notes (k + 1) (bench_with t.shared bs (set (set l at x) at t.station)) (set out spot q)
        unfolding arrives
        ack-put n f x a1 a2 a3 t e =
            let size : length l ≡ limit = all_stations (bench_with m bs l) g.upto.list g.upto.here in
            let there : station_at (set l at x) at ≡ x = get_or-set_same l at x (fresh_station []) (omega (arith, size, p.0)) in
            let kept : x ≡ holding own (keep_ack own.controller j votes) = rw (a3, a1, a2) laid_as in
            subst (λ (y : List Station). Upto task notes (k + 1) (bench_with t.shared bs y) (set out spot q)) (sym (set-set l at x t.station))
            (delivered z t (e
            ∙ ap (λ (y : Station). answering m y (propose_if_sufficient m.n m.f (becomes y.controller))) (there ∙ kept)
            ∙ ack-settled m own j votes (sym taken_as ∙ y)
            ∙ arrived Ack h))
