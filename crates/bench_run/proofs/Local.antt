-- An event, asked and played where the bench's parts lie.
use Prim.Native.Nat.{ℕ, ◌-◌, ◌≤◌}
use mathlib.Core.Path.{◌≡◌, refl, sym, ap, subst, ◌∙◌}
use mathlib.Core.Bool.{Bool, true, false, ◌&&◌, false≢true, true≢false}
use mathlib.Core.List.{List, [], map}
use mathlib.Core.Logic.{inl, inr}
use lib.Dec.{leb}
use lib.ListN.{length, get_or, set, replicate, length-replicate}
use borrow.Author.Tests.{not-true}
use Rattle.ground.specs.Limit.{limit}
use Rattle.ground.specs.Tests.{and_i}
use Rattle.ground.specs.Lists.{put, nth-at}
use Rattle.votes.specs.VoteSets.{empty}
use Rattle.model.specs.QuestionLaws.{AllYes, all_yes, reply-accepted}
use Rattle.model.specs.Ranges.{sizes_in_range, is_controller}
use Rattle.model.specs.declared.Event.{Event}
use Rattle.model.specs.declared.Event.TheVariants.{Lock, Order}
use Rattle.protocol.specs.declared.Station.{Station}
use Rattle.protocol.specs.declared.Shared.{Shared}
use Rattle.protocol.specs.declared.Effect.{Effect}
use Rattle.protocol.specs.declared.Acceptor.{Acceptor}
use Rattle.protocol.specs.declared.BallotRow.{BallotRow}
use Rattle.protocol.specs.declared.Ballots.{Ballots}
use Rattle.protocol.specs.declared.Bench.{Bench}
use Rattle.protocol.specs.Ballots.{ballot_limit, new_acceptor, new_row, new_ballots}
use Rattle.protocol.specs.Benches.{fresh_station, bench_of, new_bench, all_undecided, station, sent_by, identity}
use Rattle.protocol.specs.Calls.{valid_identity}
use Rattle.protocol.specs.Events.{subject as subject_of, source as source_of}
use Rattle.protocol.specs.Questions.{number, reply, first_no, questions_of, may_open, may_give, facts_of}
use Rattle.protocol.specs.Steps.{renewed, order_opened, perform, step, run}
use Rattle.protocol.specs.NoContradiction.{untested_reply, untested_perform}
use Rattle.protocol.proofs.lists.Reach.{Reached, reached, controllers-limit}
use Rattle.bench_state.proofs.Replies.{all-numbered, step-refused}
use Rattle.bench_turns.proofs.OneStation.{changes_station}
use Rattle.bench_run.proofs.Untested.{untested_effect, same-reply, accepted-step, performs}
use Rattle.bench_run.proofs.Asking.{Seat, same-questions, stationed}

-- the bench of these parts
abbrev pub bench_with : Shared → Ballots → List Station → Bench
bench_with m bs l = record { shared = m; ballots = bs; stations = l }

-- a station as the code reads it
read-station : (m : Shared) (bs : Ballots) (l : List Station) (i at : ℕ) → 1 ≤ i → at ≡ i - 1 → get_or l at (fresh_station []) ≡ station (bench_with m bs l) i
unfolding station
read-station m bs l i at h e = ap (λ (k : ℕ). get_or l k (fresh_station [])) e ∙ sym (nth-at (fresh_station []) l i h)

-- a bench that a list leads to: as many stations as the limit, and no more controllers; new, if it has no lock
module _ (b : Bench) (es : List Event) (here : b ≡ run new_bench es) where
  reached-here : Reached b
  reached-here = subst Reached (sym here) (reached es)

  pub all_stations : length b.stations ≡ limit
  all_stations = elim reached-here [
    | inl z ↦ subst (λ (x : Bench). length x.stations ≡ limit) (sym z) (unfold bench_of in length-replicate limit (fresh_station (replicate limit empty)))
    | inr a ↦ a.size
  ]

  pub few : b.shared.n ≤ limit
  few = subst (λ (x : Bench). x.shared.n ≤ limit) (sym here) (controllers-limit es)

  unlocked-new : b.shared.locked ≡ false → b ≡ new_bench
  unlocked-new u = elim reached-here [
    | inl z ↦ z
    | inr a ↦ absurd (true≢false (sym a.locked ∙ u))
  ]

-- what is known once the questions of an event are asked: q is the number of the first "no", or 0
pub record Asked (m : Shared) (bs : Ballots) (l : List Station) (e : Event) (own other : Station) (at q : ℕ) : Type 0 where
  pub list : List Event
  pub here : bench_with m bs l ≡ run new_bench list
  pub place : 1 ≤ subject_of e → subject_of e ≤ limit → at ≡ subject_of e - 1
  pub read : own ≡ get_or l at (fresh_station [])
  pub origin : Seat (bench_with m bs l) (source_of e) other
  pub asked : q ≡ number (first_no (questions_of (facts_of m bs e own other.sent (may_open m) (may_give m bs) true) e))

pub seat-of : (m : Shared) (bs : Ballots) (l : List Station) (i at : ℕ) → (1 ≤ i → i ≤ limit → at ≡ i - 1) → Seat (bench_with m bs l) i (get_or l at (fresh_station []))
seat-of m bs l i at p h k = read-station m bs l i at h (p h k)

module _ (m : Shared) (bs : Ballots) (l : List Station) (e : Event) (own other : Station) (at q : ℕ) (a : Asked m bs l e own other at q) where
  pub own_seat : Seat (bench_with m bs l) (subject_of e) own
  own_seat h k = a.read ∙ seat-of m bs l (subject_of e) at a.place h k

  untested : q ≡ number (untested_reply (bench_with m bs l) e)
  untested = a.asked ∙ ap number (same-questions (bench_with m bs l) (few (bench_with m bs l) a.list a.here) own other (may_open m) (may_give m bs) e own_seat a.origin)

  pub replied : q ≡ number (reply (bench_with m bs l) e)
  replied = untested ∙ ap number (same-reply (bench_with m bs l) a.list a.here e)

  pub untouched : (q ≡ 0 → ⊥) → bench_with m bs l ≡ step (bench_with m bs l) e
  untouched n = sym (step-refused (bench_with m bs l) e (λ z. n (replied ∙ z)))

  module _ (z : q ≡ 0) where
    -- each question was answered "yes"
    pub yes-to-all : AllYes (questions_of (facts_of m bs e own other.sent (may_open m) (may_give m bs) true) e)
    yes-to-all = all_yes _ (reply-accepted _ q (all-numbered (facts_of m bs e own other.sent (may_open m) (may_give m bs) true) e) a.asked z)

    pub steps : step (bench_with m bs l) e ≡ untested_perform (bench_with m bs l) e
    steps = accepted-step (bench_with m bs l) a.list a.here e (reply-accepted _ q (all-numbered (facts_of m bs e (station (bench_with m bs l) (subject_of e)) (sent_by (bench_with m bs l) (source_of e)) (may_open m) (may_give m bs) true) e) untested z)

    -- an event of one controller: its effect, put back
    pub done : changes_station e ≡ true → (t : Effect) → t ≡ untested_effect m e other.sent own → bench_with t.shared bs (set l at t.station) ≡ step (bench_with m bs l) e
    unfolding put
    done o t w =
        let s = stationed (facts_of m bs e own other.sent (may_open m) (may_give m bs) true) e (few (bench_with m bs l) a.list a.here) o yes-to-all in
        let x : own ≡ station (bench_with m bs l) (subject_of e) = own_seat s.of-subject.low s.of-subject.high in
        let y : other ≡ station (bench_with m bs l) (source_of e) = a.origin s.of-source.low s.of-source.high in
        ap (λ (i : ℕ). bench_with t.shared bs (set l i t.station)) (a.place s.of-subject.low s.of-subject.high)
        ∙ ap (λ (u : Effect). bench_with u.shared bs (set l (subject_of e - 1) u.station)) (w ∙ ap (λ (v : Station). untested_effect m e v.sent own) y ∙ ap (untested_effect m e (sent_by (bench_with m bs l) (source_of e))) x)
        ∙ sym (steps ∙ performs (bench_with m bs l) e o)

-- the shared state of a lock that is set up
module _ (m : Shared) (bs : Ballots) (l : List Station) (es : List Event) (here : bench_with m bs l ≡ run new_bench es) where
  pub in_range_lem : m.locked ≡ true → sizes_in_range m.n m.f ≡ true
  in_range_lem k = elim (reached-here (bench_with m bs l) es here) [
    | inl z ↦ absurd (false≢true (sym (ap (λ (b : Bench). b.shared.locked) z ∙ unfold bench_of in refl) ∙ k))
    | inr a ↦ a.sized
  ]

  pub valid : (i : ℕ) → m.locked ≡ true → is_controller m.n i ≡ true → leb 1 m.order ≡ true → valid_identity (identity m i) ≡ true
  unfolding valid_identity
  valid i k c o = and_i (sizes_in_range m.n m.f && is_controller m.n i) (leb 1 m.order) (and_i (sizes_in_range m.n m.f) (is_controller m.n i) (in_range_lem k) c) o

  -- an order: every station is renewed, and the ballots are new
  pub order-opened : (k q : ℕ) → q ≡ number (first_no (questions_of (facts_of m bs (Order k) (fresh_station []) (fresh_station []).sent (may_open m) (may_give m bs) true) (Order k))) → q ≡ 0
      → bench_with (order_opened m k) new_ballots (map renewed l) ≡ step (bench_with m bs l) (Order k)
  order-opened k q e z = sym (accepted-step (bench_with m bs l) es here (Order k) (reply-accepted _ q (all-numbered (facts_of m bs (Order k) (fresh_station []) (fresh_station []).sent (may_open m) (may_give m bs) true) (Order k)) e z) ∙ unfold perform in refl)

  -- a lock: the bench was new
  pub lock-set : (n f : ℕ) (own : Bool) (q : ℕ) → q ≡ number (first_no (questions_of (facts_of m bs (Lock n f own) (fresh_station []) (fresh_station []).sent (may_open m) (may_give m bs) true) (Lock n f own))) → q ≡ 0
      → bench_with (record { locked = true; n = n; f = f; own = own; order = m.order; consensus = m.consensus; counts = all_undecided n }) bs l ≡ step (bench_with m bs l) (Lock n f own)
  lock-set n f own q e z =
      let yes = all_yes _ (reply-accepted _ q (all-numbered (facts_of m bs (Lock n f own) (fresh_station []) (fresh_station []).sent (may_open m) (may_give m bs) true) (Lock n f own)) e z) in
      new-locked (bench_with m bs l) (unlocked-new (bench_with m bs l) es here (not-true m.locked yes.1.0))
      ∙ sym (accepted-step (bench_with m bs l) es here (Lock n f own) (reply-accepted _ q (all-numbered (facts_of m bs (Lock n f own) (fresh_station []) (fresh_station []).sent (may_open m) (may_give m bs) true) (Lock n f own)) e z))
    where
      new-locked : (b : Bench) → b ≡ new_bench → bench_with (record { locked = true; n = n; f = f; own = own; order = b.shared.order; consensus = b.shared.consensus; counts = all_undecided n }) b.ballots b.stations ≡ untested_perform b (Lock n f own)
      new-locked b z = subst (λ (x : Bench). bench_with (record { locked = true; n = n; f = f; own = own; order = x.shared.order; consensus = x.shared.consensus; counts = all_undecided n }) x.ballots x.stations ≡ untested_perform x (Lock n f own)) (sym z) (unfold perform bench_of in refl)

-- the parts of a new bench
pub new-parts : (m : Shared) (x : Station) (a : Acceptor) (r : BallotRow) → m ≡ new_bench.shared → x ≡ fresh_station (replicate limit empty) → a ≡ new_acceptor → r ≡ new_row (replicate limit 0)
    → bench_with m (record { acceptors = replicate limit a; rows = replicate ballot_limit r }) (replicate limit x) ≡ new_bench
unfolding bench_of new_ballots
new-parts m x a r e d f g = rw (e, d, f, g)

pub new-ballots : (a : Acceptor) (r : BallotRow) → a ≡ new_acceptor → r ≡ new_row (replicate limit 0) → ◌≡◌ {A = Ballots} (record { acceptors = replicate limit a; rows = replicate ballot_limit r }) new_ballots
unfolding new_ballots
new-ballots a r e f = rw (e, f)
