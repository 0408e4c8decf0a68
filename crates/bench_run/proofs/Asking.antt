-- The questions of an event, asked of the stations that the run reads: of a number without a station it reads another one, and question 5 or 7 refuses.
use Prim.Native.Nat.{ℕ, ◌≤◌}
use mathlib.Core.Path.{◌≡◌, refl, sym, ap, ◌∙◌}
use mathlib.Core.Bool.{Bool, true, false, not, ◌&&◌, false≢true}
use mathlib.Core.List.{List, ◌∷◌}
use mathlib.Core.Logic.{inl, inr}
use native.Mathlib.Omega.{arith}
use lib.Dec.{eqb}
use Rattle.ground.specs.Limit.{limit}
use Rattle.ground.specs.Tests.{no_both, refuted, split, and_l, and_r}
use Rattle.model.specs.QuestionLaws.{AllYes}
use Rattle.model.specs.RangeLaws.{Member, member, is_member}
use Rattle.model.specs.Ranges.{is_controller, different_controllers}
use Rattle.model.specs.declared.BallotEvent.{BallotEvent}
use Rattle.model.specs.declared.BallotEvent.TheVariants.{Open, Carry}
use Rattle.model.specs.declared.Event.{Event}
use Rattle.model.specs.declared.Event.TheVariants.{Lock, Order, Cast, Deliver, Timeout, Decide, Stop, Save, Restore, OfBallots}
use Rattle.protocol.specs.declared.Station.{Station}
use Rattle.protocol.specs.declared.Acceptor.{Acceptor}
use Rattle.protocol.specs.declared.BallotRow.{BallotRow}
use Rattle.protocol.specs.declared.Bench.{Bench}
use Rattle.protocol.specs.Benches.{station, sent_by}
use Rattle.protocol.specs.Events.{subject, source}
use Rattle.protocol.specs.Ballots.{is_ballot, acceptor, row}
use Rattle.protocol.specs.BallotSteps.{ballot_subject}
use Rattle.bench_state.specs.BallotQuestions.{ballot_number, ballot_asked, ballot-asked}
use Rattle.bench_state.proofs.BallotReplies.{row_alike}
use Rattle.bench_turns.proofs.OneStation.{changes_station}
use Rattle.protocol.specs.Questions.{Facts, refused, Question, ask, unless, first_no, questions_of, facts_of}

-- a controller's number has a seat
has_seat : (n k : ℕ) → n ≤ limit → is_controller n k ≡ true → Member limit k
has_seat n k h e = let r = member n k e in record { low = r.low; high = omega (arith, r.high) }

-- refused by 5 or by 7, whatever is asked after
far : (l c : Bool) (rest : List Question) → c ≡ false → first_no (ask 5 l ∷ ask 7 c ∷ rest) ≡ unless 5 l (refused 7)
unfolding first_no unless
far l c rest e = rw e

alike : (l c : Bool) (these those : List Question) → c ≡ false → first_no (ask 5 l ∷ ask 7 c ∷ these) ≡ first_no (ask 5 l ∷ ask 7 c ∷ those)
alike l c these those e = far l c these e ∙ sym (far l c those e)

module _ (n : ℕ) (few : n ≤ limit) where
  no_seat : (i : ℕ) → is_controller limit i ≡ false → is_controller n i ≡ false
  no_seat i h = refuted (is_controller n i) (λ e.
      let k = has_seat n i few e in
      no_both (is_controller limit i) (is_member limit i k.low k.high) h)

  no-sender : (i j : ℕ) → is_controller limit i ≡ false → different_controllers n i j ≡ false
  no-sender i j h = rw (no_seat i h)

  no_receiver : (i j : ℕ) → is_controller limit j ≡ false → different_controllers n i j ≡ false
  no_receiver i j h = refuted (different_controllers n i j) (λ e.
      no_both (is_controller n j) (and_r (is_controller n i) (is_controller n j) (and_l (is_controller n i && is_controller n j) (not (eqb i j)) e)) (no_seat j h))

-- the station that is read for a number is its own, if it has one
abbrev pub Seat : Bench → ℕ → Station → Type 0
Seat b i s = 1 ≤ i → i ≤ limit → s ≡ station b i

module _ (b : Bench) (few : b.shared.n ≤ limit) (own other : Station) (may : Bool) (give : Bool → Bool) where
  -- of an event of one controller, where subject and source are one
  seated : (i : ℕ) → Seat b i own → Seat b i other → is_controller limit i ≡ true → (own ≡ station b i) × (other ≡ station b i)
  seated i o p y = let k = member limit i y in (o k.low k.high, p k.low k.high)

  pub same-questions : (e : Event) → Seat b (subject e) own → Seat b (source e) other
      → first_no (questions_of (facts_of b.shared b.ballots e own other.sent may give true) e) ≡ first_no (questions_of (facts_of b.shared b.ballots e (station b (subject e)) (sent_by b (source e)) may give true) e)
  same-questions (Lock n f own) o p = refl
  same-questions (Order k) o p = refl
  same-questions (Cast i w t) o p = elim (split (is_controller limit i)) [
    | inl y ↦ let s = seated i o p y in rw s.0
    | inr n ↦ alike _ _ _ _ (no_seat b.shared.n few i n)
  ]
  same-questions (Deliver i j k) o p = elim (split (is_controller limit i)) [
    | inl x ↦ elim (split (is_controller limit j)) [
      | inl y ↦
          let s = member limit i x in
          let r = member limit j y in
          rw (o r.low r.high, p s.low s.high)
      | inr n ↦ alike _ _ _ _ (no_receiver b.shared.n few i j n)
    ]
    | inr n ↦ alike _ _ _ _ (no-sender b.shared.n few i j n)
  ]
  same-questions (Timeout i) o p = elim (split (is_controller limit i)) [
    | inl y ↦ let s = seated i o p y in rw s.0
    | inr n ↦ alike _ _ _ _ (no_seat b.shared.n few i n)
  ]
  same-questions (Decide i w) o p = elim (split (is_controller limit i)) [
    | inl y ↦ let s = seated i o p y in rw s.0
    | inr n ↦ alike _ _ _ _ (no_seat b.shared.n few i n)
  ]
  same-questions (Stop i) o p = elim (split (is_controller limit i)) [
    | inl y ↦ let s = seated i o p y in rw s.0
    | inr n ↦ alike _ _ _ _ (no_seat b.shared.n few i n)
  ]
  same-questions (Save i) o p = elim (split (is_controller limit i)) [
    | inl y ↦ let s = seated i o p y in rw s.0
    | inr n ↦ alike _ _ _ _ (no_seat b.shared.n few i n)
  ]
  same-questions (Restore i) o p = elim (split (is_controller limit i)) [
    | inl y ↦ let s = seated i o p y in rw s.0
    | inr n ↦ alike _ _ _ _ (no_seat b.shared.n few i n)
  ]
  same-questions (OfBallots (Open i k)) o p = elim (split (is_controller limit i)) [
    | inl y ↦ let s = seated i o p y in rw s.0
    | inr n ↦ alike _ _ _ _ (no_seat b.shared.n few i n)
  ]
  same-questions (OfBallots (Carry i j kind k)) o p = elim (split (is_controller limit j)) [
    | inl y ↦ let s = seated j o p y in rw s.0
    | inr n ↦ alike _ _ _ _ (no_receiver b.shared.n few i j n)
  ]

-- once all are answered "yes", subject and source have stations
pub record Stationed (e : Event) : Type 0 where
  pub of-subject : Member limit (subject e)
  pub of-source : Member limit (source e)

pub stationed : (v : Facts) (e : Event) → v.shared.n ≤ limit → changes_station e ≡ true → AllYes (questions_of v e) → Stationed e
stationed v (Lock n f own) few o y = absurd (false≢true o)
stationed v (Order k) few o y = absurd (false≢true o)
stationed v (Cast i w t) few o y = let k = has_seat v.shared.n i few y.1.0 in record { of-subject = k; of-source = k }
stationed v (Deliver i j k) few o y =
    let both = and_l (is_controller v.shared.n i && is_controller v.shared.n j) (not (eqb i j)) y.1.0 in
    record {
      of-subject = has_seat v.shared.n j few (and_r (is_controller v.shared.n i) (is_controller v.shared.n j) both);
      of-source = has_seat v.shared.n i few (and_l (is_controller v.shared.n i) (is_controller v.shared.n j) both);
    }
stationed v (Timeout i) few o y = let k = has_seat v.shared.n i few y.1.0 in record { of-subject = k; of-source = k }
stationed v (Decide i w) few o y = let k = has_seat v.shared.n i few y.1.0 in record { of-subject = k; of-source = k }
stationed v (Stop i) few o y = let k = has_seat v.shared.n i few y.1.0 in record { of-subject = k; of-source = k }
stationed v (Save i) few o y = let k = has_seat v.shared.n i few y.1.0 in record { of-subject = k; of-source = k }
stationed v (Restore i) few o y = let k = has_seat v.shared.n i few y.1.0 in record { of-subject = k; of-source = k }
stationed v (OfBallots e) few o y = absurd (false≢true o)

-- an event of ballots, asked of the acceptor and of the row that are read: they are its controller's and its ballot's, if these have a place
module _ (v : Facts) (few : v.shared.n ≤ limit) (e : BallotEvent) (a : Acceptor) (r : BallotRow)
    (seat : 1 ≤ ballot_subject e → ballot_subject e ≤ limit → a ≡ acceptor v.ballots (ballot_subject e))
    (slot : is_ballot (ballot_number e) ≡ true → r ≡ row v.ballots (ballot_number e)) where
  abbrev asked_with : Acceptor → BallotRow → List Question
  asked_with a r = ballot_asked v.shared v.condition v.proposal a r e

  same-acceptor : first_no (asked_with a r) ≡ first_no (asked_with (acceptor v.ballots (ballot_subject e)) r)
  same-acceptor = elim (split (is_controller limit (ballot_subject e))) [
    | inl y ↦ let k = member limit (ballot_subject e) y in ap (λ (x : Acceptor). first_no (asked_with x r)) (seat k.low k.high)
    | inr n ↦ by-seven e n a (acceptor v.ballots (ballot_subject e))
  ]
    where
      by-seven : (e : BallotEvent) → is_controller limit (ballot_subject e) ≡ false → (x y : Acceptor) → first_no (ballot_asked v.shared v.condition v.proposal x r e) ≡ first_no (ballot_asked v.shared v.condition v.proposal y r e)
      by-seven (Open i k) n x y = alike _ _ _ _ (no_seat v.shared.n few i n)
      by-seven (Carry i j kind k) n x y = alike _ _ _ _ (no_receiver v.shared.n few i j n)

  pub same-ballot : first_no (asked_with a r) ≡ first_no (questions_of v (OfBallots e))
  same-ballot = same-acceptor ∙ same_row ∙ ap first_no (sym (ballot-asked v e))
    where
      same_row : first_no (asked_with (acceptor v.ballots (ballot_subject e)) r) ≡ first_no (asked_with (acceptor v.ballots (ballot_subject e)) (row v.ballots (ballot_number e)))
      same_row = elim (split (is_ballot (ballot_number e))) [
        | inl y ↦ ap (λ (x : BallotRow). first_no (asked_with (acceptor v.ballots (ballot_subject e)) x)) (slot y)
        | inr n ↦ row_alike v.shared v.condition v.proposal (acceptor v.ballots (ballot_subject e)) r (row v.ballots (ballot_number e)) e n
      ]

-- once all are answered "yes", its controller has a seat
pub ballot_seat : (v : Facts) (e : BallotEvent) → v.shared.n ≤ limit → AllYes (questions_of v (OfBallots e)) → Member limit (ballot_subject e)
ballot_seat v (Open i k) few y = has_seat v.shared.n i few y.1.0
ballot_seat v (Carry i j kind k) few y = has_seat v.shared.n j few (and_r (is_controller v.shared.n i) (is_controller v.shared.n j) (and_l (is_controller v.shared.n i && is_controller v.shared.n j) (not (eqb i j)) y.1.0))
