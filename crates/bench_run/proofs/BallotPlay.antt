-- One event of ballots of a run: its questions, asked of the acceptor and of the row that are read; what is left. And question 18's look at the rows.
use Prim.Native.Nat.{ℕ, ◌+◌, ◌-◌, ◌%◌, ◌≤◌, ◌<◌}
use mathlib.Core.Path.{◌≡◌, refl, sym, ap, subst, ◌∙◌}
use mathlib.Core.Bool.{Bool, true, false, cond, ◌&&◌, ◌||◌}
use mathlib.Core.List.{List, []}
use mathlib.Core.Logic.{inl, inr}
use native.Mathlib.Omega.{arith}
use native.Mathlib.Numerals.{add-one}
use lib.ListN.{get_or, set}
use Rattle.ground.specs.Limit.{limit}
use Rattle.ground.specs.Tests.{split}
use Rattle.ground.specs.Lists.{nth, put, nth-at}
use Rattle.ground.specs.Quantify.{any_to}
use Rattle.std.specs.Prelude.{Result, Ok, Err}
use Rattle.model.specs.QuestionLaws.{AllYes}
use Rattle.model.specs.Refusals.{reply_of, numbered, replied as replied_with}
use Rattle.model.specs.RefusalLaws.{never_zero}
use Rattle.model.specs.declared.Refusal.{Refusal}
use Rattle.model.specs.declared.Outcome.{Outcome}
use Rattle.model.specs.declared.BallotEvent.{BallotEvent}
use Rattle.model.specs.declared.Event.TheVariants.{OfBallots}
use Rattle.protocol.specs.declared.Acceptor.{Acceptor}
use Rattle.protocol.specs.declared.BallotAnswer.{BallotAnswer}
use Rattle.protocol.specs.declared.BallotRow.{BallotRow}
use Rattle.protocol.specs.declared.Ballots.{Ballots}
use Rattle.protocol.specs.declared.Shared.{Shared}
use Rattle.protocol.specs.declared.Station.{Station}
use Rattle.protocol.specs.Ballots.{ballot_limit, is_ballot, majority, new_acceptor, new_row, acceptor, row, is_word_of, chosen_in, is_chosen}
use Rattle.protocol.specs.BallotSteps.{ballot_subject, row_after, answered}
use Rattle.protocol.specs.Benches.{controller}
use Rattle.protocol.specs.Questions.{Reply, accepted, refused, Facts, number, first_no, may_open, may_give, was_proposed, no_other_word, questions_of, facts_of}
use Rattle.protocol.specs.Steps.{perform}
use Rattle.bench_state.specs.BallotQuestions.{ballot_number, ballot_asked}
use Rattle.bench_state.proofs.BallotReplies.{has-row, in_row}
use Rattle.bench_turns.specs.declared.BallotTurn.{BallotTurn}
use Rattle.bench_turns.specs.BallotTurns.{reported_ballot, word_in, ballot_answer, turn_with, ballot_turn}
use Rattle.bench_turns.proofs.BallotLaws.{reported_of, word_read, ballots-answered}
use Rattle.bench_run.proofs.Asking.{same-ballot, ballot_seat}
use Rattle.bench_run.proofs.Local.{bench_with, Asked, own_seat, replied, yes-to-all, steps, few}
use Rattle.bench_run.proofs.Records.{Task, Notes, Upto, let_through}
use Rattle.bench_run.proofs.PlayLaws.{PlaceOf, station_at, Reading, asked_of, refused as event-refused}

-- a turn by its reply: what it answers, and what it leaves
reply_is : (t : Result BallotTurn Refusal) (r : Reply) (x : BallotTurn) → numbered t ≡ replied_with r x → reply_of t ≡ r
reply_is (Ok y) accepted x e = refl
reply_is (Ok y) (refused j) x e = cc
reply_is (Err n) accepted x e = cc
reply_is (Err n) (refused j) x e = cc

value_is : (y : BallotTurn) (r : Reply) (x : BallotTurn) → ◌≡◌ {A = Result BallotTurn ℕ} (Ok y) (replied_with r x) → y ≡ x
value_is y accepted x e = cc
value_is y (refused j) x e = cc

-- question 18 looks at the first i rows
pub none-chosen : (n : ℕ) (bs : Ballots) (v : Bool) → false ≡ any_to 0 (chosen_in n bs v)
unfolding any_to
none-chosen n bs v = refl

pub more-chosen : (n : ℕ) (bs : Ballots) (v : Bool) (i : ℕ) (chosen x : Bool) → chosen ≡ any_to i (chosen_in n bs v)
    → x ≡ (is_word_of (get_or bs.rows i (new_row [])).tally.word v && majority n (get_or bs.rows i (new_row [])).accepted_by) → (x || chosen) ≡ any_to (i + 1) (chosen_in n bs v)
unfolding any_to chosen_in row nth
more-chosen n bs v i chosen x e f = rw (add-one, e, f)

pub may_give_lem : (m : Shared) (bs : Ballots) (v : Bool) (end i : ℕ) (chosen may : Bool) → end ≡ cond m.own ballot_limit 0 → i ≡ end → chosen ≡ any_to i (chosen_in m.n bs v)
    → may ≡ cond m.own chosen (was_proposed m.consensus v && no_other_word m.consensus.decision v) → may ≡ may_give m bs v
unfolding is_chosen
may_give_lem m bs v end i chosen may e x c g = elim (split m.own) [
  | inl o ↦
      let all : i ≡ ballot_limit = x ∙ e ∙ ap (λ (t : Bool). cond t ballot_limit 0) o in
      g ∙ ap (λ (t : Bool). cond t chosen word) o ∙ c ∙ ap (λ (j : ℕ). any_to j (chosen_in m.n bs v)) all ∙ sym (ap (λ (t : Bool). cond t (is_chosen m.n bs v) word) o)
  | inr o ↦ g ∙ ap (λ (t : Bool). cond t chosen word) o ∙ sym (ap (λ (t : Bool). cond t (is_chosen m.n bs v) word) o)
]
  where
    word : Bool
    word = was_proposed m.consensus v && no_other_word m.consensus.decision v

-- the place of a ballot, and the row that the code reads there
abbrev pub SlotOf : ℕ → ℕ → Type 0
SlotOf b p = (p < ballot_limit) × (1 ≤ b → b ≤ ballot_limit → p ≡ b - 1)

abbrev pub row_at : Ballots → ℕ → BallotRow
row_at bs p = get_or bs.rows p (new_row [])

abbrev pub acceptor_at : Ballots → ℕ → Acceptor
acceptor_at bs at = get_or bs.acceptors at new_acceptor

read-row : (bs : Ballots) (b p : ℕ) → 1 ≤ b → p ≡ b - 1 → row_at bs p ≡ row bs b
unfolding row
read-row bs b p h e = ap (row_at bs) e ∙ sym (nth-at (new_row []) bs.rows b h)

read-acceptor : (bs : Ballots) (i at : ℕ) → 1 ≤ i → at ≡ i - 1 → acceptor_at bs at ≡ acceptor bs i
unfolding acceptor
read-acceptor bs i at h e = ap (acceptor_at bs) e ∙ sym (nth-at new_acceptor bs.acceptors i h)

module _ (task : Task) (notes : Notes) (k spot : ℕ) (m : Shared) (bs : Ballots) (l : List Station) (out : List ℕ) (e : BallotEvent) (g : Reading task notes k spot m bs l out (OfBallots e))
    (i : ℕ) (subject : i ≡ ballot_subject e) (at : ℕ) (seat : PlaceOf i at) (b : ℕ) (number_is : b ≡ ballot_number e) (p : ℕ) (slot : SlotOf b p) where
  abbrev own : Station
  own = station_at l at

  abbrev q : ℕ
  q = number (first_no (ballot_asked m own.controller.condition own.controller.proposal (acceptor_at bs at) (row_at bs p) e))

  seated : PlaceOf (ballot_subject e) at
  seated = (seat.0, λ h j. seat.1 (rw subject h) (rw subject j) ∙ ap (λ (x : ℕ). x - 1) subject)

  slotted : SlotOf (ballot_number e) p
  slotted = (slot.0, λ h j. slot.1 (rw number_is h) (rw number_is j) ∙ ap (λ (x : ℕ). x - 1) number_is)

  abbrev facts : Facts
  facts = facts_of m bs (OfBallots e) own own.sent (may_open m) (may_give m bs) true

  has-few : m.n ≤ limit
  has-few = few (bench_with m bs l) g.upto.list g.upto.here

  row_read : is_ballot (ballot_number e) ≡ true → row_at bs p ≡ row bs (ballot_number e)
  row_read y = let r = in_row (ballot_number e) y in read-row bs (ballot_number e) p r.0 (slotted.1 r.0 r.1)

  acceptor-read : 1 ≤ ballot_subject e → ballot_subject e ≤ limit → acceptor_at bs at ≡ acceptor bs (ballot_subject e)
  acceptor-read h j = read-acceptor bs (ballot_subject e) at h (seated.1 h j)

  ballot-asked : Asked m bs l (OfBallots e) own own at q
  ballot-asked = asked_of task notes k spot m bs l out (OfBallots e) g at at q seated seated
      (ap number (same-ballot facts has-few e (acceptor_at bs at) (row_at bs p) acceptor-read row_read))

  ballot-refused : (q ≡ 0 → ⊥) → Upto task notes (k + 1) (bench_with m bs l) (set out spot q)
  ballot-refused = event-refused task notes k spot m bs l out (OfBallots e) g at at q ballot-asked

  module _ (z : q ≡ 0) where
    yes : AllYes (questions_of facts (OfBallots e))
    yes = yes-to-all _ _ _ _ _ _ _ _ ballot-asked z

    low : 1 ≤ ballot_subject e
    low = (ballot_seat facts e has-few yes).low

    high : ballot_subject e ≤ limit
    high = (ballot_seat facts e has-few yes).high

    ranged : is_ballot (ballot_number e) ≡ true
    ranged = has-row facts e yes

    abbrev n : ℕ
    n = ballot_number e

    abbrev proposal : Outcome
    proposal = (controller (bench_with m bs l) (ballot_subject e)).proposal

    own-word : own.controller.proposal ≡ proposal
    own-word = ap (λ (x : Station). x.controller.proposal) (own_seat _ _ _ _ _ _ _ _ ballot-asked low high)

    -- with the answer of the controller, put where acceptor and row were read
    ballot-accepted : (last : ℕ) → last ≡ reported_ballot e (row_at bs p) → (o : ℕ) → ((o < ballot_limit) × (1 ≤ last → o ≡ last - 1)) → (v : Outcome) → v ≡ word_in last (row_at bs o)
        → (x : BallotAnswer) → x ≡ ballot_answer m.n (n % 256) e own.controller.proposal (acceptor_at bs at) (row_at bs p) v → (r : BallotRow) → r ≡ row_after (row_at bs p) i x
        → Upto task notes (k + 1) (bench_with m (record { acceptors = set bs.acceptors at x.acceptor; rows = set bs.rows p r }) l) (set out spot q)
    ballot-accepted last e1 o e2 v e3 x e4 r e5 = let_through task notes k (bench_with m bs l) out g.upto g.more spot g.place g.ready (OfBallots e) g.read
        (bench_with m (record { acceptors = set bs.acceptors at x.acceptor; rows = set bs.rows p r }) l) q (played ∙ sym (steps _ _ _ _ _ _ _ _ ballot-asked z)) (replied _ _ _ _ _ _ _ _ ballot-asked)
      where
        row_is : row_at bs p ≡ row bs n
        row_is = row_read ranged

        small : n % 256 ≡ n
        small = omega (arith, (in_row n ranged).1)

        last-is : last ≡ reported_ballot e (row bs n)
        last-is = e1 ∙ ap (reported_ballot e) row_is

        reported : v ≡ reported_of bs e
        reported = e3 ∙ ap (λ (j : ℕ). word_in j (row_at bs o)) last-is ∙ word_read bs e (row_at bs o) (λ h. ap (λ (y : BallotRow). y.tally.word) (read-row bs (reported_ballot e (row bs n)) o h (e2.1 (rw last-is h) ∙ ap (λ (j : ℕ). j - 1) last-is)))

        now : BallotAnswer
        now = ballot_answer m.n n e proposal (acceptor bs (ballot_subject e)) (row bs n) (reported_of bs e)

        x-is : x ≡ now
        x-is = e4
            ∙ ap (λ (j : ℕ). ballot_answer m.n j e own.controller.proposal (acceptor_at bs at) (row_at bs p) v) small
            ∙ ap (λ (y : Outcome). ballot_answer m.n n e y (acceptor_at bs at) (row_at bs p) v) own-word
            ∙ ap (λ (y : Acceptor). ballot_answer m.n n e proposal y (row_at bs p) v) (acceptor-read low high)
            ∙ ap (λ (y : BallotRow). ballot_answer m.n n e proposal (acceptor bs (ballot_subject e)) y v) row_is
            ∙ ap (ballot_answer m.n n e proposal (acceptor bs (ballot_subject e)) (row bs n)) reported

        r-is : r ≡ row_after (row bs n) (ballot_subject e) now
        r-is = e5 ∙ ap (λ (y : BallotRow). row_after y i x) row_is ∙ ap (λ (j : ℕ). row_after (row bs n) j x) subject ∙ ap (row_after (row bs n) (ballot_subject e)) x-is

        placed : ◌≡◌ {A = Ballots} (record { acceptors = set bs.acceptors at x.acceptor; rows = set bs.rows p r }) (answered bs (ballot_subject e) n now)
        placed = unfold answered put in λ t. record {
          acceptors = set bs.acceptors (seated.1 low high t) (x-is t).acceptor;
          rows = set bs.rows (slotted.1 (in_row n ranged).0 (in_row n ranged).1 t) (r-is t);
        }

        played : bench_with m (record { acceptors = set bs.acceptors at x.acceptor; rows = set bs.rows p r }) l ≡ perform (bench_with m bs l) (OfBallots e)
        played = unfold perform in ap (λ (y : Ballots). bench_with m y l) (placed ∙ ballots-answered m.n bs proposal e low (in_row n ranged).0)

  -- asked and played by its turn, with the answer that it tells
  module _ (last : ℕ) (e1 : last ≡ reported_ballot e (row_at bs p)) (o : ℕ) (e2 : (o < ballot_limit) × (1 ≤ last → o ≡ last - 1)) (v : Outcome) (e3 : v ≡ word_in last (row_at bs o))
      (t : Result BallotTurn Refusal) (w : numbered t ≡ ballot_turn m own (acceptor_at bs at) (row_at bs p) v e) (told : ℕ) (tells : told ≡ number (reply_of t)) where
    asked : told ≡ q
    unfolding ballot_turn
    asked = tells ∙ ap number (reply_is t _ _ w)

    pub turn-refused : (x : Refusal) → t ≡ Err x → Upto task notes (k + 1) (bench_with m bs l) (set out spot told)
    turn-refused x is = subst (λ (j : ℕ). Upto task notes (k + 1) (bench_with m bs l) (set out spot j)) (sym asked) (ballot-refused (λ z. never_zero x (sym (rw is at tells) ∙ (asked ∙ z))))

    pub turn-accepted : (y : BallotTurn) → t ≡ Ok y → Upto task notes (k + 1) (bench_with m (record { acceptors = set bs.acceptors at y.acceptor; rows = set bs.rows p y.row }) l) (set out spot told)
    unfolding ballot_turn
    turn-accepted y is = subst Played (sym (value_is y _ _ (rw is at w))) (subst (λ (j : ℕ). Upto task notes (k + 1) (bench_with m (left turn) l) (set out spot j)) (sym asked)
        (ballot-accepted (sym asked ∙ rw is at tells) last e1 o e2 v e3 _ refl _ (ap (λ (j : ℕ). row_after (row_at bs p) j answer) (sym subject))))
      where
        answer : BallotAnswer
        answer = ballot_answer m.n (ballot_number e % 256) e own.controller.proposal (acceptor_at bs at) (row_at bs p) v

        turn : BallotTurn
        turn = turn_with (ballot_subject e) (row_at bs p) answer

        left : BallotTurn → Ballots
        left x = record { acceptors = set bs.acceptors at x.acceptor; rows = set bs.rows p x.row }

        Played : BallotTurn → Type 0
        Played x = Upto task notes (k + 1) (bench_with m (left x) l) (set out spot told)
