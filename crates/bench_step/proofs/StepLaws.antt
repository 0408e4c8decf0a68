-- What a step has shown where it returns: refused, or accepted and put back. It reads a station as `station_read` does.
use Prim.Native.Nat.{◌≤◌}
use mathlib.Core.Path.{◌≡◌, sym, ap, ◌∙◌}
use mathlib.Core.Bool.{Bool, true, not, ◌&&◌, false≢true}
use lib.Dec.{eqb}
use Rattle.std.specs.Prelude.{Result, Ok, Err}
use lib.ListN.{length}
use Rattle.ground.specs.Limit.{limit}
use Rattle.ground.specs.Tests.{and_l, and_r}
use Rattle.model.specs.RangeLaws.{member}
use Rattle.model.specs.QuestionLaws.{AllYes}
use Rattle.model.specs.Refusals.{reply_of}
use Rattle.model.specs.RefusalLaws.{passed}
use Rattle.model.specs.declared.Refusal.{Refusal}
use Rattle.model.specs.Ranges.{is_controller}
use Rattle.model.specs.declared.Event.{Event}
use Rattle.model.specs.declared.Event.TheVariants.{Lock, Order, Cast, Deliver, Timeout, Decide, Stop, Save, Restore, OfBallots}
use Rattle.protocol.specs.declared.Bench.{Bench}
use Rattle.protocol.specs.declared.Effect.{Effect}
use Rattle.protocol.specs.Benches.{station, sent_by}
use Rattle.protocol.specs.Events.{subject, source}
use Rattle.protocol.specs.Questions.{Facts, first_no, may_open, may_give, questions_of, questions, agrees_at, facts_of, reply}
use Rattle.protocol.specs.Steps.{effect, put_back, perform, step}
use Rattle.bench_turns.proofs.OneStation.{changes_station}
use Rattle.bench_step.specs.Steps.{stepped, stepped_of}
use Rattle.bench_step.proofs.StationsRead.{station_read, sent_read, read-facts}
use Rattle.bench_step.proofs.Outside.{put-read}
use Rattle.bench_step.proofs.Agrees.{read-agrees}

module _ (b : Bench) (e : Event) (r : Result Unit Refusal) (asked : reply_of r ≡ reply b e) where
  pub refuses : (q : Refusal) → r ≡ Err q → stepped_of b (Err q) ≡ stepped b e
  unfolding step
  refuses q o = rw (rw o at (sym asked))

  pub accepts : r ≡ Ok tt → (next : Bench) → next ≡ perform b e → stepped_of b (Ok next) ≡ stepped b e
  unfolding step
  accepts o next p = rw (rw o at (sym asked), p)

  pub yes : r ≡ Ok tt → AllYes (questions b e)
  unfolding reply
  yes o = passed (questions b e) asked o

-- question 7: an accepted event of one controller has a number from 1 on
numbered-from_1 : (b : Bench) (e : Event) → changes_station e ≡ true → AllYes (questions b e) → 1 ≤ subject e
numbered-from_1 b (Lock n f own) o y = absurd (false≢true o)
numbered-from_1 b (Order k) o y = absurd (false≢true o)
numbered-from_1 b (Cast i willing target) o y = (member b.shared.n i y.1.0).low
numbered-from_1 b (Deliver i j kind) o y =
    let both = and_l (is_controller b.shared.n i && is_controller b.shared.n j) (not (eqb i j)) y.1.0 in
    (member b.shared.n j (and_r (is_controller b.shared.n i) (is_controller b.shared.n j) both)).low
numbered-from_1 b (Timeout i) o y = (member b.shared.n i y.1.0).low
numbered-from_1 b (Decide i move) o y = (member b.shared.n i y.1.0).low
numbered-from_1 b (Stop i) o y = (member b.shared.n i y.1.0).low
numbered-from_1 b (Save i) o y = (member b.shared.n i y.1.0).low
numbered-from_1 b (Restore i) o y = (member b.shared.n i y.1.0).low
numbered-from_1 b (OfBallots x) o y = absurd (false≢true o)

-- what the questions of an event look at, as the code reads it
abbrev pub facts_read : Bench → Event → Facts
facts_read b e = facts_of b.shared b.ballots e (station_read b (subject e)) (sent_read b e) (may_open b.shared) (may_give b.shared b.ballots) (agrees_at b.shared e (sent_read b e) (station_read b (subject e)))

-- an event of one controller, asked and played on its station as the code reads it
module _ (b : Bench) (e : Event) (l : length b.stations ≡ limit) (r : Result Unit Refusal) (asked : reply_of r ≡ first_no (questions_of (facts_read b e) e)) where
  replied : reply_of r ≡ reply b e
  unfolding reply
  replied =
      asked
      ∙ ap (λ (v : Facts). first_no (questions_of v e))
      (read-facts b e (may_open b.shared) (may_give b.shared b.ballots) (agrees_at b.shared e (sent_read b e) (station_read b (subject e)))
      ∙ ap (λ (a : Bool). facts_of b.shared b.ballots e (station b (subject e)) (sent_by b (source e)) (may_open b.shared) (may_give b.shared b.ballots) a) (read-agrees b e l))

  pub one_refused : (q : Refusal) → r ≡ Err q → stepped_of b (Err q) ≡ stepped b e
  one_refused = refuses b e r replied

  one-first : changes_station e ≡ true → r ≡ Ok tt → 1 ≤ subject e
  one-first c o = numbered-from_1 b e c (yes b e r replied o)

  -- what is put back needs to be the event's effect only where every question was answered "yes"
  pub one-accepted : changes_station e ≡ true → r ≡ Ok tt → (t : Effect) → (AllYes (questions_of (facts_read b e) e) → t ≡ effect b.shared e (sent_read b e) (station_read b (subject e)))
      → stepped_of b (Ok (put_back b (subject e) t)) ≡ stepped b e
  one-accepted c o t is = accepts b e r replied o _ (rw (is (passed (questions_of (facts_read b e) e) asked o)) (put-read b e l c (one-first c o)))
