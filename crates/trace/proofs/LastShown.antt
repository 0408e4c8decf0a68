-- The C line last shown of a controller is the one that the bench has: at each act the lines that differ from before are shown, and nothing else shows one.
use Prim.Native.Nat.{ℕ, zero, suc, ◌≤◌, ◌<◌}
use mathlib.Core.Bool.{Bool, true, false, cond, not, ◌&&◌}
use mathlib.Core.List.{List, [], ◌∷◌, ◌++◌}
use mathlib.Core.Logic.{◌⊎◌, inl, inr}
use mathlib.Core.Path.{◌≡◌, refl, sym, ◌∙◌, ap, subst}
use native.Mathlib.Omega.{arith}
use native.Mathlib.Decide.{ℕ_discrete}
use borrow.Author.Tests.{leb-true, eqb-true, eq-eqb, ne_eqb}
use lib.Dec.{eqb, leb}
use lib.ListN.{get_or}
use Rattle.ground.specs.Limit.{limit}
use Rattle.ground.specs.Tests.{and_l, and_r, split, by_cond}
use Rattle.model.specs.Numbers.{outcome_number}
use Rattle.model.specs.Questions.{Reply, accepted, refused, number, is_accepted}
use Rattle.model.specs.Ranges.{is_ballot}
use Rattle.model.specs.declared.Kind.{Kind}
use Rattle.model.specs.declared.BallotKind.{BallotKind}
use Rattle.model.specs.declared.Outcome.{Outcome}
use Rattle.model.specs.declared.Outcome.TheVariants.{None, Stay, Move}
use Rattle.model.specs.declared.Event.{Event}
use Rattle.model.specs.declared.Event.TheVariants.{Lock, Order, Cast, Deliver, Timeout, Decide, Stop, Save, Restore, OfBallots}
use Rattle.model.specs.declared.Act.{Act}
use Rattle.model.specs.declared.Act.TheVariants.{Play, Back}
use Rattle.protocol.specs.declared.Station.{Station}
use Rattle.protocol.specs.declared.Ballots.{Ballots}
use Rattle.protocol.specs.declared.Bench.{Bench}
use Rattle.protocol.specs.Benches.{bench_of}
use Rattle.protocol.specs.declared.BallotRow.{BallotRow}
use Rattle.bench_report.specs.declared.Row.{Row}
use Rattle.bench_state.specs.BallotQuestions.{ballot_number}
use Rattle.bench_summary.specs.Summary.{summary_of}
use Rattle.steps_back.specs.Memory.{Remembering, new_remembering, answer, next, done, run_acts}
use Rattle.trace.specs.Lines.{Line, Shows, when, each}
use Rattle.trace.specs.Shown.{same_row, unchanged, row_of, changed_rows, changed, sent_to, sent_of, sent, sent_from, sent_in, in_ballot, ballot_at, ballot_sent, ballots, word_put, put, given, told, came_of, shown}
use Rattle.trace.specs.Traces.{Session, new_session, next_session, shown_of, trace_from}
use Rattle.trace.specs.Claim.{Last, none, last, last_after, last_from}

-- rows that are the same
outcome-is : (o p : Outcome) → outcome_number o ≡ outcome_number p → o ≡ p
outcome-is None None e = refl
outcome-is None Stay e = absurd (omega arith)
outcome-is None Move e = absurd (omega arith)
outcome-is Stay None e = absurd (omega arith)
outcome-is Stay Stay e = refl
outcome-is Stay Move e = absurd (omega arith)
outcome-is Move None e = absurd (omega arith)
outcome-is Move Stay e = absurd (omega arith)
outcome-is Move Move e = refl

abbrev made : ℕ → Outcome → ℕ → Row
made stage outcome position = record { stage = stage; outcome = outcome; position = position }

module _ (r s : Row) where
  abbrev stages : Bool
  stages = eqb r.stage s.stage

  abbrev outcomes : Bool
  outcomes = eqb (outcome_number r.outcome) (outcome_number s.outcome)

  abbrev positions : Bool
  positions = eqb r.position s.position

  row_is : same_row r s ≡ true → r ≡ s
  unfolding same_row
  row_is e =
      let rest = and_r stages (outcomes && positions) e in
      let stage = eqb-true r.stage s.stage (and_l stages (outcomes && positions) e) in
      let outcome = outcome-is r.outcome s.outcome (eqb-true _ _ (and_l outcomes positions rest)) in
      let position = eqb-true r.position s.position (and_r outcomes positions rest) in
      ap (λ (k : ℕ). made k r.outcome r.position) stage ∙ ap (λ (o : Outcome). made s.stage o r.position) outcome ∙ ap (λ (k : ℕ). made s.stage s.outcome k) position

module _ (k : ℕ) where
  append : (x : Last) (a b : List Line) → last_from k x (a ++ b) ≡ last_from k (last_from k x a) b
  unfolding last_from
  append x [] b = refl
  append x (l ∷ a) b = append (last_after k x l) a b

  -- lists of lines without a C line
  abbrev Quiet : List Line → Type 0
  Quiet ls = (x : Last) → last_from k x ls ≡ x

  both : (a b : List Line) → Quiet a → Quiet b → Quiet (a ++ b)
  both a b p q x = append x a b ∙ q (last_from k x a) ∙ p x

  one : (t : Bool) (l : Line) → ((x : Last) → last_after k x l ≡ x) → Quiet (when t l)
  unfolding when last_from
  one true l h x = h x
  one false l h x = refl

  all : (m : ℕ) (g : ℕ → List Line) → ((i : ℕ) → Quiet (g i)) → Quiet (each m g)
  unfolding each last_from
  all zero g h x = refl
  all (suc m) g h x = both (each m g) (g (suc m)) (all m g h) (h (suc m)) x

  kind_quiet : (kind : Kind) (old new : List Station) → Quiet (sent_of kind old new)
  unfolding sent_of sent_to
  kind_quiet kind old new = all limit _ (λ i. all limit _ (λ j. one _ _ (λ x. refl)))

  sent_quiet : (old new : List Station) → Quiet (sent old new)
  unfolding sent
  sent_quiet old new = both _ _ (kind_quiet _ old new) (both _ _ (kind_quiet _ old new) (both _ _ (kind_quiet _ old new) (kind_quiet _ old new)))

  ballot_quiet : (kind : BallotKind) (n b : ℕ) (old new : BallotRow) → Quiet (sent_in kind n b old new)
  unfolding sent_in sent_from
  ballot_quiet kind n b old new = all limit _ (λ i. all limit _ (λ j. one _ _ (λ x. refl)))

  in_quiet : (n b : ℕ) (old new : BallotRow) → Quiet (in_ballot n b old new)
  unfolding in_ballot
  in_quiet n b old new = both _ _ (ballot_quiet _ n b old new) (both _ _ (ballot_quiet _ n b old new) (both _ _ (ballot_quiet _ n b old new) (ballot_quiet _ n b old new)))

  ballots_quiet : (e : Event) (n : ℕ) (old new : Ballots) → Quiet (ballots e n old new)
  unfolding ballots ballot_sent last_from
  ballots_quiet (OfBallots e) n old new x =
      by_cond (λ (ls : List Line). last_from k x ls ≡ x) (is_ballot (ballot_number e)) (in_ballot n (ballot_number e) (ballot_at old.rows (ballot_number e)) (ballot_at new.rows (ballot_number e))) []
      (λ _. in_quiet _ _ _ _ x)
      (λ _. refl)
  ballots_quiet (Lock m f own) n old new x = refl
  ballots_quiet (Order o) n old new x = refl
  ballots_quiet (Cast i willing target) n old new x = refl
  ballots_quiet (Deliver i j kind) n old new x = refl
  ballots_quiet (Timeout i) n old new x = refl
  ballots_quiet (Decide i move) n old new x = refl
  ballots_quiet (Stop i) n old new x = refl
  ballots_quiet (Save i) n old new x = refl
  ballots_quiet (Restore i) n old new x = refl

  put_quiet : (old new : List Station) → Quiet (put old new)
  unfolding put word_put
  put_quiet old new = all limit _ (λ i. one _ _ (λ x. refl))

  given_quiet : (e : Event) → Quiet (given e)
  unfolding given last_from
  given_quiet (Lock n f own) x = refl
  given_quiet (Order o) x = refl
  given_quiet (Cast i willing target) x = refl
  given_quiet (Deliver i j kind) x = refl
  given_quiet (Timeout i) x = refl
  given_quiet (Decide i move) x = refl
  given_quiet (Stop i) x = refl
  given_quiet (Save i) x = refl
  given_quiet (Restore i) x = refl
  given_quiet (OfBallots e) x = refl

  told_quiet : (e : Event) (old new : Bench) → Quiet (told e old new)
  unfolding told
  told_quiet e old new = both _ _ (sent_quiet _ _) (both _ _ (ballots_quiet e _ _ _) (both _ _ (put_quiet _ _) (given_quiet e)))

  -- C lines of some of 1 to m: the one of k, if it is among them
  module _ (p : ℕ → Bool) (r : ℕ → Row) where
    abbrev some : ℕ → List Line
    some i = when (p i) (Shows i (r i))

    another : (x : Last) (i : ℕ) → (i ≡ k → ⊥) → last_from k x (some i) ≡ x
    another x i h = one (p i) (Shows i (r i)) (λ y. rw (ne_eqb i k h)) x

    its_own : (x : Last) (t : Bool) → last_from k x (when t (Shows k (r k))) ≡ cond t (last (r k)) x
    unfolding when last_from
    its_own x true = rw (eq-eqb k k refl)
    its_own x false = refl

    before : (m : ℕ) (x : Last) → m < k → last_from k x (each m some) ≡ x
    unfolding each last_from
    before zero x h = refl
    before (suc m) x h = append x (each m some) (some (suc m)) ∙ another _ (suc m) (λ e. omega arith) ∙ before m x (omega arith)

    among : (m : ℕ) (x : Last) → 1 ≤ k → k ≤ m → last_from k x (each m some) ≡ cond (p k) (last (r k)) x
    unfolding each last_from
    among zero x l h = absurd (omega arith)
    among (suc m) x l h = append x (each m some) (some (suc m)) ∙ elim (ℕ_discrete (suc m) k) [
      | yes e ↦ rw (before m x (omega arith), e) (its_own x (p k))
      | no e ↦ another _ (suc m) e ∙ among m x l (omega arith)
    ]

  -- what was last shown is the bench's line, if it has one
  abbrev Follows : Last → Bench → Type 0
  Follows x b = 1 ≤ k → k ≤ (summary_of b).n → x ≡ last (row_of (summary_of b) k)

  module _ (x : Last) (old new : Bench) (h : Follows x old) where
    abbrev same : Bool
    same = unchanged (summary_of old).n k (row_of (summary_of old) k) (row_of (summary_of new) k)

    kept : 1 ≤ k → (same ≡ true) ⊎ (same ≡ false) → cond (not same) (last (row_of (summary_of new) k)) x ≡ last (row_of (summary_of new) k)
    unfolding unchanged
    kept l (inl e) =
        let here = leb k (summary_of old).n in
        let alike = same_row (row_of (summary_of old) k) (row_of (summary_of new) k) in
        rw e (h l (leb-true _ _ (and_l here alike e)) ∙ ap last (row_is _ _ (and_r here alike e)))
    kept l (inr e) = rw e

    changed-follows : Follows (last_from k x (changed (summary_of old) (summary_of new))) new
    unfolding changed changed_rows
    changed-follows l u =
        among (λ i. not (unchanged (summary_of old).n i (row_of (summary_of old) i) (row_of (summary_of new) i))) (λ i. row_of (summary_of new) i) (summary_of new).n x l u
        ∙ kept l (split same)

    came-follows : (undone : ℕ) (a : Act) → Follows (last_from k x (came_of undone a old new)) new
    unfolding came_of last_from
    came-follows undone (Play e) l u =
        append x (changed (summary_of old) (summary_of new)) _
        ∙ told_quiet e old new _
        ∙ changed-follows l u
    came-follows undone Back l u = changed-follows l u

  -- a refused act leaves the bench
  stays : (s : Remembering) (a : Act) → eqb (number (answer s a)) 0 ≡ false → (next s a).bench ≡ s.bench
  unfolding next
  stays s a e = by-reply (answer s a) e
    where
      by-reply : (r : Reply) → eqb (number r) 0 ≡ false → (cond (is_accepted r) (done s a) s).bench ≡ s.bench
      by-reply accepted e = absurd (let z : ◌≡◌ {A = ℕ} 0 1 = cc in omega arith)
      by-reply (refused q) e = refl

  act-follows : (x : Last) (s : Session) (a : Act) → Follows x s.memory.bench → Follows (last_from k x (shown_of s a)) (next s.memory a).bench
  unfolding shown_of shown last_from
  act-follows x s a h l u = go (split (eqb (number (answer s.memory a)) 0))
    where
      go : (eqb (number (answer s.memory a)) 0 ≡ true) ⊎ (eqb (number (answer s.memory a)) 0 ≡ false)
          → last_from k x (cond (eqb (number (answer s.memory a)) 0) (came_of (get_or s.indices 0 0) a s.memory.bench (next s.memory a).bench) []) ≡ last (row_of (summary_of (next s.memory a).bench) k)
      go (inl e) = rw e (came-follows x s.memory.bench (next s.memory a).bench h (get_or s.indices 0 0) a l u)
      go (inr e) = rw e (subst (λ (b : Bench). Follows x b) (sym (stays s.memory a e)) h l u)

  trace-follows : (x : Last) (s : Session) (acts : List Act) → Follows x s.memory.bench → Follows (last_from k x (trace_from s acts)) (run_acts s.memory acts).bench
  unfolding trace_from run_acts last_from next_session
  trace-follows x s [] h l u = h l u
  trace-follows x s (a ∷ acts) h l u =
      append x (shown_of s a) (trace_from (next_session s a) acts)
      ∙ trace-follows (last_from k x (shown_of s a)) (next_session s a) acts (act-follows x s a h) l u

  pub lines_printed : (acts : List Act) → Follows (last_from k none (trace_from new_session acts)) (run_acts new_remembering acts).bench
  unfolding summary_of bench_of
  lines_printed acts = trace-follows none new_session acts (λ l u. absurd (omega arith))
