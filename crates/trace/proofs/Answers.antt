-- The lines of a trace with an index and an answer are those of the report. Nothing that comes of an act has such a line.
use Prim.Native.Nat.{ℕ, zero, suc, ◌+◌}
use mathlib.Core.Bool.{Bool, true, false, cond}
use mathlib.Core.List.{List, [], ◌∷◌, ◌++◌, append_assoc, append-nil}
use mathlib.Core.Path.{◌≡◌, refl, sym, ◌∙◌, ap}
use native.Mathlib.Nat.{add-zero, add-suc, suc-add, zero-add}
use lib.Dec.{eqb}
use lib.ListN.{length, get_or}
use Rattle.ground.specs.Limit.{limit}
use Rattle.ground.specs.Tests.{by_cond}
use Rattle.text.specs.Text.{decimal, line, lines}
use Rattle.model.specs.Questions.{number}
use Rattle.model.specs.Ranges.{is_ballot}
use Rattle.model.specs.declared.Kind.{Kind}
use Rattle.model.specs.declared.BallotKind.{BallotKind}
use Rattle.model.specs.declared.Event.{Event}
use Rattle.model.specs.declared.Event.TheVariants.{Lock, Order, Cast, Deliver, Timeout, Decide, Stop, Save, Restore, OfBallots}
use Rattle.model.specs.declared.Act.{Act}
use Rattle.model.specs.declared.Act.TheVariants.{Play, Back}
use Rattle.protocol.specs.declared.Station.{Station}
use Rattle.protocol.specs.declared.Ballots.{Ballots}
use Rattle.protocol.specs.declared.Bench.{Bench}
use Rattle.protocol.specs.declared.BallotRow.{BallotRow}
use Rattle.bench_state.specs.BallotQuestions.{ballot_number}
use Rattle.bench_report.specs.declared.Summary.{Summary}
use Rattle.bench_report.specs.Lines.{answer_line, answer_lines}
use Rattle.bench_summary.specs.Summary.{summary_of}
use Rattle.steps_back.specs.Memory.{new_remembering, answer}
use Rattle.steps_back.specs.Trials.{answers_to}
use Rattle.trace.specs.Lines.{Line, Undone, when, each}
use Rattle.trace.specs.Shown.{changed_rows, changed, sent_to, sent_of, sent, sent_from, sent_in, in_ballot, ballot_at, ballot_sent, ballots, word_put, put, given, told, came_of, shown}
use Rattle.trace.specs.Traces.{Session, new_session, next_session, shown_of, trace_from}
use Rattle.trace.specs.Claim.{answer_of, answers_in}

append : (a b : List Line) → answers_in (a ++ b) ≡ answers_in a ++ answers_in b
unfolding answers_in
append [] b = refl
append (l ∷ a) b = ap (λ (t : List ℕ). answer_of l ++ t) (append a b) ∙ sym (append_assoc (answer_of l) (answers_in a) (answers_in b))

-- lists of lines without answers
abbrev Mute : List Line → Type 0
Mute ls = answers_in ls ≡ []

both : (a b : List Line) → Mute a → Mute b → Mute (a ++ b)
both a b p q = append a b ∙ rw (p, q)

one : (t : Bool) (l : Line) → answer_of l ≡ [] → Mute (when t l)
unfolding when answers_in
one true l e = rw e
one false l e = refl

all : (m : ℕ) (g : ℕ → List Line) → ((k : ℕ) → Mute (g k)) → Mute (each m g)
unfolding each answers_in
all zero g h = refl
all (suc m) g h = both (each m g) (g (suc m)) (all m g h) (h (suc m))

changed-mute : (old new : Summary) → Mute (changed old new)
unfolding changed changed_rows
changed-mute old new = all new.n _ (λ k. one _ _ refl)

kind-mute : (kind : Kind) (old new : List Station) → Mute (sent_of kind old new)
unfolding sent_of sent_to
kind-mute kind old new = all limit _ (λ i. all limit _ (λ j. one _ _ refl))

sent-mute : (old new : List Station) → Mute (sent old new)
unfolding sent
sent-mute old new = both _ _ (kind-mute _ old new) (both _ _ (kind-mute _ old new) (both _ _ (kind-mute _ old new) (kind-mute _ old new)))

ballot-mute : (kind : BallotKind) (n b : ℕ) (old new : BallotRow) → Mute (sent_in kind n b old new)
unfolding sent_in sent_from
ballot-mute kind n b old new = all limit _ (λ i. all limit _ (λ j. one _ _ refl))

in-mute : (n b : ℕ) (old new : BallotRow) → Mute (in_ballot n b old new)
unfolding in_ballot
in-mute n b old new = both _ _ (ballot-mute _ n b old new) (both _ _ (ballot-mute _ n b old new) (both _ _ (ballot-mute _ n b old new) (ballot-mute _ n b old new)))

ballots-mute : (e : Event) (n : ℕ) (old new : Ballots) → Mute (ballots e n old new)
unfolding ballots ballot_sent answers_in
ballots-mute (OfBallots e) n old new =
    by_cond (λ (ls : List Line). Mute ls) (is_ballot (ballot_number e)) (in_ballot n (ballot_number e) (ballot_at old.rows (ballot_number e)) (ballot_at new.rows (ballot_number e))) []
    (λ _. in-mute _ _ _ _)
    (λ _. refl)
ballots-mute (Lock m f own) n old new = refl
ballots-mute (Order o) n old new = refl
ballots-mute (Cast i willing target) n old new = refl
ballots-mute (Deliver i j kind) n old new = refl
ballots-mute (Timeout i) n old new = refl
ballots-mute (Decide i move) n old new = refl
ballots-mute (Stop i) n old new = refl
ballots-mute (Save i) n old new = refl
ballots-mute (Restore i) n old new = refl

put-mute : (old new : List Station) → Mute (put old new)
unfolding put word_put
put-mute old new = all limit _ (λ i. one _ _ refl)

given-mute : (e : Event) → Mute (given e)
unfolding given answers_in
given-mute (Lock n f own) = refl
given-mute (Order o) = refl
given-mute (Cast i willing target) = refl
given-mute (Deliver i j kind) = refl
given-mute (Timeout i) = refl
given-mute (Decide i move) = refl
given-mute (Stop i) = refl
given-mute (Save i) = refl
given-mute (Restore i) = refl
given-mute (OfBallots e) = refl

told-mute : (e : Event) (old new : Bench) → Mute (told e old new)
unfolding told
told-mute e old new = both _ _ (sent-mute _ _) (both _ _ (ballots-mute e _ _ _) (both _ _ (put-mute _ _) (given-mute e)))

undone-mute : (k : ℕ) (ls : List Line) → Mute ls → Mute (Undone k ∷ ls)
unfolding answers_in
undone-mute k ls h = h

came-mute : (undone : ℕ) (a : Act) (old new : Bench) → Mute (came_of undone a old new)
unfolding came_of
came-mute undone (Play e) old new = both (changed (summary_of old) (summary_of new)) (told e old new) (changed-mute (summary_of old) (summary_of new)) (told-mute e old new)
came-mute undone Back old new = undone-mute undone (changed (summary_of old) (summary_of new)) (changed-mute (summary_of old) (summary_of new))

-- of one act: its index and its answer
shown-answer : (k undone : ℕ) (a : Act) (n : ℕ) (old new : Bench) → answers_in (shown k undone a n old new) ≡ line (decimal k ∷ decimal n ∷ [])
unfolding shown answers_in
shown-answer k undone a n old new =
    let rest : Mute (cond (eqb n 0) (came_of undone a old new) []) = by_cond Mute (eqb n 0) (came_of undone a old new) [] (λ _. came-mute undone a old new) (λ _. refl) in
    rw rest (append-nil (line (decimal k ∷ decimal n ∷ [])))

-- lines with the numbers from k on
from : ℕ → List ℕ → List ℕ
from k [] = []
from k (a ∷ answers) = line (decimal k ∷ decimal a ∷ []) ++ from (suc k) answers

first : (m : ℕ) (at : ℕ → List ℕ) → lines (suc m) at ≡ at 0 ++ lines m (λ i. at (suc i))
unfolding lines
first zero at = sym (append-nil (at 0))
first (suc m) at = ap (λ (t : List ℕ). t ++ at (suc m)) (first m at) ∙ append_assoc (at 0) (lines m (λ i. at (suc i))) (at (suc m))

alike : (m : ℕ) (at other : ℕ → List ℕ) → ((i : ℕ) → at i ≡ other i) → lines m at ≡ lines m other
unfolding lines
alike zero at other h = refl
alike (suc m) at other h = rw (alike m at other h, h m)

numbered : (k : ℕ) (answers : List ℕ) → lines (length answers) (λ i. line (decimal (k + i) ∷ decimal (get_or answers i 0) ∷ [])) ≡ from k answers
unfolding from lines
numbered k [] = refl
numbered k (a ∷ answers) =
    first (length answers) (λ i. line (decimal (k + i) ∷ decimal (get_or (a ∷ answers) i 0) ∷ []))
    ∙ rw (add-zero, alike (length answers) (λ i. line (decimal (k + suc i) ∷ decimal (get_or answers i 0) ∷ [])) (λ i. line (decimal (suc k + i) ∷ decimal (get_or answers i 0) ∷ [])) (λ i. rw (add-suc, suc-add)), numbered (suc k) answers)

of_act : (s : Session) (a : Act) → answers_in (shown_of s a) ≡ line (decimal s.count ∷ decimal (number (answer s.memory a)) ∷ [])
unfolding shown_of
of_act s a = shown-answer s.count _ a _ _ _

in-trace : (s : Session) (acts : List Act) → answers_in (trace_from s acts) ≡ from s.count (answers_to s.memory acts)
unfolding trace_from answers_to from answers_in next_session
in-trace s [] = refl
in-trace s (a ∷ acts) = append (shown_of s a) (trace_from (next_session s a) acts) ∙ rw (of_act s a, in-trace (next_session s a) acts)

pub answers-printed : (acts : List Act) → answers_in (trace_from new_session acts) ≡ answer_lines (answers_to new_remembering acts)
answers-printed acts =
    in-trace new_session acts ∙ sym (numbered 0 (answers_to new_remembering acts))
    ∙ alike (length (answers_to new_remembering acts)) (λ i. line (decimal (0 + i) ∷ decimal (get_or (answers_to new_remembering acts) i 0) ∷ [])) (answer_line (answers_to new_remembering acts)) (λ i. rw zero-add)
