-- The lines of a trace, and their bytes. The lines of controllers are the bench program's own; what is sent, put or given is told in the words of the text form:
-- those that stand after the first word of the event that delivers or gives it.
use Rattle.std.specs.Prelude.{ℕ, zero, suc, Bool, cond, List, [], ◌∷◌, ◌++◌, eqb}
use Rattle.text.specs.Text.{ascii, decimal, line}
use Rattle.model.specs.declared.Event.{Event}
use Rattle.model.specs.declared.Act.TheVariants.{Play}
use Rattle.question_words.specs.Questions.{question_words}
use Rattle.event_record.specs.Events.{fields_of}
use Rattle.schedule_text.specs.Forms.{rest_of}
use Rattle.bench_report.specs.declared.Row.{Row}
use Rattle.bench_report.specs.Lines.{controller_line}

pub data Line : Type 0 where
  -- the index of an act, and its answer
  Answered : ℕ → ℕ → Line
  -- the index of the event that a step back undid
  Undone : ℕ → Line
  -- what the C line of a controller shows
  Shows : ℕ → Row → Line
  -- the telegram that this event would deliver
  Sent : Event → Line
  -- the word of this event, by its controller, and to it
  Puts : Event → Line
  Given : Event → Line

-- "accepted, or the question in words"
unfoldable pub verdict : ℕ → List ℕ
verdict a = cond (eqb a 0) (ascii "accepted") (ascii "refused: " ++ question_words a)

-- what follows the first word of an event's line
unfoldable pub told_of : Event → List ℕ
told_of e = rest_of (fields_of (Play e))

unfoldable pub line_text : Line → List ℕ
line_text (Answered k a) = line (decimal k ∷ decimal a ∷ verdict a ∷ [])
line_text (Undone k) = line (ascii "undone" ∷ decimal k ∷ [])
line_text (Shows k row) = controller_line k row
line_text (Sent e) = ascii "sent" ++ told_of e
line_text (Puts e) = ascii "put" ++ told_of e
line_text (Given e) = ascii "given" ++ told_of e

unfoldable pub text : List Line → List ℕ
text [] = []
text (l ∷ ls) = line_text l ++ text ls

-- a line, if a test says so; and lines for each of 1 to m
unfoldable pub when : Bool → Line → List Line
when t l = cond t (l ∷ []) []

unfoldable pub each : ℕ → (ℕ → List Line) → List Line
each zero g = []
each (suc m) g = each m g ++ g (suc m)
