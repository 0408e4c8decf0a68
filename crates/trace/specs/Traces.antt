-- The trace of a list of acts: what the console shows of them, one after the other.
use Rattle.std.specs.Prelude.{ℕ, suc, cond, List, [], ◌∷◌, ◌++◌, take, drop, get_or}
use Rattle.model.specs.Questions.{number, is_accepted}
use Rattle.model.specs.declared.Act.{Act}
use Rattle.model.specs.declared.Act.TheVariants.{Play, Back}
use Rattle.steps_back.specs.Memory.{Remembering, new_remembering, most_remembered, can_be_undone, answer, next}
use Rattle.trace.specs.Lines.{Line}
use Rattle.trace.specs.Shown.{shown}

-- the bench with its memory; the indices of the remembered events, the newest first; how many acts there were
pub record Session : Type 0 where
  pub memory : Remembering
  pub indices : List ℕ
  pub count : ℕ

abbrev pub new_session : Session
new_session = record { memory = new_remembering; indices = []; count = 0 }

-- an accepted event is remembered, a lock leaves nothing remembered, a step back drops the newest
abbrev pub indices_by : Act → ℕ → List ℕ → List ℕ
indices_by (Play e) k ks = cond (can_be_undone e) (take most_remembered (k ∷ ks)) []
indices_by Back k ks = drop 1 ks

unfoldable pub next_session : Session → Act → Session
next_session s a = record {
  memory = next s.memory a;
  indices = cond (is_accepted (answer s.memory a)) (indices_by a s.count s.indices) s.indices;
  count = suc s.count;
}

unfoldable pub shown_of : Session → Act → List Line
shown_of s a = shown s.count (get_or s.indices 0 0) a (number (answer s.memory a)) s.memory.bench (next s.memory a).bench

unfoldable pub trace_from : Session → List Act → List Line
trace_from s [] = []
trace_from s (a ∷ acts) = shown_of s a ++ trace_from (next_session s a) acts

abbrev pub trace : List Act → List Line
trace acts = trace_from new_session acts
