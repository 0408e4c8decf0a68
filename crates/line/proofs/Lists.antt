-- Laws of lists of acts.
use mathlib.Core.Path.{◌≡◌, refl}
use mathlib.Core.List.{List, [], ◌∷◌, ◌++◌}
use Rattle.line.specs.declared.Line.{Line}
use Rattle.line.specs.declared.Act.{Act}
use Rattle.line.specs.Turns.{perform, run}

pub run-append : (l : Line) (acts more : List Act) → run l (acts ++ more) ≡ run (run l acts) more
unfolding run
run-append l [] more = refl
run-append l (a ∷ acts) more = run-append (perform l a).line acts more

-- one act more
pub run-one : (l : Line) (acts : List Act) (a : Act) → run l (acts ++ (a ∷ [])) ≡ (perform (run l acts) a).line
unfolding run
run-one l [] a = refl
run-one l (b ∷ acts) a = run-one (perform l b).line acts a
