-- Each row of the table of examples has the right answer.
use Rattle.std.specs.Prelude.{◌≡◌, ℕ, Result, List, [], ◌∷◌, map, refl}
use Rattle.std.proofs.Common.{subst}
use Rattle.model.specs.Positions.{millimetres}
use Rattle.model.specs.Questions.{unless, first_no}
use Rattle.levels.specs.declared.Willingness.{Willingness}
use Rattle.levels.specs.Judged.{Judged}
use Rattle.levels.specs.Ends.{by_heads, willingness}
use Rattle.levels.specs.Examples.{Example, examples, Right}
use Rattle.levels.proofs.EndsLaws.{ends-decide}

found : Example → Result Willingness ℕ
found e = willingness e.above e.below

all_right : (es : List Example) → map found es ≡ map (λ (e : Example). e.answer) es → Right es
unfolding found
all_right [] p = tt
all_right (e ∷ es) p =
    let q : willingness e.above e.below ≡ e.answer = cc in
    (subst (Judged e.above e.below) q (ends-decide e.above e.below), all_right es (cc))

pub examples_right : Right examples
unfolding found willingness first_no unless by_heads millimetres
examples_right = all_right examples refl
