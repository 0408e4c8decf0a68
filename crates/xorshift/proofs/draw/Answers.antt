use mathlib.Core.Path.{refl}
use Rattle.xorshift.specs.Xorshift.{draw}
use Rattle.xorshift.proofs.draw.Goals as goal

pub returns : goal.returns
unfolding draw
returns c = refl
