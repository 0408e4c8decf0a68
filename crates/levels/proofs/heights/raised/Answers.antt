use Rattle.std.specs.Prelude.{refl}
use Rattle.levels.proofs.HeightLaws.{raised}
use Rattle.levels.proofs.heights.raised.Goals as goal

pub returns : goal.returns
returns c = raised _ _ c.ranges.level.fits refl
