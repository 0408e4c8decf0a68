use mathlib.Core.Path.{refl}
use Rattle.model.specs.RefusalLaws.{never_zero}
use Rattle.bench_back.proofs.ActLaws.{refused, accepted}
use Rattle.bench_back.proofs.play.Goals as goal

pub returns-in-Ok : goal.returns-in-Ok
returns-in-Ok c past = accepted _ _ past _ c.in-Ok.ensures refl _ c.recall_by.ensures

pub returns-in-Err : goal.returns-in-Err
returns-in-Err c past = rw c.from.ensures (refused _ _ past _ c.in-Err.ensures (never_zero c.in-Err.q))
