use mathlib.Core.Path.{refl, ap}
use Rattle.model.specs.Questions.{number}
use Rattle.model.specs.RefusalLaws.{never_zero}
use Rattle.bench_back.proofs.ActLaws.{kept, undone}
use Rattle.bench_back.proofs.back.Goals as goal

pub returns-in-Ok : goal.returns-in-Ok
returns-in-Ok c older =
    let x = c.args in
    undone x.b x.newest older x.remembers _ (ap number c.in-Ok.ensures) refl

pub returns-in-Err : goal.returns-in-Err
returns-in-Err c older =
    let x = c.args in
    rw c.from.ensures (kept x.b x.newest older x.remembers _ (ap number c.in-Err.ensures) (never_zero c.in-Err.q))
