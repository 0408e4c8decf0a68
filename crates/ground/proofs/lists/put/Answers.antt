-- `ground::put` meets its contract: past the end nothing is stored, in the definition either.
use Rattle.std.specs.Prelude.{◌≡◌, ◌-◌, length}
use Rattle.std.proofs.Common.{sym, arith, rules}
use lib.Seq.{set_out}
use Rattle.ground.specs.Lists.{put}
use Rattle.ground.proofs.lists.put.Goals as goal

pub returns-then-at : goal.returns-then-at
unfolding put
returns-then-at g c = simp c.saturating_sub-at.ensures

pub returns-else-at : goal.returns-else-at
unfolding put
returns-else-at g c =
    let a = c.args in
    let held : length a.xs ≡ g.row.N = search rules in
    sym (set_out a.xs (a.k - 1) a.x (omega arith))
