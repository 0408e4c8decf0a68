use Prim.Native.Nat.{suc, ◌<◌, ◌^◌}
use native.Mathlib.Omega.{arith}
use native.Mathlib.Numerals.{add-one}
use Rattle.ground.proofs.Inclusion.{has-past}
use Rattle.ground.specs.Lists.{nth}
use Rattle.protocol.specs.Rules.{second_knows}
use Rattle.std.proofs.Common.{rules}
use Rattle.controller_rules.proofs.deciding.second_knows.Goals as goal

pub returns-then-at-ge-LIMIT : goal.returns-then-at-ge-LIMIT
unfolding second_knows
returns-then-at-ge-LIMIT c =
    let start = c.args in
    let fits : start.c.acks.from < 2 ^ 32 = search rules in
    simp (has-past 32 start.c.acks.from (suc start.f) fits (omega arith))

pub returns : goal.returns
unfolding second_knows nth
returns c = simp (c.held_complete.ensures, add-one)
