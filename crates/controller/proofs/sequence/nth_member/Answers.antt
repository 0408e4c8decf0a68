-- The loop over 1 to n stops at the first number up to which the set has more than k members; so far it has not had so many.
use Prim.Native.Nat.{suc, ◌+◌, ◌≤◌}
use mathlib.Core.Path.{◌≡◌, sym}
use native.Mathlib.Omega.{arith}
use native.Mathlib.Numerals.{add-one}
use lib.ListN.{length, get_or-eq_default}
use Rattle.ground.specs.Quantify.{count_to}
use Rattle.ground.specs.Mask.{has}
use Rattle.protocol.specs.Sequence.{members}
use Rattle.protocol.specs.SequenceLaws.{members-size, member-at}
use Rattle.controller.proofs.sequence.nth_member.Goals as goal

pub loop-at-init : goal.loop-at-init
unfolding count_to
loop-at-init c = omega arith

pub returns-then-k-size : goal.returns-then-k-size
returns-then-k-size c =
    let start = c.args in
    let at = c.loop-at.at in
    let low : count_to at (has start.set) ≤ start.k = c.loop-at.invariant in
    let size : c.size.result ≡ count_to (at + 1) (has start.set) = c.size.ensures in
    let size' : c.size.result ≡ count_to (suc at) (has start.set) = (rw add-one at size) in
    rw add-one (sym (member-at start.n start.set start.k at (omega arith) low (omega arith)))

pub loop-at-preserved : goal.loop-at-preserved
loop-at-preserved c = omega arith

pub returns : goal.returns
returns c =
    let start = c.args in
    let all : c.loop-at.at ≡ start.n = omega arith in
    let few : count_to start.n (has start.set) ≤ start.k = (rw all at c.loop-at.invariant) in
    let size : length (members start.n start.set) ≡ count_to start.n (has start.set) = members-size start.n start.set in
    sym (get_or-eq_default (members start.n start.set) 0 (omega arith))
