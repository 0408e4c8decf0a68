-- The loop over the ballots stops at the first in which the word is chosen; so far it was in none.
use Prim.Native.Nat.{ℕ, suc}
use mathlib.Core.Path.{◌≡◌, refl, sym, ◌∙◌, ap}
use native.Mathlib.Omega.{arith}
use native.Mathlib.Numerals.{add-one}
use lib.ListN.{length}
use Rattle.std.proofs.Common.{rules}
use Rattle.ground.specs.Tests.{or_no}
use Rattle.ground.specs.Lists.{nth}
use Rattle.ground.specs.Quantify.{any_to, any_of}
use Rattle.protocol.specs.Ballots.{ballot_limit, new_row, row, chosen_in, is_chosen}
use Rattle.ballot_rules.proofs.chosen.is_chosen.Invariants.{chosen}
use Rattle.ballot_rules.proofs.chosen.is_chosen.Goals as goal

pub loop-row-init : goal.loop-row-init
unfolding any_to
loop-row-init c = refl

pub returns-then-chosen_in : goal.returns-then-chosen_in
unfolding is_chosen chosen_in row new_row nth
returns-then-chosen_in c = λ acceptors.
    let l = c.loop-row in
    let start = c.args in
    let held : length start.rows ≡ ballot_limit = search rules in
    let yes = sym c.chosen_in.ensures ∙ c.if-chosen_in.true in
    sym (any_of ballot_limit (chosen start.n start.rows start.to_move) (suc l.row-index) (omega arith) (omega arith) yes)

pub loop-row-preserved : goal.loop-row-preserved
unfolding any_to chosen_in row new_row nth
loop-row-preserved c =
    let no = sym c.chosen_in.ensures ∙ c.if-chosen_in.false in
    rw add-one (or_no _ _ no c.loop-row.invariant)

pub returns : goal.returns
unfolding is_chosen chosen_in row
returns c = λ acceptors.
    let l = c.loop-row in
    let start = c.args in
    let held : length start.rows ≡ ballot_limit = search rules in
    let all : l.row-index ≡ ballot_limit = omega arith in
    sym l.invariant ∙ ap (λ (m : ℕ). any_to m (chosen start.n start.rows start.to_move)) all
