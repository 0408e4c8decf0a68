-- `may_open_ballot` meets its contract: the tests in the order of `may_open_ballot`. A ballot that passed the first fits a byte.
use mathlib.Core.Path.{sym, ◌∙◌}
use native.Mathlib.Omega.{arith}
use lib.Dec.{leb}
use Rattle.ground.specs.Tests.{and_r}
use Rattle.protocol.specs.Ballots.{ballot_limit, is_ballot}
use borrow.Author.Tests.{leb-true, eq-eqb, ne_eqb}
use Rattle.ballot_rules.proofs.rows.may_open_ballot.Goals as goal

pub returns-then-not-is_ballot : goal.returns-then-not-is_ballot
returns-then-not-is_ballot c = simp (← c.is_ballot.ensures, c.if-not-is_ballot.true)

pub overflow_cast-b : goal.overflow_cast-b
unfolding is_ballot
overflow_cast-b c =
    let b = c.args.b in
    let inside = sym c.is_ballot.ensures ∙ c.if-not-is_ballot.false in
    omega (arith, leb-true b ballot_limit (and_r (leb 1 b) (leb b ballot_limit) inside))

pub returns-then-owner-i : goal.returns-then-owner-i
returns-then-owner-i c = simp (← c.is_ballot.ensures, c.if-not-is_ballot.false, ← c.owner.ensures, ne_eqb _ _ c.if-owner-i.true)

pub returns-then-has : goal.returns-then-has
returns-then-has c = simp (← c.is_ballot.ensures, c.if-not-is_ballot.false, ← c.owner.ensures, eq-eqb _ _ c.if-owner-i.false, ← c.has.ensures, c.if-has.true)

pub returns : goal.returns
returns c =
    simp (← c.is_ballot.ensures, c.if-not-is_ballot.false, ← c.owner.ensures, eq-eqb _ _ c.if-owner-i.false, ← c.has.ensures, c.if-has.false)
