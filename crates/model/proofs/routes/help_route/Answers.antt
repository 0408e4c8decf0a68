use borrow.Author.Tests.{lt-ltb, le-ltb, eq-eqb, ne_eqb}
use Rattle.model.specs.Routes.{help_route}
use Rattle.model.proofs.routes.help_route.Goals as goal

pub returns-then-from-to : goal.returns-then-from-to
unfolding help_route
returns-then-from-to c = simp (eq-eqb _ _ c.if-from-to.true)

pub returns-then-f-from : goal.returns-then-f-from
unfolding help_route
returns-then-f-from c = simp (ne_eqb _ _ c.if-from-to.false, lt-ltb _ _ c.if-f-from.true)

pub returns-else-f-from : goal.returns-else-f-from
unfolding help_route
returns-else-f-from c = simp (ne_eqb _ _ c.if-from-to.false, le-ltb _ _ c.if-f-from.false)
