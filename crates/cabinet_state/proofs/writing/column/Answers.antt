use Rattle.cabinet_state.specs.Words.{column_in}
use borrow.Author.Tests.{lt-ltb, le-ltb}
use Rattle.cabinet_state.proofs.writing.column.Goals as goal

pub returns-then-k-lt-HEAD : goal.returns-then-k-lt-HEAD
unfolding column_in
returns-then-k-lt-HEAD c = simp (lt-ltb _ _ c.if-k-lt-HEAD.true)

pub returns-then-k-lt-KNOWN : goal.returns-then-k-lt-KNOWN
unfolding column_in
returns-then-k-lt-KNOWN c = simp (le-ltb _ _ c.if-k-lt-HEAD.false, lt-ltb _ _ c.if-k-lt-KNOWN.true)

pub returns-then-k-lt-WILLING : goal.returns-then-k-lt-WILLING
unfolding column_in
returns-then-k-lt-WILLING c = simp (le-ltb _ _ c.if-k-lt-HEAD.false, le-ltb _ _ c.if-k-lt-KNOWN.false, lt-ltb _ _ c.if-k-lt-WILLING.true)

pub returns : goal.returns
unfolding column_in
returns c = simp (le-ltb _ _ c.if-k-lt-HEAD.false, le-ltb _ _ c.if-k-lt-KNOWN.false, le-ltb _ _ c.if-k-lt-WILLING.false)
