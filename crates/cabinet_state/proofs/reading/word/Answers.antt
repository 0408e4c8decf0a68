use mathlib.Core.Path.{sym}
use lib.ListN.{get_or-eq_default}
use Rattle.cabinet_state.proofs.reading.word.Goals as goal

pub returns-then-s-k : goal.returns-then-s-k
returns-then-s-k c = sym (get_or-eq_default c.args.s.now 0 c.if-s-k.true)
