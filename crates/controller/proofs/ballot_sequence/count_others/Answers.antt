use mathlib.Core.Path.{sym, ◌∙◌}
use Rattle.protocol.specs.SequenceLaws.{members-size}
use Rattle.controller.proofs.ballot_sequence.count_others.Goals as goal

pub returns : goal.returns
returns c = c.size.ensures ∙ rw c.others.ensures (sym (members-size _ _))
