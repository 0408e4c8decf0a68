use lib.ListN.{length-map}
use Rattle.protocol.specs.Sequence.{messages_of_kind}
use Rattle.protocol.specs.SequenceLaws.{members-size}
use Rattle.controller.proofs.sequence.count_of.Goals as goal

pub returns-in-None : goal.returns-in-None
unfolding messages_of_kind
returns-in-None c = simp c.in-None.is

pub returns-in-Some : goal.returns-in-Some
unfolding messages_of_kind
returns-in-Some c = simp (c.in-Some.is, c.size.ensures, length-map, members-size)
