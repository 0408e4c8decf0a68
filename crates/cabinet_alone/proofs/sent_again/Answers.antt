use Rattle.cabinet_alone.proofs.SentStays.{sent-again}
use Rattle.std.proofs.Common.{rules}
use Rattle.cabinet_alone.proofs.sent_again.Goals as goal

pub encoding-requires : goal.encoding-requires
encoding-requires c = search rules

pub returns : goal.returns
returns c = sent-again c.encoding.ensures
