use Rattle.std.proofs.Common.{◌∙◌}
use Rattle.records.proofs.Unlisted.{kind_or-helped}
use Rattle.records.proofs.codes.kind_of.Goals as goal

pub returns : goal.returns
returns c = c.unwrap_or.ensures ∙ kind_or-helped _ _ c.try_from.ensures
