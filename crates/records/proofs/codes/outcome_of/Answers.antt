use Rattle.std.proofs.Common.{◌∙◌}
use Rattle.records.proofs.Unlisted.{outcome_or-move}
use Rattle.records.proofs.codes.outcome_of.Goals as goal

pub returns : goal.returns
returns c = c.unwrap_or.ensures ∙ outcome_or-move _ _ c.try_from.ensures
