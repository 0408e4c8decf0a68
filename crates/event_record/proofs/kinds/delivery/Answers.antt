use Rattle.records.specs.CodeLaws.{kind-read, no_kind, ballot-kind-read, no_ballot-kind}
use Rattle.event_record.proofs.kinds.delivery.Goals as goal

pub returns-in-Ok : goal.returns-in-Ok
returns-in-Ok c = let k = kind-read _ _ c.in-Ok.ensures in rw (c.then_some.ensures, k.0, k.1)

pub returns-in_default-try_from : goal.returns-in_default-try_from
returns-in_default-try_from c = rw (no_kind _ c.in_default.ensures.1, no_ballot-kind _ c.in_default-try_from.ensures.1)

pub returns : goal.returns
returns c = let k = ballot-kind-read _ _ c.in-Ok-try_from.ensures in rw (no_kind _ c.in_default.ensures.1, k.0, k.1)
