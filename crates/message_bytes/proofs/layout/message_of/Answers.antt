use Rattle.std.proofs.Common.{eq-eqb, ne_eqb}
use Rattle.std.proofs.lemmas.Result.{err_from_is_err_and}
use Rattle.records.specs.CodeLaws.{kind-read, no_kind}
use Rattle.message_record.specs.Telegrams.{listed_in}
use Rattle.message_bytes.proofs.layout.message_of.Goals as goal

pub returns-in_err-kind : goal.returns-in_err-kind
unfolding listed_in
returns-in_err-kind c =
    let p = err_from_is_err_and c.from_residual.result c.from_residual.ensures.1 in let q = c.in_err-kind.ensures in rw (p.1, p.2, q.0, no_kind _ q.1)

pub returns-then-x-ne0 : goal.returns-then-x-ne0
unfolding listed_in
returns-then-x-ne0 c = let k = kind-read _ _ c.in_ok-kind.ensures in simp (k.0, ne_eqb _ _ c.if-x-ne0.true)

pub returns : goal.returns
unfolding listed_in
returns c = let k = kind-read _ _ c.in_ok-kind.ensures in simp (k.0, k.1, eq-eqb _ _ c.if-x-ne0.false)
