use Rattle.std.proofs.Common.{eq-eqb, ne_eqb}
use Rattle.std.proofs.lemmas.Result.{err_from_is_err_and}
use Rattle.records.specs.CodeLaws.{ballot-kind-read, no_ballot-kind, outcome-read, no_outcome}
use Rattle.message_record.specs.Telegrams.{listed_in}
use Rattle.message_bytes.proofs.layout.ballot_message_of.Goals as goal

pub returns-in_err-kind : goal.returns-in_err-kind
unfolding listed_in
returns-in_err-kind c =
    let p = err_from_is_err_and c.from_residual.result c.from_residual.ensures.1 in let q = c.in_err-kind.ensures in rw (p.1, p.2, q.0, no_ballot-kind _ q.1)

pub returns-then-x-ne0 : goal.returns-then-x-ne0
unfolding listed_in
returns-then-x-ne0 c = let k = ballot-kind-read _ _ c.in_ok-kind.ensures in simp (k.0, ne_eqb _ _ c.if-x-ne0.true)

pub returns-in_err-word : goal.returns-in_err-word
unfolding listed_in
returns-in_err-word c =
    let p = err_from_is_err_and c.from_residual-in_err-word.result c.from_residual-in_err-word.ensures.1 in
    let q = c.in_err-word.ensures in
    let k = ballot-kind-read _ _ c.in_ok-kind.ensures in
    rw (p.1, p.2, q.0, k.0, eq-eqb _ _ c.if-x-ne0.false, no_outcome _ q.1)

pub returns-then-x-ne0-2 : goal.returns-then-x-ne0-2
unfolding listed_in
returns-then-x-ne0-2 c =
    let k = ballot-kind-read _ _ c.in_ok-kind.ensures in
    let o = outcome-read _ _ c.in_ok-word.ensures in
    simp (k.0, eq-eqb _ _ c.if-x-ne0.false, o.0, ne_eqb _ _ c.if-x-ne0-2.true)

pub returns : goal.returns
unfolding listed_in
returns c =
    let k = ballot-kind-read _ _ c.in_ok-kind.ensures in
    let o = outcome-read _ _ c.in_ok-word.ensures in
    simp (k.0, k.1, eq-eqb _ _ c.if-x-ne0.false, o.0, o.1, eq-eqb _ _ c.if-x-ne0-2.false)
