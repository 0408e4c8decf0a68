-- `votes::join_all` meets its contract. The invariant: after k senders the vote sets of those of 1..k agree, and the set is their join. The array has no more
-- than the limit, so the senders after that add nothing.
use Rattle.std.specs.Prelude.{◌≡◌, ℕ, ◌+◌, min, Ok}
use Rattle.std.proofs.Common.{sym, ◌∙◌, ap, arith, rules}
use Rattle.std.proofs.lemmas.Result.{err_from_is_err_and}
use Rattle.ground.specs.Limit.{limit}
use Rattle.ground.specs.Lists.{nth}
use Rattle.votes.specs.Joining.{join_all}
use Rattle.votes.proofs.Computed.{skipped, added, joined-all, contradicted-all}
use Rattle.votes.proofs.join_all.Goals.{then-has+in_ok-joined, else-has}
use Rattle.votes.proofs.join_all.Goals as goal

pub loop-k-init : goal.loop-k-init
unfolding join_all
loop-k-init c = ap Ok (sym c.empty_set-joined.ensures)

pub returns-in_err-joined : goal.returns-in_err-joined
unfolding nth
returns-in_err-joined c =
    let start = c.args in
    let loop = c.loop-k in
    let p = err_from_is_err_and c.from_residual.result c.from_residual.ensures.1 in
    rw (p.1, p.2)
    (sym (contradicted-all (loop.k + 1) start.m limit start.from start.sets _ (search rules) (omega arith)
    (added _ _ _ _ _ (sym c.has.ensures ∙ c.if-has.true) loop.invariant (sym c.in_err-joined.was ∙ c.join.ensures))))

pub loop-k-preserved : goal.loop-k-preserved
unfolding nth
loop-k-preserved c = elim c.if-has.branch [
  | then-has+in_ok-joined w ↦
      added _ _ _ _ _ (sym c.has.ensures ∙ w.if-has.true) c.loop-k.invariant (ap Ok w.joined-is ∙ sym w.in_ok-joined.was ∙ w.join.ensures)
  | else-has w ↦ skipped _ _ _ _ (sym c.has.ensures ∙ w.if-has.false) (c.loop-k.invariant ∙ ap Ok (sym w.joined-is))
]

pub returns : goal.returns
returns c =
    let start = c.args in
    let e : c.loop-k.k ≡ min start.m limit = omega arith in
    sym c.loop-k.invariant
    ∙ (ap (λ (x : ℕ). join_all x start.from start.sets) e ∙ joined-all start.m limit start.from start.sets (search rules))
