-- `write_record` meets its contract.
use Rattle.std.proofs.Common.{refl, sym, ap, eq-eqb, ne_eqb}
use Rattle.std.proofs.lemmas.Result.{err_from_is_err_and}
use Rattle.model.specs.Questions.{unless, refused}
use Rattle.model.specs.Refusals.{reply_by}
use Rattle.records.specs.Frames.{put_reply}
use Rattle.records.proofs.frame.write_record.Goals as goal

pub returns-then-out-content : goal.returns-then-out-content
unfolding put_reply unless
returns-then-out-content g c = simp (ne_eqb _ _ c.if-out-content.true) (ap refused c.of.ensures, refl)

pub returns-in_err-asked : goal.returns-in_err-asked
unfolding put_reply unless
returns-in_err-asked g c =
    let p = err_from_is_err_and c.from_residual.result c.from_residual.ensures.1 in
    simp (p.1, p.2, eq-eqb _ _ c.if-out-content.false) (ap (reply_by g.Q.Numbered.number) (sym c.in_err-asked.was), refl)

pub returns : goal.returns
unfolding put_reply unless
returns g c = simp (eq-eqb _ _ c.if-out-content.false) (ap (reply_by g.Q.Numbered.number) (sym c.in_ok-asked.was), c.copy_from_slice.ensures.after)
