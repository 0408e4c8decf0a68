-- `generator::generate` meets its contract, at each of its returns: refused, of another length, or written (ReplyLaws).
use Rattle.std.proofs.Common.{sym, ◌∙◌}
use Rattle.std.proofs.lemmas.Result.{err_from_is_err_and}
use Rattle.generator.proofs.FileLaws.{length_file}
use Rattle.generator.proofs.ReplyLaws.{some-controllers, as_long, refused-reply, length-reply, written-reply}
use Rattle.generator.proofs.Filled.{filled_by}
use Rattle.generator.proofs.file.generate.Goals as goal

pub returns-in_err-refusal_of : goal.returns-in_err-refusal_of
returns-in_err-refusal_of c =
    let p = err_from_is_err_and c.from_residual.result c.from_residual.ensures.1 in
    rw (p.1, p.2) (refused-reply _ _ _ _ _ _ c.in_err-refusal_of.ensures)

pub returns-then-out-file_length : goal.returns-then-out-file_length
returns-then-out-file_length c =
    length-reply _ _ _ _ _ (sym c.in_ok-refusal_of.ensures) (λ e. c.if-out-file_length.true (e ∙ (length_file _ _ _ _ ∙ sym c.file_length.ensures)))

pub put_file-requires : goal.put_file-requires
put_file-requires c = some-controllers _ _ _ _ (sym c.in_ok-refusal_of.ensures)

pub returns : goal.returns
returns c =
    let same = as_long _ _ _ _ _ _ c.if-out-file_length.false c.file_length.ensures in
    written-reply _ _ _ _ _ (sym c.in_ok-refusal_of.ensures) _ same (filled_by same c.put_file.ensures)
