-- `text::write_bytes` meets its contract.
use Rattle.std.proofs.Common.{sym, ◌∙◌, ◌++◌}
use Rattle.std.specs.Prelude.{length, drop}
use Rattle.text.specs.WritingLaws.{nothing-fitted, fitted-whole}
use Rattle.text.proofs.write_bytes.Goals as goal

pub returns-then-out-bytes : goal.returns-then-out-bytes
returns-then-out-bytes c = let both = nothing-fitted _ _ c.if-out-bytes.true in record { value = both.0; out_after = both.1 }

pub returns : goal.returns
returns c =
    let both = fitted-whole _ _ c.if-out-bytes.false in
    record { value = sym both.0; out_after = (λ i. c.copy_from_slice.ensures.after i ++ drop (length c.args.bytes.now) c.args.out.now) ∙ sym both.1 }
