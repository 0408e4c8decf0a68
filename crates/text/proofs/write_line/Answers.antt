-- `text::write_line` meets its contract.
use mathlib.Core.Path.{sym}
use lib.Seq.{length-take-le}
use borrow.Author.Tests.{le-leb, lt-leb}
use Rattle.text.specs.Writing.{line_to}
use Rattle.text.specs.WritingLaws.{fitted-nothing}
use Rattle.std.proofs.Common.{rules}
use Rattle.text.proofs.write_line.Goals as goal

pub slice_bounds-write_bytes-end : goal.slice_bounds-write_bytes-end
slice_bounds-write_bytes-end c = sym (length-take-le _ _ (search rules))

pub returns-then-end-le-LINE : goal.returns-then-end-le-LINE
unfolding line_to
returns-then-end-le-LINE c =
    simp (le-leb _ _ c.if-end-le-LINE.true) (record { value = c.write_bytes.ensures.value; out_after = c.write_bytes.ensures.out_after })

pub returns : goal.returns
unfolding line_to
returns c = simp (lt-leb _ _ c.if-end-le-LINE.false) (let both = fitted-nothing c.args.out.now in record { value = both.0; out_after = both.1 })
