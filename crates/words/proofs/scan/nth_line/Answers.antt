-- `words::nth_line` meets its contract.
use Rattle.std.proofs.Common.{◌∙◌, ap}
use Rattle.words.specs.Words.{part}
use Rattle.words.specs.LineLaws.{nth-line}
use Rattle.words.proofs.scan.nth_line.Goals as goal

pub returns : goal.returns
returns c =
    let a = c.args in
    ap (part a.s.now) c.line_span-span.ensures.0 ∙ nth-line a.s.now a.k
