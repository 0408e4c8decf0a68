-- `words::nth_word` meets its contract.
use Rattle.std.proofs.Common.{◌∙◌, ap}
use Rattle.words.specs.Words.{part}
use Rattle.words.specs.WordLaws.{nth-part}
use Rattle.words.proofs.scan.nth_word.Goals as goal

pub returns : goal.returns
returns c =
    let a = c.args in
    ap (part a.s.now) c.nth_span-span.ensures.0 ∙ nth-part a.s.now a.k
