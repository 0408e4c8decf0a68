-- What is rendered lies within its buffer.
use Rattle.std.proofs.Common.{ℕ, arith}
use Rattle.std.proofs.lemmas.List.{length-replicate}
use Rattle.streams.proofs.print_text.Goals as goal

pub shared_whole_as_front-write_output : goal.shared_whole_as_front-write_output
shared_whole_as_front-write_output g c =
    let w = c.requires.whole.2 _ _ _ _ c.render-length.ensures in
    (omega (arith, w.2, c.render-length.auto.arg3, length-replicate {A = ℕ} g.row.OUTPUT 0), omega (arith, c.requires.size))
