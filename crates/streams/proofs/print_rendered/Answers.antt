-- What is read lies within its buffer.
use Rattle.std.proofs.Common.{ℕ, arith}
use Rattle.std.proofs.lemmas.List.{length-replicate}
use Rattle.streams.proofs.print_rendered.Goals as goal

pub shared_whole_as_front-print_text : goal.shared_whole_as_front-print_text
shared_whole_as_front-print_text g c =
    let e = c.in-Ok.ensures in
    (omega (arith, e.prefix_len.0, e.either_way.1, length-replicate {A = ℕ} g.row.INPUT 0), omega (arith, c.requires.sizes.0))
