-- `generator::put_drawn` meets its contract. The invariant: what is written and what is left to draw are the whole (Remaining).
use Rattle.std.specs.Prelude.{◌-◌}
use Rattle.generator.specs.File.{event_records, drawn_from}
use Rattle.generator.proofs.Remaining.{Remaining}
use Rattle.generator.proofs.file.put_drawn.Given as goal

abbrev pub invariant-loop-drawn : goal.invariant-loop-drawn
invariant-loop-drawn l = Remaining l.initial.w l.w (event_records (drawn_from l.n (l.count - l.drawn) l.state)) (event_records (drawn_from l.n l.count l.start))
