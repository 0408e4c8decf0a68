-- The first j vote sets are those that stand in their two columns of words: so at the end all are (`Filled`).
use Prim.Native.Nat.{◌+◌}
use Rattle.ground.specs.Limit.{limit}
use Rattle.cabinet_state.specs.Words.{word, known_place, willing_place}
use Rattle.cabinet_state.specs.FillLaws.{Filled}
use Rattle.cabinet_state.proofs.reading.sets_in.Given as goal

abbrev pub invariant-loop-j : goal.invariant-loop-j
invariant-loop-j l = Filled (λ k. record { known = word l.s (known_place + k); willing = word l.s (willing_place + k) }) limit l.j l.sets
