-- Document 02, U12: "A weir customer has 24 gates on one order." Clean orders of them, in the manner of the table of trials; what is expected was written
-- from the documents, and the definition runs the events.
use Rattle.std.specs.Prelude.{true, List, [], ◌∷◌, ◌++◌, ltb, replicate}
use Rattle.model.specs.declared.Outcome.TheVariants.{Stay, Move}
use Rattle.protocol.specs.CleanOrders.{clean_order}
use Rattle.protocol.specs.Rows.{Trial, passes}
use Rattle.protocol.specs.RowWords.{C, T, held, silent, all_accepted, AllPass}

unfoldable pub wide_table : List Trial
wide_table =
    -- f = 5, all willing: each gate moves, and U10's 2fn telegrams are sent, fn of each kind. A holder has counted the acknowledgements of 1 to 6, the others those of 1 to 5
    silent (clean_order 24 5 (λ k. true)) (all_accepted 296) (replicate 24 (C 3 Move 0)) (T 120 120 0 0) (replicate 5 (held 6 0) ++ replicate 19 (held 5 0))
    -- the last one alone is not willing: all stay
    ∷ silent (clean_order 24 5 (λ k. ltb k 24)) (all_accepted 296) (replicate 24 (C 3 Stay 0)) (T 120 120 0 0) (replicate 5 (held 6 0) ++ replicate 19 (held 5 0))
    -- "n goes up to 32": likewise there, with f = 1
    ∷ silent (clean_order 32 1 (λ k. ltb k 32)) (all_accepted 132) (replicate 32 (C 3 Stay 0)) (T 32 32 0 0) (held 2 0 ∷ replicate 31 (held 1 0))
    ∷ []

abbrev pub WideTrialsHold : Type 0
WideTrialsHold = AllPass passes wide_table
