-- The report on summaries, as its bytes: document 01's listing, and one with the other signs.
use Rattle.std.specs.Prelude.{ℕ, ◌-◌, ◌^◌, ◌≡◌, refl, List, [], ◌∷◌, ◌++◌, replicate}
use Prim.Native.String.{String}
use Rattle.ground.specs.Limit.{limit}
use Rattle.text.specs.Text.{ascii, digits, decimal, signed, lines}
use Rattle.model.specs.declared.Outcome.TheVariants.{None, Stay, Move}
use Rattle.bench_report.specs.Lines.{blank_row, report_of}

-- a text given by its lines
abbrev pub page : List String → List ℕ
page [] = []
page (l ∷ rest) = ascii l ++ ascii "\n" ++ page rest

-- "Output: twelve lines "0 0" to "11 0", then .."
pub listing : report_of (replicate 12 0) (record {
  n = 2;
  rows = record { stage = 3; outcome = Move; position = 500 } ∷ record { stage = 3; outcome = Move; position = 2 ^ 32 - 250 } ∷ replicate (limit - 2) blank_row;
  messages = record { vote = 2; ack = 2; help = 0; helped = 0 };
}) ≡ page (
    "0 0" ∷ "1 0" ∷ "2 0" ∷ "3 0" ∷ "4 0" ∷ "5 0" ∷ "6 0" ∷ "7 0" ∷ "8 0" ∷ "9 0" ∷ "10 0" ∷ "11 0" ∷
    "C 1 3 M 500" ∷
    "C 2 3 M -250" ∷
    "T 2 2 0 0" ∷ [])
unfolding digits decimal signed lines report_of
listing = refl

-- a refusal; Stay, and none; each kind of message in its place
pub other_signs : report_of (0 ∷ 19 ∷ []) (record {
  n = 2;
  rows = record { stage = 8; outcome = None; position = 0 } ∷ record { stage = 9; outcome = Stay; position = 2 ^ 32 - 20000 } ∷ [];
  messages = record { vote = 1; ack = 2; help = 30; helped = 4 };
}) ≡ page (
    "0 0" ∷ "1 19" ∷
    "C 1 8 - 0" ∷
    "C 2 9 S -20000" ∷
    "T 1 2 30 4" ∷ [])
unfolding digits decimal signed lines report_of
other_signs = refl

-- "With no lock there are no C lines; with no order T is all 0."
pub nothing_yet : report_of [] (record { n = 0; rows = replicate limit blank_row; messages = record { vote = 0; ack = 0; help = 0; helped = 0 } }) ≡ page ("T 0 0 0 0" ∷ [])
unfolding digits decimal signed lines report_of
nothing_yet = refl
