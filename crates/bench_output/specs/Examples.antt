-- What the program prints for some events, computed: the listing with an unwilling vote, the other conditions, nothing. (The listing itself, from its bytes: `Listing`.)
use Rattle.std.specs.Prelude.{◌≡◌, refl, false, List, [], ◌∷◌, map}
use Prim.Native.String.{String}
use Rattle.model.specs.declared.Event.{Event}
use Rattle.model.specs.declared.Event.TheVariants.{Lock, Order, Stop, Save, Restore}
use Rattle.protocol.specs.Benches.{new_bench}
use Rattle.protocol.specs.Steps.{run}
use Rattle.protocol.specs.Computing.{whole_run}
use Rattle.protocol.specs.Rows.{answers_to}
use Rattle.protocol.specs.Trials.{listing}
use Rattle.text.specs.Text.{digits, decimal, signed, lines}
use Rattle.bench_report.specs.Lines.{report_of}
use Rattle.bench_report.specs.Listing.{page}
use Rattle.bench_summary.specs.Summary.{summary_of}

pub record Example : Type 0 where
  pub events : List Event
  pub output : List String

-- "Output: twelve lines "0 0" to "11 0", then .."
abbrev pub twelve : List String → List String
twelve rest = "0 0" ∷ "1 0" ∷ "2 0" ∷ "3 0" ∷ "4 0" ∷ "5 0" ∷ "6 0" ∷ "7 0" ∷ "8 0" ∷ "9 0" ∷ "10 0" ∷ "11 0" ∷ rest

abbrev pub examples : List Example
examples = record {
  events = listing false;
  output = twelve (
      "C 1 3 S 0" ∷
      "C 2 3 S 0" ∷
      "T 2 2 0 0" ∷ []);
} ∷ record {
  -- controller 1 is restored, 2 has no checkpoint
  events = Lock 2 1 false ∷ Order 1 ∷ Save 1 ∷ Stop 1 ∷ Stop 2 ∷ Restore 1 ∷ Restore 2 ∷ [];
  output = "0 0" ∷ "1 0" ∷ "2 0" ∷ "3 0" ∷ "4 0" ∷ "5 0" ∷ "6 19" ∷
      "C 1 9 - 0" ∷
      "C 2 8 - 0" ∷
      "T 0 0 0 0" ∷ [];
} ∷ record {
  -- "With no lock there are no C lines; with no order T is all 0."
  events = [];
  output = "T 0 0 0 0" ∷ [];
} ∷ []

pub as_printed : map (λ (x : Example). report_of (answers_to new_bench x.events) (summary_of (run new_bench x.events))) examples ≡ map (λ (x : Example). page x.output) examples
unfolding answers_to digits decimal signed lines report_of summary_of whole_run
as_printed = refl
