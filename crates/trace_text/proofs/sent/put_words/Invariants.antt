-- `trace_text::sent::put_words` meets its contract.
use Prim.Native.Nat.{ℕ}
use mathlib.Core.List.{List}
use Rattle.text.specs.Writers.{Wrote}
use Rattle.protocol.specs.declared.Station.{Station}
use Rattle.trace.specs.Lines.{Line, text, each}
use Rattle.trace.specs.Shown.{station_at, word_put}
use Rattle.trace_text.proofs.sent.put_words.Given as goal

abbrev pub words : List Station → List Station → ℕ → List Line
words old new i = word_put i (station_at old i).controller.proposal (station_at new i).controller.proposal

abbrev pub invariant-loop-i : goal.invariant-loop-i
invariant-loop-i l = Wrote l.initial.w l.w (text (each l.i (words l.old l.new)))
