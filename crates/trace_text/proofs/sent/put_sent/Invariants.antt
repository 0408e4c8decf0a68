-- `trace_text::sent::put_sent` meets its contract.
use Prim.Native.Nat.{ℕ}
use mathlib.Core.List.{List}
use Rattle.text.specs.Writers.{Wrote}
use Rattle.model.specs.declared.Kind.{Kind}
use Rattle.protocol.specs.declared.Station.{Station}
use Rattle.protocol.specs.Benches.{of_kind}
use Rattle.trace.specs.Lines.{Line, text, each}
use Rattle.trace.specs.Shown.{station_at, sent_to}
use Rattle.trace_text.proofs.sent.put_sent.Given as goal

abbrev pub told : Kind → List Station → List Station → ℕ → List Line
told kind old new i = sent_to kind i (of_kind kind (station_at old i).sent).to (of_kind kind (station_at new i).sent).to

abbrev pub invariant-loop-i : goal.invariant-loop-i
invariant-loop-i l = Wrote l.initial.w l.w (text (each l.i (told l.kind l.old l.new)))
