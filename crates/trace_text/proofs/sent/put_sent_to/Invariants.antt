-- `trace_text::sent::put_sent_to` meets its contract.
use Prim.Native.Nat.{ℕ}
use mathlib.Core.List.{List}
use Rattle.text.specs.Writers.{Wrote}
use Rattle.ground.specs.Mask.{has}
use Rattle.model.specs.declared.Kind.{Kind}
use Rattle.model.specs.declared.Event.TheVariants.{Deliver}
use Rattle.trace.specs.Lines.{Line, Sent, text, when, each}
use Rattle.trace.specs.Shown.{is_new}
use Rattle.trace_text.proofs.sent.put_sent_to.Given as goal

abbrev pub told : Kind → ℕ → ℕ → ℕ → ℕ → List Line
told kind i old new j = when (is_new (has old j) (has new j)) (Sent (Deliver i j kind))

abbrev pub invariant-loop-j : goal.invariant-loop-j
invariant-loop-j l = Wrote l.initial.w l.w (text (each l.j (told l.kind l.i l.old l.new)))
