-- `trace_text::ballots::put_sent_from` meets its contract.
use Prim.Native.Nat.{ℕ}
use mathlib.Core.List.{List}
use Rattle.model.specs.declared.BallotKind.{BallotKind}
use Rattle.model.specs.declared.BallotEvent.TheVariants.{Carry}
use Rattle.model.specs.declared.Event.TheVariants.{OfBallots}
use Rattle.protocol.specs.declared.BallotRow.{BallotRow}
use Rattle.text.specs.Writers.{Wrote}
use Rattle.trace.specs.Lines.{Line, Sent, text, when, each}
use Rattle.trace.specs.Shown.{new_in}
use Rattle.trace_text.proofs.ballots.put_sent_from.Given as goal

abbrev pub told : BallotKind → ℕ → ℕ → ℕ → BallotRow → BallotRow → ℕ → List Line
told kind n b i old new j = when (new_in kind n b i j old new) (Sent (OfBallots (Carry i j kind b)))

abbrev pub invariant-loop-k : goal.invariant-loop-k
invariant-loop-k l = Wrote l.initial.w l.w (text (each l.k (told l.kind l.n l.b l.i l.old l.new)))
