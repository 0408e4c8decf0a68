-- `trace_text::ballots::put_sent_in` meets its contract.
use Rattle.text.specs.Writers.{Wrote}
use Rattle.trace.specs.Lines.{text, each}
use Rattle.trace.specs.Shown.{sent_from}
use Rattle.trace_text.proofs.ballots.put_sent_in.Given as goal

abbrev pub invariant-loop-k : goal.invariant-loop-k
invariant-loop-k l = Wrote l.initial.w l.w (text (each l.k (λ i. sent_from l.kind l.n l.b i l.old l.new)))
