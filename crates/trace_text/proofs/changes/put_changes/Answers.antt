-- `trace_text::changes::put_changes` meets its contract.
use mathlib.Core.Path.{◌∙◌, ap}
use Rattle.text.proofs.Wrote.{wrote-text}
use Rattle.bench_report.specs.declared.Summary.{Summary}
use Rattle.bench_summary.specs.Summary.{summary_of}
use Rattle.trace.specs.Lines.{text}
use Rattle.trace.specs.Shown.{changed}
use Rattle.trace_text.proofs.changes.put_changes.Goals as goal

pub returns : goal.returns
unfolding changed
returns c =
    let a = c.args in
    let was = c.summary_of-was.ensures a.old.ballots in
    let is = c.summary_of-is.ensures a.new.ballots in
    wrote-text c.put_rows.ensures (ap (λ (s : Summary). text (changed s c.summary_of-is.result)) was ∙ ap (λ (s : Summary). text (changed (summary_of a.old) s)) is)
