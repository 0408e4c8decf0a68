-- `line_output::put_acts` meets its contract. The invariant: the first i acts led to this line, and their lines are written.
use mathlib.Core.Path.{◌∙◌, ap}
use mathlib.Core.List.{[], ◌∷◌}
use native.Mathlib.Omega.{arith}
use Rattle.std.proofs.Common.{rules}
use Rattle.text.specs.Text.{decimal, line}
use Rattle.text.specs.WritingLaws.{put-none, put-moved}
use Rattle.text.proofs.Wrote.{wrote-none, wrote-line, wrote-lines, wrote-text}
use Rattle.line.specs.declared.Done.{Done}
use Rattle.line_output.specs.Output.{shown}
use Rattle.line_output.proofs.Runs.{line-more, none_yet, done_at}
use Rattle.line_output.proofs.put_acts.Goals as goal

pub loop-i-init : goal.loop-i-init
loop-i-init c = (c.new_line-line.ensures ∙ none_yet, wrote-none _ _ (search rules) (search rules))

pub loop-i-preserved : goal.loop-i-preserved
loop-i-preserved c =
    let l = c.loop-i in
    let s = c.args.s.now in
    let d = done_at s l.i c.perform-done.ensures c.act_of.ensures l.invariant.0 in (
      ap (λ (x : Done). x.line) d ∙ line-more s l.i (omega arith),
      wrote-line l.i _ l.invariant.1 (wrote-text c.put_act.ensures (ap (λ (x : Done). line (decimal l.i ∷ shown x.answer ∷ [])) d)),
    )

pub returns : goal.returns
returns c =
    let l = c.loop-i in
    put-moved c.new-w.ensures.kept (search rules) c.new-w.ensures.front (wrote-lines _ (omega arith) l.invariant.1).put
