-- `schedule_input::put_refused_line` meets its contract.
use Rattle.std.proofs.Common.{ℕ, ◌∙◌, ap}
use mathlib.Core.List.{List}
use Rattle.text.proofs.Wrote.{wrote-text}
use Rattle.words.specs.Words.{uncommented, nth_word, nth_line}
use Rattle.schedule_input.specs.Input.{refused_word, refused_line}
use Rattle.schedule_input.proofs.refusals.put_refused_line.Goals as goal

pub returns : goal.returns
unfolding refused_line
returns c =
    let a = c.args in
    let line = c.uncommented-l.ensures ∙ ap uncommented (c.nth_line.ensures ∙ ap (nth_line a.s.now) c.saturating_sub.ensures) in
    let word = c.nth_word.ensures ∙ ap (λ (l : List ℕ). nth_word l a.word) line in
    wrote-text c.put_refused_word.ensures (ap (refused_word a.line) word)
