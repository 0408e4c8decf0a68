-- `schedule_text::put_rest` meets its contract.
use mathlib.Core.Path.{ap}
use mathlib.Core.List.{◌++◌}
use Rattle.text.specs.Text.{ascii}
use Rattle.text.proofs.Wrote.{wrote_then, wrote-text}
use Rattle.schedule_text.specs.Forms.{spaced}
use Rattle.schedule_text.specs.declared.Row.{Row}
use Rattle.schedule_text.proofs.forms.put_rest.Goals as goal

pub returns : goal.returns
returns c =
    let x = c.args.x in
    let rest = wrote_then c.put_spaced.ensures (wrote_then c.put_spaced-2.ensures (wrote_then c.put_spaced-3.ensures (wrote_then c.put_spaced-4.ensures c.byte.ensures))) in
    wrote-text rest (ap (λ (r : Row). spaced r.first x ++ (spaced r.second x ++ (spaced r.third x ++ (spaced r.fourth x ++ ascii "\n")))) c.row_of-row.ensures)
