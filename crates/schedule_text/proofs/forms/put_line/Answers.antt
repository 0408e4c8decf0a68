-- `schedule_text::put_line` meets its contract.
use Rattle.text.proofs.Wrote.{wrote_then}
use Rattle.schedule_text.specs.Forms.{line_of}
use Rattle.schedule_text.proofs.forms.put_line.Goals as goal

pub returns : goal.returns
unfolding line_of
returns c =
    wrote_then c.put_verb.ensures c.put_rest.ensures
