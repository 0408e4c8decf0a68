use Rattle.std.proofs.Common.{◌∙◌, ap}
use Rattle.text.proofs.Wrote.{wrote-text}
use Rattle.words.specs.Words.{nth_word}
use Rattle.schedule_text.specs.Forms.{verbs, shown}
use Rattle.schedule_text.proofs.forms.put_verb.Goals as goal

pub returns : goal.returns
unfolding shown
returns c = wrote-text c.bytes.ensures (c.nth_word.ensures ∙ ap (nth_word verbs) c.from.ensures)
