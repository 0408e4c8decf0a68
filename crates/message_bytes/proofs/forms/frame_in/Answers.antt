-- `frame_in` meets its contract: the length and the mark that it hands on are those of the form.
use Rattle.message_bytes.proofs.Framing.{framed}
use Rattle.message_bytes.proofs.forms.frame_in.Goals as goal

pub returns : goal.returns
returns c =
    let start = c.args in
    framed start.form start.s.now _ _ _ c.length_of.ensures c.mark_of.ensures c.frame_question.ensures
