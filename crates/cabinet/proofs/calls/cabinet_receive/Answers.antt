use mathlib.Core.Path.{◌∙◌}
use Rattle.std.proofs.Common.{rules}
use Rattle.records.specs.Codec.{reads}
use Rattle.message_record.specs.Telegrams.{telegrams}
use Rattle.cabinet_turns.specs.Ballots.{received}
use Rattle.cabinet.specs.Calls.{receive_number}
use Rattle.cabinet.proofs.calls.cabinet_receive.Goals as goal

pub returns : goal.returns
returns c =
    let x = c.args in
    let read = reads telegrams x.telegram.now in
    let p = c.play.ensures (receive_number read) (received read) (λ r e. search (rules, c.read_telegram-read.ensures)) (λ next e. search (rules, c.read_telegram-read.ensures)) in
    (c.answer_number.ensures ∙ p.0, p.1)
