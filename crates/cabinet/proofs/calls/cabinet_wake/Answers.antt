use mathlib.Core.Path.{◌∙◌}
use Rattle.std.proofs.Common.{rules}
use Rattle.records.specs.Codec.{reads}
use Rattle.checkpoint_record.specs.Checkpoints.{checkpoints}
use Rattle.cabinet_turns.specs.Turns.{woken}
use Rattle.cabinet.specs.Calls.{wake_number}
use Rattle.cabinet.proofs.calls.cabinet_wake.Goals as goal

pub returns : goal.returns
returns c =
    let x = c.args in
    let read = reads checkpoints x.card.now in
    let p = c.play.ensures (wake_number read) (woken read) (λ r e. search (rules, c.read_checkpoint-read.ensures)) (λ next e. search (rules, c.read_checkpoint-read.ensures)) in
    (c.answer_number.ensures ∙ p.0, p.1)
