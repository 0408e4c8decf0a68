-- `schedule_input::put_shown` meets its contract.
use Rattle.std.proofs.Common.{◌≡◌, ◌<◌, ◌∙◌, inl, inr, length, take, take_all, arith, rules}
use Rattle.std.proofs.lemmas.Bool.{cases_lt}
use Rattle.text.proofs.Wrote.{wrote-text}
use Rattle.schedule_input.specs.Input.{word_shown}
use Rattle.schedule_input.specs.InputLaws.{shown-short, shown-long}
use Rattle.schedule_input.proofs.refusals.put_shown.Goals as goal

pub returns : goal.returns
returns c =
    let w = c.args.word.now in
    let some : 0 < length w = search rules in
    let shown : take c.min.result w ≡ word_shown w = elim (cases_lt 40 (length w)) [
      | inl long ↦ let e : c.min.result ≡ 40 = omega (arith, c.min.ensures) in rw e (shown-long w some)
      | inr short ↦ let e : c.min.result ≡ length w = omega (arith, c.min.ensures) in rw e (take_all (length w) w (omega arith) ∙ shown-short w some short)
    ] in
    wrote-text c.bytes-2.ensures shown
