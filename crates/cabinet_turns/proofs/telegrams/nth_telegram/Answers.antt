-- The messages come first, then what was sent in ballots: the k-th is one of the former where there are so many (`plain-sent`), and else of the latter (`ballot-sent`).
use mathlib.Core.Path.{sym, ap, ◌∙◌}
use native.Mathlib.Omega.{arith}
use Rattle.std.specs.Prelude.{option_map}
use Rattle.model.specs.declared.Telegram.TheVariants.{Plain, OfBallot}
use Rattle.cabinet_turns.proofs.Nth.{plain-sent, ballot-sent}
use Rattle.cabinet_turns.proofs.telegrams.nth_telegram.Goals as goal

pub returns-in_err-message : goal.returns-in_err-message
returns-in_err-message c =
    let x = c.args in
    let w = c.wide-at.ensures.0 in
    let t = c.if-at-plain.true in
    c.from_residual.ensures ∙ sym (ap (option_map Plain) (c.in_err-message.was {u = tt}))
    ∙ plain-sent x.s x.k _ _ _ c.sends_of.ensures c.nth_message.ensures.answer c.count_plain-plain.ensures (omega (arith, w, t))

pub returns-then-at-plain : goal.returns-then-at-plain
returns-then-at-plain c =
    let x = c.args in
    let w = c.wide-at.ensures.0 in
    let t = c.if-at-plain.true in
    sym (ap (option_map Plain) (c.in_ok-message.was {u = tt}))
    ∙ plain-sent x.s x.k _ _ _ c.sends_of.ensures c.nth_message.ensures.answer c.count_plain-plain.ensures (omega (arith, w, t))

pub returns-in_err-of_ballot : goal.returns-in_err-of_ballot
returns-in_err-of_ballot c =
    let x = c.args in
    let w = c.wide-at.ensures in
    let w₀ = w.0 in
    let w₁ = w.1 in
    let t = c.if-at-plain.false in
    let l = c.low_byte.ensures in
    c.from_residual-in_err-of_ballot.ensures ∙ sym (ap (option_map OfBallot) (c.in_err-of_ballot.was {u = tt}))
    ∙ ballot-sent x.s x.k _ _ _ c.nth_of_ballots.ensures c.count_plain-plain.ensures (omega (arith, w₀, t)) (omega (arith, w₀, w₁, t, l))

pub returns : goal.returns
returns c =
    let x = c.args in
    let w = c.wide-at.ensures in
    let w₀ = w.0 in
    let w₁ = w.1 in
    let t = c.if-at-plain.false in
    let l = c.low_byte.ensures in
    sym (ap (option_map OfBallot) (c.in_ok-of_ballot.was {u = tt}))
    ∙ ballot-sent x.s x.k _ _ _ c.nth_of_ballots.ensures c.count_plain-plain.ensures (omega (arith, w₀, t)) (omega (arith, w₀, w₁, t, l))
