-- `words::number_in` meets its contract. The invariant: the bytes before this one are digits, and v is their number.
use Rattle.std.proofs.Common.{◌+◌, ◌*◌, ◌-◌, Some, sym, ◌∙◌, ap, arith, rules, drop, get_or}
use Rattle.words.specs.NumberLaws.{below-digits, above-digits, a-digit, digit-more, no_digit, read_more, read_grows, digits-ended, read-ended, no_number, not-digits, too-high, a-number}
use Rattle.words.proofs.meaning.number_in.Goals as goal

pub returns-then-is_empty : goal.returns-then-is_empty
returns-then-is_empty c = no_number c.args.most c.args.w.now (search rules)

pub returns-then-b-lt48 : goal.returns-then-b-lt48
returns-then-b-lt48 c =
    let l = c.loop-b in
    let a = c.args in
    not-digits a.most a.w.now (l.invariant.2 ∙ no_digit a.w.now l.b-index c.loop-b-test.true (below-digits _ c.if-b-lt48.true))

pub returns-then-b-gt57 : goal.returns-then-b-gt57
returns-then-b-gt57 c =
    let l = c.loop-b in
    let a = c.args in
    not-digits a.most a.w.now (l.invariant.2 ∙ no_digit a.w.now l.b-index c.loop-b-test.true (above-digits _ c.if-b-lt48.false c.if-b-gt57.true))

pub returns-then-top-v : goal.returns-then-top-v
returns-then-top-v c =
    let l = c.loop-b in
    let a = c.args in
    let more = l.invariant.3 ∙ read_more a.w.now l.b-index c.loop-b-test.true l.v in
    too-high a.most a.w.now (rw more (omega (arith, read_grows (l.v * 10 + (get_or a.w.now l.b-index 0 - 48)) (drop (l.b-index + 1) a.w.now), c.from.ensures, c.if-top-v.true)))

pub loop-b-preserved : goal.loop-b-preserved
loop-b-preserved c =
    let l = c.loop-b in
    let a = c.args in
    let h = c.loop-b-test.true in
    let d = a-digit _ c.if-b-lt48.false c.if-b-gt57.false in (
      c.if-top-v.false,
      l.invariant.1,
      l.invariant.2 ∙ digit-more a.w.now l.b-index h d,
      rw c.from.ensures (l.invariant.3 ∙ read_more a.w.now l.b-index h l.v),
    )

pub returns : goal.returns
returns c =
    let l = c.loop-b in
    let a = c.args in
    let e = l.invariant.3 ∙ read-ended a.w.now l.b-index l.v c.loop-b-test.false in
    sym (ap Some e) ∙ a-number a.most a.w.now l.invariant.1 (l.invariant.2 ∙ digits-ended a.w.now l.b-index c.loop-b-test.false) (rw e (omega arith))
