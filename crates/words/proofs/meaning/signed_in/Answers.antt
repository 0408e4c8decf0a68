-- `words::signed_in` meets its contract.
use Rattle.std.proofs.Common.{ℕ, ◌^◌, List, sym, ◌∙◌, ap, rules}
use Rattle.words.specs.Numbers.{number_in, negated}
use Rattle.words.specs.WordLaws.{rest-is}
use Rattle.words.specs.NumberLaws.{no_signed, a_sign, no_sign}
use Rattle.words.proofs.meaning.signed_in.Goals as goal

pub returns-then-is_empty : goal.returns-then-is_empty
returns-then-is_empty c = no_signed c.args.w.now (search rules)

pub returns-then-w-eq45 : goal.returns-then-w-eq45
returns-then-w-eq45 c =
    let w = c.args.w.now in
    c.below_zero.ensures ∙ ap (λ (s : List ℕ). negated (number_in (2 ^ 31) s)) (rest-is w 1) ∙ sym (a_sign w (search rules) c.if-w-eq45.true)

pub returns : goal.returns
returns c =
    let w = c.args.w.now in
    c.number_in.ensures ∙ sym (no_sign w (search rules) c.if-w-eq45.false)
