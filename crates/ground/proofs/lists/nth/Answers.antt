-- `ground::nth` meets its contract: 0 and what is past the end read as the other value, any other number as its element.
use Rattle.std.specs.Prelude.{◌≡◌, ◌-◌, length}
use Rattle.std.proofs.Common.{sym, ◌∙◌, arith, rules}
use Rattle.std.proofs.lemmas.List.{get_or_read}
use Rattle.ground.specs.Lists.{nth, nth-at, nth_past}
use Rattle.ground.proofs.lists.nth.Goals as goal

pub returns-then-k-lt1 : goal.returns-then-k-lt1
unfolding nth
returns-then-k-lt1 g c = let none : c.args.k ≡ 0 = omega arith in rw none

pub returns-then-k : goal.returns-then-k
returns-then-k g c =
    let held : length c.args.xs ≡ g.row.N = search rules in
    sym (nth_past c.args.other c.args.xs c.args.k (omega arith))

pub returns : goal.returns
returns g c =
    let a = c.args in
    let held : length a.xs ≡ g.row.N = search rules in
    sym (get_or_read a.xs (a.k - 1) _ (omega arith) c.index-xs-k.is _)
    ∙ get_or_read a.xs (a.k - 1) _ (omega arith) c.index-xs-k.is a.other
    ∙ sym (nth-at a.other a.xs a.k (omega arith))
