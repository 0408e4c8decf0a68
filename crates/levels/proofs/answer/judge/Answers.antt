-- `levels::judge` meets its contract: each return is one case of `willingness` (HeightLaws), which is right of every pair of levels (`right_answer`).
use Rattle.std.proofs.Common.{sym, ap, ◌∙◌}
use Rattle.std.specs.Prelude.{Ok}
use Rattle.levels.proofs.EndsLaws.{right_answer}
use Rattle.levels.proofs.HeightLaws.{listed-true, above-outside, below-outside, above_crossed, below_crossed, answered}
use Rattle.levels.proofs.answer.judge.Goals as goal

pub returns-then-not-both_listed : goal.returns-then-not-both_listed
returns-then-not-both_listed c =
    let both = right_answer _ _ _ (above-outside _ _ _ _ c.raised_range-a.ensures c.raised_range-b.ensures (sym c.both_listed.ensures ∙ c.if-not-both_listed.true)) in record { right = both.0; by_ends = both.1 }

pub returns-then-not-both_listed-2 : goal.returns-then-not-both_listed-2
returns-then-not-both_listed-2 c =
    let both = right_answer _ _ _ (below-outside _ _ _ _ c.raised_range-a.ensures c.raised_range-b.ensures (sym c.both_listed.ensures ∙ c.if-not-both_listed.false) (sym c.both_listed-2.ensures ∙ c.if-not-both_listed-2.true)) in record { right = both.0; by_ends = both.1 }

pub returns-then-a : goal.returns-then-a
returns-then-a c =
    let both = right_answer _ _ _ (above_crossed _ _ _ _ c.raised_range-a.ensures c.raised_range-b.ensures (sym c.both_listed.ensures ∙ c.if-not-both_listed.false) (sym c.both_listed-2.ensures ∙ c.if-not-both_listed-2.false) c.if-a.true) in record { right = both.0; by_ends = both.1 }

pub returns-then-b : goal.returns-then-b
returns-then-b c =
    let both = right_answer _ _ _ (below_crossed _ _ _ _ c.raised_range-a.ensures c.raised_range-b.ensures (sym c.both_listed.ensures ∙ c.if-not-both_listed.false) (sym c.both_listed-2.ensures ∙ c.if-not-both_listed-2.false) c.if-a.false c.if-b.true) in record { right = both.0; by_ends = both.1 }

pub by_heights-requires : goal.by_heights-requires
by_heights-requires c =
    record {
      listed = listed-true _ (sym c.both_listed.ensures ∙ c.if-not-both_listed.false);
      listed_2 = listed-true _ (sym c.both_listed-2.ensures ∙ c.if-not-both_listed-2.false);
    }

pub returns : goal.returns
returns c =
    let both = right_answer _ _ _ (ap Ok c.by_heights.ensures ∙ answered _ _ _ _ c.raised_range-a.ensures c.raised_range-b.ensures (sym c.both_listed.ensures ∙ c.if-not-both_listed.false) (sym c.both_listed-2.ensures ∙ c.if-not-both_listed-2.false) c.if-a.false c.if-b.false) in record { right = both.0; by_ends = both.1 }
