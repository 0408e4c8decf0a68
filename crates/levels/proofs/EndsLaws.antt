-- The ends of the ranges decide: the answer that they give is right, and no other is.
use Rattle.std.specs.Prelude.{◌≡◌, ℕ, Result, Ok, Err, true, false, cond, ◌&&◌, ◌||◌, int_lt}
use Rattle.std.proofs.Math.Path.{refl, sym, subst}
use Rattle.std.proofs.Common.{◌∙◌, inl, inr}
use Rattle.std.proofs.lemmas.Bool.{false≢true}
use Rattle.ground.specs.Tests.{and_l, and_r, or-e, by_cond, or_no_l, or_no_r}
use Rattle.model.specs.Questions.{Reply, accepted, refused, first_no}
use Rattle.model.specs.QuestionLaws.{all_yes}
use Rattle.levels.specs.declared.Range.{Range}
use Rattle.levels.specs.declared.Willingness.{Willingness}
use Rattle.levels.specs.declared.Willingness.TheVariants.{Willing, CertainlyUnwilling, Unsure}
use Rattle.levels.specs.Integers.{Below, le-true, lt-true, not_lt}
use Rattle.levels.specs.Heads.{low, high, mm, minus, EveryPair, NoPair}
use Rattle.levels.specs.Judged.{ordered, questions, Says, SaysAfter, Judged, votes}
use Rattle.levels.specs.Ends.{least, greatest, by_heads, after, willingness}
use Rattle.levels.proofs.PairLaws.{every, none-low, none-high, not-every-low, not-every-high, some, not_both}

module _ (above below : Range) where
  module _ (oa : Below (low above) (high above)) (ob : Below (low below) (high below)) where
    -- the two tests of `by_heads`
    outside : (int_lt (greatest above below) (minus 150) || int_lt (mm 150) (least above below)) ≡ true → NoPair above below
    outside t = elim (or-e (int_lt (greatest above below) (minus 150)) (int_lt (mm 150) (least above below)) t) [
      | inl g ↦ none-low above below (lt-true (greatest above below) (minus 150) g)
      | inr l ↦ none-high above below (lt-true (mm 150) (least above below) l)
    ]

    not-outside : (int_lt (greatest above below) (minus 150) || int_lt (mm 150) (least above below)) ≡ false → NoPair above below → ⊥
    not-outside t =
        some above below oa ob (not_lt (greatest above below) (minus 150) (or_no_l (int_lt (greatest above below) (minus 150)) (int_lt (mm 150) (least above below)) t))
        (not_lt (mm 150) (least above below) (or_no_r (int_lt (greatest above below) (minus 150)) (int_lt (mm 150) (least above below)) t))

    beyond : (int_lt (least above below) (minus 150) || int_lt (mm 150) (greatest above below)) ≡ true → EveryPair above below → ⊥
    beyond u = elim (or-e (int_lt (least above below) (minus 150)) (int_lt (mm 150) (greatest above below)) u) [
      | inl l ↦ not-every-low above below oa ob (lt-true (least above below) (minus 150) l)
      | inr g ↦ not-every-high above below oa ob (lt-true (mm 150) (greatest above below) g)
    ]

    not_beyond : (int_lt (least above below) (minus 150) || int_lt (mm 150) (greatest above below)) ≡ false → EveryPair above below
    not_beyond u =
        every above below (not_lt (least above below) (minus 150) (or_no_l (int_lt (least above below) (minus 150)) (int_lt (mm 150) (greatest above below)) u))
        (not_lt (mm 150) (greatest above below) (or_no_r (int_lt (least above below) (minus 150)) (int_lt (mm 150) (greatest above below)) u))

    by_heads_lem : Says above below (Ok (by_heads (least above below) (greatest above below)))
    unfolding by_heads
    by_heads_lem =
        by_cond (λ (w : Willingness). Says above below (Ok w)) (int_lt (greatest above below) (minus 150) || int_lt (mm 150) (least above below)) CertainlyUnwilling
        (cond (int_lt (least above below) (minus 150) || int_lt (mm 150) (greatest above below)) Unsure Willing) outside
        (λ t. by_cond (λ (w : Willingness). Says above below (Ok w)) (int_lt (least above below) (minus 150) || int_lt (mm 150) (greatest above below)) Unsure Willing (λ u. (beyond u, not-outside t)) not_beyond)

    -- two answers that are both right are one
    says-once : (v w : Result Willingness ℕ) → Says above below v → Says above below w → v ≡ w
    says-once (Ok Willing) (Ok Willing) p q = refl
    says-once (Ok Willing) (Ok CertainlyUnwilling) p q = absurd (not_both above below oa ob p q)
    says-once (Ok Willing) (Ok Unsure) p q = absurd (q.0 p)
    says-once (Ok Willing) (Err k) p q = absurd q
    says-once (Ok CertainlyUnwilling) (Ok Willing) p q = absurd (not_both above below oa ob q p)
    says-once (Ok CertainlyUnwilling) (Ok CertainlyUnwilling) p q = refl
    says-once (Ok CertainlyUnwilling) (Ok Unsure) p q = absurd (q.1 p)
    says-once (Ok CertainlyUnwilling) (Err k) p q = absurd q
    says-once (Ok Unsure) (Ok Willing) p q = absurd (p.0 q)
    says-once (Ok Unsure) (Ok CertainlyUnwilling) p q = absurd (p.1 q)
    says-once (Ok Unsure) (Ok Unsure) p q = refl
    says-once (Ok Unsure) (Err k) p q = absurd q
    says-once (Err k) w p q = absurd p

  in_order : first_no (questions above below) ≡ accepted → Below (low above) (high above) × Below (low below) (high below)
  in_order e =
      let o : (ordered above && ordered below) ≡ true = (all_yes (questions above below) e).1.0 in
      (le-true (low above) (high above) (and_l (ordered above) (ordered below) o), le-true (low below) (high below) (and_r (ordered above) (ordered below) o))

  -- the answer that the ends give is right
  pub ends-decide : Judged above below (willingness above below)
  unfolding Judged willingness
  ends-decide = go (first_no (questions above below)) refl
    where
      go : (r : Reply) → first_no (questions above below) ≡ r → SaysAfter r above below (after r (by_heads (least above below) (greatest above below)))
      go accepted e = let o = in_order e in by_heads_lem o.0 o.1
      go (refused q) e = refl

  -- and no other is
  pub judged-once : (v w : Result Willingness ℕ) → Judged above below v → Judged above below w → v ≡ w
  unfolding Judged
  judged-once v w = go (first_no (questions above below)) refl
    where
      go : (r : Reply) → first_no (questions above below) ≡ r → SaysAfter r above below v → SaysAfter r above below w → v ≡ w
      go accepted e p q = let o = in_order e in says-once o.0 o.1 v w p q
      go (refused k) e p q = p ∙ sym q

  -- what ensures it of a call's answer
  pub right_answer : (w : Result Willingness ℕ) → w ≡ willingness above below → Judged above below w × (w ≡ willingness above below)
  right_answer w e = (rw e ends-decide, e)

  -- "The vote is willing exactly when every pair of levels within the two ranges has a head from −150 to 150", of ranges that are not refused
  module _ (e : first_no (questions above below) ≡ accepted) where
    says : Says above below (willingness above below)
    unfolding Judged
    says = subst (λ (r : Reply). SaysAfter r above below (willingness above below)) e ends-decide

    pub willing-vote : votes (willingness above below) ≡ true → EveryPair above below
    unfolding votes
    willing-vote t = go (willingness above below) says t
      where
        go : (w : Result Willingness ℕ) → Says above below w → votes w ≡ true → EveryPair above below
        go (Ok Willing) s t = s
        go (Ok CertainlyUnwilling) s t = absurd (false≢true t)
        go (Ok Unsure) s t = absurd (false≢true t)
        go (Err q) s t = absurd s

    pub every-vote : EveryPair above below → votes (willingness above below) ≡ true
    unfolding votes
    every-vote p = let o = in_order e in rw (says-once o.0 o.1 (willingness above below) (Ok Willing) says p)
