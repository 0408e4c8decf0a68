-- What the own vote drops of the acknowledgements held: those that contradict it, and no others; each is counted off. Along the senders that are asked,
-- one by one.
use Prim.Native.Nat.{ℕ, zero, suc, ◌≤◌}
use mathlib.Core.Path.{◌≡◌, refl, sym, ◌∙◌, ap, subst}
use mathlib.Core.Bool.{Bool, true, false, not, ◌&&◌, false≢true}
use native.Mathlib.Omega.{arith}
use native.Mathlib.Decide.{ℕ_discrete}
use lib.Dec.{eqb}
use mathlib.Core.Logic.{inl, inr}
use borrow.Author.Tests.{eqb-true, ne_eqb}
use Rattle.ground.specs.Tests.{split, by_cond, and_l}
use Rattle.ground.specs.Quantify.{count_to}
use Rattle.ground.proofs.Sizes.{count-new}
use Rattle.ground.specs.Mask.{width, has, remove}
use Rattle.ground.proofs.MaskLaws.{has-remove}
use Rattle.ground.specs.Lists.{nth}
use Rattle.ground.specs.Update.{upd, upd_same, upd_other, fun_ext}
use Rattle.votes.specs.VoteSets.{empty}
use Rattle.votes.specs.Joining.{contradicts}
use Rattle.votes.specs.declared.VoteSet.{VoteSet}
use Rattle.protocol.specs.declared.Acks.{Acks}
use Rattle.protocol.specs.Controllers.{drop_if, drop_to}

-- a set without one of its members has one less
one_less : (n m i : ℕ) → 1 ≤ i → i ≤ n → n ≤ width → has m i ≡ true → suc (count_to n (has (remove m i))) ≡ count_to n (has m)
one_less n m i lo hi w e = sym (count-new n (has (remove m i)) i lo hi (removed i ∙ upd_same (has m) i false)) ∙ ap (count_to n) (fun_ext (upd (has (remove m i)) i true) (has m) back)
  where
    removed : (k : ℕ) → has (remove m i) k ≡ upd (has m) i false k
    removed k = has-remove m i k lo (omega arith)

    back : (k : ℕ) → upd (has (remove m i)) i true k ≡ has m k
    back k = elim (split (eqb k i)) [
      | inl q ↦ rw (eqb-true k i q) (upd_same (has (remove m i)) i true ∙ sym e)
      | inr q ↦ upd_other (has (remove m i)) i true k q ∙ removed k ∙ upd_other (has m) i false k q
    ]

-- one that is asked: if it contradicts it is held no longer, else as before; and it is counted off
module _ (s : VoteSet) (i : ℕ) (a : Acks) (lo : 1 ≤ i) (w : i ≤ width) where
  one-asked : has (drop_if s i a).from i ≡ (has a.from i && not (contradicts (nth empty a.sets i) s))
  unfolding drop_if
  one-asked = by_cond (λ (x : Acks). has x.from i ≡ (has a.from i && not (contradicts (nth empty a.sets i) s))) (has a.from i && contradicts (nth empty a.sets i) s) _ _
      (λ t. has-remove a.from i i lo w ∙ upd_same (has a.from) i false ∙ sym (gone (has a.from i) (contradicts (nth empty a.sets i) s) t))
      (λ t. sym (stays (has a.from i) (contradicts (nth empty a.sets i) s) t))
    where
      gone : (x y : Bool) → (x && y) ≡ true → (x && not y) ≡ false
      gone true true e = refl
      gone true false e = absurd (false≢true e)
      gone false y e = refl

      stays : (x y : Bool) → (x && y) ≡ false → (x && not y) ≡ x
      stays true true e = sym e
      stays true false e = refl
      stays false y e = refl

  one-counted : (n : ℕ) → i ≤ n → n ≤ width → a.cnt.0 ≡ count_to n (has a.from) → (drop_if s i a).cnt.0 ≡ count_to n (has (drop_if s i a).from)
  unfolding drop_if
  one-counted n hi v e = by_cond (λ (x : Acks). x.cnt.0 ≡ count_to n (has x.from)) (has a.from i && contradicts (nth empty a.sets i) s) _ _
      (λ t. let less : suc (count_to n (has (remove a.from i))) ≡ count_to n (has a.from) = one_less n a.from i lo hi v (and_l (has a.from i) _ t) in omega arith)
      (λ t. e)

  -- the others stay, and so does what stands in the list
  one-other : (k : ℕ) → eqb k i ≡ false → has (drop_if s i a).from k ≡ has a.from k
  unfolding drop_if
  one-other k q = by_cond (λ (x : Acks). has x.from k ≡ has a.from k) (has a.from i && contradicts (nth empty a.sets i) s) _ _ (λ t. has-remove a.from i k lo w ∙ upd_other (has a.from) i false k q) (λ t. refl)

one-sets : (s : VoteSet) (i : ℕ) (a : Acks) → (drop_if s i a).sets ≡ a.sets
unfolding drop_if
one-sets s i a = by_cond (λ (x : Acks). x.sets ≡ a.sets) (has a.from i && contradicts (nth empty a.sets i) s) _ _ (λ t. refl) (λ t. refl)

-- all that are asked
module _ (s : VoteSet) (a : Acks) where
  pub sets-kept : (m : ℕ) → (drop_to m s a).sets ≡ a.sets
  unfolding drop_to
  sets-kept zero = refl
  sets-kept (suc m) = one-sets s (suc m) (drop_to m s a) ∙ sets-kept m

  -- of a number that is not asked yet nothing changes
  later : (m j : ℕ) → suc m ≤ j → m ≤ width → has (drop_to m s a).from j ≡ has a.from j
  unfolding drop_to
  later zero j h w = refl
  later (suc m) j h w = one-other s (suc m) (drop_to m s a) (omega arith) w j (ne_eqb j (suc m) (λ z. omega arith)) ∙ later m j (omega arith) (omega arith)

  pub drops : (m j : ℕ) → 1 ≤ j → j ≤ m → m ≤ width → has (drop_to m s a).from j ≡ (has a.from j && not (contradicts (nth empty a.sets j) s))
  unfolding drop_to
  drops zero j p q w = absurd (omega arith)
  drops (suc m) j p q w = elim (ℕ_discrete j (suc m)) [
    | yes e ↦ rw e (one-asked s (suc m) (drop_to m s a) (omega arith) w ∙ rw (later m (suc m) (omega arith) (omega arith), sets-kept m))
    | no e ↦ one-other s (suc m) (drop_to m s a) (omega arith) w j (ne_eqb j (suc m) e) ∙ drops m j p (omega arith) (omega arith)
  ]

  -- none is added
  pub drop_only : (m j : ℕ) → m ≤ width → has (drop_to m s a).from j ≡ true → has a.from j ≡ true
  unfolding drop_to
  drop_only zero j w e = e
  drop_only (suc m) j w e = drop_only m j (omega arith) (elim (split (eqb j (suc m))) [
    | inl q ↦ subst (λ (k : ℕ). has (drop_to m s a).from k ≡ true) (sym (eqb-true j (suc m) q))
        (and_l (has (drop_to m s a).from (suc m)) _ (sym (one-asked s (suc m) (drop_to m s a) (omega arith) w) ∙ subst (λ (k : ℕ). has (drop_if s (suc m) (drop_to m s a)).from k ≡ true) (eqb-true j (suc m) q) e))
    | inr q ↦ sym (one-other s (suc m) (drop_to m s a) (omega arith) w j q) ∙ e
  ])

  -- each that is dropped is counted off
  pub drop-counted : (n m : ℕ) → m ≤ n → n ≤ width → a.cnt.0 ≡ count_to n (has a.from) → (drop_to m s a).cnt.0 ≡ count_to n (has (drop_to m s a).from)
  unfolding drop_to
  drop-counted n zero q w e = e
  drop-counted n (suc m) q w e = one-counted s (suc m) (drop_to m s a) (omega arith) (omega arith) n q w (drop-counted n m (omega arith) w e)
