-- Vote sets that tell the votes as they were cast: joins of such vote sets are such vote sets, and what their words say of the votes. By the laws of
-- joins (crate `votes`), controller by controller.
use Prim.Native.Nat.{ℕ, ◌≤◌}
use mathlib.Core.Path.{◌≡◌, sym, ◌∙◌, ap, subst}
use mathlib.Core.Bool.{true, false, not, ◌&&◌}
use mathlib.Core.List.{List}
use mathlib.Core.Logic.{◌⊎◌, inl, inr}
use borrow.Author.Tests.{not-true}
use Rattle.ground.specs.Tests.{no_both, and_l, and_r, and_i, or-e, or_l, or_r, same_test, refuted}
use Rattle.ground.specs.Quantify.{Found, not-all}
use Rattle.ground.specs.Mask.{has}
use Rattle.ground.proofs.MaskLaws.{none_has}
use Rattle.ground.specs.Lists.{nth}
use Rattle.votes.specs.VoteSets.{empty, knows, wills, union, union_all, complete, unanimous}
use Rattle.votes.proofs.VoteLaws.{union-knows, union-wills, knows_in-all, wills_in-all, all-known_by, all_willed_by, complete-knows, unanimous-known, unanimous-willing, votes-unanimous, unanimous-is}
use Rattle.votes.specs.Joining.{contradicts, join, join_all, agreed_or}
use Rattle.votes.proofs.JoinLaws.{at_agree, join-agreed, all-agreed}
use Rattle.votes.specs.declared.VoteSet.{VoteSet}
use Rattle.votes.specs.Joining.{Joined}
use Rattle.std.specs.Prelude.{Ok}
use Rattle.protocol.specs.declared.Sent.{Sent}
use Rattle.protocol.proofs.invariant.Invariant.{voted_by, will_by, Truthful, SentSound, AllWilling, Unwilling}

-- a word of Stay: one vote is not both known and willing
pub stay-lacks : (n : ℕ) (s : VoteSet) → unanimous n s ≡ false → Found n (λ k. not (knows s k && wills s k))
stay-lacks n s e = not-all n (λ k. knows s k && wills s k) (sym (unanimous-is n s) ∙ e)

module _ (L : ℕ → Sent) where
  pub empty_ok : Truthful L empty
  empty_ok = record { cast = λ k e. none_has k e; true-to = λ k e. none_has k e; within = λ k e. none_has k e }

  -- the vote set of a vote that was cast
  pub vote_ok : (f i : ℕ) → SentSound f L i (L i) → Truthful L (L i).vote.votes
  vote_ok f i o = record {
    cast = λ k e. rw (o.vote_only k e) (rw (o.vote_only k e) at e);
    true-to = λ k e. rw (o.vote_only k e);
    within = o.vote-within;
  }

  pub union_ok : (s t : VoteSet) → Truthful L s → Truthful L t → Truthful L (union s t)
  union_ok s t p q = record {
    cast = λ k e. elim (either k e) [ inl h ↦ p.cast k h | inr h ↦ q.cast k h ];
    true-to = λ k e. same_test (wills (union s t) k) (will_by k (L k))
        (λ h. elim (or-e (wills s k) (wills t k) (sym (union-wills s t k) ∙ h)) [ inl y ↦ sym (p.true-to k (p.within k y)) ∙ y | inr y ↦ sym (q.true-to k (q.within k y)) ∙ y ])
        (λ h. union-wills s t k ∙ elim (either k e) [ inl y ↦ or_l (wills s k) (wills t k) (p.true-to k y ∙ h) | inr y ↦ or_r (wills s k) (wills t k) (q.true-to k y ∙ h) ]);
    within = λ k e. union-knows s t k ∙ elim (or-e (wills s k) (wills t k) (sym (union-wills s t k) ∙ e)) [ inl y ↦ or_l (knows s k) (knows t k) (p.within k y) | inr y ↦ or_r (knows s k) (knows t k) (q.within k y) ];
  }
    where
      either : (k : ℕ) → knows (union s t) k ≡ true → (knows s k ≡ true) ⊎ (knows t k ≡ true)
      either k e = or-e (knows s k) (knows t k) (sym (union-knows s t k) ∙ e)

  -- two vote sets that tell the votes as they were cast do not contradict each other: their join is the union
  pub true_agree : (s t : VoteSet) → Truthful L s → Truthful L t → contradicts s t ≡ false
  true_agree s t p q = at_agree s t (λ k x y. p.true-to k x ∙ sym (q.true-to k y))

  pub joined_is : (other s t : VoteSet) → Truthful L s → Truthful L t → agreed_or other (join s t) ≡ union s t
  joined_is other s t p q = ap (λ (j : Joined). agreed_or other j) (join-agreed s t (true_agree s t p q))

  pub joined_ok : (s t : VoteSet) → Truthful L s → Truthful L t → Truthful L (agreed_or s (join s t))
  joined_ok s t p q = subst (Truthful L) (sym (joined_is s s t p q)) (union_ok s t p q)

  pub all-joined : (m from : ℕ) (l : List VoteSet) → ((j : ℕ) → has from j ≡ true → Truthful L (nth empty l j)) → join_all m from l ≡ Ok (union_all m from l)
  all-joined = all-agreed (Truthful L) empty_ok union_ok true_agree

  module _ (m : ℕ) (from : ℕ) (l : List VoteSet) where
    abbrev of : ℕ → VoteSet
    of j = nth empty l j

    pub all_ok : ((j : ℕ) → has from j ≡ true → Truthful L (nth empty l j)) → Truthful L (union_all m from l)
    all_ok ok = record { cast = cast_of; true-to = λ k e. same_test (wills (union_all m from l) k) (will_by k (L k)) (up k) (down k (all-known_by m from l k e)); within = within_of }
      where
        cast_of : (k : ℕ) → knows (union_all m from l) k ≡ true → voted_by k (L k) ≡ true
        cast_of k e = let r : Found m (λ x. has from x && knows (of x) k) = all-known_by m from l k e in
            (ok r.at (and_l (has from r.at) (knows (of r.at) k) r.holds)).cast k (and_r (has from r.at) (knows (of r.at) k) r.holds)

        up : (k : ℕ) → wills (union_all m from l) k ≡ true → will_by k (L k) ≡ true
        up k e = let r : Found m (λ x. has from x && wills (of x) k) = all_willed_by m from l k e in
            let o : Truthful L (of r.at) = ok r.at (and_l (has from r.at) (wills (of r.at) k) r.holds) in
            let y : wills (of r.at) k ≡ true = and_r (has from r.at) (wills (of r.at) k) r.holds in
            sym (o.true-to k (o.within k y)) ∙ y

        down : (k : ℕ) → Found m (λ x. has from x && knows (of x) k) → will_by k (L k) ≡ true → wills (union_all m from l) k ≡ true
        down k r h = let a : has from r.at ≡ true = and_l (has from r.at) (knows (of r.at) k) r.holds in
            wills_in-all m from l r.at r.low r.high a k ((ok r.at a).true-to k (and_r (has from r.at) (knows (of r.at) k) r.holds) ∙ h)

        within_of : (k : ℕ) → wills (union_all m from l) k ≡ true → knows (union_all m from l) k ≡ true
        within_of k e = let r : Found m (λ x. has from x && wills (of x) k) = all_willed_by m from l k e in
            let a : has from r.at ≡ true = and_l (has from r.at) (wills (of r.at) k) r.holds in
            knows_in-all m from l r.at r.low r.high a k ((ok r.at a).within k (and_r (has from r.at) (wills (of r.at) k) r.holds))

  module _ (n f : ℕ) where
    -- a word of Move on a true vote set: all are willing
    pub move_all : (s : VoteSet) → Truthful L s → unanimous n s ≡ true → AllWilling n f L
    move_all s o e k a b = (o.cast k (unanimous-known n s e k a b), sym (o.true-to k (unanimous-known n s e k a b)) ∙ unanimous-willing n s e k a b)

    -- a complete true vote set has the word Move where all are willing
    pub all-move : (s : VoteSet) → Truthful L s → AllWilling n f L → complete n s ≡ true → unanimous n s ≡ true
    all-move s o h e = votes-unanimous n s (complete-knows n s e) (λ k a b. o.true-to k (complete-knows n s e k a b) ∙ (h k a b).1)

    -- a word of Stay on a complete true vote set: one is unwilling
    pub stay-unwilling : (s : VoteSet) → Truthful L s → ((k : ℕ) → 1 ≤ k → k ≤ n → knows s k ≡ true) → unanimous n s ≡ false → Unwilling n f L
    stay-unwilling s o kn e =
        let r : Found n (λ k. not (knows s k && wills s k)) = stay-lacks n s e in
        let y : knows s r.at ≡ true = kn r.at r.low r.high in
        record {
          at = r.at;
          low = r.low;
          high = r.high;
          voted = o.cast r.at y;
          unwilling = refuted (will_by r.at (L r.at)) (λ h. no_both (knows s r.at && wills s r.at) (and_i (knows s r.at) (wills s r.at) y (o.true-to r.at y ∙ h)) (not-true (knows s r.at && wills s r.at) r.holds));
        }
