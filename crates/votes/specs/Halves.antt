-- The two masks of a vote set, known and willing, unite alike: what holds of both is proved here once, for either.
use Prim.Native.Nat.{ℕ, zero, suc, ◌≤◌}
use Rattle.std.specs.Prelude.{◌≡◌, refl, Bool, true, false, ◌&&◌, ◌||◌, List}
use Rattle.std.proofs.Common.{sym, ◌∙◌, ap}
use Rattle.std.proofs.Math.Bool.{or_comm}
use Rattle.std.specs.Int.Bits.{bit_or}
use Rattle.std.proofs.Math.Logic.{inl, inr}
use Rattle.ground.specs.Tests.{split, and_l, and_r, and_i, same_test}
use Rattle.ground.specs.Quantify.{any_to, any_at, any_of, Found}
use Rattle.ground.specs.Mask.{has}
use Rattle.ground.proofs.MaskLaws.{has_or, has-none}
use Rattle.ground.proofs.Inclusion.{same_set}
use Rattle.ground.specs.Lists.{nth}
use Rattle.votes.specs.VoteSets.{empty, union, union_all, Among}
use Rattle.votes.specs.declared.VoteSet.{VoteSet}

-- a mask of each vote set, that of a union being the union
pub record Half : Type 0 where
  pub mask : VoteSet → ℕ
  pub unites : (s t : VoteSet) → mask (union s t) ≡ bit_or (mask s) (mask t)
  pub none : mask empty ≡ 0

pub known-unites : (s t : VoteSet) → (union s t).known ≡ bit_or s.known t.known
unfolding union
known-unites s t = refl

pub willing-unites : (s t : VoteSet) → (union s t).willing ≡ bit_or s.willing t.willing
unfolding union
willing-unites s t = refl

abbrev pub known_half : Half
known_half = record { mask = λ s. s.known; unites = known-unites; none = refl }

abbrev pub willing_half : Half
willing_half = record { mask = λ s. s.willing; unites = willing-unites; none = refl }

module _ (half : Half) where
  -- is k in that mask of s
  abbrev pub on : VoteSet → ℕ → Bool
  on s k = has (half.mask s) k

  pub on-union : (s t : VoteSet) (k : ℕ) → on (union s t) k ≡ (on s k || on t k)
  on-union s t k = ap (λ (m : ℕ). has m k) (half.unites s t) ∙ has_or (half.mask s) (half.mask t) k

  on-empty : (k : ℕ) → on empty k ≡ false
  on-empty k = ap (λ (m : ℕ). has m k) half.none ∙ has-none k

  on-all : (m from : ℕ) (l : List VoteSet) (k : ℕ) → on (union_all m from l) k ≡ any_to m (λ j. has from j && on (nth empty l j) k)
  unfolding union_all any_to
  on-all zero from l k = on-empty k
  on-all (suc m) from l k = elim (split (has from (suc m))) [
    | inl e ↦ rw e (on-union (union_all m from l) (nth empty l (suc m)) k
        ∙ rw (on-all m from l k) (or_comm (any_to m (λ j. has from j && on (nth empty l j) k)) (on (nth empty l (suc m)) k)))
    | inr e ↦ rw e (on-all m from l k)
  ]

  module _ (m from : ℕ) (l : List VoteSet) where
    pub in_all : (j : ℕ) → 1 ≤ j → j ≤ m → has from j ≡ true → (k : ℕ) → on (nth empty l j) k ≡ true → on (union_all m from l) k ≡ true
    in_all j a b p k q =
        on-all m from l k ∙ any_of m (λ j. has from j && on (nth empty l j) k) j a b (and_i (has from j) (on (nth empty l j) k) p q)

    pub on-all_by : (k : ℕ) → on (union_all m from l) k ≡ true → Found m (λ j. has from j && on (nth empty l j) k)
    on-all_by k e = any_at m (λ j. has from j && on (nth empty l j) k) (sym (on-all m from l k) ∙ e)

  more : (m from : ℕ) (l : List VoteSet) (m' from' : ℕ) (l' : List VoteSet) → ((s : VoteSet) → Among m from l s → Among m' from' l' s)
      → (k : ℕ) → on (union_all m from l) k ≡ true → on (union_all m' from' l') k ≡ true
  more m from l m' from' l' h k e =
      let r : Found m (λ j. has from j && on (nth empty l j) k) = on-all_by m from l k e in
      let p : has from r.at ≡ true = and_l (has from r.at) (on (nth empty l r.at) k) r.holds in
      let t : Among m' from' l' (nth empty l r.at) = h (nth empty l r.at) (record { sender = r.at; low = r.low; high = r.high; sent = p; set = refl }) in
      in_all m' from' l' t.sender t.low t.high t.sent k
      (ap (λ (s : VoteSet). on s k) t.set ∙ and_r (has from r.at) (on (nth empty l r.at) k) r.holds)

  pub same-sets : (m from : ℕ) (l : List VoteSet) (m' from' : ℕ) (l' : List VoteSet)
      → ((s : VoteSet) → Among m from l s → Among m' from' l' s)
      → ((s : VoteSet) → Among m' from' l' s → Among m from l s)
      → half.mask (union_all m from l) ≡ half.mask (union_all m' from' l')
  same-sets m from l m' from' l' f g =
      same_set (half.mask (union_all m from l)) (half.mask (union_all m' from' l'))
      (λ k. same_test (on (union_all m from l) k) (on (union_all m' from' l') k) (more m from l m' from' l' f k) (more m' from' l' m from l g k))
