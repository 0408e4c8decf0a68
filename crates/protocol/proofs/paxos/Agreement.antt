-- From the invariant: no two words are chosen. A word put later has a majority's promises, and one of these took the chosen ballot (Meet), so a ballot
-- not below it is reported; down the ballots reported the word is the same.
use Prim.Native.Nat.{ℕ, zero, suc, ◌≤◌, ◌<◌}
use mathlib.Core.Path.{◌≡◌, sym, ◌∙◌, ap}
use mathlib.Core.Bool.{Bool, true, cond}
use mathlib.Core.Logic.{◌⊎◌, inl, inr}
use native.Mathlib.Omega.{arith}
use native.Mathlib.Decide.{dec_le, ℕ_discrete}
use Rattle.ground.specs.Tests.{no_both}
use Rattle.model.specs.Numbers.{word_of, is_none}
use Rattle.protocol.proofs.paxos.Meet.{Shared, most, most_meet}
use Rattle.protocol.proofs.paxos.View.{View}
use Rattle.protocol.proofs.paxos.Invariant.{IsPut, TopSound, Inv}

module _ (n : ℕ) (v : View) (inv : Inv n v) where
  -- a ballot that a majority took has a word
  pub chosen-put : (b : ℕ) → most n (v.taken b) ≡ true → IsPut (v.word b)
  chosen-put b m = let s : Shared n (v.taken b) (v.taken b) = most_meet n (v.taken b) (v.taken b) m m in inv.takings b s.at s.one

  -- a later put reports no ballot below the chosen one
  reported : (a b : ℕ) → a < b → most n (v.taken a) ≡ true → IsPut (v.word b) → a ≤ v.top b
  reported a b l m p =
      let s : Shared n (v.taken a) (v.received b) = most_meet n (v.taken a) (v.received b) m (inv.puts b p).quorum in
      let c : (v.promised b s.at ≡ true) × (v.report b s.at ≤ v.top b) = inv.counted b s.at s.other in
      let h : a ≤ v.report b s.at = (inv.promises b s.at c.0).honest a l s.one in
      let t : v.report b s.at ≤ v.top b = c.1 in
      omega arith

  -- what was chosen in ballot a is the word of every later put; step by step, down the highest ballots reported
  module _ (a b : ℕ) (l : a < b) (m : most n (v.taken a) ≡ true) (p : IsPut (v.word b)) where
    not-zero : v.top b ≡ 0 → ⊥
    not-zero e = let z : a ≡ 0 = omega (arith, reported a b l m p) in no_both (is_none (v.word 0)) inv.no_zero (ap (λ (x : ℕ). is_none (v.word x)) (sym z) ∙ chosen-put a m)

    descend : ((c : ℕ) → c < b → a < c → IsPut (v.word c) → v.word c ≡ v.word a) → (v.top b ≡ 0) ⊎ TopSound (v.received b) v.taken v.word b (v.top b) (v.top_word_of b) → (v.top b ≡ 0) ⊎ (v.word b ≡ v.top_word_of b) → v.word b ≡ v.word a
    descend ih (inl e) f = absurd (not-zero e)
    descend ih (inr t) (inl e) = absurd (not-zero e)
    descend ih (inr t) (inr f) = elim (ℕ_discrete a (v.top b)) [
      | yes e ↦ f ∙ (sym t.at_top ∙ ap v.word (sym e))
      | no e ↦ f ∙ (sym t.at_top ∙ ih (v.top b) t.earlier (omega (arith, reported a b l m p)) (ap is_none t.at_top ∙ t.some))
    ]

  pub later : (k a b : ℕ) → b ≤ k → a < b → most n (v.taken a) ≡ true → IsPut (v.word b) → v.word b ≡ v.word a
  later zero a b h l m p = absurd (omega arith)
  later (suc k) a b h l m p = descend a b l m p (λ c x y q. later k a c (omega arith) y m q) (inv.tops b) (inv.puts b p).follows

  -- AGREEMENT: the words of two ballots, each taken by a majority, are equal
  pub agree : (a b : ℕ) → most n (v.taken a) ≡ true → most n (v.taken b) ≡ true → v.word a ≡ v.word b
  agree a b p q = elim (ℕ_discrete a b) [
    | yes e ↦ ap v.word e
    | no e ↦ elim (dec_le a b) [
      | yes l ↦ sym (later b a b (omega arith) (omega arith) p (chosen-put b q))
      | no l ↦ later a b a (omega arith) (omega arith) q (chosen-put a p)
    ]
  ]

  -- a word chosen was put to the ballots by a controller, in this order
  pub proposed : (a : ℕ) (x : Bool) → v.word a ≡ word_of x → cond x v.move v.stay ≡ true
  proposed a x e = inv.put-proposed a x e
