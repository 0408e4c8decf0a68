-- The heart of agreement, for any n and f: a direct decision of Move excludes a Stay put to the arbiter. A backup's Stay was seen by the decision with
-- the word Move; and one of all help vote sets knows the vote that is to be willing on none. Rests on the invariant alone.
use Prim.Native.Nat.{ℕ, suc, ◌≤◌, ◌<◌}
use mathlib.Core.Path.{◌≡◌, refl, sym, ◌∙◌}
use mathlib.Core.Bool.{Bool, true, false}
use native.Mathlib.Omega.{arith}
use native.Mathlib.Decide.{dec_le}
use mathlib.Core.Logic.{◌⊎◌, inl, inr}
use Rattle.ground.specs.Tests.{no_both}
use Rattle.votes.specs.VoteSets.{knows, wills, unanimous}
use Rattle.votes.proofs.VoteLaws.{unanimous-known}
use Rattle.model.specs.declared.Outcome.TheVariants.{Stay, Move}
use Rattle.protocol.specs.declared.Sent.{Sent}
use Rattle.protocol.proofs.view.View.{View}
use Rattle.protocol.proofs.invariant.Invariant.{will_by, ack_on, help_on, frozen_by, SentSound, AllWilling, HelpMove, SecondAck, DirectMove, OutcomeGrounds, StayGrounds, Inv}

module _ (n f : ℕ) (f<n : f < n) where
  module _ (L : ℕ → Sent) (ok : (k : ℕ) → SentSound f L k (L k)) where
    -- a vote known on a help vote set is willing where all are
    known-willing : AllWilling n f L → (j : ℕ) → frozen_by j (L j) ≡ true → (k : ℕ) → 1 ≤ k → k ≤ n → knows (help_on (L j)) k ≡ true → wills (help_on (L j)) k ≡ true
    known-willing all j h k a b e = ((ok j).help_ok h).true-to k e ∙ (all k a b).1

    -- Stay from a backup's acknowledgement: the direct decision saw it with the word Move. Stay from all help vote sets: some help vote set knows the vote that
    -- is willing on none of them, namely that of a direct decider beyond the backups, or of the second backup for a backup's vote, or the voter's own.
    direct_excludes-stay : AllWilling n f L → DirectMove n f L → StayGrounds n f L → ⊥
    direct_excludes-stay all d (inl s) = no_both (unanimous n (ack_on (L s.at))) (d.acks s.at s.low s.high).1 s.stays
    direct_excludes-stay all d (inr s) = by-more d.more
      where
        clash : (j : ℕ) → f < j → j ≤ n → knows (help_on (L j)) s.at ≡ true → ⊥
        clash j a b e = no_both (wills (help_on (L j)) s.at) (known-willing all j (s.helped j a b) s.at s.low s.high e) (s.lacks j a b)

        by-more : HelpMove n f L ⊎ SecondAck n f L → ⊥
        by-more (inl m) = clash m.at m.low m.high (unanimous-known n (help_on (L m.at)) m.moves s.at s.low s.high)
        by-more (inr m) = elim (dec_le s.at f) [
          | yes h ↦ clash (suc f) (omega arith) f<n ((ok (suc f)).ack_in-help m.acked (s.helped (suc f) (omega arith) f<n) s.at (m.knows s.at s.low h))
          | no h ↦ clash s.at (omega arith) s.high (s.helped s.at (omega arith) s.high)
        ]

  move-stay : Move ≡ Stay → ⊥
  move-stay e = let z : ◌≡◌ {A = ℕ} 0 1 = cc in omega arith

  -- Move and Stay have no grounds in one world
  clash : (b : View) → Inv n f b → OutcomeGrounds n f b.state.sent b.state.consensus.decision true → OutcomeGrounds n f b.state.sent b.state.consensus.decision false → ⊥
  clash b inv p (inl u) = no_both (will_by u.at (b.state.sent u.at)) (p.0 u.at u.low u.high).1 u.unwilling
  clash b inv p (inr c) = elim p.1 [
    | inl d ↦ direct_excludes-stay b.state.sent inv.lines p.0 d (inv.stay (inv.chosen false c))
    | inr c' ↦ absurd (move-stay (sym c' ∙ c))
  ]

  -- two outcomes with grounds in one world are equal
  pub agree : (b : View) → Inv n f b → (x y : Bool) → OutcomeGrounds n f b.state.sent b.state.consensus.decision x → OutcomeGrounds n f b.state.sent b.state.consensus.decision y → x ≡ y
  agree b inv true true p q = refl
  agree b inv false false p q = refl
  agree b inv true false p q = absurd (clash b inv p q)
  agree b inv false true p q = absurd (clash b inv q p)
