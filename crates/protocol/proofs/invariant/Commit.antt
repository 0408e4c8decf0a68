-- One controller's answer put back keeps the invariant, if the answer fits. What the answer owes holds at its own place, and elsewhere all stays, since
-- what was sent only grows (Growth). Every event of an order goes through this.
use Prim.Native.Nat.{ℕ}
use mathlib.Core.Path.{◌≡◌, refl}
use mathlib.Core.Bool.{Bool, true, false, ◌||◌, cond, false≢true}
use lib.Dec.{eqb}
use mathlib.Core.Logic.{inl, inr}
use borrow.Author.Tests.{eqb-true}
use Rattle.ground.specs.Tests.{split, or-e, or_l}
use Rattle.ground.specs.Update.{upd, upd_same, upd_other, upd-all}
use Rattle.model.specs.Numbers.{says_move, is_stay}
use Rattle.protocol.specs.declared.Controller.{Controller}
use Rattle.protocol.specs.declared.Answer.{Answer}
use Rattle.protocol.specs.declared.Sent.{Sent}
use Rattle.protocol.specs.Rules.{becomes, passing_over}
use Rattle.protocol.specs.Benches.{sent_after}
use Rattle.protocol.proofs.view.View.{View}
use Rattle.protocol.proofs.view.Performed.{commit_v}
use Rattle.protocol.proofs.invariant.Invariant.{SentSound, Grown, Grows, AllWilling, StayGrounds, Own, HeldSound, Inv}
use Rattle.protocol.proofs.invariant.Growth.{sent_mono, all_mono, stay_mono, out_mono, ctl_mono}

pub grown-refl : (i : ℕ) (l : Sent) → Grown i l l
grown-refl i l = record { voted = λ e. e; will = λ e. refl; acked = λ e. e; ack = λ e. refl; helped = λ e. e; help = λ e. refl; calls = λ j e. e }

pub grows-upd : (L : ℕ → Sent) (i : ℕ) (l : Sent) → Grown i (L i) l → Grows L (upd L i l)
grows-upd L i l g = upd-all (λ k x. Grown k (L k) x) L i l g (λ k. grown-refl k (L k))

-- two functions changed at one place
pub upd_all₂ : {A B : Type 0} (P : ℕ → A → B → Type 0) (f : ℕ → A) (g : ℕ → B) (i : ℕ) (a : A) (b : B) → P i a b → ((k : ℕ) → P k (f k) (g k)) → (k : ℕ) → P k (upd f i a k) (upd g i b k)
upd_all₂ P f g i a b here there k = elim (split (eqb k i)) [
  | inl e ↦ rw (eqb-true k i e, upd_same f i a, upd_same g i b) here
  | inr e ↦ rw (upd_other f i a k e, upd_other g i b k e) (there k)
]

pub cond_or : (v a b p q : Bool) → cond v a b ≡ true → cond v (a || p) (b || q) ≡ true
cond_or true a b p q e = or_l a p e
cond_or false a b p q e = or_l b q e

module _ (n f : ℕ) where
  -- what an answer owes
  pub record Fits (b : View) (i : ℕ) (a : Answer) : Type 0 where
    pub grown : Grown i (b.state.sent i) (sent_after (b.state.sent i) a.sends)
    pub sent_ok : SentSound f (upd b.state.sent i (sent_after (b.state.sent i) a.sends)) i (sent_after (b.state.sent i) a.sends)
    pub own_ok : Own n f i a.controller (sent_after (b.state.sent i) a.sends)
    pub ctl_ok : HeldSound n f (upd b.state.sent i (sent_after (b.state.sent i) a.sends)) b.state.consensus.decision i a.controller
    pub move_ok : says_move a.proposal ≡ true → AllWilling n f (upd b.state.sent i (sent_after (b.state.sent i) a.sends))
    pub stay_ok : is_stay a.proposal ≡ true → StayGrounds n f (upd b.state.sent i (sent_after (b.state.sent i) a.sends))

  pub lines_after : (b : View) (i : ℕ) (l : Sent) → Inv n f b → Grown i (b.state.sent i) l → SentSound f (upd b.state.sent i l) i l → (k : ℕ) → SentSound f (upd b.state.sent i l) k (upd b.state.sent i l k)
  lines_after b i l inv g o =
      let L : ℕ → Sent = b.state.sent in
      let L' : ℕ → Sent = upd L i l in
      upd-all (λ k x. SentSound f L' k x) L i l o (λ k. sent_mono L L' (grows-upd L i l g) f k (L k) (inv.lines k))

  pub commit-inv : (b : View) (i : ℕ) (a : Answer) → Inv n f b → Fits b i a → Inv n f (commit_v b i a)
  unfolding commit_v
  commit-inv b i a inv t =
      let L : ℕ → Sent = b.state.sent in
      let L' : ℕ → Sent = upd L i (sent_after (L i) a.sends) in
      let g : Grows L L' = grows-upd L i (sent_after (L i) a.sends) t.grown in
      record {
        lines = lines_after b i (sent_after (L i) a.sends) inv t.grown t.sent_ok;
        owns = upd_all₂ (λ k c x. Own n f k c x) b.ctl L i a.controller (sent_after (L i) a.sends) t.own_ok inv.owns;
        ctls = upd-all (λ k c. HeldSound n f L' b.state.consensus.decision k c) b.ctl i a.controller t.ctl_ok (λ k. ctl_mono L L' g b.state.consensus.decision b.state.consensus.decision (λ v e. e) n f k (b.ctl k) (inv.ctls k));
        move = λ e. elim (or-e b.state.consensus.move_proposed (says_move a.proposal) e) [ inl p ↦ all_mono L L' g n f (inv.move p) | inr p ↦ t.move_ok p ];
        stay = λ e. elim (or-e b.state.consensus.stay_proposed (is_stay a.proposal) e) [ inl p ↦ stay_mono L L' g n f (inv.stay p) | inr p ↦ t.stay_ok p ];
        saved_old = inv.saved_old;
        saved_ok = λ k e v x. out_mono L L' g b.state.consensus.decision b.state.consensus.decision (λ v e. e) n f v (inv.saved_ok k e v x);
        chosen = λ v e. cond_or v b.state.consensus.move_proposed b.state.consensus.stay_proposed (says_move a.proposal) (is_stay a.proposal) (inv.chosen v e);
      }

  -- an answer that sends nothing and puts no word
  module _ (b : View) (inv : Inv n f b) (i : ℕ) where
    pub becomes_fits : (c : Controller) → Own n f i c (b.state.sent i) → HeldSound n f b.state.sent b.state.consensus.decision i c → Fits b i (becomes c)
    unfolding becomes sent_after
    becomes_fits c o k =
        let L : ℕ → Sent = b.state.sent in
        let g : Grows L (upd L i (L i)) = grows-upd L i (L i) (grown-refl i (L i)) in
        record {
          grown = grown-refl i (L i);
          sent_ok = sent_mono L (upd L i (L i)) g f i (L i) (inv.lines i);
          own_ok = o;
          ctl_ok = ctl_mono L (upd L i (L i)) g b.state.consensus.decision b.state.consensus.decision (λ v e. e) n f i c k;
          move_ok = λ e. absurd (false≢true e);
          stay_ok = λ e. absurd (false≢true e);
        }

    pub passed-over_fits : Fits b i (passing_over (b.ctl i))
    unfolding passing_over sent_after becomes
    passed-over_fits = let t : Fits b i (becomes (b.ctl i)) = becomes_fits (b.ctl i) (inv.owns i) (inv.ctls i) in
        record { grown = t.grown; sent_ok = t.sent_ok; own_ok = t.own_ok; ctl_ok = t.ctl_ok; move_ok = t.move_ok; stay_ok = t.stay_ok }
