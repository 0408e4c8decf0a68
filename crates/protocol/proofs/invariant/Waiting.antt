-- The waiting rule: where the answer without it fits, the answer with it does. The vote sets held tell the votes as they were cast (TrueVotes), so a
-- Move put is every vote willing; a Stay put has a backup's acknowledgement, or all help answers.
use Prim.Native.Nat.{ℕ, zero, suc, ◌+◌, ◌≤◌, ◌<◌}
use mathlib.Core.Path.{◌≡◌, refl, sym, ◌∙◌, ap}
use mathlib.Core.Bool.{Bool, true, false, not, ◌&&◌, false≢true}
use native.Mathlib.Omega.{arith}
use lib.Dec.{leb, ltb}
use mathlib.Core.Logic.{inl, inr}
use borrow.Author.Tests.{not-true, leb-true, le-leb}
use Rattle.ground.specs.Tests.{refuted, no_both, split, and_l, and_r, and_i}
use Rattle.ground.specs.Quantify.{Found, count_to, count-all}
use Rattle.ground.specs.Mask.{has}
use Rattle.ground.specs.Update.{upd}
use Rattle.votes.specs.VoteSets.{knows, wills, union, union_all, unanimous}
use Rattle.votes.specs.Joining.{join_next, unanimous_in, agreed_or}
use Rattle.votes.specs.Joining.{Joined}
use Rattle.std.specs.Prelude.{Ok}
use Rattle.votes.proofs.VoteLaws.{all-unanimous}
use Rattle.model.specs.Numbers.{word_of, says_move, is_stay}
use Rattle.model.specs.declared.Outcome.{Outcome}
use Rattle.protocol.specs.declared.Controller.{Controller}
use Rattle.protocol.specs.declared.Answer.{Answer}
use Rattle.protocol.specs.declared.Sent.{Sent}
use Rattle.protocol.specs.Controllers.{has_ack, ack_of, has_helped, propose}
use Rattle.protocol.specs.Rules.{verdict, ack_join, sufficient, answers_join, proposing, propose_if_sufficient, help_votes}
use Rattle.protocol.specs.Benches.{sent_after}
use Rattle.protocol.specs.NoContradiction.{acks_union}
use Rattle.protocol.proofs.view.RuleCases.{sufficient_cases}
use Rattle.protocol.proofs.view.View.{View}
use Rattle.protocol.proofs.invariant.Invariant.{ack_on, help_on, Truthful, SentSound, AllWilling, StayGrounds, Own, HeldAck, HeldHelp, HeldSound, Inv}
use Rattle.protocol.proofs.invariant.TrueVotes.{all_ok, joined_is, all-joined, move_all, stay-lacks}
use Rattle.protocol.proofs.invariant.Commit.{Fits, lines_after}

-- a count above 0 has a member
pub count-some : (m : ℕ) (p : ℕ → Bool) → 0 < count_to m p → Found m p
unfolding count_to
count-some zero p h = absurd (omega arith)
count-some (suc m) p h = elim (split (p (suc m))) [
  | inl e ↦ record { at = suc m; low = omega arith; high = omega arith; holds = e }
  | inr e ↦ let h' : 0 < 0 + count_to m p = (rw e at h) in let r : Found m p = count-some m p (omega arith) in record { at = r.at; low = r.low; high = omega arith; holds = r.holds }
]

pub not-above : (m : ℕ) → ltb 0 m ≡ false → m ≡ 0
not-above zero e = refl
not-above (suc m) e = absurd (no_both (ltb 0 (suc m)) (le-leb 1 (suc m) (omega arith)) e)

module _ (n f : ℕ) (L : ℕ → Sent) (ok : (k : ℕ) → SentSound f L k (L k)) where
  -- the acknowledgements held tell the votes
  pub ack-true : (i : ℕ) (c : Controller) → ((j : ℕ) → has_ack c j ≡ true → HeldAck n f L i (ack_of c j) j) → (j : ℕ) → has_ack c j ≡ true → Truthful L (ack_of c j)
  ack-true i c h j e = rw (h j e).copy ((ok j).ack_ok (h j e).acked)

  pub acks-true : (i : ℕ) (c : Controller) → ((j : ℕ) → has_ack c j ≡ true → HeldAck n f L i (ack_of c j) j) → Truthful L (acks_union n c)
  acks-true i c h = all_ok L n c.acks.from c.acks.sets (ack-true i c h)

  -- so they agree: their join is the union
  pub acks-joined : (i : ℕ) (c : Controller) → ((j : ℕ) → has_ack c j ≡ true → HeldAck n f L i (ack_of c j) j) → ack_join n c ≡ Ok (acks_union n c)
  unfolding ack_join
  acks-joined i c h = all-joined L n c.acks.from c.acks.sets (ack-true i c h)

  pub acks-word : (i : ℕ) (c : Controller) → ((j : ℕ) → has_ack c j ≡ true → HeldAck n f L i (ack_of c j) j) → unanimous_in n (ack_join n c) ≡ unanimous n (acks_union n c)
  acks-word i c h = ap (λ (j : Joined). unanimous_in n j) (acks-joined i c h)

  -- and so does the own vote set with them: the help vote set is their union
  pub help-is : (i : ℕ) (c : Controller) → Truthful L c.votes → ((j : ℕ) → has_ack c j ≡ true → HeldAck n f L i (ack_of c j) j) → help_votes n c ≡ union (acks_union n c) c.votes
  unfolding help_votes
  help-is i c o h = ap (λ (j : Joined). agreed_or c.votes (join_next j c.votes)) (acks-joined i c h) ∙ joined_is L c.votes (acks_union n c) c.votes (acks-true i c h) o

  -- Stay put over a join of acknowledgements that has a backup's
  pub ack-stay : (i : ℕ) (c : Controller) (j : ℕ) → 1 ≤ j → j ≤ f → j ≤ n → has_ack c j ≡ true → HeldAck n f L i (ack_of c j) j → unanimous n (acks_union n c) ≡ false → StayGrounds n f L
  ack-stay i c j a b b' e h s = inl (record {
    at = j;
    low = a;
    high = b;
    acked = h.acked;
    stays = refuted (unanimous n (ack_on (L j))) (λ m. no_both (unanimous n (union_all n c.acks.from c.acks.sets)) (all-unanimous n c.acks.from c.acks.sets n j a b' e (rw h.copy m)) s);
  })

  -- Stay put over all help answers
  pub help-stay : (c : Controller) → Truthful L c.helped.votes → ((j : ℕ) → has_helped c j ≡ true → HeldHelp n f L c.helped.votes j) → ((j : ℕ) → f < j → j ≤ n → has_helped c j ≡ true) → unanimous n c.helped.votes ≡ false → StayGrounds n f L
  help-stay c o h every s =
      let r : Found n (λ k. not (knows c.helped.votes k && wills c.helped.votes k)) = stay-lacks n c.helped.votes s in
      inr (record {
        at = r.at;
        low = r.low;
        high = r.high;
        helped = λ j a b. (h j (every j a b)).helped;
        lacks = λ j a b. refuted (wills (help_on (L j)) r.at) (λ e.
            let w : wills c.helped.votes r.at ≡ true = (h j (every j a b)).covers r.at e in
            no_both (knows c.helped.votes r.at && wills c.helped.votes r.at)
            (and_i (knows c.helped.votes r.at) (wills c.helped.votes r.at) (o.within r.at w) w)
            (not-true (knows c.helped.votes r.at && wills c.helped.votes r.at) r.holds));
      })

at_least : (w : Bool) (m x : ℕ) → (w && leb m x) ≡ true → m ≤ x
at_least w m x e = leb-true m x (and_r w (leb m x) e)

-- a word put is one of the two
pub move-put : (n : ℕ) (x : Bool) → says_move (word_of x) ≡ true → x ≡ true
move-put n true e = refl
move-put n false e = e

pub stay-put : (n : ℕ) (x : Bool) → is_stay (word_of x) ≡ true → x ≡ false
stay-put n true e = sym e
stay-put n false e = refl

-- a controller that has put its word waits no more, and is else what it was
module _ (n f : ℕ) where
  pub own_put : (i : ℕ) (c : Controller) (l : Sent) (o : Outcome) → Own n f i c l → Own n f i (propose c o) l
  unfolding propose
  own_put i c l v o = record {
    phased = o.phased;
    helping = record {
      help-copy = o.helping.help-copy;
      answered = o.helping.answered;
      waiter = λ e. absurd (false≢true e);
      idle = λ e. refl;
      early = o.helping.early;
    };
    counted = o.counted;
  }

  pub ctl-put : (L : ℕ → Sent) (ch : Outcome) (i : ℕ) (c : Controller) (v : Outcome) → HeldSound n f L ch i c → HeldSound n f L ch i (propose c v)
  unfolding propose
  ctl-put L ch i c v o = record { votes_ok = o.votes_ok; acks_ok = o.acks_ok; helps_ok = o.helps_ok; helped_ok = o.helped_ok; calls_ok = o.calls_ok; outcome_ok = o.outcome_ok }

module _ (n f : ℕ) (f<n : f < n) (L : ℕ → Sent) (ok : (k : ℕ) → SentSound f L k (L k)) (ch : Outcome) (i : ℕ) (c : Controller) (l : Sent) (w : Own n f i c l) (o : HeldSound n f L ch i c) where
  settled-move : unanimous_in n (answers_join n c) ≡ true → AllWilling n f L
  unfolding answers_join
  settled-move e = elim (split (ltb 0 c.acks.cnt.0)) [
    | inl h ↦ move_all L n f (acks_union n c) (acks-true n f L ok i c o.acks_ok) (sym (acks-word n f L ok i c o.acks_ok) ∙ (rw h at e))
    | inr h ↦ move_all L n f c.helped.votes o.helped_ok (rw h at e)
  ]

  settled-stay : f < i → n ≤ c.acks.cnt.0 + c.helped.cnt_help.0 + f → unanimous_in n (answers_join n c) ≡ false → StayGrounds n f L
  unfolding answers_join
  settled-stay a q e = elim (split (ltb 0 c.acks.cnt.0)) [
    | inl h ↦ let x : 1 ≤ c.acks.cnt.0 = leb-true 1 c.acks.cnt.0 h in
        let y : c.acks.cnt.0 ≡ count_to n (has c.acks.from) = w.counted.ack-count in
        let r : Found n (has c.acks.from) = count-some n (has c.acks.from) (omega arith) in
        let t : HeldAck n f L i (ack_of c r.at) r.at = o.acks_ok r.at r.holds in
        ack-stay n f L ok i c r.at r.low (t.backup a) r.high r.holds t (sym (acks-word n f L ok i c o.acks_ok) ∙ (rw h at e))
    | inr h ↦ let z : c.acks.cnt.0 ≡ 0 = not-above c.acks.cnt.0 h in
        let y : c.helped.cnt_help.0 ≡ count_to n (has c.helped.from) = w.counted.help-count in
        help-stay n f L ok c o.helped_ok o.helps_ok (count-all n f (has c.helped.from) (λ k x. (o.helps_ok k x).beyond) (omega arith)) (rw h at e)
  ]

module _ (n f : ℕ) (f<n : f < n) (b : View) (inv : Inv n f b) (i : ℕ) where
  pub settle_fits : (a : Answer) → Fits n f b i a → Fits n f b i (propose_if_sufficient n f a)
  unfolding proposing sufficient verdict sent_after
  settle_fits a t =
      let L' : ℕ → Sent = upd b.state.sent i (sent_after (b.state.sent i) a.sends) in
      let ok : (k : ℕ) → SentSound f L' k (L' k) = lines_after n f b i (sent_after (b.state.sent i) a.sends) inv t.grown t.sent_ok in
      let c : Controller = a.controller in
      sufficient_cases (Fits n f b i) n f a
      (λ e. record {
        grown = t.grown;
        sent_ok = t.sent_ok;
        own_ok = own_put n f i c (sent_after (b.state.sent i) a.sends) (verdict n (answers_join n c)) t.own_ok;
        ctl_ok = ctl-put n f L' b.state.consensus.decision i c (verdict n (answers_join n c)) t.ctl_ok;
        move_ok = λ p. settled-move n f f<n L' ok b.state.consensus.decision i c (sent_after (b.state.sent i) a.sends) t.own_ok t.ctl_ok (move-put n (unanimous_in n (answers_join n c)) p);
        stay_ok = λ p. settled-stay n f f<n L' ok b.state.consensus.decision i c (sent_after (b.state.sent i) a.sends) t.own_ok t.ctl_ok
            (t.own_ok.helping.waiter (and_l c.help.waiting _ e))
            (let reached = at_least c.help.waiting _ (c.acks.cnt.0 + c.helped.cnt_help.0 + f) e in omega arith)
            (stay-put n (unanimous_in n (answers_join n c)) p);
      })
      (λ e. t)
