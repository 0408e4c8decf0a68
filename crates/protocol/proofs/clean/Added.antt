-- What an accepted event itself adds, as the clean order needs it: a vote is cast, or known where it arrives; an acknowledgement is held; a timeout
-- leads to the next phase. By the event's questions, its rule and the invariant.
use Prim.Native.Nat.{ℕ, suc, ◌≤◌}
use mathlib.Core.Path.{◌≡◌, refl, sym, ◌∙◌, ap, subst}
use mathlib.Core.Bool.{Bool, true, false, not, ◌&&◌, ◌||◌, cond, false≢true}
use native.Mathlib.Omega.{arith}
use lib.Dec.{leb, eqb}
use mathlib.Core.Logic.{◌⊎◌, inl, inr}
use borrow.Author.Tests.{leb-true, le-leb, eqb-true}
use Rattle.ground.specs.Tests.{split, and_l, and_r, or_r, or-e, eqb_same}
use Rattle.ground.proofs.MaskLaws.{insert-own}
use Rattle.ground.specs.Mask.{width, has}
use Rattle.ground.specs.Update.{upd_same}
use Rattle.votes.specs.VoteSets.{knows}
use Rattle.votes.proofs.VoteLaws.{single-knows, single-wills, union-knows}
use Rattle.votes.specs.declared.VoteSet.{VoteSet}
use Rattle.ground.specs.Limit.{limit}
use Rattle.model.specs.Ranges.{is_controller}
use Rattle.model.specs.Routes.{vote_route}
use Rattle.model.specs.declared.Kind.TheVariants.{Vote, Ack}
use Rattle.model.specs.declared.Event.{Event}
use Rattle.model.specs.declared.Event.TheVariants.{Cast, Deliver, Timeout}
use Rattle.protocol.specs.declared.Controller.{Controller}
use Rattle.protocol.specs.declared.Answer.{Answer}
use Rattle.protocol.specs.Controllers.{runs, phase, has_ack, advance, learn, keep_ack, keep_helped, freeze, await, propose, conclude}
use Rattle.protocol.specs.Rules.{passing_over, becomes, proposing, verdict, vote_rule, vote_arrives, first_timeout, ack_join, propose_if_sufficient, frozen, ready, calls_help, second_timeout, ack_arrives, help_votes}
use Rattle.protocol.specs.Calls.{arrives}
use Rattle.protocol.specs.Benches.{sent_after}
use Rattle.protocol.specs.Questions.{first_no}
use Rattle.protocol.proofs.view.RuleCases.{ack_cases, sufficient_cases, second_cases}
use Rattle.protocol.proofs.view.View.{View, accepts, ask_l, ask_r}
use Rattle.protocol.proofs.view.Performed.{commit_v, timeout_rule, perform_v}
use Rattle.protocol.proofs.invariant.Invariant.{voted_by, will_by, acked_by, Truthful, Inv}
use Rattle.protocol.proofs.invariant.TrueVotes.{vote_ok, joined_is}

module _ (n f : ℕ) where
  -- a vote that arrives before the first timeout is known
  known-after : (b : View) (i j : ℕ) (s : VoteSet) → Truthful b.state.sent (b.ctl j).votes → Truthful b.state.sent s → knows s i ≡ true → phase (b.ctl j) ≤ 1 → knows ((commit_v b j (vote_arrives s (b.ctl j))).ctl j).votes i ≡ true
  unfolding commit_v
  known-after b i j s o p e h = rw (upd_same b.ctl j (vote_arrives s (b.ctl j)).controller) learned
    where
      learned : knows (vote_arrives s (b.ctl j)).controller.votes i ≡ true
      learned = unfold vote_arrives becomes learn in rw (le-leb (phase (b.ctl j)) 1 h) (ap (λ (x : VoteSet). knows x i) (joined_is b.state.sent (b.ctl j).votes (b.ctl j).votes s o p) ∙ union-knows (b.ctl j).votes s i ∙ or_r (knows (b.ctl j).votes i) (knows s i) e)

  -- an acknowledgement that arrives before the second timeout is held
  record Holds (i : ℕ) (a : Answer) : Type 0 where
    is : has_ack a.controller i ≡ true

  settle-holds : (i : ℕ) (a : Answer) → Holds i a → Holds i (propose_if_sufficient n f a)
  unfolding proposing propose
  settle-holds i a h = sufficient_cases (Holds i) n f a (λ q. record { is = h.is }) (λ q. h)

  ack-held : (i : ℕ) (s : VoteSet) (c : Controller) → 1 ≤ i → i ≤ width → phase c ≤ 2 → Holds i (ack_arrives n f i s c)
  ack-held i s c a b h = ack_cases (Holds i) n f i s c
      (λ e. settle-holds i _ kept) (λ e. unfold passing_over in record { is = already (has_ack c i) (leb (phase c) 2) c.help.waiting (le-leb (phase c) 2 h) e })
    where
      kept : Holds i (becomes (keep_ack c i s))
      kept = unfold becomes keep_ack in record { is = insert-own c.acks.from i a b }

      already : (x y z : Bool) → y ≡ true → (not x && (y || z)) ≡ false → x ≡ true
      already true y z p q = refl
      already false true z p q = sym q
      already false false z p q = absurd (false≢true p)

  held_after : (b : View) (i j : ℕ) (s : VoteSet) → 1 ≤ i → i ≤ width → phase (b.ctl j) ≤ 2 → has_ack ((commit_v b j (ack_arrives n f i s (b.ctl j))).ctl j) i ≡ true
  unfolding commit_v
  held_after b i j s a w h = rw (upd_same b.ctl j (ack_arrives n f i s (b.ctl j)).controller) (ack-held i s (b.ctl j) a w h).is

  -- a vote begins the order
  begun-after : (b : View) (i : ℕ) (w : Bool) (t : ℕ) → 1 ≤ phase ((commit_v b i (vote_rule n f i w t (b.ctl i))).ctl i)
  unfolding commit_v vote_rule advance
  begun-after b i w t = rw (upd_same b.ctl i _) (low (leb i (suc f)))
    where
      low : (x : Bool) → 1 ≤ cond x 1 2
      low true = omega arith
      low false = omega arith

  told-after : (b : View) (i : ℕ) (w : Bool) (t : ℕ) → 1 ≤ i → i ≤ width
      → (voted_by i ((commit_v b i (vote_rule n f i w t (b.ctl i))).state.sent i) ≡ true) × (will_by i ((commit_v b i (vote_rule n f i w t (b.ctl i))).state.sent i) ≡ w)
  unfolding commit_v vote_rule sent_after
  told-after b i w t lo hi = (rw (upd_same b.state.sent i _) (single-knows i w i lo hi ∙ eqb_same i), rw (upd_same b.state.sent i _) (single-wills i w i lo hi ∙ and_yes w (eqb i i) (eqb_same i)))
    where
      and_yes : (x y : Bool) → y ≡ true → (x && y) ≡ x
      and_yes true y e = e
      and_yes false y e = refl

  -- the phase after a timeout
  pub record Reaches (s : ℕ) (a : Answer) : Type 0 where
    pub is : phase a.controller ≡ s

  settle_reaches : (s : ℕ) (a : Answer) → Reaches s a → Reaches s (propose_if_sufficient n f a)
  unfolding proposing propose
  settle_reaches s a h = sufficient_cases (Reaches s) n f a (λ q. record { is = h.is }) (λ q. h)

  pub second_reaches : (j : ℕ) (c : Controller) → Reaches 3 (second_timeout n f j c)
  second_reaches j c = second_cases (Reaches 3) n f j c (λ d. direct) (λ e. put) (λ e. settle_reaches 3 _ waits)
    where
      direct : Reaches 3 (ready (help_votes n c) (conclude (frozen n c) (verdict n (ack_join n c))))
      direct = unfold ready conclude frozen freeze advance in record { is = refl }

      put : Reaches 3 (proposing (ready (help_votes n c) (frozen n c)) (verdict n (ack_join n c)))
      put = unfold proposing ready propose frozen freeze advance in record { is = refl }

      waits : Reaches 3 (calls_help n f j (help_votes n c) (frozen n c))
      waits = unfold calls_help keep_helped await frozen freeze advance in record { is = refl }

  first_reaches : (j : ℕ) (c : Controller) → Reaches 2 (first_timeout n f j c)
  unfolding first_timeout advance
  first_reaches j c = record { is = refl }

  pub reached-after : (b : View) (i : ℕ) (a : Answer) (s : ℕ) → Reaches s a → phase ((commit_v b i a).ctl i) ≡ s
  unfolding commit_v
  reached-after b i a s h = rw (upd_same b.ctl i a.controller) h.is

  pub record InRange (i : ℕ) : Type 0 where
    pub lo : 1 ≤ i
    pub hi : i ≤ n

  pub record NewVote (b b' : View) (k : ℕ) (w : Bool) : Type 0 where
    pub cast : voted_by k (b'.state.sent k) ≡ true
    pub will : will_by k (b'.state.sent k) ≡ w
    pub ran : runs (b.ctl k) ≡ true
    pub begun : 1 ≤ phase (b'.ctl k)

  pub record NewVoteTo (b b' : View) (i j : ℕ) : Type 0 where
    pub ran : runs (b.ctl j) ≡ true
    pub route : vote_route f i j ≡ true
    pub known : phase (b.ctl j) ≤ 1 → knows (b'.ctl j).votes i ≡ true

  pub record NewAckTo (b b' : View) (i j : ℕ) : Type 0 where
    pub acked : acked_by i (b.state.sent i) ≡ true
    pub held : phase (b.ctl j) ≤ 2 → has_ack (b'.ctl j) i ≡ true

  pub record NewTimeout (b b' : View) (i : ℕ) : Type 0 where
    pub ran : runs (b.ctl i) ≡ true
    pub at : InRange i
    pub at-phase : (phase (b.ctl i) ≡ 1) ⊎ (phase (b.ctl i) ≡ 2)
    pub after : 2 ≤ phase (b'.ctl i)

  -- what an accepted event adds
  pub record New (e : Event) (b b' : View) : Type 0 where
    pub vote : (i : ℕ) (w : Bool) (t : ℕ) → e ≡ Cast i w t → NewVote b b' i w
    pub vote-to : (i j : ℕ) → e ≡ Deliver i j Vote → NewVoteTo b b' i j
    pub ack-to : (i j : ℕ) → e ≡ Deliver i j Ack → NewAckTo b b' i j
    pub timeout : (i : ℕ) → e ≡ Timeout i → NewTimeout b b' i

  module _ (s : n ≤ limit) (b : View) (inv : Inv n f b) where
    abbrev after : Event → View
    after e = perform_v n f b e

    vote-new : (i : ℕ) (w : Bool) (t : ℕ) → accepts n f b (Cast i w t) ≡ true → NewVote b (after (Cast i w t)) i w
    unfolding perform_v accepts first_no is_controller
    vote-new i w t q =
        let lo : 1 ≤ i = leb-true _ _ (search (ask_l, ask_r, and_l, and_r) depth 14) in let hi : i ≤ n = leb-true _ _ (search (ask_l, ask_r, and_l, and_r) depth 14) in
        record { cast = (told-after b i w t lo (omega arith)).0; will = (told-after b i w t lo (omega arith)).1; ran = (search (ask_l, ask_r, and_l, and_r) depth 14); begun = begun-after b i w t }

    vote-to-new : (i j : ℕ) → accepts n f b (Deliver i j Vote) ≡ true → NewVoteTo b (after (Deliver i j Vote)) i j
    unfolding perform_v accepts first_no arrives
    vote-to-new i j q =
        let sent : has (b.state.sent i).vote.to j ≡ true = (search (ask_l, ask_r, and_l, and_r) depth 14) in
        record { ran = (search (ask_l, ask_r, and_l, and_r) depth 14); route = ((inv.lines i).vote-to j sent).1; known = known-after b i j _ (inv.ctls j).votes_ok (vote_ok b.state.sent f i (inv.lines i)) ((inv.lines i).vote-to j sent).0 }

    ack-to-new : (i j : ℕ) → accepts n f b (Deliver i j Ack) ≡ true → NewAckTo b (after (Deliver i j Ack)) i j
    unfolding perform_v accepts first_no is_controller arrives
    ack-to-new i j q =
        let sent : has (b.state.sent i).ack.to j ≡ true = (search (ask_l, ask_r, and_l, and_r) depth 14) in
        let lo : 1 ≤ i = leb-true _ _ (search (ask_l, ask_r, and_l, and_r) depth 14) in let hi : i ≤ n = leb-true _ _ (search (ask_l, ask_r, and_l, and_r) depth 14) in
        record { acked = ((inv.lines i).ack-to j sent).0; held = held_after b i j _ lo (omega arith) }

    timeout-new : (i : ℕ) → accepts n f b (Timeout i) ≡ true → NewTimeout b (after (Timeout i)) i
    unfolding perform_v accepts first_no is_controller timeout_rule
    timeout-new i q = record {
      ran = (search (ask_l, ask_r, and_l, and_r) depth 14);
      at = record { lo = leb-true _ _ (search (ask_l, ask_r, and_l, and_r) depth 14); hi = leb-true _ _ (search (ask_l, ask_r, and_l, and_r) depth 14) };
      at-phase = elim (or-e (eqb (phase (b.ctl i)) 1) (eqb (phase (b.ctl i)) 2) (search (ask_l, ask_r, and_l, and_r) depth 14)) [ inl e ↦ inl (eqb-true _ _ e) | inr e ↦ inr (eqb-true _ _ e) ];
      after = elim (split (eqb (phase (b.ctl i)) 1)) [
        | inl e ↦ rw e (omega (arith, reached-after b i _ 2 (first_reaches i (b.ctl i))))
        | inr e ↦ rw e (omega (arith, reached-after b i _ 3 (second_reaches i (b.ctl i))))
      ];
    }

  pub perform-new : n ≤ limit → (b : View) (e : Event) → Inv n f b → accepts n f b e ≡ true → New e b (perform_v n f b e)
  perform-new s b e inv q = record {
    vote = λ i w t z. subst (λ x. NewVote b (perform_v n f b x) i w) (sym z) (vote-new s b inv i w t (rw z at q));
    vote-to = λ i j z. subst (λ x. NewVoteTo b (perform_v n f b x) i j) (sym z) (vote-to-new s b inv i j (rw z at q));
    ack-to = λ i j z. subst (λ x. NewAckTo b (perform_v n f b x) i j) (sym z) (ack-to-new s b inv i j (rw z at q));
    timeout = λ i z. subst (λ x. NewTimeout b (perform_v n f b x) i) (sym z) (timeout-new s b inv i (rw z at q));
  }
