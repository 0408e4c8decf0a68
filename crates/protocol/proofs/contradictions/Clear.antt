-- On the bench the test of vote sets finds nothing: what was sent suits its kind, tells the votes as they were cast, and so contradicts nothing that a
-- controller holds; and nobody knows a vote before it is cast. Rests on the invariant and on what stays in range (ranges/Ranges).
use Prim.Native.Nat.{ℕ, zero, suc, ◌≤◌}
use mathlib.Core.Path.{◌≡◌, refl, sym, ◌∙◌, ap, subst}
use mathlib.Core.Bool.{Bool, true, false, ◌&&◌}
use native.Mathlib.Omega.{arith}
use lib.Dec.{eqb}
use mathlib.Core.Logic.{inl, inr}
use borrow.Author.Tests.{leb-true, eqb-true, eq-eqb}
use Rattle.ground.specs.Limit.{limit}
use Rattle.ground.specs.Tests.{no_both, refuted, and_l, and_r, and_i, same_test}
use Rattle.ground.specs.Mask.{has, insert, none_above, within}
use Rattle.ground.proofs.MaskLaws.{insert-own, insert_only, none_has}
use Rattle.ground.proofs.Inclusion.{le-none-above, has_within, same_set}
use Rattle.votes.specs.VoteSets.{empty, knows, single, union}
use Rattle.votes.proofs.VoteLaws.{single-knows}
use Rattle.votes.specs.Joining.{contradicts}
use Rattle.votes.proofs.JoinLaws.{at_agree, join-agreed}
use Rattle.votes.specs.declared.VoteSet.{VoteSet}
use Rattle.std.specs.Prelude.{Ok}
use Rattle.model.specs.Ranges.{is_controller}
use Rattle.model.specs.declared.Kind.{Kind}
use Rattle.model.specs.declared.Kind.TheVariants.{Vote, Ack, Help, Helped}
use Rattle.model.specs.declared.Event.{Event}
use Rattle.model.specs.declared.Event.TheVariants.{Cast, Deliver}
use Rattle.message_record.specs.Messages.{bits_in_range, knows_for_kind, suits}
use Rattle.protocol.specs.declared.Acks.{Acks}
use Rattle.protocol.specs.declared.Controller.{Controller}
use Rattle.protocol.specs.declared.Sent.{Sent}
use Rattle.protocol.specs.Controllers.{runs, phase, has_ack, ack_of, drop_if, drop_to, drop_contradicting}
use Rattle.protocol.specs.Rules.{ack_join, help_votes}
use Rattle.protocol.specs.Calls.{contradicts_held}
use Rattle.protocol.specs.Benches.{message, of_kind}
use Rattle.protocol.specs.Questions.{first_no}
use Rattle.protocol.specs.NoContradiction.{Agreeing, JoinIsUnion, acks_union}
use Rattle.protocol.specs.Strays.{OneHeld, own, answers, ack}
use Rattle.protocol.proofs.view.Held.{held_found}
use Rattle.protocol.proofs.view.View.{View, shared_v, accepts, ask_l, ask_r}
use Rattle.protocol.proofs.view.Performed.{Clear}
use Rattle.protocol.proofs.invariant.Invariant.{voted_by, acked_by, frozen_by, Truthful, Inv}
use Rattle.protocol.proofs.invariant.TrueVotes.{empty_ok, vote_ok, union_ok, true_agree}
use Rattle.protocol.proofs.invariant.Waiting.{ack-true, acks-true, acks-joined, help-is}
use Rattle.protocol.proofs.ranges.Ranges.{AllIn, WithinSet}

-- vote sets
pub within_of : (s : VoteSet) → WithinSet s → within s.willing s.known ≡ true
within_of s h = has_within s.willing s.known h

module _ (G H : ℕ → Type 0) (g0 : G 0) (n f : ℕ) (small : n ≤ limit) (v : View) (inv : Inv n f v) (h : AllIn G H g0 n f v) where
  abbrev L : ℕ → Sent
  L = v.state.sent

  -- a vote set that tells the votes as they were cast has no bit above n
  abbrev clean : VoteSet → Bool
  clean s = none_above n s.known && none_above n s.willing && within s.willing s.known

  told : (s : VoteSet) → Truthful L s → clean s ≡ true
  told s t = and_i (none_above n s.known && none_above n s.willing) (within s.willing s.known)
      (and_i (none_above n s.known) (none_above n s.willing) (le-none-above n s.known low) (le-none-above n s.willing (λ k e. low k (t.within k e))))
      (within_of s t.within)
    where
      low : (k : ℕ) → knows s k ≡ true → k ≤ n
      low k e = (h.lines k).caster (t.cast k e)

  -- 9: "a vote knows just its sender"
  just : (i : ℕ) → 1 ≤ i → i ≤ n → voted_by i (L i) ≡ true → eqb (L i).vote.votes.known (insert 0 i) ≡ true
  just i lo hi e = eq-eqb _ _ (same_set (L i).vote.votes.known (insert 0 i) (λ k. same_test _ _
      (λ x. rw ((inv.lines i).vote_only k x) (insert-own 0 i lo (omega arith)))
      (λ x. elim (insert_only 0 i k x) [ inl z ↦ rw z e | inr z ↦ none_has k z ])))

  pub suits-sent : (kind : Kind) (i j : ℕ) → 1 ≤ i → i ≤ n → has (of_kind kind (L i)).to j ≡ true → suits (message (shared_v n f v) kind i j (L i)) ≡ true
  unfolding suits bits_in_range knows_for_kind
  suits-sent Vote i j lo hi e = let x : voted_by i (L i) ≡ true = ((inv.lines i).vote-to j e).0 in and_i (clean (L i).vote.votes) _ (told (L i).vote.votes (vote_ok L f i (inv.lines i))) (just i lo hi x)
  suits-sent Ack i j lo hi e = let x : acked_by i (L i) ≡ true = ((inv.lines i).ack-to j e).0 in and_i (clean (L i).ack.votes) _ (told (L i).ack.votes ((inv.lines i).ack_ok x)) x
  suits-sent Help i j lo hi e = subst (λ (s : VoteSet). (none_above n s.known && none_above n s.willing && within s.willing s.known && eqb s.known 0) ≡ true) (sym (h.lines i).call) blank
    where
      blank : (none_above n 0 && none_above n 0 && within 0 0 && eqb 0 0) ≡ true
      blank = and_i (none_above n 0 && none_above n 0 && within 0 0) true (told empty (empty_ok L)) refl
  suits-sent Helped i j lo hi e = let x : frozen_by i (L i) ≡ true = (inv.lines i).helped-to j e in and_i (clean (L i).helped.votes) _ (told (L i).helped.votes ((inv.lines i).help_ok x)) x

  true-sent : (kind : Kind) (i j : ℕ) → has (of_kind kind (L i)).to j ≡ true → Truthful L (of_kind kind (L i)).votes
  true-sent Vote i j e = vote_ok L f i (inv.lines i)
  true-sent Ack i j e = (inv.lines i).ack_ok ((inv.lines i).ack-to j e).0
  true-sent Help i j e = subst (Truthful L) (sym (h.lines i).call) (empty_ok L)
  true-sent Helped i j e = (inv.lines i).help_ok ((inv.lines i).helped-to j e)

  ack-told : (i j : ℕ) → has_ack (v.ctl i) j ≡ true → Truthful L (ack_of (v.ctl i) j)
  ack-told i = ack-true n f L inv.lines i (v.ctl i) (inv.ctls i).acks_ok

  -- such a vote set contradicts none that is held
  none-held : (i : ℕ) (s : VoteSet) → Truthful L s → contradicts_held n (v.ctl i) s ≡ false
  none-held i s t = refuted (contradicts_held n (v.ctl i) s) (λ e. nobody (held_found n (v.ctl i) s e))
    where
      nobody : OneHeld n (v.ctl i) s → ⊥
      nobody (own p) = no_both (contradicts (v.ctl i).votes s) p (true_agree L _ s (inv.ctls i).votes_ok t)
      nobody (answers p) = no_both (contradicts (v.ctl i).helped.votes s) p (true_agree L _ s (inv.ctls i).helped_ok t)
      nobody (ack j lo hi h p) = no_both (contradicts (ack_of (v.ctl i) j) s) p (true_agree L _ s (ack-told i j h) t)

  -- and no two that are held contradict each other
  pub all_agree : (i : ℕ) → Agreeing (v.ctl i)
  all_agree i = record {
    own-answers = true_agree L _ _ (inv.ctls i).votes_ok (inv.ctls i).helped_ok;
    own-ack = λ j e. true_agree L _ _ (inv.ctls i).votes_ok (ack-told i j e);
    answers-ack = λ j e. true_agree L _ _ (inv.ctls i).helped_ok (ack-told i j e);
    acks = λ j k e e'. true_agree L _ _ (ack-told i j e) (ack-told i k e');
  }

  -- so every join of theirs is there, and is the union
  union-of : (s t : VoteSet) → Truthful L s → Truthful L t → JoinIsUnion s t
  union-of s t p q = join-agreed s t (true_agree L s t p q)

  pub acks-union : (i : ℕ) → ack_join n (v.ctl i) ≡ Ok (acks_union n (v.ctl i))
  acks-union i = acks-joined n f L inv.lines i (v.ctl i) (inv.ctls i).acks_ok

  pub help-union : (i : ℕ) → help_votes n (v.ctl i) ≡ union (acks_union n (v.ctl i)) (v.ctl i).votes
  help-union i = help-is n f L inv.lines i (v.ctl i) (inv.ctls i).votes_ok (inv.ctls i).acks_ok

  help-told : (i : ℕ) → Truthful L (help_votes n (v.ctl i))
  help-told i = subst (Truthful L) (sym (help-union i)) (union_ok L (acks_union n (v.ctl i)) (v.ctl i).votes (acks-true n f L inv.lines i (v.ctl i) (inv.ctls i).acks_ok) (inv.ctls i).votes_ok)

  pub own-answer-union : (i : ℕ) → JoinIsUnion (v.ctl i).helped.votes (help_votes n (v.ctl i))
  own-answer-union i = union-of (v.ctl i).helped.votes (help_votes n (v.ctl i)) (inv.ctls i).helped_ok (help-told i)

  pub delivered-union : (i j : ℕ) (kind : Kind) → accepts n f v (Deliver i j kind) ≡ true
      → JoinIsUnion (v.ctl j).votes (of_kind kind (L i)).votes × JoinIsUnion (v.ctl j).helped.votes (of_kind kind (L i)).votes
  unfolding accepts first_no
  delivered-union i j kind q =
      let sent : has (of_kind kind (L i)).to j ≡ true = (search (ask_l, ask_r, and_l, and_r) depth 14) in
      (union-of (v.ctl j).votes _ (inv.ctls j).votes_ok (true-sent kind i j sent), union-of (v.ctl j).helped.votes _ (inv.ctls j).helped_ok (true-sent kind i j sent))

  -- nothing that is held knows a vote that is not cast: the own vote drops nothing
  module _ (i : ℕ) (w : Bool) (lo : 1 ≤ i) (hi : i ≤ n) (r : runs (v.ctl i) ≡ true) (st : phase (v.ctl i) ≡ 0) where
    abbrev c : Controller
    c = v.ctl i

    own-agrees : (s : VoteSet) → Truthful L s → contradicts s (single i w) ≡ false
    own-agrees s t = at_agree s (single i w) (λ k x y.
        absurd (no_both (voted_by i (L i)) (rw (eqb-true k i (sym (single-knows i w k lo (omega arith)) ∙ y)) at (t.cast k x)) ((inv.owns i).phased.fresh0 r st)))

    kept-one : (j : ℕ) → (has_ack c j && contradicts (ack_of c j) (single i w)) ≡ false
    kept-one j = refuted (has_ack c j && contradicts (ack_of c j) (single i w)) (λ e.
        no_both (contradicts (ack_of c j) (single i w)) (and_r (has_ack c j) _ e) (own-agrees (ack_of c j) (ack-told i j (and_l (has_ack c j) _ e))))

    kept-to : (m : ℕ) → drop_to m (single i w) c.acks ≡ c.acks
    unfolding drop_to drop_if
    kept-to zero = refl
    kept-to (suc m) = rw (kept-to m) (rw (kept-one (suc m)))

    nothing-dropped : drop_contradicting n (single i w) c ≡ c
    unfolding drop_contradicting
    nothing-dropped = ap (λ (a : Acks). record { condition = c.condition; votes = c.votes; acks = a; helped = c.helped; help = c.help; proposal = c.proposal; gate = c.gate }) (kept-to n)

    vote-union : JoinIsUnion c.votes (single i w)
    vote-union = join-agreed c.votes (single i w) (own-agrees c.votes (inv.ctls i).votes_ok)

  pub own-vote-union : (i : ℕ) (w : Bool) (t : ℕ) → accepts n f v (Cast i w t) ≡ true → JoinIsUnion (v.ctl i).votes (single i w)
  unfolding accepts first_no is_controller
  own-vote-union i w t q = vote-union i w (leb-true _ _ (search (ask_l, ask_r, and_l, and_r) depth 14)) (leb-true _ _ (search (ask_l, ask_r, and_l, and_r) depth 14)) (search (ask_l, ask_r, and_l, and_r) depth 14) (eqb-true _ _ (search (ask_l, ask_r, and_l, and_r) depth 14))

  pub clear : (e : Event) → accepts n f v e ≡ true → Clear n f v e
  clear e q = record { own = own; delivered = delivered }
    where
      own : (i : ℕ) (w : Bool) (t : ℕ) → e ≡ Cast i w t → drop_contradicting n (single i w) (v.ctl i) ≡ v.ctl i
      own i w t z = let a : accepts n f v (Cast i w t) ≡ true = rw z at q in unfold accepts first_no is_controller in
          nothing-dropped i w (leb-true _ _ (search (ask_l, ask_r, and_l, and_r) depth 14)) (leb-true _ _ (search (ask_l, ask_r, and_l, and_r) depth 14)) (search (ask_l, ask_r, and_l, and_r) depth 14) (eqb-true _ _ (search (ask_l, ask_r, and_l, and_r) depth 14))

      delivered : (i j : ℕ) (kind : Kind) → e ≡ Deliver i j kind → (suits (message (shared_v n f v) kind i j (L i)) ≡ true) × (contradicts_held n (v.ctl j) (of_kind kind (L i)).votes ≡ false)
      delivered i j kind z = let a : accepts n f v (Deliver i j kind) ≡ true = rw z at q in unfold accepts first_no is_controller in
          let sent : has (of_kind kind (L i)).to j ≡ true = (search (ask_l, ask_r, and_l, and_r) depth 14) in
          (suits-sent kind i j (leb-true _ _ (search (ask_l, ask_r, and_l, and_r) depth 14)) (leb-true _ _ (search (ask_l, ask_r, and_l, and_r) depth 14)) sent, none-held j _ (true-sent kind i j sent))
