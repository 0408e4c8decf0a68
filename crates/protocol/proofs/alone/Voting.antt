-- The own vote keeps the invariant: what contradicts it is dropped (strays/Dropped), and nobody has put its word on its own vote set before; so with it
-- all that is held tells one word of each controller (Telling).
use Prim.Native.Nat.{ℕ, suc, ◌≤◌}
use mathlib.Core.Path.{◌≡◌, sym, ◌∙◌, ap, subst}
use mathlib.Core.Bool.{Bool, true, false, ◌&&◌, cond}
use mathlib.Core.List.{List}
use native.Mathlib.Omega.{arith}
use lib.ListN.{length}
use lib.Dec.{eqb, leb}
use borrow.Author.Tests.{eqb-true, not-true}
use Rattle.ground.specs.Limit.{limit}
use Rattle.ground.specs.Tests.{no_both, and_l, and_r}
use Rattle.ground.specs.Mask.{width, has}
use Rattle.ground.proofs.Inclusion.{within_has}
use Rattle.ground.specs.Lists.{nth}
use Rattle.votes.specs.VoteSets.{empty, knows, wills, single}
use Rattle.votes.proofs.VoteLaws.{single-knows, single-wills, single-within}
use Rattle.votes.specs.Joining.{contradicts}
use Rattle.votes.proofs.JoinLaws.{at_agree, empty-agrees}
use Rattle.votes.specs.declared.VoteSet.{VoteSet}
use Rattle.protocol.specs.declared.Identity.{Identity}
use Rattle.protocol.specs.declared.Acks.{Acks}
use Rattle.protocol.specs.declared.Controller.{Controller}
use Rattle.protocol.specs.Controllers.{runs, phase, has_ack, ack_of, advance, learn, aim, drop_to, drop_contradicting}
use Rattle.protocol.specs.Rules.{vote_rule}
use Rattle.protocol.specs.Calls.{valid_identity}
use Rattle.protocol.specs.Strays.{MayVote}
use Rattle.protocol.proofs.strays.Dropped.{sets-kept, drops, drop_only, drop-counted}
use Rattle.protocol.proofs.strays.Strayed.{small_of}
use Rattle.protocol.proofs.alone.Telling.{Tells, or-tells, Extended, extended}
use Rattle.protocol.proofs.alone.Sound.{Counted, Sound, place_of}

module _ (me : Identity) (w : Bool) (t : ℕ) (c : Controller) (ok : MayVote me c) (o : Sound me.n me.id c) where
  abbrev n : ℕ
  n = me.n

  abbrev i : ℕ
  i = me.id

  abbrev s : VoteSet
  s = single me.id w

  abbrev left : Acks
  left = drop_to me.n (single me.id w) c.acks

  valid : valid_identity me ≡ true
  valid = and_l (valid_identity me) _ (and_l (valid_identity me && runs c) _ ok)

  pub few : n ≤ width
  few = let x : n ≤ limit = small_of me valid in omega arith

  pub place : (1 ≤ i) × (i ≤ n)
  place = place_of me valid

  pub stage : phase c ≡ 0
  stage = eqb-true _ _ (and_r (valid_identity me && runs c) _ ok)

  pub known_is : (k : ℕ) → knows s k ≡ eqb k i
  known_is k = single-knows i w k place.0 (let x : n ≤ width = few in let y : i ≤ n = place.1 in omega arith)

  pub willing-is : (k : ℕ) → wills s k ≡ (w && eqb k i)
  willing-is k = single-wills i w k place.0 (let x : n ≤ width = few in let y : i ≤ n = place.1 in omega arith)

  -- nobody has told it its own word on its own vote set yet, and no answers are held
  pub own-free : contradicts c.votes s ≡ false
  own-free = at_agree c.votes s (λ k x y. absurd (no_both (knows c.votes i) (subst (λ (j : ℕ). knows c.votes j ≡ true) (eqb-true k i (sym (known_is k) ∙ y)) x) (o.phased.unvoted stage)))

  answers-free : contradicts c.helped.votes s ≡ false
  answers-free = ap (λ (x : VoteSet). contradicts x s) (o.phased.no_join (omega (arith, stage))) ∙ empty-agrees s

  sets_are : (j : ℕ) → nth empty left.sets j ≡ ack_of c j
  sets_are j = ap (λ (l : List VoteSet). nth empty l j) (sets-kept s c.acks n)

  before : (j : ℕ) → has left.from j ≡ true → has_ack c j ≡ true
  before j e = drop_only s c.acks n j few e

  left-place : (j : ℕ) → has left.from j ≡ true → (1 ≤ j) × (j ≤ n)
  left-place j e = o.counted.ack_senders j (before j e)

  acks-free : (j : ℕ) → has left.from j ≡ true → contradicts (nth empty left.sets j) s ≡ false
  acks-free j e = ap (λ (x : VoteSet). contradicts x s) (sets_are j) ∙ not-true _ (and_r (has_ack c j) _ (sym (drops s c.acks n j (left-place j e).0 (left-place j e).1 few) ∙ e))

  told-left : Extended c.votes c.helped.votes left s
  told-left = extended n o.word c.votes c.helped.votes left
      (record { own-tells = o.held.own-tells; answers_tell = o.held.answers_tell; acks_tell = λ j e. subst (Tells o.word) (sym (sets_are j)) (o.held.acks_tell j (before j e)) })
      left-place s (within_has s.willing s.known (single-within i w)) own-free answers-free acks-free

  counted-left : Counted n left c.helped
  counted-left = record {
    ack-count = drop-counted s c.acks n n (omega arith) few o.counted.ack-count;
    answer-count = o.counted.answer-count;
    ack_senders = left-place;
    answer_senders = o.counted.answer_senders;
    room = ap (λ (l : List VoteSet). length l) (sets-kept s c.acks n) ∙ o.counted.room;
  }

  begun : (b : Bool) → ◌≡◌ {A = ℕ} (cond b 1 2) 0 → ⊥
  begun true e = omega arith
  begun false e = omega arith

  pub voted-sound : Sound n i (vote_rule n me.f i w t (drop_contradicting n s c)).controller
  unfolding vote_rule advance aim learn drop_contradicting
  voted-sound = record {
    word = told-left.word;
    held = record {
      own-tells = or-tells told-left.word c.votes c.votes s told-left.held.own-tells told-left.new;
      answers_tell = told-left.held.answers_tell;
      acks_tell = told-left.held.acks_tell;
    };
    counted = counted-left;
    phased = record {
      no-answers = λ e. o.phased.no-answers (omega (arith, stage));
      no_join = λ e. o.phased.no_join (omega (arith, stage));
      idle = λ e. o.phased.idle (omega (arith, stage));
      unvoted = λ e. absurd (begun (leb i (suc me.f)) e);
    };
  }
