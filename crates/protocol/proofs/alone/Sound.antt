-- The invariant of a controller alone: what it holds tells one word of each controller (Telling), the counts are those of the senders, and no answer is
-- held before the second timeout. And the small changes that keep it.
use Prim.Native.Nat.{ℕ, suc, ◌≤◌}
use mathlib.Core.Path.{◌≡◌, refl, sym, ◌∙◌, ap, subst}
use mathlib.Core.Bool.{Bool, true, false}
use native.Mathlib.Omega.{arith}
use lib.ListN.{length, replicate, length-replicate}
use lib.Dec.{eqb}
use mathlib.Core.Logic.{inl, inr}
use borrow.Author.Tests.{eqb-true, eq-eqb}
use Rattle.ground.specs.Limit.{limit}
use Rattle.ground.specs.Tests.{split, no_both, and_l, and_r}
use Rattle.ground.specs.Quantify.{count_to}
use Rattle.ground.proofs.Sizes.{insert-size}
use Rattle.ground.specs.Mask.{has, insert}
use Rattle.ground.proofs.MaskLaws.{has-none, insert_only, none_has}
use Rattle.ground.specs.Lists.{nth, put, nth-put-at, length-put}
use Rattle.ground.specs.Update.{upd, upd_same, upd_other}
use Rattle.votes.specs.VoteSets.{empty, knows}
use Rattle.votes.specs.declared.VoteSet.{VoteSet}
use Rattle.model.specs.RangeLaws.{member}
use Rattle.model.specs.declared.Outcome.{Outcome}
use Rattle.protocol.specs.declared.Identity.{Identity}
use Rattle.protocol.specs.declared.Acks.{Acks}
use Rattle.protocol.specs.declared.HelpAnswers.{HelpAnswers}
use Rattle.protocol.specs.declared.Condition.{Condition}
use Rattle.protocol.specs.declared.Controller.{Controller}
use Rattle.protocol.specs.declared.Answer.{Answer}
use Rattle.protocol.specs.Controllers.{phase_in, phase, has_ack, has_helped, cleared, keep_ack, keep_helped, add_caller, propose, noting, conclude}
use Rattle.protocol.specs.Rules.{passing_over, becomes, proposing, propose_if_sufficient}
use Rattle.protocol.specs.Calls.{valid_identity}
use Rattle.protocol.specs.Benches.{fresh}
use Rattle.protocol.proofs.view.RuleCases.{sufficient_cases}
use Rattle.protocol.proofs.invariant.Words.{noting-phase}
use Rattle.protocol.proofs.invariant.Keeping.{bumped}
use Rattle.protocol.proofs.invariant.Arrivals.{count-zero}
use Rattle.protocol.proofs.alone.Telling.{Tells, empty-tells, or-tells, Holds}

-- the counts, and who is counted; the array has a place for each
pub record Counted (n : ℕ) (a : Acks) (h : HelpAnswers) : Type 0 where
  pub ack-count : a.cnt.0 ≡ count_to n (has a.from)
  pub answer-count : h.cnt_help.0 ≡ count_to n (has h.from)
  pub ack_senders : (j : ℕ) → has a.from j ≡ true → (1 ≤ j) × (j ≤ n)
  pub answer_senders : (j : ℕ) → has h.from j ≡ true → (1 ≤ j) × (j ≤ n)
  pub room : length a.sets ≡ limit

-- before the second timeout no answer is held, and it does not wait; before the own vote the own vote set does not know it
pub record Phased (i : ℕ) (k : Condition) (own : VoteSet) (h : HelpAnswers) (waiting : Bool) : Type 0 where
  pub no-answers : phase_in k ≤ 2 → h.from ≡ 0
  pub no_join : phase_in k ≤ 2 → h.votes ≡ empty
  pub idle : phase_in k ≤ 2 → waiting ≡ false
  pub unvoted : phase_in k ≡ 0 → knows own i ≡ false

pub record Sound (n i : ℕ) (c : Controller) : Type 0 where
  pub word : ℕ → Bool
  pub held : Holds word c.votes c.helped.votes c.acks
  pub counted : Counted n c.acks c.helped
  pub phased : Phased i c.condition c.votes c.helped c.help.waiting

-- of an answer: of the controller that it leaves
pub record Leaves (n i : ℕ) (a : Answer) : Type 0 where
  pub sound : Sound n i a.controller

pub passed_leaves : (n i : ℕ) (c : Controller) → Sound n i c → Leaves n i (passing_over c)
unfolding passing_over
passed_leaves n i c o = record { sound = o }

pub becomes_leaves : (n i : ℕ) (c : Controller) → Sound n i c → Leaves n i (becomes c)
unfolding becomes
becomes_leaves n i c o = record { sound = o }

-- one that holds nothing
pub cleared-sound : (n i : ℕ) (k : Condition) (c : Controller) → length c.acks.sets ≡ limit → Sound n i (cleared k c)
unfolding cleared
cleared-sound n i k c room = record {
  word = λ j. false;
  held = record { own-tells = empty-tells _; answers_tell = empty-tells _; acks_tell = λ j e. none_has j e };
  counted = record {
    ack-count = sym (count-zero n);
    answer-count = sym (count-zero n);
    ack_senders = λ j e. none_has j e;
    answer_senders = λ j e. none_has j e;
    room = room;
  };
  phased = record { no-answers = λ e. refl; no_join = λ e. refl; idle = λ e. refl; unvoted = λ e. has-none i };
}

pub fresh-sound : (n i : ℕ) → Sound n i (fresh (replicate limit empty))
unfolding fresh
fresh-sound n i = record {
  word = λ j. false;
  held = record { own-tells = empty-tells _; answers_tell = empty-tells _; acks_tell = λ j e. none_has j e };
  counted = record {
    ack-count = sym (count-zero n);
    answer-count = sym (count-zero n);
    ack_senders = λ j e. none_has j e;
    answer_senders = λ j e. none_has j e;
    room = length-replicate limit empty;
  };
  phased = record { no-answers = λ e. refl; no_join = λ e. refl; idle = λ e. refl; unvoted = λ e. has-none i };
}

-- small changes -----------------------------------------------------------------------------

module _ (n i : ℕ) (c : Controller) where
  -- a word is put
  pub put-sound : (o : Outcome) → Sound n i c → Sound n i (propose c o)
  unfolding propose
  put-sound v o = record {
    word = o.word;
    held = o.held;
    counted = o.counted;
    phased = record { no-answers = o.phased.no-answers; no_join = o.phased.no_join; idle = λ e. refl; unvoted = o.phased.unvoted };
  }

  -- an outcome is noted
  pub concluded-sound : (o : Outcome) → Sound n i c → Sound n i (conclude c o)
  unfolding conclude
  concluded-sound v o = let q : phase_in (noting c.condition v) ≡ phase c = noting-phase c.condition v in record {
    word = o.word;
    held = o.held;
    counted = o.counted;
    phased = record {
      no-answers = λ e. o.phased.no-answers (rw q at e);
      no_join = λ e. o.phased.no_join (rw q at e);
      idle = λ e. refl;
      unvoted = λ e. o.phased.unvoted (sym q ∙ e);
    };
  }

  pub called-sound : (j : ℕ) → Sound n i c → Sound n i (add_caller c j)
  unfolding add_caller
  called-sound j o = record { word = o.word; held = o.held; counted = o.counted; phased = o.phased }

  -- a vote set that is not held yet is kept as an acknowledgement
  module _ (small : n ≤ limit) (j : ℕ) (s : VoteSet) (lo : 1 ≤ j) (hi : j ≤ n) (w : ℕ → Bool) (h : Holds w c.votes c.helped.votes c.acks) (t : Tells w s)
      (o : Counted n c.acks c.helped) (p : Phased i c.condition c.votes c.helped c.help.waiting) where
    pub kept-sound : has_ack c j ≡ false → Sound n i (keep_ack c j s)
    unfolding keep_ack
    kept-sound e = record {
      word = w;
      held = record { own-tells = h.own-tells; answers_tell = h.answers_tell; acks_tell = λ k x. told k x };
      counted = record {
        ack-count = bumped n c.acks.cnt.0 c.acks.from small o.ack-count ∙ ap suc o.ack-count ∙ sym (insert-size n c.acks.from j lo hi (omega arith) e);
        answer-count = o.answer-count;
        ack_senders = λ k x. elim (insert_only c.acks.from j k x) [ inl z ↦ rw z (lo, hi) | inr y ↦ o.ack_senders k y ];
        answer_senders = o.answer_senders;
        room = length-put c.acks.sets j s ∙ o.room;
      };
      phased = p;
    }
      where
        fits : j ≤ length c.acks.sets
        fits = let r : length c.acks.sets ≡ limit = o.room in omega arith

        read : (k : ℕ) → nth empty (put c.acks.sets j s) k ≡ upd (nth empty c.acks.sets) j s k
        read k = nth-put-at empty c.acks.sets j s lo fits k

        told : (k : ℕ) → has (insert c.acks.from j) k ≡ true → Tells w (nth empty (put c.acks.sets j s) k)
        told k x = subst (Tells w) (sym (read k)) (elim (split (eqb k j)) [
          | inl z ↦ subst (λ (m : ℕ). Tells w (upd (nth empty c.acks.sets) j s m)) (sym (eqb-true k j z)) (subst (Tells w) (sym (upd_same (nth empty c.acks.sets) j s)) t)
          | inr z ↦ subst (Tells w) (sym (upd_other (nth empty c.acks.sets) j s k z)) (h.acks_tell k (before k z x))
        ])
          where
            before : (k : ℕ) → eqb k j ≡ false → has (insert c.acks.from j) k ≡ true → has c.acks.from k ≡ true
            before k z x = elim (insert_only c.acks.from j k x) [ inl q ↦ absurd (no_both (eqb k j) (eq-eqb k j q) z) | inr y ↦ y ]

    -- and one is joined to the help answers, after the second timeout
    pub joined-sound : has_helped c j ≡ false → 3 ≤ phase c → Sound n i (keep_helped c j s)
    unfolding keep_helped
    joined-sound e late = record {
      word = w;
      held = record { own-tells = h.own-tells; answers_tell = or-tells w c.helped.votes c.helped.votes s h.answers_tell t; acks_tell = h.acks_tell };
      counted = record {
        ack-count = o.ack-count;
        answer-count = bumped n c.helped.cnt_help.0 c.helped.from small o.answer-count ∙ ap suc o.answer-count ∙ sym (insert-size n c.helped.from j lo hi (omega arith) e);
        ack_senders = o.ack_senders;
        answer_senders = λ k x. elim (insert_only c.helped.from j k x) [ inl z ↦ rw z (lo, hi) | inr y ↦ o.answer_senders k y ];
        room = o.room;
      };
      phased = record { no-answers = λ x. far x; no_join = λ x. far x; idle = λ x. far x; unvoted = λ x. absurd (omega arith) };
    }
      where
        far : {X : Type 0} → phase c ≤ 2 → X
        far x = absurd (omega arith)

-- counting may put a word
pub counted_leaves : (n f i : ℕ) (a : Answer) → Leaves n i a → Leaves n i (propose_if_sufficient n f a)
counted_leaves n f i a o = sufficient_cases (Leaves n i) n f a (λ q. unfold proposing in record { sound = put-sound n i a.controller _ o.sound }) (λ q. o)

pub place_of : (me : Identity) → valid_identity me ≡ true → (1 ≤ me.id) × (me.id ≤ me.n)
unfolding valid_identity
place_of me e = let r = member me.n me.id (search (and_l, and_r)) in (r.low, r.high)
