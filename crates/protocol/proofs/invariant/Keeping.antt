-- Keeping an acknowledgement or a help answer keeps the controller's parts of the invariant: the count follows the senders, and what is kept is a copy
-- of what was sent, or joined to what tells the votes as they were cast (TrueVotes).
use Prim.Native.Nat.{ℕ, suc, ◌≤◌, ◌<◌}
use mathlib.Core.Path.{◌≡◌, sym, ◌∙◌, ap}
use mathlib.Core.Bool.{true, false}
use native.Mathlib.Omega.{arith}
use lib.ListN.{length}
use borrow.Author.Tests.{lt-ltb}
use Rattle.ground.specs.Tests.{or_l, or_r}
use Rattle.ground.specs.Quantify.{count_to, count_le}
use Rattle.ground.specs.Mask.{has}
use Rattle.ground.proofs.MaskLaws.{has-insert, insert-is, insert-keeps}
use Rattle.ground.specs.Update.{upd-all}
use Rattle.ground.proofs.Sizes.{insert-size}
use Rattle.ground.specs.Lists.{nth-put, length-put, nth}
use Rattle.votes.specs.VoteSets.{empty, wills, union}
use Rattle.votes.proofs.VoteLaws.{union-wills}
use Rattle.votes.specs.declared.VoteSet.{VoteSet}
use Rattle.ground.specs.Limit.{limit}
use Rattle.model.specs.declared.Outcome.{Outcome}
use Rattle.protocol.specs.declared.Controller.{Controller}
use Rattle.protocol.specs.declared.Sent.{Sent}
use Rattle.protocol.specs.Controllers.{bump, phase, has_ack, has_helped, keep_ack, keep_helped}
use Rattle.protocol.proofs.invariant.Invariant.{help_on, frozen_by, Truthful, Own, HeldAck, HeldHelp, HeldSound}
use Rattle.protocol.proofs.invariant.TrueVotes.{union_ok, joined_is}
use Rattle.protocol.proofs.invariant.Commit.{upd_all₂}

-- a byte counts the senders of a lock
pub bumped : (n k m : ℕ) → n ≤ limit → k ≡ count_to n (has m) → bump k ≡ suc k
bumped n k m s e = let h : count_to n (has m) ≤ n = count_le n (has m) in rw (lt-ltb k 255 (omega arith))

module _ (n f : ℕ) (small : n ≤ limit) where
  pub own-ack-kept : (i : ℕ) (c : Controller) (l : Sent) (j : ℕ) (s : VoteSet) → 1 ≤ j → j ≤ n → has_ack c j ≡ false → Own n f i c l → Own n f i (keep_ack c j s) l
  unfolding keep_ack
  own-ack-kept i c l j s a b q o = record {
    phased = o.phased;
    helping = o.helping;
    counted = record {
      own-ack = λ x y. insert-keeps c.acks.from j i (o.counted.own-ack x y);
      ack-count = bumped n c.acks.cnt.0 c.acks.from small o.counted.ack-count ∙ ap suc o.counted.ack-count ∙ sym (insert-size n c.acks.from j a b (omega arith) q);
      help-count = o.counted.help-count;
      room = λ x y. let h : n ≤ length c.acks.sets = o.counted.room x y in rw (length-put c.acks.sets j s) h;
    };
  }

  pub ctl-ack-kept : (L : ℕ → Sent) (ch : Outcome) (i : ℕ) (c : Controller) (j : ℕ) (s : VoteSet) → 1 ≤ j → j ≤ n → j ≤ length c.acks.sets → HeldAck n f L i s j → HeldSound n f L ch i c → HeldSound n f L ch i (keep_ack c j s)
  unfolding keep_ack
  ctl-ack-kept L ch i c j s a b' b h o = record {
    votes_ok = o.votes_ok;
    helped_ok = o.helped_ok;
    calls_ok = o.calls_ok;
    helps_ok = o.helps_ok;
    outcome_ok = o.outcome_ok;
    acks_ok = rw (insert-is c.acks.from j a (omega arith), nth-put empty c.acks.sets j s a b) (upd_all₂ (λ k x t. x ≡ true → HeldAck n f L i t k) (has c.acks.from) (nth empty c.acks.sets) j true s (λ q. h) o.acks_ok);
  }

  pub own-help-kept : (i : ℕ) (c : Controller) (l : Sent) (j : ℕ) (s : VoteSet) → 1 ≤ j → j ≤ n → 3 ≤ phase c → has_helped c j ≡ false → Own n f i c l → Own n f i (keep_helped c j s) l
  unfolding keep_helped
  own-help-kept i c l j s a b p q o = record {
    phased = o.phased;
    helping = record {
      help-copy = o.helping.help-copy;
      answered = o.helping.answered;
      waiter = o.helping.waiter;
      idle = o.helping.idle;
      early = λ e. absurd (omega arith);
    };
    counted = record {
      own-ack = o.counted.own-ack;
      ack-count = o.counted.ack-count;
      help-count = bumped n c.helped.cnt_help.0 c.helped.from small o.counted.help-count ∙ ap suc o.counted.help-count ∙ sym (insert-size n c.helped.from j a b (omega arith) q);
      room = o.counted.room;
    };
  }

  pub ctl-help-kept : (L : ℕ → Sent) (ch : Outcome) (i : ℕ) (c : Controller) (j : ℕ) → 1 ≤ j → j ≤ n → frozen_by j (L j) ≡ true → f < j → Truthful L (help_on (L j)) → HeldSound n f L ch i c → HeldSound n f L ch i (keep_helped c j (help_on (L j)))
  unfolding keep_helped
  ctl-help-kept L ch i c j a b h far ok o = record {
    votes_ok = o.votes_ok;
    acks_ok = o.acks_ok;
    outcome_ok = o.outcome_ok;
    calls_ok = o.calls_ok;
    helped_ok = rw (joined_is L c.helped.votes c.helped.votes (help_on (L j)) o.helped_ok ok) (union_ok L c.helped.votes (help_on (L j)) o.helped_ok ok);
    helps_ok = λ k e. rw (joined_is L c.helped.votes c.helped.votes (help_on (L j)) o.helped_ok ok) (upd-all (λ k x. x ≡ true → HeldHelp n f L (union c.helped.votes (help_on (L j))) k) (has c.helped.from) j true
        (λ q. record { helped = h; beyond = far; covers = λ x y. union-wills c.helped.votes (help_on (L j)) x ∙ or_r (wills c.helped.votes x) (wills (help_on (L j)) x) y })
        (λ k e. let t : HeldHelp n f L c.helped.votes k = o.helps_ok k e in record { helped = t.helped; beyond = t.beyond; covers = λ x y. union-wills c.helped.votes (help_on (L j)) x ∙ or_l (wills c.helped.votes x) (wills (help_on (L j)) x) (t.covers x y) })
        k (sym (has-insert c.helped.from j k a (omega arith)) ∙ e));
  }
