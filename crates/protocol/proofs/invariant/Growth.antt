-- What has grounds keeps them as more is sent: what is once voted, acknowledged or frozen stays as it is (`Grows`), and grounds ask of nothing that it
-- was not sent. Part by part of the invariant.
use Prim.Native.Nat.{ℕ, suc}
use mathlib.Core.Path.{◌≡◌, sym, ◌∙◌}
use mathlib.Core.Bool.{Bool, true, false}
use mathlib.Core.Logic.{inl, inr}
use Rattle.votes.specs.declared.VoteSet.{VoteSet}
use Rattle.model.specs.Numbers.{word_of}
use Rattle.model.specs.declared.Outcome.{Outcome}
use Rattle.protocol.specs.declared.Controller.{Controller}
use Rattle.protocol.specs.declared.Sent.{Sent}
use Rattle.protocol.specs.Controllers.{ack_of}
use Rattle.protocol.proofs.invariant.Invariant.{ack_on, help_on, Truthful, SentSound, Grows, AllWilling, DirectMove, OutcomeGrounds, StayGrounds, HeldAck, HeldHelp, HeldSound}

module _ (L L' : ℕ → Sent) (g : Grows L L') where
  pub truthful_mono : (s : VoteSet) → Truthful L s → Truthful L' s
  truthful_mono s o = record {
    cast = λ k e. (g k).voted (o.cast k e);
    true-to = λ k e. o.true-to k e ∙ sym ((g k).will (o.cast k e));
    within = o.within;
  }

  pub sent_mono : (f i : ℕ) (l : Sent) → SentSound f L i l → SentSound f L' i l
  sent_mono f i l o = record {
    ack_ok = λ e. truthful_mono (ack_on l) (o.ack_ok e);
    help_ok = λ e. truthful_mono (help_on l) (o.help_ok e);
    ack_in-help = o.ack_in-help;
    vote-to = o.vote-to;
    ack-to = o.ack-to;
    help-to = o.help-to;
    helped-to = o.helped-to;
    vote-within = o.vote-within;
    vote_only = o.vote_only;
  }

  module _ (n f : ℕ) where
    pub all_mono : AllWilling n f L → AllWilling n f L'
    all_mono h k a b = ((g k).voted (h k a b).0, (g k).will (h k a b).0 ∙ (h k a b).1)

    direct_mono : DirectMove n f L → DirectMove n f L'
    direct_mono d = record {
      acks = λ j a b. ((g j).acked (d.acks j a b).0, rw ((g j).ack (d.acks j a b).0) (d.acks j a b).1);
      more = elim d.more [
        | inl m ↦ inl (record { at = m.at; low = m.low; high = m.high; helped = (g m.at).helped m.helped; moves = rw ((g m.at).help m.helped) m.moves })
        | inr m ↦ inr (record { acked = (g (suc f)).acked m.acked; knows = λ k a b. rw ((g (suc f)).ack m.acked) (m.knows k a b) })
      ];
    }

    pub stay_mono : StayGrounds n f L → StayGrounds n f L'
    stay_mono (inl s) = inl (record { at = s.at; low = s.low; high = s.high; acked = (g s.at).acked s.acked; stays = rw ((g s.at).ack s.acked) s.stays })
    stay_mono (inr s) = inr (record { at = s.at; low = s.low; high = s.high; helped = λ j a b. (g j).helped (s.helped j a b); lacks = λ j a b. rw ((g j).help (s.helped j a b)) (s.lacks j a b) })

    ack_mono : (i : ℕ) (s : VoteSet) (j : ℕ) → HeldAck n f L i s j → HeldAck n f L' i s j
    ack_mono i s j h = record { acked = (g j).acked h.acked; copy = h.copy ∙ sym ((g j).ack h.acked); backup = h.backup }

    help_mono : (s : VoteSet) (j : ℕ) → HeldHelp n f L s j → HeldHelp n f L' s j
    help_mono s j h = record { helped = (g j).helped h.helped; covers = λ k e. h.covers k (rw ((g j).help h.helped) at e); beyond = h.beyond }

module _ (L L' : ℕ → Sent) (g : Grows L L') (ch ch' : Outcome) (gc : (v : Bool) → ch ≡ word_of v → ch' ≡ word_of v) (n f : ℕ) where
  pub out_mono : (v : Bool) → OutcomeGrounds n f L ch v → OutcomeGrounds n f L' ch' v
  out_mono true (a, inl d) = (all_mono L L' g n f a, inl (direct_mono L L' g n f d))
  out_mono true (a, inr c) = (all_mono L L' g n f a, inr (gc true c))
  out_mono false (inl u) = inl (record { at = u.at; low = u.low; high = u.high; voted = (g u.at).voted u.voted; unwilling = (g u.at).will u.voted ∙ u.unwilling })
  out_mono false (inr c) = inr (gc false c)

  pub ctl_mono : (i : ℕ) (c : Controller) → HeldSound n f L ch i c → HeldSound n f L' ch' i c
  ctl_mono i c o = record {
    votes_ok = truthful_mono L L' g c.votes o.votes_ok;
    acks_ok = λ j e. ack_mono L L' g n f i (ack_of c j) j (o.acks_ok j e);
    helps_ok = λ j e. help_mono L L' g n f c.helped.votes j (o.helps_ok j e);
    helped_ok = truthful_mono L L' g c.helped.votes o.helped_ok;
    calls_ok = λ j e. (g j).calls i (o.calls_ok j e);
    outcome_ok = λ v e. out_mono v (o.outcome_ok v e);
  }
