-- The answers to the own vote, to each kind of message, at the first timeout, a stop and a restore fit: what is kept is a copy of what was sent
-- (Keeping), what is sent tells the votes as they were cast (TrueVotes), and who is cleared has an outcome from a checkpoint of this order alone.
use Prim.Native.Nat.{ℕ, zero, suc, ◌≤◌, ◌<◌}
use mathlib.Core.Path.{◌≡◌, refl, sym, ◌∙◌, ap, subst}
use mathlib.Core.Bool.{Bool, true, false, not, ◌&&◌, ◌||◌, cond, false≢true}
use native.Mathlib.Omega.{arith}
use lib.Bits.{bit_or}
use lib.Dec.{leb, eqb}
use lib.ListN.{length}
use mathlib.Core.Logic.{inl, inr}
use borrow.Author.Tests.{not-true, leb-true, le-leb, eqb-true, leb-false}
use Rattle.ground.specs.Tests.{no_both, split, by_cond, and_l, and_r, or-e, or_l, or_r, eqb_same, same_test}
use Rattle.ground.specs.Quantify.{count_to}
use Rattle.ground.specs.Mask.{has, insert}
use Rattle.ground.proofs.MaskLaws.{has-none, has_or, insert-own, insert-keeps, insert_only, insert-from, none_has}
use Rattle.ground.proofs.Collect.{has-collect}
use Rattle.ground.specs.Update.{upd, upd_same}
use Rattle.votes.specs.VoteSets.{knows, single}
use Rattle.votes.proofs.VoteLaws.{single-knows, single-wills, union-knows}
use Rattle.votes.proofs.JoinLaws.{keeps-known}
use Rattle.votes.specs.declared.VoteSet.{VoteSet}
use Rattle.ground.specs.Limit.{limit}
use Rattle.model.specs.Ranges.{is_backup}
use Rattle.model.specs.Routes.{vote_route, ack_route, route, recipients}
use Rattle.model.specs.Numbers.{word_of}
use Rattle.model.specs.declared.Kind.TheVariants.{Vote, Ack}
use Rattle.model.specs.declared.Checkpoint.{Checkpoint}
use Rattle.model.specs.declared.Outcome.{Outcome}
use Rattle.model.specs.declared.Outcome.TheVariants.{None}
use Rattle.protocol.specs.declared.Condition.{Condition}
use Rattle.protocol.specs.declared.Condition.TheVariants.{Stopped, Standby}
use Rattle.protocol.specs.declared.Controller.{Controller}
use Rattle.protocol.specs.declared.Sent.{Sent}
use Rattle.protocol.specs.Controllers.{is_running, phase_in, outcome_in, runs, phase, has_ack, cleared, advance, learn, aim, keep_ack, add_caller}
use Rattle.protocol.specs.Rules.{keeps_call, answers_call, becomes, vote_rule, vote_arrives, count_own, first_timeout, ack_arrives, helped_arrives, help_arrives}
use Rattle.protocol.specs.Benches.{sent_after}
use Rattle.protocol.specs.Events.{restore_from}
use Rattle.protocol.proofs.view.RuleCases.{vote_cases, ack_cases, helped_cases, help_cases, restore_cases}
use Rattle.protocol.proofs.view.View.{View, saved_order, saved_outcome}
use Rattle.protocol.proofs.view.Performed.{identity_v}
use Rattle.protocol.proofs.invariant.Words.{none-word}
use Rattle.protocol.proofs.invariant.Invariant.{voted_by, ack_on, acked_by, help_on, frozen_by, Truthful, SentSound, Grown, Grows, OutcomeGrounds, Own, HeldAck, HeldSound, Inv}
use Rattle.protocol.proofs.invariant.Growth.{sent_mono, ctl_mono}
use Rattle.protocol.proofs.invariant.TrueVotes.{empty_ok, vote_ok, joined_is, joined_ok}
use Rattle.protocol.proofs.invariant.Commit.{Fits, grows-upd, becomes_fits, passed-over_fits}
use Rattle.protocol.proofs.invariant.Waiting.{settle_fits}
use Rattle.protocol.proofs.invariant.Keeping.{own-ack-kept, ctl-ack-kept, own-help-kept, ctl-help-kept}

pub count-zero : (n : ℕ) → count_to n (has 0) ≡ 0
unfolding count_to
count-zero zero = refl
count-zero (suc n) = rw (has-none (suc n), count-zero n)

-- the stage that a vote leads to is 1 or 2
pub stage_bounds : (x : Bool) → (1 ≤ cond x 1 2) × (cond x 1 2 ≤ 2)
stage_bounds true = (omega arith, omega arith)
stage_bounds false = (omega arith, omega arith)

-- all to whom a kind is sent may be sent it
collected : (x y z : Bool) → (x && y && z) ≡ true → z ≡ true
collected x y z e = and_r (x && y) z e

recipients-route : (n f : ℕ) (small : n ≤ limit) (i j : ℕ) → (has (recipients n f Vote i) j ≡ true → vote_route f i j ≡ true) × (has (recipients n f Ack i) j ≡ true → ack_route f i j ≡ true)
unfolding recipients route
recipients-route n f small i j = (
  λ e. collected (leb 1 j) (leb j n) (vote_route f i j) (sym (has-collect n (vote_route f i) j (omega arith)) ∙ e),
  λ e. collected (leb 1 j) (leb j n) (ack_route f i j) (sym (has-collect n (ack_route f i) j (omega arith)) ∙ e),
)

-- one more in a set, by the set of that one
pub insert-more : (m j x : ℕ) → 1 ≤ j → j ≤ limit → (has m x || has (insert 0 j) x) ≡ has (insert m j) x
insert-more m j x lo hi = same_test _ _
    (λ e. elim (or-e (has m x) (has (insert 0 j) x) e) [ inl y ↦ insert-keeps m j x y | inr y ↦ insert-from m j x y ])
    (λ e. elim (insert_only m j x e) [
      | inl y ↦ or_r (has m x) (has (insert 0 j) x) (rw y (insert-own 0 j lo (omega arith)))
      | inr y ↦ or_l (has m x) (has (insert 0 j) x) y
    ])

-- a controller that holds nothing and does not run
own-cleared : (n f i : ℕ) (k : Condition) (c : Controller) (l : Sent) → is_running k ≡ false → phase_in k ≡ 0 → (1 ≤ i → i ≤ n → n ≤ length c.acks.sets) → Own n f i (cleared k c) l
unfolding cleared
own-cleared n f i k c l p q room = record {
  phased = record {
    fresh0 = λ e. absurd (no_both (is_running k) e p);
    fresh1 = λ e. absurd (no_both (is_running k) e p);
    fresh2 = λ e. absurd (no_both (is_running k) e p);
    undecided = λ e. absurd (no_both (is_running k) e p);
    own = λ e. absurd (omega arith);
    same = λ e. absurd (omega arith);
    late = λ e. absurd (omega arith);
  };
  helping = record {
    help-copy = λ e. absurd (omega arith);
    answered = λ e. absurd (omega arith);
    waiter = λ e. absurd (false≢true e);
    idle = λ e. refl;
    early = λ e. refl;
  };
  counted = record {
    own-ack = λ e. absurd (omega arith);
    ack-count = sym (count-zero n);
    help-count = sym (count-zero n);
    room = room;
  };
}

ctl-cleared : (n f : ℕ) (L : ℕ → Sent) (ch : Outcome) (i : ℕ) (k : Condition) (c : Controller) → ((v : Bool) → outcome_in k ≡ word_of v → OutcomeGrounds n f L ch v) → HeldSound n f L ch i (cleared k c)
unfolding cleared
ctl-cleared n f L ch i k c h = record { votes_ok = empty_ok L; helped_ok = empty_ok L; acks_ok = λ j e. none_has j e; helps_ok = λ j e. none_has j e; calls_ok = λ j e. none_has j e; outcome_ok = h }

module _ (n f : ℕ) (small : n ≤ limit) (b : View) (inv : Inv n f b) (i : ℕ) where
  abbrev c : Controller
  c = b.ctl i

  abbrev L : ℕ → Sent
  L = b.state.sent

  abbrev l : Sent
  l = L i

  pub stop_fits : Fits n f b i (becomes (cleared Stopped c))
  stop_fits = becomes_fits n f b inv i _ (own-cleared n f i Stopped c l refl refl (inv.owns i).counted.room) (ctl-cleared n f L b.state.consensus.decision i Stopped c (λ v e. none-word v e))

  -- a restore: an outcome comes from a checkpoint of this order alone
  restored_fits : (o : Outcome) → ((v : Bool) → o ≡ word_of v → OutcomeGrounds n f L b.state.consensus.decision v) → Fits n f b i (becomes (cleared (Standby o) c))
  restored_fits o h = becomes_fits n f b inv i _ (own-cleared n f i (Standby o) c l refl refl (inv.owns i).counted.room) (ctl-cleared n f L b.state.consensus.decision i (Standby o) c h)

  given : (x : Checkpoint) → (x.order ≡ b.order → (v : Bool) → x.outcome ≡ word_of v → OutcomeGrounds n f L b.state.consensus.decision v)
      → (v : Bool) → cond (eqb x.order b.order) x.outcome None ≡ word_of v → OutcomeGrounds n f L b.state.consensus.decision v
  given x h v = by_cond (λ (o : Outcome). o ≡ word_of v → OutcomeGrounds n f L b.state.consensus.decision v) (eqb x.order b.order) x.outcome None (λ e. h (eqb-true _ _ e) v) (λ e. none-word v)

  pub restore_fits : Fits n f b i (restore_from (identity_v n f b i) (b.saved i) c)
  restore_fits = restore_cases (Fits n f b i) _ (b.saved i) c (λ x z y. restored_fits _ (given x (λ e v h. inv.saved_ok i (ap saved_order z ∙ e) v (ap saved_outcome z ∙ h)))) (passed-over_fits n f b inv i)

  -- a vote arrives
  pub vote_in_fits : (j : ℕ) → Fits n f b i (vote_arrives (L j).vote.votes c)
  unfolding learn
  vote_in_fits j = vote_cases (Fits n f b i) _ c
      (λ h. let o : Own n f i c l = inv.owns i in let k : HeldSound n f L b.state.consensus.decision i c = inv.ctls i in becomes_fits n f b inv i _
      (record {
        phased = record {
          fresh0 = o.phased.fresh0;
          fresh1 = o.phased.fresh1;
          fresh2 = o.phased.fresh2;
          undecided = o.phased.undecided;
          own = λ x. keeps-known c.votes (L j).vote.votes i (o.phased.own x);
          same = λ x. absurd (omega arith);
          late = o.phased.late;
        };
        helping = o.helping;
        counted = o.counted;
      })
      (record { votes_ok = joined_ok L c.votes (L j).vote.votes k.votes_ok (vote_ok L f j (inv.lines j)); acks_ok = k.acks_ok; helps_ok = k.helps_ok; helped_ok = k.helped_ok; calls_ok = k.calls_ok; outcome_ok = k.outcome_ok }))
      (passed-over_fits n f b inv i)

  -- an acknowledgement arrives
  pub ack_in_fits : f < n → 1 ≤ i → i ≤ n → (j : ℕ) → 1 ≤ j → j ≤ n → has (L j).ack.to i ≡ true → Fits n f b i (ack_arrives n f j (ack_on (L j)) c)
  ack_in_fits f<n lo hi j a h v = ack_cases (Fits n f b i) n f j _ c
      (λ e. settle_fits n f f<n b inv i _ (becomes_fits n f b inv i _
      (own-ack-kept n f small i c l j (ack_on (L j)) a h e (inv.owns i))
      (ctl-ack-kept n f small L b.state.consensus.decision i c j (ack_on (L j)) a h (let q : n ≤ length c.acks.sets = (inv.owns i).counted.room lo hi in omega arith)
      (record { acked = ((inv.lines j).ack-to i v).0; copy = refl; backup = backup ((inv.lines j).ack-to i v).1 }) (inv.ctls i))))
      (λ e. passed-over_fits n f b inv i)
    where
      backup : ack_route f j i ≡ true → f < i → j ≤ f
      backup r h = unfold ack_route in elim (or-e (leb j f) (eqb j (suc f) && leb i f) (and_r (not (eqb j i)) _ r)) [
        | inl q ↦ leb-true j f q
        | inr q ↦ let z : i ≤ f = leb-true i f (and_r (eqb j (suc f)) (leb i f) q) in absurd (omega arith)
      ]

  -- a help answer arrives
  pub helped_in_fits : f < n → (j : ℕ) → 1 ≤ j → j ≤ n → f < j → has (L j).helped.to i ≡ true → Fits n f b i (helped_arrives n f j (help_on (L j)) c)
  helped_in_fits f<n j a h far v = helped_cases (Fits n f b i) n f j _ c
      (λ e w. let y : frozen_by j (L j) ≡ true = (inv.lines j).helped-to i v in settle_fits n f f<n b inv i _ (becomes_fits n f b inv i _
      (own-help-kept n f small i c l j (help_on (L j)) a h (late w) e (inv.owns i))
      (ctl-help-kept n f small L b.state.consensus.decision i c j a h y far ((inv.lines j).help_ok y) (inv.ctls i))))
      (λ q. passed-over_fits n f b inv i)
    where
      late : c.help.waiting ≡ true → 3 ≤ phase c
      late w = elim (split (leb (phase c) 2)) [
        | inl e ↦ absurd (no_both c.help.waiting w ((inv.owns i).helping.idle (leb-true (phase c) 2 e)))
        | inr e ↦ leb-false (phase c) 2 e
      ]

  -- a help call arrives: it was sent, by j of 1 to n
  ctl-called : (M : ℕ → Sent) (j : ℕ) → has (M j).help.to i ≡ true → HeldSound n f M b.state.consensus.decision i c → HeldSound n f M b.state.consensus.decision i (add_caller c j)
  unfolding add_caller
  ctl-called M j v k = record {
    votes_ok = k.votes_ok;
    acks_ok = k.acks_ok;
    helps_ok = k.helps_ok;
    helped_ok = k.helped_ok;
    calls_ok = λ x q. elim (insert_only c.help.callers j x q) [ inl z ↦ rw z v | inr z ↦ k.calls_ok x z ];
    outcome_ok = k.outcome_ok;
  }

  -- it is kept
  keeping_fits : (j : ℕ) → has (L j).help.to i ≡ true → phase c ≤ 2 → Fits n f b i (keeps_call j c)
  unfolding keeps_call add_caller
  keeping_fits j v h = let o : Own n f i c l = inv.owns i in becomes_fits n f b inv i _
      (record {
        phased = o.phased;
        helping = record {
          help-copy = o.helping.help-copy;
          answered = λ e. absurd (omega arith);
          waiter = o.helping.waiter;
          idle = o.helping.idle;
          early = o.helping.early;
        };
        counted = o.counted;
      })
      (ctl-called L j v (inv.ctls i))

  -- it is answered
  module _ (j : ℕ) (lo : 1 ≤ j) (hi : j ≤ n) (v : has (L j).help.to i ≡ true) (h : 3 ≤ phase c) where
    abbrev lh : Sent
    lh = record { vote = l.vote; ack = l.ack; help = l.help; helped = record { to = bit_or l.helped.to (insert 0 j); votes = c.help.votes } }

    copy : c.help.votes ≡ help_on l
    copy = (inv.owns i).helping.help-copy (omega arith)

    fixed : frozen_by i lh ≡ true
    fixed = ap (λ (s : VoteSet). knows s i) copy ∙ (inv.owns i).phased.late (omega arith)

    help-grown : Grown i l lh
    help-grown = record { voted = λ e. e; will = λ e. refl; acked = λ e. e; ack = λ e. refl; helped = λ e. fixed; help = λ e. copy; calls = λ k e. e }

    past : phase c ≤ 2 → ⊥
    past x = omega arith

    answering_fits : Fits n f b i (answers_call j c)
    unfolding answers_call add_caller sent_after
    answering_fits =
        let o : Own n f i c l = inv.owns i in
        let gs : Grows L (upd L i lh) = grows-upd L i lh help-grown in
        let z : SentSound f (upd L i lh) i l = sent_mono L (upd L i lh) gs f i l (inv.lines i) in
        let k : HeldSound n f (upd L i lh) b.state.consensus.decision i c = ctl_mono L (upd L i lh) gs b.state.consensus.decision b.state.consensus.decision (λ v e. e) n f i c (inv.ctls i) in
        record {
          grown = help-grown;
          sent_ok = record {
            ack_ok = z.ack_ok;
            help_ok = λ e. subst (Truthful (upd L i lh)) (sym copy) (z.help_ok (o.phased.late (omega arith)));
            ack_in-help = λ e e' x q. ap (λ (s : VoteSet). knows s x) copy ∙ z.ack_in-help e (o.phased.late (omega arith)) x q;
            vote-to = z.vote-to;
            ack-to = z.ack-to;
            help-to = λ x q. fixed;
            helped-to = λ x q. fixed;
            vote-within = z.vote-within;
            vote_only = z.vote_only;
          };
          own_ok = record {
            phased = record {
              fresh0 = o.phased.fresh0;
              fresh1 = o.phased.fresh1;
              fresh2 = λ r e. absurd (past e);
              undecided = o.phased.undecided;
              own = o.phased.own;
              same = o.phased.same;
              late = λ e. fixed;
            };
            helping = record {
              help-copy = λ e. refl;
              answered = λ e x. has_or l.helped.to (insert 0 j) x ∙ rw (o.helping.answered (omega arith) x) (insert-more c.help.callers j x lo (omega arith));
              waiter = o.helping.waiter;
              idle = o.helping.idle;
              early = o.helping.early;
            };
            counted = o.counted;
          };
          ctl_ok = ctl-called (upd L i lh) j ((gs j).calls i v) k;
          move_ok = λ e. absurd (false≢true e);
          stay_ok = λ e. absurd (false≢true e);
        }

  pub help_in_fits : (j : ℕ) → 1 ≤ j → j ≤ n → has (L j).help.to i ≡ true → Fits n f b i (help_arrives j c)
  help_in_fits j lo hi v = help_cases (Fits n f b i) j c (keeping_fits j v) (λ p q. answering_fits j lo hi v p) (λ q. passed-over_fits n f b inv i)

  -- the own vote
  module _ (w : Bool) (t : ℕ) (lo : 1 ≤ i) (hi : i ≤ n) (r : runs c ≡ true) (st : phase c ≡ 0) where
    abbrev lv : Sent
    lv = record { vote = record { to = bit_or l.vote.to (recipients n f Vote i); votes = single i w }; ack = l.ack; help = l.help; helped = l.helped }

    own-voted : voted_by i lv ≡ true
    own-voted = single-knows i w i lo (omega arith) ∙ eqb_same i

    vote-grown : Grown i l lv
    vote-grown = record { voted = λ e. own-voted; will = λ e. absurd (no_both (voted_by i l) e ((inv.owns i).phased.fresh0 r st)); acked = λ e. e; ack = λ e. refl; helped = λ e. e; help = λ e. refl; calls = λ k e. e }

    vote-lines : SentSound f (upd L i lv) i lv
    vote-lines = let z : SentSound f (upd L i lv) i l = sent_mono L (upd L i lv) (grows-upd L i lv vote-grown) f i l (inv.lines i) in
        record {
          ack_ok = z.ack_ok;
          help_ok = z.help_ok;
          ack_in-help = z.ack_in-help;
          vote-to = λ j e. (own-voted, elim (or-e (has l.vote.to j) (has (recipients n f Vote i) j) (sym (has_or l.vote.to (recipients n f Vote i) j) ∙ e)) [ inl q ↦ (z.vote-to j q).1 | inr q ↦ (recipients-route n f small i j).0 q ]);
          ack-to = z.ack-to;
          help-to = z.help-to;
          helped-to = z.helped-to;
          vote-within = λ k e. single-knows i w k lo (omega arith) ∙ and_r w (eqb k i) (sym (single-wills i w k lo (omega arith)) ∙ e);
          vote_only = λ k e. eqb-true k i (sym (single-knows i w k lo (omega arith)) ∙ e);
        }

    -- the vote set of the own vote tells it
    single-true : Truthful (upd L i lv) (single i w)
    single-true = subst (λ (s : Sent). Truthful (upd L i lv) s.vote.votes) (upd_same L i lv) (vote_ok (upd L i lv) f i (subst (SentSound f (upd L i lv) i) (sym (upd_same L i lv)) vote-lines))

    pub vote_fits : Fits n f b i (vote_rule n f i w t c)
    unfolding vote_rule sent_after advance aim learn
    vote_fits =
        let o : Own n f i c l = inv.owns i in
        let k : HeldSound n f (upd L i lv) b.state.consensus.decision i c = ctl_mono L (upd L i lv) (grows-upd L i lv vote-grown) b.state.consensus.decision b.state.consensus.decision (λ v e. e) n f i c (inv.ctls i) in
        record {
          grown = vote-grown;
          sent_ok = vote-lines;
          own_ok = record {
            phased = record {
              fresh0 = λ x e. absurd (omega (arith, stage_bounds (leb i (suc f))));
              fresh1 = λ x e. o.phased.fresh1 r (omega arith);
              fresh2 = λ x e. o.phased.fresh2 r (omega arith);
              undecided = λ x e. o.phased.undecided r (omega arith);
              own = λ e. ap (λ (s : VoteSet). knows s i) (joined_is (upd L i lv) c.votes c.votes (single i w) k.votes_ok single-true) ∙ union-knows c.votes (single i w) i ∙ or_r (knows c.votes i) (knows (single i w) i) own-voted;
              same = λ x e. absurd (no_both (acked_by i l) e (o.phased.fresh1 r (omega arith)));
              late = λ e. absurd (omega (arith, stage_bounds (leb i (suc f))));
            };
            helping = record {
              help-copy = λ e. absurd (omega (arith, stage_bounds (leb i (suc f))));
              answered = λ e. absurd (omega (arith, stage_bounds (leb i (suc f))));
              waiter = o.helping.waiter;
              idle = λ e. o.helping.idle (omega arith);
              early = λ e. o.helping.early (omega arith);
            };
            counted = record {
              own-ack = λ x y. absurd (early x y);
              ack-count = o.counted.ack-count;
              help-count = o.counted.help-count;
              room = o.counted.room;
            };
          };
          ctl_ok = record {
            votes_ok = joined_ok (upd L i lv) c.votes (single i w) k.votes_ok single-true;
            acks_ok = k.acks_ok;
            helps_ok = k.helps_ok;
            helped_ok = k.helped_ok;
            calls_ok = k.calls_ok;
            outcome_ok = k.outcome_ok;
          };
          move_ok = λ e. absurd (false≢true e);
          stay_ok = λ e. absurd (false≢true e);
        }
      where
        early : 2 ≤ cond (leb i (suc f)) 1 2 → i ≤ f → ⊥
        early x y = let x' : 2 ≤ 1 = (rw (le-leb i (suc f) (omega arith)) at x) in omega arith

  -- the first timeout: its own acknowledgement is kept, if it is a backup; then the stage
  module _ (lo : 1 ≤ i) (hi : i ≤ n) (r : runs c ≡ true) (st : phase c ≡ 1) where
    abbrev c₁ : Controller
    c₁ = count_own f i c

    abbrev la : Sent
    la = record { vote = l.vote; ack = record { to = bit_or l.ack.to (recipients n f Ack i); votes = c.votes }; help = l.help; helped = l.helped }

    first-votes : c₁.votes ≡ c.votes
    unfolding count_own keep_ack
    first-votes = by_cond (λ (x : Controller). x.votes ≡ c.votes) (is_backup f i && not (has_ack c i)) (keep_ack c i c.votes) c (λ e. refl) (λ e. refl)

    first_rest : (c₁.condition ≡ c.condition) × (c₁.help.waiting ≡ c.help.waiting) × (c₁.helped.from ≡ c.helped.from)
    unfolding count_own keep_ack
    first_rest = by_cond (λ (x : Controller). (x.condition ≡ c.condition) × (x.help.waiting ≡ c.help.waiting) × (x.helped.from ≡ c.helped.from)) (is_backup f i && not (has_ack c i)) (keep_ack c i c.votes) c (λ e. (refl, refl, refl)) (λ e. (refl, refl, refl))

    first-own : Own n f i c₁ l
    unfolding count_own
    first-own = by_cond (λ (x : Controller). Own n f i x l) (is_backup f i && not (has_ack c i)) (keep_ack c i c.votes) c (λ e. own-ack-kept n f small i c l i c.votes lo hi (not-true (has_ack c i) (and_r (is_backup f i) _ e)) (inv.owns i)) (λ e. inv.owns i)

    first-ack : i ≤ f → has_ack c₁ i ≡ true
    unfolding count_own keep_ack
    first-ack y = by_cond (λ (x : Controller). has_ack x i ≡ true) (is_backup f i && not (has_ack c i)) (keep_ack c i c.votes) c
        (λ e. insert-own c.acks.from i lo (omega arith)) (λ e. held (is_backup f i) (has_ack c i) (le-leb i f y) e)
      where
        held : (x h : Bool) → x ≡ true → (x && not h) ≡ false → h ≡ true
        held true true p q = refl
        held true false p q = sym q
        held false h p q = absurd (false≢true p)

    first-acked : acked_by i la ≡ true
    first-acked = (inv.owns i).phased.own (omega arith)

    first-grown : Grown i l la
    first-grown = record { voted = λ e. e; will = λ e. refl; acked = λ e. first-acked; ack = λ e. absurd (no_both (acked_by i l) e ((inv.owns i).phased.fresh1 r (omega arith))); helped = λ e. e; help = λ e. refl; calls = λ k e. e }

    first_old : HeldSound n f (upd L i la) b.state.consensus.decision i c
    first_old = ctl_mono L (upd L i la) (grows-upd L i la first-grown) b.state.consensus.decision b.state.consensus.decision (λ v e. e) n f i c (inv.ctls i)

    first-held : i ≤ f → HeldAck n f (upd L i la) i c.votes i
    first-held h = record { acked = rw (upd_same L i la) first-acked; copy = rw (upd_same L i la); backup = λ x. h }

    first-ctl : HeldSound n f (upd L i la) b.state.consensus.decision i c₁
    unfolding count_own
    first-ctl = by_cond (λ (x : Controller). HeldSound n f (upd L i la) b.state.consensus.decision i x) (is_backup f i && not (has_ack c i)) (keep_ack c i c.votes) c
        (λ e. ctl-ack-kept n f small (upd L i la) b.state.consensus.decision i c i c.votes lo hi (let q : n ≤ length c.acks.sets = (inv.owns i).counted.room lo hi in omega arith) (first-held (leb-true i f (and_l (is_backup f i) _ e))) first_old) (λ e. first_old)

    pub first_fits : Fits n f b i (first_timeout n f i c)
    unfolding first_timeout sent_after advance
    first_fits =
        let o : Own n f i c l = inv.owns i in
        let z : SentSound f (upd L i la) i l = sent_mono L (upd L i la) (grows-upd L i la first-grown) f i l (inv.lines i) in
        record {
          grown = first-grown;
          sent_ok = record {
            ack_ok = λ e. first_old.votes_ok;
            help_ok = z.help_ok;
            ack_in-help = λ e e'. absurd (no_both (frozen_by i l) e' (o.phased.fresh2 r (omega arith)));
            vote-to = z.vote-to;
            ack-to = λ j e. (first-acked, elim (or-e (has l.ack.to j) (has (recipients n f Ack i) j) (sym (has_or l.ack.to (recipients n f Ack i) j) ∙ e)) [ inl q ↦ (z.ack-to j q).1 | inr q ↦ (recipients-route n f small i j).1 q ]);
            help-to = z.help-to;
            helped-to = z.helped-to;
            vote-within = z.vote-within;
            vote_only = z.vote_only;
          };
          own_ok = record {
            phased = record {
              fresh0 = λ x e. absurd (omega arith);
              fresh1 = λ x e. absurd (omega arith);
              fresh2 = λ x e. o.phased.fresh2 r (omega arith);
              undecided = λ x e. ap outcome_in first_rest.0 ∙ o.phased.undecided r (omega arith);
              own = λ e. ap (λ (s : VoteSet). knows s i) first-votes ∙ o.phased.own (omega arith);
              same = λ x e k h. ap (λ (s : VoteSet). knows s k) first-votes ∙ h;
              late = λ e. absurd (omega arith);
            };
            helping = record {
              help-copy = λ e. absurd (omega arith);
              answered = λ e. absurd (omega arith);
              waiter = λ e. o.helping.waiter (sym first_rest.1 ∙ e);
              idle = λ e. first_rest.1 ∙ o.helping.idle (omega arith);
              early = λ e. first_rest.2 ∙ o.helping.early (omega arith);
            };
            counted = record {
              own-ack = λ x y. first-ack y;
              ack-count = first-own.counted.ack-count;
              help-count = first-own.counted.help-count;
              room = first-own.counted.room;
            };
          };
          ctl_ok = record { votes_ok = first-ctl.votes_ok; acks_ok = first-ctl.acks_ok; helps_ok = first-ctl.helps_ok; helped_ok = first-ctl.helped_ok; calls_ok = first-ctl.calls_ok; outcome_ok = first-ctl.outcome_ok };
          move_ok = λ e. absurd (false≢true e);
          stay_ok = λ e. absurd (false≢true e);
        }
