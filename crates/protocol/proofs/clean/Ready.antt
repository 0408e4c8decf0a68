-- What the questions need to know of a controller while a clean order goes its way: it runs, its phase, and what it has sent by then.
-- Votes, deliveries and timeouts keep this up.
use Prim.Native.Nat.{ℕ, suc, ◌≤◌}
use mathlib.Core.Path.{◌≡◌, refl, ◌∙◌, ap}
use mathlib.Core.Bool.{Bool, true, false, not, cond, ◌&&◌, ◌||◌, false≢true}
use native.Mathlib.Omega.{arith}
use lib.Dec.{eqb, leb}
use lib.Bits.{bit_or}
use mathlib.Core.Logic.{inl, inr}
use borrow.Author.Tests.{leb-true, le-leb, eqb-true, eq-eqb}
use Rattle.ground.specs.Tests.{no_both, split, by_cond, and_l, and_r, or-e, or_l, or_r}
use Rattle.ground.specs.Mask.{has}
use Rattle.ground.proofs.MaskLaws.{has_or}
use Rattle.ground.proofs.Collect.{collect-at}
use Rattle.ground.specs.Update.{upd_same, upd_other}
use Rattle.votes.specs.declared.VoteSet.{VoteSet}
use Rattle.ground.specs.Limit.{limit}
use Rattle.model.specs.Ranges.{is_controller, position_in_range}
use Rattle.model.specs.Routes.{vote_route, ack_route, help_route, route, recipients}
use Rattle.model.specs.declared.Kind.{Kind}
use Rattle.model.specs.declared.Kind.TheVariants.{Vote, Ack, Help, Helped}
use Rattle.model.specs.declared.Event.TheVariants.{Cast, Deliver, Timeout}
use Rattle.protocol.specs.declared.Condition.{Condition}
use Rattle.protocol.specs.declared.Condition.TheVariants.{Running, Stopped, Standby}
use Rattle.protocol.specs.declared.Controller.{Controller}
use Rattle.protocol.specs.declared.Answer.{Answer}
use Rattle.protocol.specs.declared.Sent.{Sent}
use Rattle.protocol.specs.Controllers.{is_running, phase_in, runs, phase, has_ack, advance, learn, keep_ack, propose}
use Rattle.protocol.specs.Rules.{passing_over, becomes, proposing, vote_rule, vote_arrives, first_timeout, sufficient, propose_if_sufficient, second_timeout, ack_arrives}
use Rattle.protocol.specs.Calls.{arrives}
use Rattle.protocol.specs.Benches.{of_kind, sent_after}
use Rattle.protocol.specs.Questions.{unless, first_no}
use Rattle.protocol.proofs.view.View.{View, accepts}
use Rattle.protocol.proofs.view.Performed.{commit_v, timeout_rule, perform_v}
use Rattle.protocol.proofs.counting.Sends.{sent-more}
use Rattle.protocol.proofs.clean.Added.{second_reaches}

-- which messages a controller has sent by its phase; its phase after its vote
abbrev pub due : Kind → ℕ → Bool
due Vote s = leb 1 s
due Ack s = leb 2 s
due Help s = false
due Helped s = false

abbrev pub begun : ℕ → ℕ → ℕ
begun f k = cond (leb k (suc f)) 1 2

-- the phases p' differ from p at i alone
abbrev pub ElseSame : ℕ → (ℕ → ℕ) → (ℕ → ℕ) → Type 0
ElseSame i p p' = (k : ℕ) → (k ≡ i → ⊥) → p' k ≡ p k

-- a step that leaves the condition and sends nothing
record Unmoved (c : Controller) (l : Sent) (a : Answer) : Type 0 where
  condition : a.controller.condition ≡ c.condition
  sent : sent_after l a.sends ≡ l

not_self : (f : ℕ) (kind : Kind) (i j : ℕ) → route f kind i j ≡ true → not (eqb i j) ≡ true
unfolding route vote_route ack_route help_route
not_self f Vote i j r = and_l _ _ r
not_self f Ack i j r = and_l _ _ r
not_self f Help i j r = and_l _ _ r
not_self f Helped i j r = and_l _ _ r

ack-from : (f i j : ℕ) → ack_route f i j ≡ true → i ≤ suc f
unfolding ack_route
ack-from f i j r = elim (or-e (leb i f) _ (and_r (not (eqb i j)) _ r)) [
  | inl q ↦ let h : i ≤ f = leb-true i f q in omega arith
  | inr q ↦ let h : i ≡ suc f = eqb-true i (suc f) (and_l _ _ q) in omega arith
]

-- one in phase 3 runs
in-phase_3 : (k : Condition) → phase_in k ≡ 3 → is_running k ≡ true
in-phase_3 (Running p) e = refl
in-phase_3 Stopped e = absurd (omega arith)
in-phase_3 (Standby o) e = absurd (omega arith)

module _ (n f : ℕ) where
  pub record ReadyAt (k s : ℕ) (c : Controller) (l : Sent) : Type 0 where
    pub running : runs c ≡ true
    pub at : phase c ≡ s
    pub sent : (kind : Kind) (j : ℕ) → 1 ≤ j → j ≤ n → due kind s ≡ true → route f kind k j ≡ true → has (of_kind kind l).to j ≡ true

  -- whom a message was just sent to
  pub posted-to : n ≤ limit → (kind : Kind) (k old j : ℕ) → 1 ≤ j → j ≤ n → route f kind k j ≡ true → has (bit_or old (recipients n f kind k)) j ≡ true
  unfolding recipients
  posted-to small kind k old j a b r = has_or old _ j ∙ or_r (has old j) _ (collect-at n (route f kind k) j (omega arith) a b ∙ r)

  vote-able : n ≤ limit → (k : ℕ) (w : Bool) (t : ℕ) (c : Controller) (l : Sent) → ReadyAt k (begun f k) (vote_rule n f k w t c).controller (sent_after l (vote_rule n f k w t c).sends)
  unfolding vote_rule advance sent_after
  vote-able small k w t c l = record { running = refl; at = refl; sent = sent }
    where
      no-ack : (j : ℕ) → leb 2 (begun f k) ≡ true → ack_route f k j ≡ true → ⊥
      no-ack j d r = let z : leb k (suc f) ≡ true = le-leb k (suc f) (ack-from f k j r) in false≢true (rw z at d)

      sent : (kind : Kind) (j : ℕ) → 1 ≤ j → j ≤ n → due kind (begun f k) ≡ true → route f kind k j ≡ true → has (of_kind kind (sent_after l (vote_rule n f k w t c).sends)).to j ≡ true
      sent Vote j a b d r = unfold vote_rule sent_after in posted-to small Vote k l.vote.to j a b r
      sent Ack j a b d r = unfold route in absurd (no-ack j d r)
      sent Help j a b d r = absurd (false≢true d)
      sent Helped j a b d r = absurd (false≢true d)

  first-able : n ≤ limit → (k : ℕ) (c : Controller) (l : Sent) → ReadyAt k 1 c l → ReadyAt k 2 (first_timeout n f k c).controller (sent_after l (first_timeout n f k c).sends)
  unfolding first_timeout advance sent_after
  first-able small k c l h = record { running = refl; at = refl; sent = sent }
    where
      sent : (kind : Kind) (j : ℕ) → 1 ≤ j → j ≤ n → due kind 2 ≡ true → route f kind k j ≡ true → has (of_kind kind (sent_after l (first_timeout n f k c).sends)).to j ≡ true
      sent Vote j a b d r = unfold first_timeout sent_after in h.sent Vote j a b refl r
      sent Ack j a b d r = unfold first_timeout sent_after in posted-to small Ack k l.ack.to j a b r
      sent Help j a b d r = absurd (false≢true d)
      sent Helped j a b d r = absurd (false≢true d)

  -- whatever comes of a second timeout, what was sent stays sent
  second-able : (k : ℕ) (c : Controller) (l : Sent) → ReadyAt k 2 c l → ReadyAt k 3 (second_timeout n f k c).controller (sent_after l (second_timeout n f k c).sends)
  second-able k c l h = record {
    running = in-phase_3 (second_timeout n f k c).controller.condition (second_reaches n f k c).is;
    at = (second_reaches n f k c).is;
    sent = λ kind j a b d r. sent-more n f l _ kind j ∙ or_l _ _ (h.sent kind j a b (as_before kind d) r);
  }
    where
      as_before : (kind : Kind) → due kind 3 ≡ true → due kind 2 ≡ true
      as_before Vote d = refl
      as_before Ack d = refl
      as_before Help d = d
      as_before Helped d = d

  calm-able : (k s : ℕ) (c : Controller) (l : Sent) (a : Answer) → Unmoved c l a → ReadyAt k s c l → ReadyAt k s a.controller (sent_after l a.sends)
  calm-able k s c l a q h = rw q.sent (record { running = ap is_running q.condition ∙ h.running; at = ap phase_in q.condition ∙ h.at; sent = h.sent })

  -- a vote or an acknowledgement arrives
  arrival-calm : (kind : Kind) (s : ℕ) → due kind s ≡ true → (i : ℕ) (x : VoteSet) (c : Controller) (l : Sent) → Unmoved c l (arrives kind n f i x c)
  unfolding arrives vote_arrives ack_arrives becomes passing_over learn keep_ack sent_after
  arrival-calm Vote s d i x c l = by_cond (Unmoved c l) (leb (phase c) 1) _ _ (λ e. record { condition = refl; sent = refl }) (λ e. record { condition = refl; sent = refl })
  arrival-calm Ack s d i x c l = by_cond (Unmoved c l) (not (has_ack c i) && (leb (phase c) 2 || c.help.waiting)) _ _ (λ e. kept) (λ e. record { condition = refl; sent = refl })
    where
      kept : Unmoved c l (propose_if_sufficient n f (becomes (keep_ack c i x)))
      kept = unfold propose_if_sufficient proposing propose becomes keep_ack sent_after in by_cond (Unmoved c l) (sufficient n f (keep_ack c i x)) _ _ (λ e. record { condition = refl; sent = refl }) (λ e. record { condition = refl; sent = refl })
  arrival-calm Help s d i x c l = absurd (false≢true d)
  arrival-calm Helped s d i x c l = absurd (false≢true d)

  -- a moment of the open order at which every controller runs and is in the phase that p gives
  pub record ReadyAll (v : View) (p : ℕ → ℕ) : Type 0 where
    pub opened : leb 1 v.order ≡ true
    pub able : (k : ℕ) → 1 ≤ k → k ≤ n → ReadyAt k (p k) (v.ctl k) (v.state.sent k)

  commit-going : (v : View) (p p' : ℕ → ℕ) (i : ℕ) (a : Answer) → ReadyAll v p → ElseSame i p p' → ReadyAt i (p' i) a.controller (sent_after (v.state.sent i) a.sends) → ReadyAll (commit_v v i a) p'
  unfolding commit_v
  commit-going v p p' i a g same h = record {
    opened = g.opened;
    able = λ k lo hi. elim (split (eqb k i)) [
      | inl e ↦ rw (eqb-true k i e, upd_same v.ctl i a.controller, upd_same v.state.sent i (sent_after (v.state.sent i) a.sends)) h
      | inr e ↦ rw (upd_other v.ctl i a.controller k e, upd_other v.state.sent i (sent_after (v.state.sent i) a.sends) k e, same k (λ q. no_both _ (eq-eqb k i q) e)) (g.able k lo hi)
    ];
  }

  module _ (v : View) (p : ℕ → ℕ) (g : ReadyAll v p) where
    pub vote-accepted : (k : ℕ) (w : Bool) → 1 ≤ k → k ≤ n → p k ≡ 0 → accepts n f v (Cast k w 0) ≡ true
    unfolding accepts first_no unless is_controller position_in_range
    vote-accepted k w lo hi e = rw (le-leb 1 k lo, le-leb k n hi, g.opened, (g.able k lo hi).running, (g.able k lo hi).at ∙ e)

    pub vote-going : n ≤ limit → (p' : ℕ → ℕ) (k : ℕ) (w : Bool) → p' k ≡ begun f k → ElseSame k p p' → ReadyAll (perform_v n f v (Cast k w 0)) p'
    unfolding perform_v
    vote-going small p' k w e same = commit-going v p p' k _ g same (rw e (vote-able small k w 0 (v.ctl k) (v.state.sent k)))

    pub deliver-accepted : (kind : Kind) (i j : ℕ) → 1 ≤ i → i ≤ n → 1 ≤ j → j ≤ n → due kind (p i) ≡ true → route f kind i j ≡ true → accepts n f v (Deliver i j kind) ≡ true
    unfolding accepts first_no unless is_controller
    deliver-accepted kind i j a b c d e r = rw (le-leb 1 i a, le-leb i n b, le-leb 1 j c, le-leb j n d, not_self f kind i j r, r, g.opened, (g.able j c d).running, (g.able i a b).sent kind j c d e r)

    pub deliver-going : (kind : Kind) (i j : ℕ) → 1 ≤ j → j ≤ n → due kind (p i) ≡ true → ReadyAll (perform_v n f v (Deliver i j kind)) p
    unfolding perform_v
    deliver-going kind i j c d e = commit-going v p p j _ g (λ k z. refl) (calm-able j (p j) _ _ _ (arrival-calm kind (p i) e i _ (v.ctl j) (v.state.sent j)) (g.able j c d))

    pub timeout-accepted : (k : ℕ) → 1 ≤ k → k ≤ n → (eqb (p k) 1 || eqb (p k) 2) ≡ true → accepts n f v (Timeout k) ≡ true
    unfolding accepts first_no unless is_controller
    timeout-accepted k lo hi e = rw (le-leb 1 k lo, le-leb k n hi, g.opened, (g.able k lo hi).running, (g.able k lo hi).at, e)

    pub first-going : n ≤ limit → (p' : ℕ → ℕ) (k : ℕ) → 1 ≤ k → k ≤ n → p k ≡ 1 → p' k ≡ 2 → ElseSame k p p' → ReadyAll (perform_v n f v (Timeout k)) p'
    unfolding perform_v timeout_rule
    first-going small p' k lo hi e e' same = commit-going v p p' k _ g same (rw (e', (g.able k lo hi).at ∙ e) (first-able small k (v.ctl k) (v.state.sent k) (rw e at (g.able k lo hi))))

    pub second-going : (p' : ℕ → ℕ) (k : ℕ) → 1 ≤ k → k ≤ n → p k ≡ 2 → p' k ≡ 3 → ElseSame k p p' → ReadyAll (perform_v n f v (Timeout k)) p'
    unfolding perform_v timeout_rule
    second-going p' k lo hi e e' same = commit-going v p p' k _ g same (rw (e', (g.able k lo hi).at ∙ e) (second-able k (v.ctl k) (v.state.sent k) (rw e at (g.able k lo hi))))
