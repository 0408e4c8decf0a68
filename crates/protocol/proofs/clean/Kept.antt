-- What an accepted event other than order and stop does to a running controller: it runs on, knows and holds what it did, and its phase changes at its
-- own vote and timeouts alone. By the cases of each rule (view/RuleCases).
use Prim.Native.Nat.{ℕ, suc, ◌≤◌}
use mathlib.Core.Path.{◌≡◌, refl, sym}
use mathlib.Core.Bool.{Bool, true, false, not, ◌&&◌, cond, false≢true}
use lib.Dec.{leb, eqb}
use mathlib.Core.Logic.{◌⊎◌, inl, inr}
use borrow.Author.Tests.{leb-true, eqb-true}
use Rattle.ground.specs.Tests.{no_both, by_cond, and_l, and_r, or-second}
use Rattle.ground.proofs.MaskLaws.{insert-keeps}
use Rattle.votes.specs.VoteSets.{knows, single}
use Rattle.votes.proofs.JoinLaws.{keeps-known}
use Rattle.votes.specs.declared.VoteSet.{VoteSet}
use Rattle.ground.specs.Limit.{limit}
use Rattle.model.specs.Ranges.{is_controller, is_backup}
use Rattle.model.specs.Numbers.{word_of}
use Rattle.model.specs.declared.Kind.{Kind}
use Rattle.model.specs.declared.Kind.TheVariants.{Vote, Ack, Help, Helped}
use Rattle.model.specs.declared.Outcome.{Outcome}
use Rattle.model.specs.declared.Event.{Event}
use Rattle.model.specs.declared.Event.TheVariants.{Lock, Order, Cast, Deliver, Timeout, Decide, Stop, Save, Restore, OfBallots}
use Rattle.protocol.specs.declared.Condition.{Condition}
use Rattle.protocol.specs.declared.Condition.TheVariants.{Running, Stopped, Standby}
use Rattle.protocol.specs.declared.Controller.{Controller}
use Rattle.protocol.specs.declared.Answer.{Answer}
use Rattle.protocol.specs.declared.Sent.{Sent}
use Rattle.protocol.specs.Controllers.{is_running, is_stopped, runs, phase, has_ack, cleared, advance, learn, aim, keep_ack, keep_helped, freeze, add_caller, await, propose, conclude}
use Rattle.protocol.specs.Rules.{keeps_call, answers_call, passing_over, becomes, proposing, verdict, vote_rule, count_own, first_timeout, ack_join, propose_if_sufficient, frozen, ready, calls_help, second_timeout, help_votes}
use Rattle.protocol.specs.declared.Identity.{Identity}
use Rattle.protocol.specs.Calls.{arrives}
use Rattle.protocol.specs.Events.{restore_from, concerns_one}
use Rattle.protocol.specs.Benches.{sent_after}
use Rattle.protocol.specs.Questions.{first_no}
use Rattle.protocol.proofs.view.RuleCases.{timeout_cases, vote_cases, ack_cases, help_cases, helped_cases, sufficient_cases, second_cases, restore_cases}
use Rattle.protocol.proofs.view.View.{ballots_v, View, accepts, ask_l, ask_r}
use Rattle.protocol.proofs.view.Performed.{commit_v, chosen, saved_v, checkpoint_at, identity_v, perform_v}
use Rattle.protocol.proofs.invariant.Words.{noting-runs, noting-phase}
use Rattle.protocol.proofs.invariant.Invariant.{ack_on, acked_by}
use Rattle.protocol.proofs.invariant.Commit.{upd_all₂}
use Rattle.protocol.proofs.view.Kinds.{is_stop}
use Rattle.std.specs.Prelude.{Option}
use Rattle.model.specs.declared.Checkpoint.{Checkpoint}

pub stopped-idle : (k : Condition) → is_stopped k ≡ true → is_running k ≡ false
stopped-idle (Running p) e = absurd (false≢true e)
stopped-idle Stopped e = refl
stopped-idle (Standby o) e = refl

module _ (n f : ℕ) where
  -- how the phase of controller j goes on
  pub data PhaseMove (e : Event) (j s s' : ℕ) : Type 0 where
    stays : s' ≡ s → PhaseMove e j s s'
    times-out : e ≡ Timeout j → s' ≡ suc s → PhaseMove e j s s'
    voted : (w : Bool) (t : ℕ) → e ≡ Cast j w t → s ≡ 0 → s' ≡ cond (leb j (suc f)) 1 2 → PhaseMove e j s s'

  pub record Kept (e : Event) (j : ℕ) (c c' : Controller) (l l' : Sent) : Type 0 where
    pub running : runs c' ≡ runs c
    pub votes : runs c ≡ true → (k : ℕ) → knows c.votes k ≡ true → knows c'.votes k ≡ true
    pub acks : runs c ≡ true → (k : ℕ) → has_ack c k ≡ true → has_ack c' k ≡ true
    pub phase : runs c ≡ true → PhaseMove e j (phase c) (phase c')
    pub acked : acked_by j l' ≡ true → ((acked_by j l ≡ true) × (ack_on l' ≡ ack_on l)) ⊎ ((e ≡ Timeout j) × (ack_on l' ≡ c.votes))

  live-refl : (e : Event) (j : ℕ) (c : Controller) (l : Sent) → Kept e j c c l l
  live-refl e j c l = record { running = refl; votes = λ r k h. h; acks = λ r k h. h; phase = λ r. stays refl; acked = λ h. inl (h, refl) }

  record KeptBy (e : Event) (j : ℕ) (c : Controller) (l : Sent) (a : Answer) : Type 0 where
    live : Kept e j c a.controller l (sent_after l a.sends)

  becomes-kept : (e : Event) (j : ℕ) (c c' : Controller) (l : Sent) → Kept e j c c' l l → KeptBy e j c l (becomes c')
  unfolding becomes sent_after
  becomes-kept e j c c' l h = record { live = h }

  passed-over-kept : (e : Event) (j : ℕ) (c : Controller) (l : Sent) → KeptBy e j c l (passing_over c)
  unfolding passing_over sent_after
  passed-over-kept e j c l = record { live = live-refl e j c l }

  settle-live : (e : Event) (j : ℕ) (c : Controller) (l : Sent) (a : Answer) → KeptBy e j c l a → KeptBy e j c l (propose_if_sufficient n f a)
  unfolding proposing propose sent_after
  settle-live e j c l a h = sufficient_cases (KeptBy e j c l) n f a
      (λ q. record { live = record { running = h.live.running; votes = h.live.votes; acks = h.live.acks; phase = h.live.phase; acked = h.live.acked } }) (λ q. h)

  module _ (small : n ≤ limit) where
    -- an acknowledgement kept: the condition and the own vote set stay
    keep_live : (e : Event) (i j : ℕ) (s : VoteSet) (c : Controller) (l : Sent) → 1 ≤ i → i ≤ n → Kept e j c (keep_ack c i s) l l
    unfolding keep_ack
    keep_live e i j s c l a b = record { running = refl; votes = λ r k h. h; acks = λ r k h. insert-keeps c.acks.from i k h; phase = λ r. stays refl; acked = λ h. inl (h, refl) }

    arrives-live : (e : Event) (kind : Kind) (i j : ℕ) (s : VoteSet) (c : Controller) (l : Sent) → 1 ≤ i → i ≤ n → KeptBy e j c l (arrives kind n f i s c)
    unfolding arrives
    arrives-live e Vote i j s c l a b = vote_cases (KeptBy e j c l) s c (λ q. becomes-kept e j c _ l learned) (passed-over-kept e j c l)
      where
        learned : Kept e j c (learn c s) l l
        learned = unfold learn in record { running = refl; votes = λ r k h. keeps-known c.votes s k h; acks = λ r k h. h; phase = λ r. stays refl; acked = λ h. inl (h, refl) }
    arrives-live e Ack i j s c l a b = ack_cases (KeptBy e j c l) n f i s c
        (λ q. settle-live e j c l _ (becomes-kept e j c _ l (keep_live e i j s c l a b))) (λ q. passed-over-kept e j c l)
    arrives-live e Help i j s c l a b = help_cases (KeptBy e j c l) i c (λ p. keeps) (λ p q. answers) (λ q. passed-over-kept e j c l)
      where
        keeps : KeptBy e j c l (keeps_call i c)
        keeps = unfold keeps_call becomes add_caller sent_after in record { live = record { running = refl; votes = λ r k h. h; acks = λ r k h. h; phase = λ r. stays refl; acked = λ h. inl (h, refl) } }

        answers : KeptBy e j c l (answers_call i c)
        answers = unfold answers_call add_caller sent_after in record { live = record { running = refl; votes = λ r k h. h; acks = λ r k h. h; phase = λ r. stays refl; acked = λ h. inl (h, refl) } }
    arrives-live e Helped i j s c l a b = helped_cases (KeptBy e j c l) n f i s c
        (λ p q. settle-live e j c l _ (becomes-kept e j c _ l kept)) (λ q. passed-over-kept e j c l)
      where
        kept : Kept e j c (keep_helped c i s) l l
        kept = unfold keep_helped in record { running = refl; votes = λ r k h. h; acks = λ r k h. h; phase = λ r. stays refl; acked = λ h. inl (h, refl) }

    first_live : (j : ℕ) (c : Controller) (l : Sent) → 1 ≤ j → j ≤ n → runs c ≡ true → phase c ≡ 1 → KeptBy (Timeout j) j c l (first_timeout n f j c)
    unfolding first_timeout advance sent_after
    first_live j c l a b r₀ st = record { live = record { running = sym r₀; votes = λ r k h. kept k h; acks = λ r k h. grow k h; phase = λ r. times-out refl (rw st); acked = λ h. inr (refl, refl) } }
      where
        kept : (k : ℕ) → knows c.votes k ≡ true → knows (count_own f j c).votes k ≡ true
        kept k h = unfold count_own keep_ack in by_cond (λ (x : Controller). knows x.votes k ≡ true) (is_backup f j && not (has_ack c j)) (keep_ack c j c.votes) c (λ e. h) (λ e. h)

        grow : (k : ℕ) → has_ack c k ≡ true → has_ack (count_own f j c) k ≡ true
        grow k h = unfold count_own keep_ack in by_cond (λ (x : Controller). has_ack x k ≡ true) (is_backup f j && not (has_ack c j)) (keep_ack c j c.votes) c (λ e. insert-keeps c.acks.from j k h) (λ e. h)

    vote-live : (j : ℕ) (w : Bool) (t : ℕ) (c : Controller) (l : Sent) → runs c ≡ true → phase c ≡ 0 → KeptBy (Cast j w t) j c l (vote_rule n f j w t c)
    unfolding vote_rule sent_after advance aim learn
    vote-live j w t c l r₀ st = record { live = record { running = sym r₀; votes = λ r k h. keeps-known c.votes (single j w) k h; acks = λ r k h. h; phase = λ r. voted w t refl st refl; acked = λ h. inl (h, refl) } }

  decide-live : (e : Event) (j : ℕ) (o : Outcome) (c : Controller) (l : Sent) → KeptBy e j c l (becomes (conclude c o))
  unfolding becomes sent_after conclude
  decide-live e j o c l = record { live = record { running = noting-runs c.condition o; votes = λ r k h. h; acks = λ r k h. h; phase = λ r. stays (noting-phase c.condition o); acked = λ h. inl (h, refl) } }

  second_live : (j : ℕ) (c : Controller) (l : Sent) → runs c ≡ true → phase c ≡ 2 → KeptBy (Timeout j) j c l (second_timeout n f j c)
  second_live j c l r₀ st = second_cases (KeptBy (Timeout j) j c l) n f j c (λ d. direct) (λ e. put) (λ e. settle-live (Timeout j) j c l _ waits)
    where
      direct : KeptBy (Timeout j) j c l (ready (help_votes n c) (conclude (frozen n c) (verdict n (ack_join n c))))
      direct = unfold ready sent_after conclude frozen freeze advance in record { live = record { running = sym r₀; votes = λ r k h. h; acks = λ r k h. h; phase = λ r. times-out refl (rw st); acked = λ h. inl (h, refl) } }

      put : KeptBy (Timeout j) j c l (proposing (ready (help_votes n c) (frozen n c)) (verdict n (ack_join n c)))
      put = unfold proposing ready propose sent_after frozen freeze advance in record { live = record { running = sym r₀; votes = λ r k h. h; acks = λ r k h. h; phase = λ r. times-out refl (rw st); acked = λ h. inl (h, refl) } }

      waits : KeptBy (Timeout j) j c l (calls_help n f j (help_votes n c) (frozen n c))
      waits = unfold calls_help keep_helped await sent_after frozen freeze advance in record { live = record { running = sym r₀; votes = λ r k h. h; acks = λ r k h. h; phase = λ r. times-out refl (rw st); acked = λ h. inl (h, refl) } }

  restore-live : (e : Event) (j : ℕ) (o : Outcome) (c : Controller) (l : Sent) → runs c ≡ false → KeptBy e j c l (becomes (cleared (Standby o) c))
  unfolding becomes sent_after cleared
  restore-live e j o c l q = record { live = record { running = sym q; votes = λ r. absurd (no_both (runs c) r q); acks = λ r. absurd (no_both (runs c) r q); phase = λ r. absurd (no_both (runs c) r q); acked = λ h. inl (h, refl) } }

  restored-live : (e : Event) (j : ℕ) (me : Identity) (s : Option Checkpoint) (c : Controller) (l : Sent) → runs c ≡ false → KeptBy e j c l (restore_from me s c)
  restored-live e j me s c l q = restore_cases (KeptBy e j c l) me s c (λ x z y. restore-live e j _ c l q) (passed-over-kept e j c l)

  abbrev pub KeptAll : Event → View → View → Type 0
  KeptAll e b b' = (k : ℕ) → Kept e k (b.ctl k) (b'.ctl k) (b.state.sent k) (b'.state.sent k)

  commit_tame : (e : Event) (b : View) (j : ℕ) (a : Answer) → KeptBy e j (b.ctl j) (b.state.sent j) a → KeptAll e b (commit_v b j a)
  unfolding commit_v
  commit_tame e b j a h = upd_all₂ (λ k c l. Kept e k (b.ctl k) c (b.state.sent k) l) b.ctl b.state.sent j a.controller (sent_after (b.state.sent j) a.sends) h.live (λ k. live-refl e k (b.ctl k) (b.state.sent k))

  decide_tame : (b : View) (i : ℕ) (w : Bool) → KeptAll (Decide i w) b (commit_v (chosen b w) i (becomes (conclude (b.ctl i) (word_of w))))
  unfolding chosen
  decide_tame b i w = commit_tame (Decide i w) (chosen b w) i _ (decide-live (Decide i w) i (word_of w) (b.ctl i) (b.state.sent i))

  save_tame : (b : View) (i : ℕ) → KeptAll (Save i) b (saved_v b i (checkpoint_at n f b i))
  unfolding saved_v
  save_tame b i k = live-refl (Save i) k (b.ctl k) (b.state.sent k)

  -- neither a lock, a new order nor a stop
  abbrev pub Goes : Event → Type 0
  Goes e = (concerns_one e && not (is_stop e)) ≡ true

  pub perform_tame : n ≤ limit → (b : View) (e : Event) → Goes e → accepts n f b e ≡ true → KeptAll e b (perform_v n f b e)
  unfolding perform_v accepts first_no is_controller
  perform_tame s b (Lock a c own) g q = absurd (false≢true g)
  perform_tame s b (Order o) g q = absurd (false≢true g)
  perform_tame s b (Cast i w t) g q = commit_tame _ b i _ (vote-live s i w t _ _ (search (ask_l, ask_r, and_l, and_r) depth 14) (eqb-true _ _ (search (ask_l, ask_r, and_l, and_r) depth 14)))
  perform_tame s b (Deliver i j k) g q = commit_tame _ b j _ (arrives-live s _ k i j _ _ _ (leb-true _ _ (search (ask_l, ask_r, and_l, and_r) depth 14)) (leb-true _ _ (search (ask_l, ask_r, and_l, and_r) depth 14)))
  perform_tame s b (Timeout i) g q = commit_tame (Timeout i) b i _ (timeout_cases (KeptBy (Timeout i) i (b.ctl i) (b.state.sent i)) n f i (b.ctl i)
      (λ st. first_live s i _ _ (leb-true _ _ (search (ask_l, ask_r, and_l, and_r) depth 14)) (leb-true _ _ (search (ask_l, ask_r, and_l, and_r) depth 14)) (search (ask_l, ask_r, and_l, and_r) depth 14) st)
      (λ e. second_live i _ _ (search (ask_l, ask_r, and_l, and_r) depth 14) (eqb-true _ _ (or-second (eqb (phase (b.ctl i)) 1) _ e (search (ask_l, ask_r, and_l, and_r) depth 14)))))
  perform_tame s b (Decide i w) g q = decide_tame b i w
  perform_tame s b (Stop i) g q = absurd (false≢true g)
  perform_tame s b (Save i) g q = save_tame b i
  perform_tame s b (OfBallots e) g q = unfold ballots_v in (λ k. live-refl (OfBallots e) k (b.ctl k) (b.state.sent k))
  perform_tame s b (Restore i) g q = commit_tame _ b i _ (restored-live _ i (identity_v n f b i) (b.saved i) (b.ctl i) (b.state.sent i) (stopped-idle (b.ctl i).condition (search (ask_l, ask_r, and_l, and_r) depth 14)))
