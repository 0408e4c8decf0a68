-- A cabinet that is past an order: in a later one, or quiet. Every call keeps it so.
use Prim.Native.Nat.{ℕ, zero, suc, ◌<◌, ◌≤◌}
use mathlib.Core.Path.{◌≡◌, refl, subst, ◌∙◌}
use mathlib.Core.Bool.{Bool, true, false, ◌&&◌, ◌||◌, true≢false, false≢true}
use mathlib.Core.Logic.{◌⊎◌, inl, inr}
use mathlib.Core.List.{List, [], ◌∷◌}
use native.Mathlib.Omega.{arith}
use lib.Dec.{eqb, leb}
use borrow.Author.Tests.{eqb-true, eq-eqb, leb-true, leb-false, ltb-true}
use Rattle.ground.proofs.MaskLaws.{has-none}
use Rattle.ground.specs.Tests.{by_cond, split, and_l, and_r, no_both, refuted}
use Rattle.model.specs.Questions.{number, first_no}
use Rattle.model.specs.QuestionLaws.{all_yes, reply-accepted}
use Rattle.model.specs.declared.Checkpoint.{Checkpoint}
use Rattle.model.specs.declared.Outcome.{Outcome}
use Rattle.model.specs.declared.Outcome.TheVariants.{None}
use Rattle.model.specs.declared.BallotMessage.{BallotMessage}
use Rattle.model.specs.declared.Message.{Message}
use Rattle.model.specs.declared.Telegram.TheVariants.{Plain, OfBallot}
use Rattle.records.specs.Codec.{reads}
use Rattle.records.specs.Codes.{flag_of}
use Rattle.checkpoint_record.specs.Checkpoints.{checkpoints}
use Rattle.checkpoint_record.specs.Checkpoints.{ReadCheckpoint}
use Rattle.std.specs.Prelude.{Ok, Err}
use Rattle.message_record.specs.Messages.{suits}
use Rattle.message_record.specs.Telegrams.{telegrams}
use Rattle.message_record.specs.Telegrams.{ReadTelegram}
use Rattle.protocol.specs.declared.Answer.{Answer}
use Rattle.protocol.specs.declared.Condition.{Condition}
use Rattle.protocol.specs.declared.Condition.TheVariants.{Running, Stopped, Standby}
use Rattle.protocol.specs.declared.Controller.{Controller}
use Rattle.protocol.specs.declared.Identity.{Identity}
use Rattle.protocol.specs.declared.Tally.{Tally}
use Rattle.protocol.specs.Controllers.{is_running, is_standby, is_stopped, runs, does_stand_by, in_phase, cleared, noting, conclude}
use Rattle.protocol.specs.Rules.{nothing, passing_over, becomes}
use Rattle.protocol.specs.Calls.{valid_identity, addressed, receive, awaits_decision, decide, stop, restore, renew}
use Rattle.protocol.specs.Sequence.{members, messages_of_kind, messages_of}
use Rattle.protocol.specs.Benches.{unsent_all, sent_after}
use Rattle.protocol.specs.BallotRules.{unanswered}
use Rattle.protocol.specs.BallotCalls.{takes_part, receive_ballot}
use Rattle.cabinet_state.specs.declared.Cabinet.{Cabinet}
use Rattle.cabinet_turns.specs.Asked.{order_asked, vote_asked, timeout_asked, own_card, wake_asked, open_asked}
use Rattle.cabinet_turns.specs.Turns.{answered, no_ballots, ordered, voted, timed_out, decided, halted, later_order, woken_by, woken}
use Rattle.cabinet_turns.specs.Ballots.{tally_for, report_after, with_ballots, opening_asked, by_itself, opened, opened_by, accepts, by_after, tally_after, answered_in, received_ballot, received_telegram, received}
use Rattle.cabinet_turns.specs.Telegrams.{sends_of, promise_sent, acceptance_sent, asks_sent, puts_sent, ballots_sent, telegrams_sent}
use Rattle.cabinet.specs.Acts.{Act, Ordering, Voting, Receiving, TimingOut, Deciding, Stopping, Waking, Opening, number_of, next_of}
use Rattle.cabinet_alone.specs.Acts.{after, after_all}
use Rattle.cabinet_alone.specs.Restart.{condition, Wakes, awake, called, Restart}

-- it does not run, and has sent nothing
pub record Quiet (s : Cabinet) : Type 0 where
  pub idle : is_running (condition s) ≡ false
  pub unsent : s.sent ≡ unsent_all
  pub unballoted : s.ballots ≡ no_ballots

abbrev Past : ℕ → Cabinet → Type 0
Past o s = (o < s.me.order) ⊎ ((o ≤ s.me.order) × Quiet s)

-- CONDITIONS
standby-idle : (k : Condition) → is_standby k ≡ true → is_running k ≡ false
standby-idle (Running p) e = absurd (false≢true e)
standby-idle Stopped e = refl
standby-idle (Standby o) e = refl

standby-there : (k : Condition) → is_standby k ≡ true → is_stopped k ≡ false
standby-there (Running p) e = refl
standby-there Stopped e = absurd (false≢true e)
standby-there (Standby o) e = refl

neither : (k : Condition) → (is_running k || is_standby k) ≡ false → is_stopped k ≡ true
neither (Running p) e = absurd (true≢false e)
neither Stopped e = refl
neither (Standby o) e = absurd (true≢false e)

noted : (k : Condition) (o : Outcome) → is_running (noting k o) ≡ is_running k
noted (Running p) o = refl
noted Stopped o = refl
noted (Standby x) o = refl

-- ANSWERS of one that does not run
abbrev Silent : Answer → Type 0
Silent a = (is_running a.controller.condition ≡ false) × (a.sends ≡ nothing)

module _ (c : Controller) (x : runs c ≡ false) where
  receives : (me : Identity) (m : Message) → Silent (receive me m c)
  unfolding receive passing_over
  receives me m = by_cond Silent (valid_identity me && runs c && addressed me m && suits m) _ _
      (λ e. absurd (no_both (runs c) (search (and_l, and_r)) x)) (λ e. (x, refl))

  hears : (w : Bool) → Silent (decide w c)
  unfolding decide becomes passing_over conclude
  hears w = by_cond Silent (awaits_decision c) _ _ (λ e. (noted c.condition _ ∙ x, refl)) (λ e. (x, refl))

  stops : Silent (stop c)
  unfolding stop becomes passing_over cleared
  stops = by_cond Silent (runs c || does_stand_by c) _ _ (λ e. (refl, refl)) (λ e. (x, refl))

  no_part : (me : Identity) (own : Bool) → takes_part me own c ≡ false
  unfolding takes_part
  no_part me own = refuted (takes_part me own c) (λ e. no_both (runs c) (search (and_l, and_r)) x)

stopped : (c : Controller) → is_stopped (stop c).controller.condition ≡ true
unfolding stop becomes passing_over cleared
stopped c = by_cond (λ (a : Answer). is_stopped a.controller.condition ≡ true) (runs c || does_stand_by c) _ _ (λ e. refl) (λ e. neither c.condition e)

restored : (me : Identity) (p : Checkpoint) (c : Controller) → is_stopped c.condition ≡ true → is_standby (restore me p c).controller.condition ≡ true
unfolding restore becomes cleared
restored me p c e = rw e

-- a quiet one stays so
still-unsent : sent_after unsent_all nothing ≡ unsent_all
unfolding sent_after unsent_all
still-unsent = refl

module _ (s : Cabinet) (x : Quiet s) where
  quiet-answer : (a : Answer) → Silent a → Quiet (answered s a)
  unfolding answered
  quiet-answer a y = record { idle = y.0; unsent = rw (x.unsent, y.1) still-unsent; unballoted = x.unballoted }

  same-tally : (b : ℕ) → tally_after b s.ballots (tally_for b s.ballots) ≡ s.ballots.tally
  unfolding tally_after tally_for
  same-tally b = elim (split (eqb b s.ballots.opened)) [
    | inl y ↦ rw y
    | inr y ↦ rw y
  ]

  none_told : (m : BallotMessage) → accepts m s ≡ false
  unfolding accepts
  none_told m = refuted (accepts m s) (λ e. no_both (takes_part s.me s.own s.controller) (search (and_l, and_r)) (no_part s.controller x.idle s.me s.own))

  unanswering : (m : BallotMessage) (t : Tally) → receive_ballot s.me s.own m s.controller s.ballots.acceptor t ≡ unanswered s.ballots.acceptor t
  unfolding receive_ballot
  unanswering m t = rw (no_part s.controller x.idle s.me s.own)

  quiet-ballot : (m : BallotMessage) → Quiet (received_ballot m s)
  unfolding received_ballot answered_in with_ballots report_after by_after by_itself unanswered
  quiet-ballot m = record {
    idle = x.idle;
    unsent = x.unsent;
    unballoted = rw (unanswering m (tally_for m.ballot s.ballots), none_told m, same-tally m.ballot) x.unballoted;
  }

quiet-telegram : (read : ReadTelegram) (s : Cabinet) → Quiet s → Quiet (received read s)
unfolding received received_telegram
quiet-telegram (Err q) s x = x
quiet-telegram (Ok (Plain m)) s x = quiet-answer s x _ (receives s.controller x.idle s.me m)
quiet-telegram (Ok (OfBallot m)) s x = quiet-ballot s x m

-- WAKING
standing_by : (p : Checkpoint) (s : Cabinet) → is_standby (condition (woken_by p s)) ≡ true
unfolding woken_by
standing_by p s = restored _ p (stop s.controller).controller (stopped s.controller)

quiet-woken : (p : Checkpoint) (s : Cabinet) → Quiet (woken_by p s)
unfolding woken_by
quiet-woken p s = record { idle = standby-idle (condition (woken_by p s)) (standing_by p s); unsent = refl; unballoted = refl }

later : (o p : ℕ) → (p ≤ later_order o p) × (o ≤ later_order o p)
unfolding later_order
later o p = elim (split (leb o p)) [
  | inl y ↦ (let h = leb-true o p y in rw y (omega arith, omega (arith, h)))
  | inr y ↦ (let h = leb-false o p y in rw y (omega (arith, h), omega arith))
]

woken-later : (p : Checkpoint) (s : Cabinet) → (p.order ≤ (woken_by p s).me.order) × (s.me.order ≤ (woken_by p s).me.order)
unfolding woken_by
woken-later p s = later s.me.order p.order

quiet-card : (read : ReadCheckpoint) (s : Cabinet) → Quiet s → Quiet (woken read s)
unfolding woken
quiet-card (Err q) s x = x
quiet-card (Ok p) s x = quiet-woken p s

-- ANY CALL. The order's number never falls, and it rises at a new order
telegram-order : (read : ReadTelegram) (s : Cabinet) → s.me.order ≤ (received read s).me.order
unfolding received received_telegram answered received_ballot answered_in with_ballots
telegram-order (Err q) s = omega arith
telegram-order (Ok (Plain m)) s = omega arith
telegram-order (Ok (OfBallot m)) s = omega arith

card-order : (read : ReadCheckpoint) (s : Cabinet) → s.me.order ≤ (woken read s).me.order
unfolding woken
card-order (Err q) s = omega arith
card-order (Ok p) s = (woken-later p s).1

number_rises : (k : ℕ) (s : Cabinet) → number_of (Ordering k) s ≡ 0 → s.me.order < k
unfolding order_asked
number_rises k s e = ltb-true s.me.order k (all_yes _ (reply-accepted (order_asked k s.me.order (condition s)) _ refl refl e)).1.0

rises : (a : Act) (s : Cabinet) → number_of a s ≡ 0 → s.me.order ≤ (next_of a s).me.order
unfolding ordered voted timed_out decided halted answered opened opened_by with_ballots
rises (Ordering k) s e = let h = number_rises k s e in omega (arith, h)
rises (Voting w t) s e = omega arith
rises (Receiving bytes) s e = telegram-order (reads telegrams bytes) s
rises TimingOut s e = omega arith
rises (Deciding w) s e = omega arith
rises Stopping s e = omega arith
rises (Waking bytes) s e = card-order (reads checkpoints bytes) s
rises (Opening b) s e = omega arith

-- one that is quiet is asked 15 before it votes, rings or opens a ballot
idle-runs : (a : Act) (s : Cabinet) → Quiet s → is_running (condition s) ≡ true → Quiet (next_of a s)
idle-runs a s x e = absurd (no_both (is_running (condition s)) e x.idle)

quiet : (a : Act) (s : Cabinet) → number_of a s ≡ 0 → Quiet s → (s.me.order < (next_of a s).me.order) ⊎ Quiet (next_of a s)
unfolding ordered decided halted vote_asked timeout_asked open_asked
quiet (Ordering k) s e x = inl (number_rises k s e)
quiet (Voting w t) s e x = inr (idle-runs (Voting w t) s x (all_yes _ (reply-accepted (vote_asked w t s.me.order (condition s)) _ refl refl e)).1.1.1.0)
quiet (Receiving bytes) s e x = inr (quiet-telegram (reads telegrams bytes) s x)
quiet TimingOut s e x = inr (idle-runs TimingOut s x (all_yes _ (reply-accepted (timeout_asked s.me.order (condition s)) _ refl refl e)).1.0)
quiet (Deciding w) s e x = inr (quiet-answer s x _ (hears s.controller x.idle (flag_of w)))
quiet Stopping s e x = inr (quiet-answer s x _ (stops s.controller x.idle))
quiet (Waking bytes) s e x = inr (quiet-card (reads checkpoints bytes) s x)
quiet (Opening b) s e x = inr (idle-runs (Opening b) s x (all_yes _ (reply-accepted (opening_asked b s) _ refl refl e)).1.0)

past_next : (o : ℕ) (a : Act) (s : Cabinet) → number_of a s ≡ 0 → Past o s → Past o (next_of a s)
past_next o a s e (inl h) = let r = rises a s e in inl (omega (arith, h, r))
past_next o a s e (inr (h, x)) = let r = rises a s e in elim (quiet a s e x) [
  | inl q ↦ inl (omega (arith, h, q))
  | inr q ↦ inr (omega (arith, h, r), q)
]

past_one : (o : ℕ) (a : Act) (s : Cabinet) → Past o s → Past o (after a s)
unfolding after
past_one o a s x = by_cond (Past o) (eqb (number_of a s) 0) (next_of a s) s (λ e. past_next o a s (eqb-true (number_of a s) 0 e) x) (λ e. x)

past_all : (o : ℕ) (acts : List Act) (s : Cabinet) → Past o s → Past o (after_all acts s)
unfolding after_all
past_all o [] s x = x
past_all o (a ∷ acts) s x = past_all o acts (after a s) (past_one o a s x)

-- one that is quiet has nothing to send
no-members : (m : ℕ) → members m 0 ≡ []
unfolding members
no-members zero = refl
no-members (suc m) = rw (no-members m, has-none (suc m))

nothing-sent : (s : Cabinet) → Quiet s → telegrams_sent s ≡ []
unfolding telegrams_sent messages_of messages_of_kind sends_of unsent_all ballots_sent promise_sent acceptance_sent asks_sent puts_sent no_ballots
nothing-sent s x = rw (x.unsent, x.unballoted, no-members s.me.n)

-- a waking that is accepted
is-own : (p : Checkpoint) (me : Identity) → number (first_no (wake_asked (Ok p) me)) ≡ 0 → own_card me p ≡ true
unfolding wake_asked
is-own p me e = (all_yes _ (reply-accepted (wake_asked (Ok p) me) _ refl refl e)).0

own-card : (bytes : List ℕ) (p : Checkpoint) (s : Cabinet) → Wakes bytes p s → (p.id ≡ s.me.id) × ((p.n ≡ s.me.n) × (p.f ≡ s.me.f))
unfolding own_card
own-card bytes p s x =
    let y = is-own p s.me (subst (λ (read : ReadCheckpoint). number (first_no (wake_asked read s.me)) ≡ 0) x.card x.answer) in
    (eqb-true p.id s.me.id (search (and_l, and_r)), (eqb-true p.n s.me.n (search (and_l, and_r)), eqb-true p.f s.me.f (search (and_l, and_r))))

woke : (bytes : List ℕ) (p : Checkpoint) (s : Cabinet) → Wakes bytes p s → awake bytes s ≡ woken_by p s
unfolding after woken
woke bytes p s x = rw (eq-eqb (number_of (Waking bytes) s) 0 x.answer, x.card)

past-woken : (bytes : List ℕ) (p : Checkpoint) (s : Cabinet) → Wakes bytes p s → Past p.order (awake bytes s)
past-woken bytes p s x = rw (woke bytes p s x) (inr ((woken-later p s).0, quiet-woken p s))

never-again : (bytes : List ℕ) (p : Checkpoint) (s : Cabinet) (more : List Act) → Wakes bytes p s → (called bytes s more).me.order ≤ p.order
    → (is_running (condition (called bytes s more)) ≡ false) × (telegrams_sent (called bytes s more) ≡ [])
never-again bytes p s more x h = elim (past_all p.order more (awake bytes s) (past-woken bytes p s x)) [
  | inl q ↦ absurd (omega (arith, h, q))
  | inr q ↦ (q.1.idle, nothing-sent (called bytes s more) q.1)
]

begins-again : (k : ℕ) (s : Cabinet) → is_standby (condition s) ≡ true → number_of (Ordering k) s ≡ 0 → condition (after (Ordering k) s) ≡ in_phase 0 None
unfolding after ordered renew cleared
begins-again k s h e = rw (eq-eqb (number_of (Ordering k) s) 0 e, standby-there (condition s) h)

pub restart : Restart
restart = record {
  own-card = own-card;
  stands_by = λ bytes p s x. rw (woke bytes p s x) (standing_by p s);
  in_order = λ bytes p s x. rw (woke bytes p s x) (woken-later p s);
  silent = λ bytes p s x. rw (woke bytes p s x) (nothing-sent (woken_by p s) (quiet-woken p s));
  never-again = never-again;
  runs-next = λ k s h e. (number_rises k s e, begins-again k s h e);
}
