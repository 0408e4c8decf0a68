-- The words after any calls are those of the cabinet that the accepted calls make: each call leaves a cabinet that reads back, so the next one takes it.
use Prim.Native.Nat.{ℕ, ◌<◌}
use mathlib.Core.Path.{◌≡◌, refl, ap, ◌∙◌}
use mathlib.Core.Bool.{true, cond}
use mathlib.Core.List.{List, [], ◌∷◌}
use mathlib.Core.Logic.{inl, inr}
use native.Mathlib.Omega.{arith}
use lib.Dec.{eqb}
use lib.ListN.{length}
use borrow.Author.Tests.{eqb-true, eq-eqb}
use Rattle.ground.specs.Tests.{by_cond, split}
use Rattle.model.specs.QuestionLaws.{all_yes, reply-accepted}
use Rattle.model.specs.RangeLaws.{ranges, member}
use Rattle.model.specs.declared.Telegram.{Telegram}
use Rattle.model.specs.declared.Telegram.TheVariants.{Plain, OfBallot}
use Rattle.model.specs.declared.BallotMessage.{BallotMessage}
use Rattle.records.specs.Codec.{reads}
use Rattle.checkpoint_record.specs.Checkpoints.{checkpoints}
use Rattle.checkpoint_record.specs.Checkpoints.{ReadCheckpoint}
use Rattle.std.specs.Prelude.{Ok, Err}
use Rattle.message_record.specs.Telegrams.{telegrams}
use Rattle.message_record.specs.Telegrams.{ReadTelegram}
use Rattle.protocol.specs.declared.Tally.{Tally}
use Rattle.protocol.specs.Calls.{stop}
use Rattle.cabinet_state.specs.declared.BallotState.{BallotState}
use Rattle.cabinet_state.specs.declared.Cabinet.{Cabinet}
use Rattle.cabinet_state.specs.Words.{state_words, cabinet_of, words_of}
use Rattle.cabinet_state.specs.States.{state_refusal, leave_number, leave_words}
use Rattle.cabinet_state.specs.Encoding.{InBytes, Encoding}
use Rattle.cabinet_turns.specs.Asked.{begin_asked, open_asked}
use Rattle.cabinet_turns.specs.Turns.{answered, no_ballots, begun, ordered, voted, timed_out, decided, halted, woken_by, woken}
use Rattle.cabinet_turns.specs.Ballots.{tally_for, with_ballots, may_open, opening_asked, opened_by, opened, tally_after, answered_in, received_ballot, received_telegram, received}
use Rattle.cabinet.specs.Calls.{call_number, call_words}
use Rattle.cabinet.specs.Acts.{Act, Ordering, Voting, Receiving, TimingOut, Deciding, Stopping, Waking, Opening, number_of, next_of, words_after, begin_number}
use Rattle.cabinet_alone.specs.Acts.{after, after_all}
use Rattle.cabinet_alone.specs.Runs.{Run, words_after_all, lent, cabinet, start, made}
use Rattle.cabinet_alone.proofs.Fits.{Fits, fits-renewed, fits-stopped, fits-restored, fits-decided, fits-voted, fits-received, fits_timed-out}
use Rattle.cabinet_alone.proofs.BallotsFit.{AcceptorFits, received_fits, may_open_lem, opened_fits, tally_fits, report_fits}

-- a cabinet in bytes, by its parts
fits : (s : Cabinet) → InBytes s → Fits s.controller
fits s x = record { phase = x.phase; cnt = x.cnt; helped = x.helped; sets = x.sets }

acceptor_fits : (s : Cabinet) → InBytes s → AcceptorFits s.ballots.acceptor
acceptor_fits s x = record { highest = x.highest; promised = x.promised; last = x.last }

with-controller : (s s' : Cabinet) → InBytes s → s'.me.n ≡ s.me.n → s'.me.f ≡ s.me.f → s'.me.id ≡ s.me.id → s'.ballots ≡ s.ballots → Fits s'.controller → InBytes s'
with-controller s s' x n f id b y = record {
  n = rw n x.n;
  f = rw f x.f;
  id = rw id x.id;
  phase = y.phase;
  cnt = y.cnt;
  helped = y.helped;
  sets = y.sets;
  highest = rw b x.highest;
  promised = rw b x.promised;
  last = rw b x.last;
  reported = rw b x.reported;
  opened = rw b x.opened;
  top = rw b x.top;
}

unballoted : (s s' : Cabinet) → InBytes s → s'.me.n ≡ s.me.n → s'.me.f ≡ s.me.f → s'.me.id ≡ s.me.id → s'.ballots ≡ no_ballots → Fits s'.controller → InBytes s'
unfolding no_ballots
unballoted s s' x n f id b y = record {
  n = rw n x.n;
  f = rw f x.f;
  id = rw id x.id;
  phase = y.phase;
  cnt = y.cnt;
  helped = y.helped;
  sets = y.sets;
  highest = rw b (omega arith);
  promised = rw b (omega arith);
  last = rw b (omega arith);
  reported = rw b (omega arith);
  opened = rw b (omega arith);
  top = rw b (omega arith);
}

with-ballots : (s : Cabinet) (b : BallotState) → InBytes s → AcceptorFits b.acceptor → b.report.last < 256 → b.opened < 256 → b.tally.top < 256 → InBytes (with_ballots s b)
unfolding with_ballots
with-ballots s b x a r o t = record {
  n = x.n;
  f = x.f;
  id = x.id;
  phase = x.phase;
  cnt = x.cnt;
  helped = x.helped;
  sets = x.sets;
  highest = a.highest;
  promised = a.promised;
  last = a.last;
  reported = r;
  opened = o;
  top = t;
}

-- each call keeps it
received-ballot : (m : BallotMessage) (s : Cabinet) → InBytes s → InBytes (received_ballot m s)
unfolding received_ballot answered_in tally_after
received-ballot m s x =
    let t = tally_for m.ballot s.ballots in
    let y = received_fits s.me s.own m s.controller s.ballots.acceptor t (acceptor_fits s x) (tally_fits m.ballot s.ballots x.top) in
    with-ballots s _ x y.acceptor (report_fits s.ballots.report _ x.reported y) x.opened
    (by_cond (λ (z : Tally). z.top < 256) (eqb m.ballot s.ballots.opened) _ _ (λ e. y.top) (λ e. x.top))

received-telegram : (t : Telegram) (s : Cabinet) → InBytes s → InBytes (received_telegram t s)
unfolding received_telegram answered
received-telegram (Plain m) s x = with-controller s _ x refl refl refl refl (fits-received s.controller (fits s x) s.me m)
received-telegram (OfBallot m) s x = received-ballot m s x

received-bytes : (read : ReadTelegram) (s : Cabinet) → InBytes s → InBytes (received read s)
unfolding received
received-bytes (Err q) s x = x
received-bytes (Ok t) s x = received-telegram t s x

woken-bytes : (read : ReadCheckpoint) (s : Cabinet) → InBytes s → InBytes (woken read s)
unfolding woken woken_by
woken-bytes (Err q) s x = x
woken-bytes (Ok p) s x = unballoted s _ x refl refl refl refl (fits-restored (stop s.controller).controller (fits-stopped s.controller (fits s x)) _ p)

opened-bytes : (b : ℕ) (s : Cabinet) → InBytes s → may_open b s ≡ true → InBytes (opened b s)
unfolding opened opened_by may_open
opened-bytes b s x e =
    let t = tally_for b s.ballots in
    let h = may_open_lem s.me b s.ballots.acceptor t e in
    let y = opened_fits s.me s.own b s.controller s.ballots.acceptor t h (acceptor_fits s x) (tally_fits b s.ballots x.top) in
    with-ballots s _ x y.acceptor (report_fits s.ballots.report _ x.reported y) h y.top

may : (b : ℕ) (s : Cabinet) → number_of (Opening b) s ≡ 0 → may_open b s ≡ true
unfolding open_asked
may b s e = (all_yes _ (reply-accepted (opening_asked b s) (number_of (Opening b) s) refl refl e)).1.1.0

pub keeps : (a : Act) (s : Cabinet) → InBytes s → number_of a s ≡ 0 → InBytes (next_of a s)
unfolding ordered voted timed_out decided halted answered
keeps (Ordering k) s x e = unballoted s _ x refl refl refl refl (fits-renewed s.controller (fits s x))
keeps (Voting w t) s x e = with-controller s _ x refl refl refl refl (fits-voted s.controller (fits s x) s.me _ t)
keeps (Receiving bytes) s x e = received-bytes (reads telegrams bytes) s x
keeps TimingOut s x e = with-controller s _ x refl refl refl refl (fits_timed-out s.controller (fits s x) s.me)
keeps (Deciding w) s x e = with-controller s _ x refl refl refl refl (fits-decided s.controller (fits s x) _)
keeps Stopping s x e = with-controller s _ x refl refl refl refl (fits-stopped s.controller (fits s x))
keeps (Waking bytes) s x e = woken-bytes (reads checkpoints bytes) s x
keeps (Opening b) s x e = opened-bytes b s x (may b s e)

-- a cabinet that begins
pub begins : (n f id own p : ℕ) → begin_number n f id own p ≡ 0 → InBytes (begun n f id own p)
unfolding begun no_ballots begin_asked
begins n f id own p e =
    let y = all_yes _ (reply-accepted (begin_asked n f id own p) (begin_number n f id own p) refl refl e) in
    let r = ranges n f y.1.0 in
    let m = member n id y.1.1.0 in
    let a = r.small in
    let b = r.high in
    let c = m.high in
    record {
      n = omega (arith, a);
      f = omega (arith, a, b);
      id = omega (arith, a, c);
      phase = omega arith;
      cnt = omega arith;
      helped = omega arith;
      sets = refl;
      highest = omega arith;
      promised = omega arith;
      last = omega arith;
      reported = omega arith;
      opened = omega arith;
      top = omega arith;
    }

-- a run's beginning was accepted: the words had their length, and its questions were answered "yes"
sized : (l : List ℕ) (q : ℕ) → leave_number l q ≡ 0 → (eqb (length l) state_words ≡ true) × (q ≡ 0)
unfolding leave_number
sized l q e = elim (split (eqb (length l) state_words)) [
  | inl y ↦ (y, (rw y at e))
  | inr n ↦ let z : ◌≡◌ {A = ℕ} 1 0 = (rw n at e) in absurd (omega (arith, z))
]

pub run-begun : (r : Run) → begin_number r.n r.f r.id r.own r.position ≡ 0
run-begun r = (sized r.before _ r.accepted).1

module _ (enc : Encoding) where
  -- one call on the words of a cabinet
  one : (a : Act) (s : Cabinet) → InBytes s → words_after a (words_of s) ≡ words_of (after a s)
  unfolding call_words call_number after
  one a s x =
      let t = enc.taken s x in
      let y = eq-eqb (state_refusal (words_of s)) 0 t in
      let back = enc.reads-back s x in
      rw (y, back) (by_cond (λ (z : Cabinet). cond (eqb (number_of a s) 0) (words_of (next_of a s)) (words_of s) ≡ words_of z) (eqb (number_of a s) 0) (next_of a s) s (λ e. rw e) (λ e. rw e))

  stays : (a : Act) (s : Cabinet) → InBytes s → InBytes (after a s)
  unfolding after
  stays a s x = by_cond InBytes (eqb (number_of a s) 0) (next_of a s) s (λ e. keeps a s x (eqb-true (number_of a s) 0 e)) (λ e. x)

  all_words : (acts : List Act) (s : Cabinet) → InBytes s → words_after_all acts (words_of s) ≡ words_of (after_all acts s)
  unfolding words_after_all after_all
  all_words [] s x = refl
  all_words (a ∷ acts) s x = ap (words_after_all acts) (one a s x) ∙ all_words acts (after a s) (stays a s x)

  all-bytes : (acts : List Act) (s : Cabinet) → InBytes s → InBytes (after_all acts s)
  unfolding after_all
  all-bytes [] s x = x
  all-bytes (a ∷ acts) s x = all-bytes acts (after a s) (stays a s x)

  -- a run
  begins_so : (l : List ℕ) (q : ℕ) (s : Cabinet) → leave_number l q ≡ 0 → leave_words l q s ≡ words_of s
  unfolding leave_words
  begins_so l q s e =
      let x = sized l q e in
      rw (x.0, eq-eqb q 0 x.1)

  in_bytes : (r : Run) → InBytes (start r)
  in_bytes r = begins r.n r.f r.id r.own r.position (run-begun r)

  pub run-words : (r : Run) → lent r ≡ words_of (made r)
  run-words r = ap (words_after_all r.acts) (begins_so r.before _ (start r) r.accepted) ∙ all_words r.acts (start r) (in_bytes r)

  pub run-taken : (r : Run) → state_refusal (lent r) ≡ 0
  run-taken r = ap state_refusal (run-words r) ∙ enc.taken (made r) (all-bytes r.acts (start r) (in_bytes r))

  pub run-reads : (r : Run) → cabinet r ≡ made r
  run-reads r = ap cabinet_of (run-words r) ∙ enc.reads-back (made r) (all-bytes r.acts (start r) (in_bytes r))
