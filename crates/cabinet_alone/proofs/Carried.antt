-- Call by call: a cabinet goes on as its controller alone does.
use mathlib.Core.Path.{◌≡◌, refl, sym, ap, ◌∙◌}
use mathlib.Core.Bool.{Bool, true, false, cond}
use mathlib.Core.List.{List, [], ◌∷◌, ◌++◌}
use lib.Dec.{eqb}
use Rattle.ground.specs.Tests.{by_cond}
use Rattle.model.specs.declared.Checkpoint.{Checkpoint}
use Rattle.model.specs.declared.Telegram.TheVariants.{Plain, OfBallot}
use Rattle.records.specs.Codes.{flag_of}
use Rattle.records.specs.Codec.{reads}
use Rattle.checkpoint_record.specs.Checkpoints.{checkpoints}
use Rattle.checkpoint_record.specs.Checkpoints.{ReadCheckpoint}
use Rattle.std.specs.Prelude.{Ok, Err}
use Rattle.message_record.specs.Telegrams.{telegrams}
use Rattle.message_record.specs.Telegrams.{ReadTelegram}
use Rattle.protocol.specs.declared.Identity.{Identity}
use Rattle.protocol.specs.declared.Condition.{Condition}
use Rattle.protocol.specs.declared.Condition.TheVariants.{Running, Stopped, Standby}
use Rattle.protocol.specs.declared.Controller.{Controller}
use Rattle.protocol.specs.Controllers.{cleared}
use Rattle.protocol.specs.Rules.{becomes, passing_over}
use Rattle.protocol.specs.Benches.{fresh}
use Rattle.protocol.specs.Calls.{vote, receive, timeout, stop, restore, renew}
use Rattle.protocol.specs.Alone.{Call, Cabinet as AloneCabinet, in_order, called, called_all, cabinet as cabinet_alone}
use Rattle.cabinet_state.specs.declared.Cabinet.{Cabinet}
use Rattle.cabinet_turns.specs.Turns.{answered, begun, ordered, voted, timed_out, decided, halted, later_order, woken_by, woken}
use Rattle.cabinet_turns.specs.Ballots.{with_ballots, opened_by, opened, answered_in, received_ballot, received_telegram, received}
use Rattle.cabinet.specs.Acts.{Act, Ordering, Voting, Receiving, TimingOut, Deciding, Stopping, Waking, Opening, number_of, next_of}
use Rattle.cabinet_alone.specs.Acts.{after, after_all, read_calls, card_calls, calls_of, all_calls}
use Rattle.cabinet_alone.specs.Runs.{Run, start, made, who, calls, aside}
use Rattle.cabinet_alone.specs.CabinetAlone.{bare}
use Rattle.cabinet_alone.proofs.Gates.{gates-alone, orders-alone}

-- what a controller alone has of a cabinet
abbrev view : Cabinet → AloneCabinet
view s = record { order = s.me.order; controller = s.controller }

-- the identity stays, but for the order
abbrev Of : Identity → Cabinet → Type 0
Of start s = s.me ≡ in_order start s.me.order

both-calls : (me : Identity) (x : AloneCabinet) (ks js : List Call) → called_all me x (ks ++ js) ≡ called_all me (called_all me x ks) js
unfolding called_all
both-calls me x [] js = refl
both-calls me x (k ∷ ks) js = both-calls me (called me x k) ks js

-- a stop, a new number for one that is stopped, and a restore: as a stop and a restore in that order
stopped-again : (me : Identity) (p : Checkpoint) (k : Condition) (c : Controller) → c.condition ≡ k
    → (restore me p (stop c).controller).controller ≡ (restore me p (renew (stop c).controller)).controller
unfolding stop restore renew becomes passing_over cleared
stopped-again me p (Running q) c e = rw e
stopped-again me p Stopped c e = rw e
stopped-again me p (Standby o) c e = rw e

module _ (me : Identity) where
  step-read : (read : ReadTelegram) (s : Cabinet) → Of me s → view (received read s) ≡ called_all me (view s) (read_calls read)
  unfolding received received_telegram answered received_ballot answered_in with_ballots called_all called
  step-read (Err q) s e = refl
  step-read (Ok (Plain m)) s e = ap (λ (i : Identity). record { order = s.me.order; controller = (receive i m s.controller).controller }) e
  step-read (Ok (OfBallot m)) s e = refl

  step-card : (card : ReadCheckpoint) (s : Cabinet) → Of me s → view (woken card s) ≡ called_all me (view s) (card_calls card s)
  unfolding woken woken_by called_all called becomes
  step-card (Err q) s e = refl
  step-card (Ok p) s e =
      let o = later_order s.me.order p.order in
      ap (λ (i : Identity). record { order = o; controller = (restore (in_order i o) p (stop s.controller).controller).controller }) e
      ∙ ap (λ (c : Controller). record { order = o; controller = c }) (stopped-again (in_order me o) p s.controller.condition s.controller refl)

  step : (a : Act) (s : Cabinet) → Of me s → view (next_of a s) ≡ called_all me (view s) (calls_of a s)
  unfolding ordered voted timed_out decided halted opened opened_by with_ballots answered called_all called becomes
  step (Ordering k) s e = refl
  step (Voting w t) s e = ap (λ (i : Identity). record { order = s.me.order; controller = (vote i (flag_of w) t s.controller).controller }) e
  step (Receiving bytes) s e = step-read (reads telegrams bytes) s e
  step TimingOut s e = ap (λ (i : Identity). record { order = s.me.order; controller = (timeout i s.controller).controller }) e
  step (Deciding w) s e = refl
  step Stopping s e = refl
  step (Waking bytes) s e = step-card (reads checkpoints bytes) s e
  step (Opening b) s e = refl

  kept_read : (read : ReadTelegram) (s : Cabinet) → Of me s → Of me (received read s)
  unfolding received received_telegram answered received_ballot answered_in with_ballots
  kept_read (Err q) s e = e
  kept_read (Ok (Plain m)) s e = e
  kept_read (Ok (OfBallot m)) s e = e

  kept-card : (card : ReadCheckpoint) (s : Cabinet) → Of me s → Of me (woken card s)
  unfolding woken woken_by
  kept-card (Err q) s e = e
  kept-card (Ok p) s e = ap (λ (i : Identity). in_order i (later_order s.me.order p.order)) e

  kept : (a : Act) (s : Cabinet) → Of me s → Of me (next_of a s)
  unfolding ordered voted timed_out decided halted opened opened_by with_ballots answered
  kept (Ordering k) s e = ap (λ (i : Identity). in_order i k) e
  kept (Voting w t) s e = e
  kept (Receiving bytes) s e = kept_read (reads telegrams bytes) s e
  kept TimingOut s e = e
  kept (Deciding w) s e = e
  kept Stopping s e = e
  kept (Waking bytes) s e = kept-card (reads checkpoints bytes) s e
  kept (Opening b) s e = e

  kept-after : (a : Act) (s : Cabinet) → Of me s → Of me (after a s)
  unfolding after
  kept-after a s e = by_cond (Of me) (eqb (number_of a s) 0) (next_of a s) s (λ q. kept a s e) (λ q. e)

  kept-all : (acts : List Act) (s : Cabinet) → Of me s → Of me (after_all acts s)
  unfolding after_all
  kept-all [] s e = e
  kept-all (a ∷ acts) s e = kept-all acts (after a s) (kept-after a s e)

  -- one call more, accepted or not
  goes : (b : Bool) (acts : List Act) (s next : Cabinet) (ks : List Call) → Of me s → Of me next → view next ≡ called_all me (view s) ks
      → ((x : Cabinet) → Of me x → view (after_all acts x) ≡ called_all me (view x) (all_calls acts x))
      → view (after_all acts (cond b next s)) ≡ called_all me (view s) (cond b ks [] ++ all_calls acts (cond b next s))
  goes true acts s next ks e h p rest =
      rest next h ∙ ap (λ (x : AloneCabinet). called_all me x (all_calls acts next)) p ∙ sym (both-calls me (view s) ks (all_calls acts next))
  goes false acts s next ks e h p rest = rest s e

  all : (acts : List Act) (s : Cabinet) → Of me s → view (after_all acts s) ≡ called_all me (view s) (all_calls acts s)
  unfolding after_all all_calls called_all after
  all [] s e = refl
  all (a ∷ acts) s e = goes (eqb (number_of a s) 0) acts s (next_of a s) (calls_of a s) e (kept a s e) (step a s e) (λ x h. all acts x h)

-- of a run: the controller but for its gate, its order, and who it is
pub made-alone : (r : Run) → bare (made r).controller ≡ bare (aside r)
unfolding begun fresh
made-alone r = ap (λ (x : AloneCabinet). bare x.controller) (all (who r) r.acts (start r) refl) ∙ gates-alone (who r) (calls r) 0 _ _ refl

pub made-order : (r : Run) → (made r).me.order ≡ (cabinet_alone (who r) (calls r)).order
unfolding begun
made-order r = ap (λ (x : AloneCabinet). x.order) (all (who r) r.acts (start r) refl) ∙ orders-alone (who r) (calls r) 0 _ _

pub made-me : (r : Run) → (made r).me ≡ in_order (who r) (made r).me.order
unfolding begun
made-me r = kept-all (who r) r.acts (start r) refl
