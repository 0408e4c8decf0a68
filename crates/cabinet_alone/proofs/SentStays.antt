-- What was sent stays what it was, of every run of the library.
use mathlib.Core.Path.{◌≡◌, refl, sym, subst, ◌∙◌}
use mathlib.Core.Bool.{true, not, false≢true}
use mathlib.Core.Logic.{inl}
use mathlib.Core.List.{List, [], ◌∷◌, ◌++◌}
use lib.Dec.{eqb}
use Rattle.ground.specs.Tests.{by_cond, and_l, and_r}
use Rattle.model.specs.declared.Kind.{Kind}
use Rattle.model.specs.declared.Telegram.TheVariants.{Plain, OfBallot}
use Rattle.records.specs.Codec.{reads}
use Rattle.records.specs.Codes.{flag_of}
use Rattle.checkpoint_record.specs.Checkpoints.{checkpoints}
use Rattle.checkpoint_record.specs.Checkpoints.{ReadCheckpoint}
use Rattle.std.specs.Prelude.{Ok, Err}
use Rattle.message_record.specs.Telegrams.{telegrams}
use Rattle.message_record.specs.Telegrams.{ReadTelegram}
use Rattle.protocol.specs.declared.Answer.{Answer}
use Rattle.protocol.specs.declared.Controller.{Controller}
use Rattle.protocol.specs.Benches.{unsent_all}
use Rattle.cabinet_state.specs.declared.Cabinet.{Cabinet}
use Rattle.cabinet_state.specs.Encoding.{Encoding}
use Rattle.cabinet_turns.specs.Turns.{answered, begun, ordered, voted, timed_out, decided, halted, woken_by, woken}
use Rattle.cabinet_turns.specs.Ballots.{with_ballots, opened, opened_by, answered_in, received_ballot, received_telegram, received}
use Rattle.cabinet.specs.Acts.{Act, Ordering, Voting, Receiving, TimingOut, Deciding, Stopping, Waking, Opening, number_of, next_of}
use Rattle.cabinet_alone.specs.Acts.{after, after_all}
use Rattle.cabinet_alone.specs.Runs.{Run, cabinet, further, start, made}
use Rattle.cabinet_alone.specs.SentAgain.{forgets, none_forgets, sent_of, SentAgain}
use Rattle.cabinet_alone.proofs.Lent.{run-reads}
use Rattle.cabinet_alone.proofs.SentAgain.{Stays, unchanged, onward, Inv, Good, vote_good, timeout_good, decide_good, stop_good, receive_good}

abbrev Kept : Cabinet → Type 0
Kept s = Inv s.controller s.sent

abbrev StaysIn : Cabinet → Cabinet → Type 0
StaysIn s next = (kind : Kind) → Stays (sent_of kind s) (sent_of kind next)

same : (s : Cabinet) → StaysIn s s
same s kind = unchanged (sent_of kind s)

-- one that has sent nothing
unsent-kept : (c : Controller) → Inv c unsent_all
unfolding unsent_all
unsent-kept c e = record { vote = λ z. refl; ack = λ z. refl; help = λ z. refl; helped = inl refl }

answer-stays : (s : Cabinet) (a : Answer) → Good s.sent a → StaysIn s (answered s a)
unfolding answered
answer-stays s a x = x.stays

answer-kept : (s : Cabinet) (a : Answer) → Good s.sent a → Kept (answered s a)
unfolding answered
answer-kept s a x = x.next

-- one call
read_stays : (read : ReadTelegram) (s : Cabinet) → Kept s → StaysIn s (received read s)
unfolding received received_telegram received_ballot answered_in with_ballots
read_stays (Err q) s x = same s
read_stays (Ok (Plain m)) s x = answer-stays s _ (receive_good s.controller s.sent x s.me m)
read_stays (Ok (OfBallot m)) s x = same s

read_kept : (read : ReadTelegram) (s : Cabinet) → Kept s → Kept (received read s)
unfolding received received_telegram received_ballot answered_in with_ballots
read_kept (Err q) s x = x
read_kept (Ok (Plain m)) s x = answer-kept s _ (receive_good s.controller s.sent x s.me m)
read_kept (Ok (OfBallot m)) s x = x

card-kept : (read : ReadCheckpoint) (s : Cabinet) → Kept s → Kept (woken read s)
unfolding woken woken_by
card-kept (Err q) s x = x
card-kept (Ok p) s x = unsent-kept _

next-stays : (a : Act) (s : Cabinet) → not (forgets a) ≡ true → Kept s → StaysIn s (next_of a s)
unfolding voted timed_out decided halted opened opened_by with_ballots
next-stays (Ordering k) s e x = absurd (false≢true e)
next-stays (Voting w t) s e x = answer-stays s _ (vote_good s.controller s.sent x s.me (flag_of w) t)
next-stays (Receiving bytes) s e x = read_stays (reads telegrams bytes) s x
next-stays TimingOut s e x = answer-stays s _ (timeout_good s.controller s.sent x s.me)
next-stays (Deciding w) s e x = answer-stays s _ (decide_good s.controller s.sent x (flag_of w))
next-stays Stopping s e x = answer-stays s _ (stop_good s.controller s.sent x)
next-stays (Waking bytes) s e x = absurd (false≢true e)
next-stays (Opening b) s e x = same s

next-kept : (a : Act) (s : Cabinet) → Kept s → Kept (next_of a s)
unfolding ordered voted timed_out decided halted opened opened_by with_ballots
next-kept (Ordering k) s x = unsent-kept _
next-kept (Voting w t) s x = answer-kept s _ (vote_good s.controller s.sent x s.me (flag_of w) t)
next-kept (Receiving bytes) s x = read_kept (reads telegrams bytes) s x
next-kept TimingOut s x = answer-kept s _ (timeout_good s.controller s.sent x s.me)
next-kept (Deciding w) s x = answer-kept s _ (decide_good s.controller s.sent x (flag_of w))
next-kept Stopping s x = answer-kept s _ (stop_good s.controller s.sent x)
next-kept (Waking bytes) s x = card-kept (reads checkpoints bytes) s x
next-kept (Opening b) s x = x

one-stays : (a : Act) (s : Cabinet) → not (forgets a) ≡ true → Kept s → StaysIn s (after a s)
unfolding after
one-stays a s e x = by_cond (StaysIn s) (eqb (number_of a s) 0) (next_of a s) s (λ q. next-stays a s e x) (λ q. same s)

one_kept : (a : Act) (s : Cabinet) → Kept s → Kept (after a s)
unfolding after
one_kept a s x = by_cond Kept (eqb (number_of a s) 0) (next_of a s) s (λ q. next-kept a s x) (λ q. x)

-- a list of them, and a run
all-kept : (acts : List Act) (s : Cabinet) → Kept s → Kept (after_all acts s)
unfolding after_all
all-kept [] s x = x
all-kept (a ∷ acts) s x = all-kept acts (after a s) (one_kept a s x)

all-stays : (acts : List Act) (s : Cabinet) → none_forgets acts ≡ true → Kept s → StaysIn s (after_all acts s)
unfolding after_all none_forgets
all-stays [] s e x = same s
all-stays (a ∷ acts) s e x = λ kind. onward _ _ _ (one-stays a s (and_l (not (forgets a)) (none_forgets acts) e) x kind)
    (all-stays acts (after a s) (and_r (not (forgets a)) (none_forgets acts) e) (one_kept a s x) kind)

after_both : (xs ys : List Act) (s : Cabinet) → after_all (xs ++ ys) s ≡ after_all ys (after_all xs s)
unfolding after_all
after_both [] ys s = refl
after_both (a ∷ xs) ys s = after_both xs ys (after a s)

start-kept : (r : Run) → Kept (start r)
unfolding begun
start-kept r = unsent-kept _

module _ (enc : Encoding) where
  run-stays : (r : Run) (more : List Act) → none_forgets more ≡ true → StaysIn (cabinet r) (cabinet (further r more))
  run-stays r more e kind =
      subst (λ (s : Cabinet). Stays (sent_of kind s) (sent_of kind (cabinet (further r more)))) (sym (run-reads enc r))
      (subst (λ (s : Cabinet). Stays (sent_of kind (made r)) (sent_of kind s)) (sym (run-reads enc (further r more) ∙ after_both r.acts more (start r)))
      (all-stays more (made r) e (all-kept r.acts (start r) (start-kept r)) kind))

  pub sent-again : SentAgain
  sent-again = record { stays-sent = λ r more kind j e h. (run-stays r more e kind).sent j h; same-votes = λ r more kind j e h. (run-stays r more e kind).votes j h }
