-- What holds of a controller alone, of every run of the library.
use Prim.Native.Nat.{ℕ, ◌≤◌}
use mathlib.Core.Path.{◌≡◌, refl, sym, ap, subst, ◌∙◌}
use mathlib.Core.Bool.{Bool, true, false, cond, not, false≢true}
use mathlib.Core.List.{List, [], ◌∷◌, ◌++◌}
use lib.Dec.{eqb, leb}
use borrow.Author.Tests.{eq-eqb}
use Rattle.ground.specs.Quantify.{count_to}
use Rattle.ground.specs.Tests.{and_i, and_l, and_r, by_cond}
use Rattle.votes.specs.VoteSets.{knows, wills, single, union}
use Rattle.std.specs.Prelude.{Ok}
use Rattle.model.specs.QuestionLaws.{all_yes, reply-accepted}
use Rattle.model.specs.declared.Message.{Message}
use Rattle.model.specs.declared.Telegram.TheVariants.{Plain, OfBallot}
use Rattle.records.specs.Codes.{flag_of}
use Rattle.records.specs.Codec.{reads}
use Rattle.message_record.specs.Telegrams.{telegrams}
use Rattle.message_record.specs.Telegrams.{ReadTelegram}
use Rattle.std.specs.Prelude.{Ok, Err}
use Rattle.protocol.specs.declared.Identity.{Identity}
use Rattle.protocol.specs.declared.Controller.{Controller}
use Rattle.protocol.specs.Controllers.{runs, phase, has_ack, has_helped}
use Rattle.protocol.specs.Rules.{is_taken, vote_rule, ack_join, help_votes}
use Rattle.protocol.specs.NoContradiction.{Agreeing, acks_union, JoinIsUnion}
use Rattle.protocol.specs.Calls.{valid_identity, vote, receive}
use Rattle.protocol.specs.Alone.{Call, voting, in_order, alone, cabinet as cabinet_alone, vote_after, receive_after, clears, none_clears, ControllerAlone}
use Rattle.cabinet_state.specs.declared.Cabinet.{Cabinet}
use Rattle.cabinet_state.specs.States.{state_refusal}
use Rattle.cabinet_state.specs.Encoding.{Encoding}
use Rattle.cabinet_turns.specs.Asked.{begin_asked, vote_asked}
use Rattle.cabinet.specs.Calls.{call_number}
use Rattle.cabinet.specs.Acts.{Act, Ordering, Voting, Receiving, TimingOut, Deciding, Stopping, Waking, Opening, number_of, answer_to}
use Rattle.cabinet_alone.specs.Acts.{after, after_all, read_calls, calls_of, all_calls}
use Rattle.cabinet_alone.specs.Runs.{Run, lent, cabinet, inside, further, start, made, who, calls, aside, ends, none_ends}
use Rattle.cabinet_alone.specs.CabinetAlone.{bare, CabinetAlone}
use Rattle.cabinet_alone.proofs.Gates.{same_reception}
use Rattle.cabinet_alone.proofs.Carried.{made-alone, made-order, made-me}
use Rattle.cabinet_alone.proofs.Lent.{run-begun, run-taken, run-reads}
use Rattle.cabinet_alone.proofs.Reached.{reached}

to-bare : (c : Controller) → Agreeing c → Agreeing (bare c)
to-bare c x = record { own-answers = x.own-answers; own-ack = x.own-ack; answers-ack = x.answers-ack; acks = x.acks }

of_bare : (c : Controller) → Agreeing (bare c) → Agreeing c
of_bare c x = record { own-answers = x.own-answers; own-ack = x.own-ack; answers-ack = x.answers-ack; acks = x.acks }

-- calls after calls
after_both : (xs ys : List Act) (s : Cabinet) → after_all (xs ++ ys) s ≡ after_all ys (after_all xs s)
unfolding after_all
after_both [] ys s = refl
after_both (a ∷ xs) ys s = after_both xs ys (after a s)

appended : (is js ks : List Call) → (is ++ js) ++ ks ≡ is ++ (js ++ ks)
appended [] js ks = refl
appended (i ∷ is) js ks = ap (λ (xs : List Call). i ∷ xs) (appended is js ks)

calls_both : (xs ys : List Act) (s : Cabinet) → all_calls (xs ++ ys) s ≡ all_calls xs s ++ all_calls ys (after_all xs s)
unfolding all_calls after_all
calls_both [] ys s = refl
calls_both (a ∷ xs) ys s =
    ap (λ (ks : List Call). cond (eqb (number_of a s) 0) (calls_of a s) [] ++ ks) (calls_both xs ys (after a s))
    ∙ sym (appended (cond (eqb (number_of a s) 0) (calls_of a s) []) (all_calls xs (after a s)) (all_calls ys (after_all xs (after a s))))

-- calls that do not end a controller's order do not clear it
none_both : (ks js : List Call) → none_clears ks ≡ true → none_clears js ≡ true → none_clears (ks ++ js) ≡ true
unfolding none_clears
none_both [] js p q = q
none_both (k ∷ ks) js p q = and_i (not (clears k)) (none_clears (ks ++ js)) (and_l (not (clears k)) (none_clears ks) p) (none_both ks js (and_r (not (clears k)) (none_clears ks) p) q)

read-clears : (read : ReadTelegram) → none_clears (read_calls read) ≡ true
unfolding none_clears
read-clears (Err q) = refl
read-clears (Ok (Plain m)) = refl
read-clears (Ok (OfBallot m)) = refl

act-clears : (a : Act) (s : Cabinet) → not (ends a) ≡ true → none_clears (calls_of a s) ≡ true
unfolding none_clears
act-clears (Ordering k) s e = absurd (false≢true e)
act-clears (Voting w t) s e = refl
act-clears (Receiving bytes) s e = read-clears (reads telegrams bytes)
act-clears TimingOut s e = refl
act-clears (Deciding w) s e = refl
act-clears Stopping s e = absurd (false≢true e)
act-clears (Waking bytes) s e = absurd (false≢true e)
act-clears (Opening b) s e = refl

acts_clear : (acts : List Act) (s : Cabinet) → none_ends acts ≡ true → none_clears (all_calls acts s) ≡ true
unfolding none_ends none_clears all_calls
acts_clear [] s e = refl
acts_clear (a ∷ acts) s e =
    let p = and_l (not (ends a)) (none_ends acts) e in
    let q = and_r (not (ends a)) (none_ends acts) e in
    none_both (cond (eqb (number_of a s) 0) (calls_of a s) []) (all_calls acts (after a s))
    (by_cond (λ (ks : List Call). none_clears ks ≡ true) (eqb (number_of a s) 0) (calls_of a s) [] (λ z. act-clears a s p) (λ z. refl))
    (acts_clear acts (after a s) q)

-- a vote in an order, at stage 0, is taken
vote-taken : (me : Identity) (w : Bool) (t : ℕ) (c : Controller) → valid_identity me ≡ true → runs c ≡ true → eqb (phase c) 0 ≡ true → is_taken (vote me w t c).reception ≡ true
unfolding vote vote_rule
vote-taken me w t c p q z = rw (p, q, z)

module _ (enc : Encoding) (x : ControllerAlone) where
  as-alone : (r : Run) → bare (inside r) ≡ bare (aside r)
  as-alone r = ap (λ (s : Cabinet). bare s.controller) (run-reads enc r) ∙ made-alone r

  -- what is said of a controller but for its gate
  over : (P : Controller → Type 0) (r : Run) → P (bare (aside r)) → P (bare (inside r))
  over P r h = subst P (sym (as-alone r)) h

  accepted_in : (a : Act) (r : Run) → answer_to a (lent r) ≡ 0 → number_of a (cabinet r) ≡ 0
  unfolding call_number
  accepted_in a r e = rw (eq-eqb (state_refusal (lent r)) 0 (run-taken enc r)) at e

  -- who it is, in a lock
  valid : (r : Run) (o : ℕ) → leb 1 o ≡ true → valid_identity (in_order (who r) o) ≡ true
  unfolding valid_identity begin_asked
  valid r o e =
      let y = all_yes _ (reply-accepted (begin_asked r.n r.f r.id r.own r.position) _ refl refl (run-begun r)) in
      rw (y.1.0, y.1.1.0, e)

  voted : (r : Run) (w t : ℕ) → answer_to (Voting w t) (lent r) ≡ 0 → is_taken (vote_after (who r) (calls r) (flag_of w) t).reception ≡ true
  unfolding vote_asked
  voted r w t e =
      let n = accepted_in (Voting w t) r e in
      let y = all_yes _ (reply-accepted (vote_asked w t (cabinet r).me.order (inside r).condition) _ refl refl n) in
      let o : (cabinet r).me.order ≡ (cabinet_alone (who r) (calls r)).order = ap (λ (s : Cabinet). s.me.order) (run-reads enc r) ∙ made-order r in
      vote-taken _ (flag_of w) t (aside r) (valid r _ (subst (λ (k : ℕ). leb 1 k ≡ true) o y.1.1.0))
      (sym (ap runs (as-alone r)) ∙ y.1.1.1.0)
      (sym (ap (λ (c : Controller). eqb (phase c) 0) (as-alone r)) ∙ y.1.1.1.1.0)

  received : (r : Run) (m : Message) → is_taken (receive (cabinet r).me m (inside r)).reception ≡ true → is_taken (receive_after (who r) (calls r) m).reception ≡ true
  received r m e =
      let me : (cabinet r).me ≡ in_order (who r) (cabinet_alone (who r) (calls r)).order =
      ap (λ (s : Cabinet). s.me) (run-reads enc r) ∙ made-me r ∙ ap (in_order (who r)) (made-order r) in
      subst (λ (i : Identity). is_taken (receive i m (aside r)).reception ≡ true) me
      (ap is_taken (sym (same_reception (cabinet r).me m (inside r) (aside r) (as-alone r))) ∙ e)

  -- a vote that is accepted, and calls after it: for the controller its vote, and calls
  vote-first : (r : Run) (w t : ℕ) (later : List Act) → answer_to (Voting w t) (lent r) ≡ 0
      → calls (further r (Voting w t ∷ later)) ≡ calls r ++ (voting (flag_of w) t ∷ all_calls later (after (Voting w t) (made r)))
  unfolding all_calls
  vote-first r w t later e =
      let n : number_of (Voting w t) (made r) ≡ 0 = subst (λ (s : Cabinet). number_of (Voting w t) s ≡ 0) (run-reads enc r) (accepted_in (Voting w t) r e) in
      calls_both r.acts (Voting w t ∷ later) (start r)
      ∙ ap (λ (b : Bool). calls r ++ (cond b (voting (flag_of w) t ∷ []) [] ++ all_calls later (after (Voting w t) (made r)))) (eq-eqb (number_of (Voting w t) (made r)) 0 n)

  own-word : (r : Run) (w t : ℕ) (later : List Act) → answer_to (Voting w t) (lent r) ≡ 0 → none_ends later ≡ true
      → (knows (inside (further r (Voting w t ∷ later))).votes r.id ≡ true) × (wills (inside (further r (Voting w t ∷ later))).votes r.id ≡ flag_of w)
  own-word r w t later e h =
      let next = all_calls later (after (Voting w t) (made r)) in
      let y = x.own-word (who r) (calls r) (flag_of w) t next (voted r w t e) (acts_clear later (after (Voting w t) (made r)) h) in
      over (λ (c : Controller). (knows c.votes r.id ≡ true) × (wills c.votes r.id ≡ flag_of w)) (further r (Voting w t ∷ later))
      (subst (λ (ks : List Call). (knows (alone (who r) ks).votes r.id ≡ true) × (wills (alone (who r) ks).votes r.id ≡ flag_of w)) (sym (vote-first r w t later e)) y)

  pub carried : CabinetAlone
  unfolding ack_join help_votes
  carried = record {
    taken-again = run-taken enc;
    read_back = run-reads enc;
    as-alone = as-alone;
    held = λ r. of_bare (inside r) (over Agreeing r (to-bare (aside r) (x.held (who r) (calls r))));
    acks-joined = λ r. over (λ (c : Controller). ack_join r.n c ≡ Ok (acks_union r.n c)) r (x.acks-joined (who r) (calls r));
    help-votes = λ r. over (λ (c : Controller). help_votes r.n c ≡ union (acks_union r.n c) c.votes) r (x.help-votes (who r) (calls r));
    own-answer = λ r. over (λ (c : Controller). JoinIsUnion c.helped.votes (help_votes r.n c)) r (x.own-answer (who r) (calls r));
    own-vote = λ r w t e. over (λ (c : Controller). JoinIsUnion c.votes (single r.id (flag_of w))) r (x.own-vote (who r) (calls r) (flag_of w) t (voted r w t e));
    taken = λ r m e. over (λ (c : Controller). JoinIsUnion c.votes m.votes × JoinIsUnion c.helped.votes m.votes) r (x.taken (who r) (calls r) m (received r m e));
    own-word = own-word;
    unvoted = λ r. over (λ (c : Controller). phase c ≡ 0 → knows c.votes r.id ≡ false) r (x.unvoted (who r) (calls r));
    ack-count = λ r. over (λ (c : Controller). c.acks.cnt.0 ≡ count_to r.n (has_ack c)) r (x.ack-count (who r) (calls r));
    answer-count = λ r. over (λ (c : Controller). c.helped.cnt_help.0 ≡ count_to r.n (has_helped c)) r (x.answer-count (who r) (calls r));
    ack_senders = λ r. over (λ (c : Controller). (j : ℕ) → has_ack c j ≡ true → (1 ≤ j) × (j ≤ r.n)) r (x.ack_senders (who r) (calls r));
    answer_senders = λ r. over (λ (c : Controller). (j : ℕ) → has_helped c j ≡ true → (1 ≤ j) × (j ≤ r.n)) r (x.answer_senders (who r) (calls r));
    reached = reached enc;
  }
