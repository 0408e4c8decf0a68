-- What stays in range, station by station: the phase, the gate, the help vote set; to whom a kind was sent and by whom a vote was cast; what is
-- saved. Each rule's answer keeps it, and so does every accepted event. What "in range" is for positions and order numbers is a parameter.
use Prim.Native.Nat.{ℕ, suc, ◌≤◌}
use mathlib.Core.Path.{◌≡◌, refl, sym, ◌∙◌, subst}
use mathlib.Core.Bool.{Bool, true, false, not, ◌&&◌, cond}
use native.Mathlib.Omega.{arith}
use lib.Dec.{eqb, leb, ltb}
use mathlib.Core.Logic.{inl, inr}
use borrow.Author.Tests.{leb-true, ne_eqb, eqb-false, not-true}
use Rattle.ground.specs.Limit.{limit}
use Rattle.ground.specs.Tests.{by_cond, and_l, and_r, and_i, or-e}
use Rattle.ground.specs.Mask.{has}
use Rattle.ground.proofs.MaskLaws.{insert_only, none_has}
use Rattle.ground.proofs.Collect.{has-collect}
use Rattle.ground.specs.Update.{upd-all}
use Rattle.votes.specs.VoteSets.{empty, knows, wills}
use Rattle.votes.specs.declared.VoteSet.{VoteSet}
use Rattle.model.specs.Ranges.{is_controller, is_backup}
use Rattle.model.specs.Routes.{route, help_route, recipients}
use Rattle.model.specs.Numbers.{word_of, is_none, says_move}
use Rattle.model.specs.declared.Kind.{Kind}
use Rattle.model.specs.declared.Kind.TheVariants.{Vote, Ack, Help, Helped}
use Rattle.model.specs.declared.Outcome.{Outcome}
use Rattle.model.specs.declared.Checkpoint.{Checkpoint}
use Rattle.model.specs.declared.Event.{Event}
use Rattle.model.specs.declared.Event.TheVariants.{Lock, Order, Cast, Deliver, Timeout, Decide, Stop, Save, Restore, OfBallots}
use Rattle.protocol.specs.declared.Condition.{Condition}
use Rattle.protocol.specs.declared.Controller.{Controller}
use Rattle.protocol.specs.declared.Answer.{Answer}
use Rattle.protocol.specs.declared.Sent.{Sent}
use Rattle.protocol.specs.Controllers.{is_stopped, phase_in, runs, phase, outcome, has_ack, has_called, cleared, advance, learn, aim, keep_ack, keep_helped, freeze, add_caller, await, propose, conclude}
use Rattle.protocol.specs.Rules.{passing_over, becomes, proposing, verdict, vote_rule, count_own, first_timeout, ack_join, propose_if_sufficient, help_votes, frozen, ready, calls_help, second_timeout, answers_call}
use Rattle.protocol.specs.Calls.{arrives, renew}
use Rattle.protocol.specs.Benches.{of_kind, unsent_all, sent_after}
use Rattle.protocol.specs.Questions.{first_no}
use Rattle.protocol.specs.Steps.{renewed, order_opened}
use Rattle.protocol.specs.SentOnce.{receivers_of, send_of}
use Rattle.protocol.specs.NoContradiction.{acks_union}
use Rattle.protocol.proofs.view.View.{ballots_v, View, opened_v, accepts, ask_l, ask_r}
use Rattle.protocol.proofs.view.Performed.{commit_v, chosen, saved_v, checkpoint_at, rule_answer, perform_v, step_v}
use Rattle.protocol.proofs.view.RuleCases.{restore_cases, sufficient_cases, second_cases, timeout_cases, arrives_cases, Same, ack-same, caller-same}
use Rattle.protocol.proofs.invariant.Invariant.{voted_by, Truthful, Inv}
use Rattle.protocol.proofs.invariant.Words.{noting-phase}
use Rattle.protocol.proofs.invariant.TrueVotes.{union_ok}
use Rattle.protocol.proofs.invariant.Waiting.{acks-true, help-is}
use Rattle.protocol.proofs.counting.Sends.{sent-more}
use Rattle.std.specs.Prelude.{Option, Some}
use Rattle.protocol.specs.declared.Outgoing.{Outgoing}

-- willing lies within known
abbrev pub WithinSet : VoteSet → Type 0
WithinSet s = (k : ℕ) → wills s k ≡ true → knows s k ≡ true

-- Positions are such as G says, and order numbers such as H says, if each event brings such ones; 0 is one.
module _ (G H : ℕ → Type 0) (g0 : G 0) where
  -- what an event brings: a target, or an order's number
  pub record Given (e : Event) : Type 0 where
    pub target : (i : ℕ) (w : Bool) (t : ℕ) → e ≡ Cast i w t → G t
    pub number : (o : ℕ) → e ≡ Order o → H o

  pub record GateIn (c : Controller) : Type 0 where
    pub target : G c.gate.target
    pub position : G c.gate.position

  pub record InRange (c : Controller) : Type 0 where
    pub low : phase c ≤ 3
    pub gate : GateIn c
    pub help : WithinSet c.help.votes

  -- an answer's next controller
  record Keeps (a : Answer) : Type 0 where
    keeps : InRange a.controller

  empty-within : WithinSet empty
  empty-within k e = none_has k e

  puts-keeps : (n f : ℕ) (a : Answer) → Keeps a → Keeps (propose_if_sufficient n f a)
  unfolding proposing propose
  puts-keeps n f a h = sufficient_cases Keeps n f a (λ q. record { keeps = record { low = h.keeps.low; gate = record { target = h.keeps.gate.target; position = h.keeps.gate.position }; help = h.keeps.help } }) (λ q. h)

  becomes-keeps : (c : Controller) → InRange c → Keeps (becomes c)
  unfolding becomes
  becomes-keeps c h = record { keeps = h }

  passed-keeps : (c : Controller) → InRange c → Keeps (passing_over c)
  unfolding passing_over
  passed-keeps c h = record { keeps = h }

  same_in : (c c' : Controller) → Same c c' → InRange c → InRange c'
  same_in c c' q h = record {
    low = rw q.condition h.low;
    gate = record { target = rw q.gate h.gate.target; position = rw q.gate h.gate.position };
    help = subst WithinSet (sym q.frozen) h.help;
  }

  cleared_in : (k : Condition) (c : Controller) → phase_in k ≤ 3 → InRange c → InRange (cleared k c)
  unfolding cleared
  cleared_in k c p h = record { low = p; gate = record { target = g0; position = h.gate.position }; help = empty-within }

  conclude_in : (c : Controller) (o : Outcome) → InRange c → InRange (conclude c o)
  unfolding conclude
  conclude_in c o h = record {
    low = rw (noting-phase c.condition o) h.low;
    gate = record {
      target = h.gate.target;
      position = by_cond G (runs c && is_none (outcome c) && says_move o) c.gate.target c.gate.position (λ e. h.gate.target) (λ e. h.gate.position);
    };
    help = h.help;
  }

  frozen_in : (n : ℕ) (c : Controller) → WithinSet (help_votes n c) → InRange c → InRange (frozen n c)
  unfolding frozen freeze advance
  frozen_in n c w h = record { low = omega arith; gate = record { target = h.gate.target; position = h.gate.position }; help = w }

  module _ (n f : ℕ) where
    vote-keeps : (i : ℕ) (w : Bool) (t : ℕ) (c : Controller) → G t → InRange c → Keeps (vote_rule n f i w t c)
    unfolding vote_rule advance aim learn
    vote-keeps i w t c r h = record { keeps = record { low = low (leb i (suc f)); gate = record { target = r; position = h.gate.position }; help = h.help } }
      where
        low : (x : Bool) → cond x 1 2 ≤ 3
        low true = omega arith
        low false = omega arith

    first-keeps : (i : ℕ) (c : Controller) → InRange c → Keeps (first_timeout n f i c)
    unfolding first_timeout advance
    first-keeps i c h = record { keeps = record { low = omega arith; gate = record { target = own.gate.target; position = own.gate.position }; help = own.help } }
      where
        own : InRange (count_own f i c)
        own = unfold count_own in by_cond InRange (is_backup f i && not (has_ack c i)) (keep_ack c i c.votes) c (λ e. same_in c (keep_ack c i c.votes) (ack-same c i c.votes) h) (λ e. h)

    second-keeps : (i : ℕ) (c : Controller) → WithinSet (help_votes n c) → InRange c → Keeps (second_timeout n f i c)
    second-keeps i c w h = second_cases Keeps n f i c (λ d. direct) (λ e. puts) (λ e. puts-keeps n f _ waits)
      where
        direct : Keeps (ready (help_votes n c) (conclude (frozen n c) (verdict n (ack_join n c))))
        direct = unfold ready in record { keeps = conclude_in (frozen n c) _ (frozen_in n c w h) }

        puts : Keeps (proposing (ready (help_votes n c) (frozen n c)) (verdict n (ack_join n c)))
        puts = unfold proposing ready propose in let k : InRange (frozen n c) = frozen_in n c w h in record { keeps = record { low = k.low; gate = record { target = k.gate.target; position = k.gate.position }; help = k.help } }

        waits : Keeps (calls_help n f i (help_votes n c) (frozen n c))
        waits = unfold calls_help await keep_helped in let k : InRange (frozen n c) = frozen_in n c w h in record { keeps = record { low = k.low; gate = record { target = k.gate.target; position = k.gate.position }; help = k.help } }

    arrives-keeps : (kind : Kind) (j : ℕ) (s : VoteSet) (c : Controller) → InRange c → Keeps (arrives kind n f j s c)
    arrives-keeps kind j s c h = arrives_cases Keeps n f kind j s c (λ c' q. becomes-keeps c' (same_in c c' q h)) (puts-keeps n f)
        (λ z p q. unfold answers_call in record { keeps = same_in c (add_caller c j) (caller-same c j) h }) (passed-keeps c h)

    -- what was sent in an order o: a vote by a controller of the lock; help calls with no vote set; a kind only where it may travel
    pub record SentIn (o k : ℕ) (l : Sent) : Type 0 where
      pub caster : voted_by k l ≡ true → k ≤ n
      pub call : l.help.votes ≡ empty
      pub to : (kind : Kind) (j : ℕ) → has (of_kind kind l).to j ≡ true → (1 ≤ o) × (k ≤ n) × (j ≤ n) × (route f kind k j ≡ true)

    -- an answer's sends, of each kind
    abbrev GoesTo : ℕ → Kind → Option Outgoing → Type 0
    GoesTo k kind s = (j : ℕ) → has (receivers_of s) j ≡ true → (j ≤ n) × (route f kind k j ≡ true)

    record Sends_ok (k : ℕ) (a : Answer) : Type 0 where
      calls : (l : Sent) → l.help.votes ≡ empty → (sent_after l a.sends).help.votes ≡ empty
      vote : GoesTo k Vote a.sends.vote
      ack : GoesTo k Ack a.sends.ack
      help : GoesTo k Help a.sends.help
      helped : GoesTo k Helped a.sends.helped

    to-of : (k : ℕ) (a : Answer) → Sends_ok k a → (kind : Kind) → GoesTo k kind (send_of kind a.sends)
    to-of k a s Vote = s.vote
    to-of k a s Ack = s.ack
    to-of k a s Help = s.help
    to-of k a s Helped = s.helped

    sent_in : (o k : ℕ) (l : Sent) (a : Answer) → 1 ≤ o → k ≤ n → Sends_ok k a → SentIn o k l → SentIn o k (sent_after l a.sends)
    sent_in o k l a open' hi s h = record {
      caster = λ e. hi;
      call = s.calls l h.call;
      to = λ kind j e. elim (or-e (has (of_kind kind l).to j) (has (receivers_of (send_of kind a.sends)) j) (sym (sent-more n f l a.sends kind j) ∙ e)) [
        | inl q ↦ h.to kind j q
        | inr q ↦ (open', hi, (to-of k a s kind j q).0, (to-of k a s kind j q).1)
      ];
    }

    nobody : (k : ℕ) (kind : Kind) (j : ℕ) → has 0 j ≡ true → (j ≤ n) × (route f kind k j ≡ true)
    nobody k kind j e = none_has j e

    becomes_ok : (k : ℕ) (c : Controller) → Sends_ok k (becomes c)
    unfolding becomes sent_after
    becomes_ok k c = record { calls = λ l e. e; vote = nobody k Vote; ack = nobody k Ack; help = nobody k Help; helped = nobody k Helped }

    passed_ok : (k : ℕ) (c : Controller) → Sends_ok k (passing_over c)
    unfolding passing_over sent_after
    passed_ok k c = record { calls = λ l e. e; vote = nobody k Vote; ack = nobody k Ack; help = nobody k Help; helped = nobody k Helped }

    put_ok : (k : ℕ) (a : Answer) (o : Outcome) → Sends_ok k a → Sends_ok k (proposing a o)
    unfolding proposing
    put_ok k a o h = record { calls = h.calls; vote = h.vote; ack = h.ack; help = h.help; helped = h.helped }

    puts_ok : (k : ℕ) (a : Answer) → Sends_ok k a → Sends_ok k (propose_if_sufficient n f a)
    puts_ok k a h = sufficient_cases (Sends_ok k) n f a (λ q. put_ok k a _ h) (λ q. h)

    -- those whose calls controller k has taken
    abbrev CallersIn : ℕ → Controller → Type 0
    CallersIn k c = (j : ℕ) → has_called c j ≡ true → (j ≤ n) × (route f Help j k ≡ true)

    -- all to whom a kind is sent are controllers that may be sent it
    module _ (small : n ≤ limit) where
      sent-to : (kind : Kind) (k j : ℕ) → has (recipients n f kind k) j ≡ true → (j ≤ n) × (route f kind k j ≡ true)
      unfolding recipients
      sent-to kind k j e =
          let h : leb 1 j && leb j n && route f kind k j ≡ true = sym (has-collect n (route f kind k) j (omega arith)) ∙ e in
          (leb-true j n (and_r (leb 1 j) (leb j n) (and_l (leb 1 j && leb j n) (route f kind k j) h)), and_r (leb 1 j && leb j n) (route f kind k j) h)

      vote_ok : (k : ℕ) (w : Bool) (t : ℕ) (c : Controller) → Sends_ok k (vote_rule n f k w t c)
      unfolding vote_rule sent_after
      vote_ok k w t c = record { calls = λ l e. e; vote = sent-to Vote k; ack = nobody k Ack; help = nobody k Help; helped = nobody k Helped }

      first_ok : (k : ℕ) (c : Controller) → Sends_ok k (first_timeout n f k c)
      unfolding first_timeout sent_after
      first_ok k c = record { calls = λ l e. e; vote = nobody k Vote; ack = sent-to Ack k; help = nobody k Help; helped = nobody k Helped }

      -- an answer goes back to a caller of the lock, over the way that its call came
      back : (j k : ℕ) → route f Help j k ≡ true → route f Helped k j ≡ true
      unfolding route help_route
      back j k e = and_i (not (eqb k j)) (ltb f k && ltb f j) (turned (and_l (not (eqb j k)) _ e)) (and_i (ltb f k) (ltb f j) (and_r (ltb f j) (ltb f k) (and_r (not (eqb j k)) _ e)) (and_l (ltb f j) (ltb f k) (and_r (not (eqb j k)) _ e)))
        where
          turned : not (eqb j k) ≡ true → not (eqb k j) ≡ true
          turned q = rw (ne_eqb k j (λ z. eqb-false j k (not-true (eqb j k) q) (sym z)))

      -- the help vote set at the second timeout: to those whose calls were kept, over the ways that their calls came
      ready_ok : (k : ℕ) (s : VoteSet) (next : Controller) → CallersIn k next → Sends_ok k (ready s next)
      unfolding ready sent_after
      ready_ok k s next o = record { calls = λ l e. e; vote = nobody k Vote; ack = nobody k Ack; help = nobody k Help; helped = λ j e. ((o j e).0, back j k (o j e).1) }

      calls_ok : (k : ℕ) (s : VoteSet) (next : Controller) → CallersIn k next → Sends_ok k (calls_help n f k s next)
      unfolding calls_help sent_after
      calls_ok k s next o = record { calls = λ l e. refl; vote = nobody k Vote; ack = nobody k Ack; help = sent-to Help k; helped = λ j e. ((o j e).0, back j k (o j e).1) }

      frozen-callers : (k : ℕ) (c : Controller) → CallersIn k c → CallersIn k (frozen n c)
      unfolding frozen freeze advance
      frozen-callers k c o = o

      second_ok : (k : ℕ) (c : Controller) → CallersIn k c → Sends_ok k (second_timeout n f k c)
      second_ok k c o = second_cases (Sends_ok k) n f k c
          (λ d. ready_ok k _ _ (unfold conclude in frozen-callers k c o))
          (λ e. put_ok k _ _ (ready_ok k _ _ (frozen-callers k c o)))
          (λ e. puts_ok k _ (calls_ok k _ _ (frozen-callers k c o)))

      answers_ok : (j k : ℕ) (c : Controller) → j ≤ n → route f Help j k ≡ true → Sends_ok k (answers_call j c)
      unfolding answers_call sent_after
      answers_ok j k c hi r = record { calls = λ l e. e; vote = nobody k Vote; ack = nobody k Ack; help = nobody k Help; helped = λ x e. elim (insert_only 0 j x e) [ inl z ↦ rw z (hi, back j k r) | inr z ↦ none_has x z ] }

      arrives_ok : (kind : Kind) (j k : ℕ) (s : VoteSet) (c : Controller) → j ≤ n → route f kind j k ≡ true → Sends_ok k (arrives kind n f j s c)
      arrives_ok kind j k s c hi r = arrives_cases (Sends_ok k) n f kind j s c (λ c' q. becomes_ok k c') (puts_ok k) (λ z p q. answers_ok j k c hi (rw z at r)) (passed_ok k c)

    -- a checkpoint of controller k
    pub record SavedIn (k : ℕ) (p : Checkpoint) : Type 0 where
      pub id : p.id ≡ k
      pub n-is : p.n ≡ n
      pub f-is : p.f ≡ f
      pub one_of : is_controller n k ≡ true
      pub order : 1 ≤ p.order
      pub order_in : H p.order
      pub position : G p.position

    abbrev SavedOk : ℕ → Option Checkpoint → Type 0
    SavedOk k s = (p : Checkpoint) → s ≡ Some p → SavedIn k p

    pub record AllIn (v : View) : Type 0 where
      pub order : H v.order
      pub ctls : (k : ℕ) → InRange (v.ctl k)
      pub lines : (k : ℕ) → SentIn v.order k (v.state.sent k)
      pub saved : (k : ℕ) → SavedOk k (v.saved k)

    commit_in : (v : View) (i : ℕ) (a : Answer) → 1 ≤ v.order → i ≤ n → AllIn v → Keeps a → Sends_ok i a → AllIn (commit_v v i a)
    unfolding commit_v
    commit_in v i a open' hi h k s = record {
      order = h.order;
      ctls = upd-all (λ k (c : Controller). InRange c) v.ctl i a.controller k.keeps h.ctls;
      lines = upd-all (λ k (l : Sent). SentIn v.order k l) v.state.sent i (sent_after (v.state.sent i) a.sends) (sent_in v.order i (v.state.sent i) a open' hi s (h.lines i)) h.lines;
      saved = h.saved;
    }

    newest : (x p : Checkpoint) → Some x ≡ Some p → x ≡ p
    newest x p e = cc

    saved_in : (v : View) (i : ℕ) → 1 ≤ v.order → is_controller n i ≡ true → AllIn v → AllIn (saved_v v i (checkpoint_at n f v i))
    unfolding saved_v
    saved_in v i open' m h = record {
      order = h.order;
      ctls = h.ctls;
      lines = h.lines;
      saved = upd-all (λ k (s : Option Checkpoint). SavedOk k s) v.saved i (Some (checkpoint_at n f v i))
          (λ p e. subst (SavedIn i) (newest (checkpoint_at n f v i) p e) (record { id = refl; n-is = refl; f-is = refl; one_of = m; order = open'; order_in = h.order; position = (h.ctls i).gate.position })) h.saved;
    }

    renew_in : (c : Controller) → InRange c → InRange (renew c)
    unfolding renew
    renew_in c h = by_cond InRange (is_stopped c.condition) _ _ (λ e. cleared_in _ c (omega arith) h) (λ e. cleared_in _ c (omega arith) h)

    unsent-to : (o k : ℕ) (kind : Kind) (j : ℕ) → has (of_kind kind unsent_all).to j ≡ true → (1 ≤ o) × (k ≤ n) × (j ≤ n) × (route f kind k j ≡ true)
    unfolding unsent_all
    unsent-to o k Vote j e = none_has j e
    unsent-to o k Ack j e = none_has j e
    unsent-to o k Help j e = none_has j e
    unsent-to o k Helped j e = none_has j e

    pub unsent_in : (o k : ℕ) → SentIn o k unsent_all
    unfolding unsent_all
    unsent_in o k = record { caster = λ e. none_has k e; call = refl; to = unsent-to o k }

    opened_in : (v : View) (o : ℕ) → H o → AllIn v → AllIn (opened_v n f v o)
    unfolding opened_v renewed order_opened
    opened_in v o g h = record { order = g; ctls = λ k. renew_in (v.ctl k) (h.ctls k); lines = λ k. unsent_in o k; saved = h.saved }

    restore-keeps : (v : View) (i : ℕ) → AllIn v → Keeps (rule_answer n f v (Restore i))
    unfolding rule_answer
    restore-keeps v i h = restore_cases Keeps _ _ (v.ctl i) (λ x q e. becomes-keeps _ (cleared_in _ (v.ctl i) (omega arith) (h.ctls i))) (passed-keeps _ (h.ctls i))

    restore_ok : (v : View) (i : ℕ) → Sends_ok i (rule_answer n f v (Restore i))
    unfolding rule_answer
    restore_ok v i = restore_cases (Sends_ok i) _ _ (v.ctl i) (λ x q e. becomes_ok i _) (passed_ok i _)

    decide_in : (v : View) (i : ℕ) (w : Bool) → 1 ≤ v.order → i ≤ n → AllIn v → AllIn (commit_v (chosen v w) i (becomes (conclude (v.ctl i) (word_of w))))
    unfolding chosen
    decide_in v i w open' hi h = commit_in _ i _ open' hi (record { order = h.order; ctls = h.ctls; lines = h.lines; saved = h.saved }) (becomes-keeps _ (conclude_in (v.ctl i) (word_of w) (h.ctls i))) (becomes_ok i _)

    help-within : (v : View) → Inv n f v → (i : ℕ) → WithinSet (help_votes n (v.ctl i))
    help-within v inv i = (subst (Truthful v.state.sent) (sym (help-is n f v.state.sent inv.lines i (v.ctl i) (inv.ctls i).votes_ok (inv.ctls i).acks_ok))
        (union_ok v.state.sent (acks_union n (v.ctl i)) (v.ctl i).votes (acks-true n f v.state.sent inv.lines i (v.ctl i) (inv.ctls i).acks_ok) (inv.ctls i).votes_ok)).within

    -- a call taken was sent, so its caller is a controller of the lock
    callers_in : (v : View) → Inv n f v → (i : ℕ) → AllIn v → CallersIn i (v.ctl i)
    callers_in v inv i h j e = let t : (1 ≤ v.order) × (j ≤ n) × (i ≤ n) × (route f Help j i ≡ true) = (h.lines j).to Help i ((inv.ctls i).calls_ok j e) in (t.1, t.3)

    perform_in : n ≤ limit → (v : View) (e : Event) → Inv n f v → accepts n f v e ≡ true → Given e → AllIn v → AllIn (perform_v n f v e)
    unfolding perform_v accepts first_no is_controller
    perform_in s v (Lock a c own) inv q g h = h
    perform_in s v (Order o) inv q g h = opened_in v o (g.number o refl) h
    perform_in s v (Cast i w t) inv q g h = commit_in v i _ (leb-true _ _ (search (ask_l, ask_r, and_l, and_r) depth 14)) (leb-true _ _ (search (ask_l, ask_r, and_l, and_r) depth 14)) h (vote-keeps i w t (v.ctl i) (g.target i w t refl) (h.ctls i)) (vote_ok s i w t (v.ctl i))
    perform_in s v (Deliver i j k) inv q g h = commit_in v j _ (leb-true _ _ (search (ask_l, ask_r, and_l, and_r) depth 14)) (leb-true _ _ (search (ask_l, ask_r, and_l, and_r) depth 14)) h (arrives-keeps k i _ (v.ctl j) (h.ctls j)) (arrives_ok s k i j _ (v.ctl j) (leb-true _ _ (search (ask_l, ask_r, and_l, and_r) depth 14)) (search (ask_l, ask_r, and_l, and_r) depth 14))
    perform_in s v (Timeout i) inv q g h = commit_in v i _ (leb-true _ _ (search (ask_l, ask_r, and_l, and_r) depth 14)) (leb-true _ _ (search (ask_l, ask_r, and_l, and_r) depth 14)) h
        (timeout_cases Keeps n f i (v.ctl i) (λ p. first-keeps i (v.ctl i) (h.ctls i)) (λ p. second-keeps i (v.ctl i) (help-within v inv i) (h.ctls i)))
        (timeout_cases (Sends_ok i) n f i (v.ctl i) (λ p. first_ok s i (v.ctl i)) (λ p. second_ok s i (v.ctl i) (λ j x. callers_in v inv i h j x)))
    perform_in s v (Decide i w) inv q g h = decide_in v i w (leb-true _ _ (search (ask_l, ask_r, and_l, and_r) depth 14)) (leb-true _ _ (search (ask_l, ask_r, and_l, and_r) depth 14)) h
    perform_in s v (Stop i) inv q g h = commit_in v i _ (leb-true _ _ (search (ask_l, ask_r, and_l, and_r) depth 14)) (leb-true _ _ (search (ask_l, ask_r, and_l, and_r) depth 14)) h (becomes-keeps _ (cleared_in _ (v.ctl i) (omega arith) (h.ctls i))) (becomes_ok i _)
    perform_in s v (Save i) inv q g h = saved_in v i (leb-true _ _ (search (ask_l, ask_r, and_l, and_r) depth 14)) (unfold is_controller in (search (ask_l, ask_r, and_l, and_r) depth 14)) h
    perform_in s v (OfBallots e) inv q g h = unfold ballots_v in record { order = h.order; ctls = h.ctls; lines = h.lines; saved = h.saved }
    perform_in s v (Restore i) inv q g h = unfold rule_answer in commit_in v i _ (leb-true _ _ (search (ask_l, ask_r, and_l, and_r) depth 14)) (leb-true _ _ (search (ask_l, ask_r, and_l, and_r) depth 14)) h (restore-keeps v i h) (restore_ok v i)

    pub step_in : n ≤ limit → (v : View) (e : Event) → Inv n f v → (accepts n f v e ≡ true → Given e) → AllIn v → AllIn (step_v n f v e)
    unfolding step_v
    step_in s v e inv g h = by_cond AllIn (accepts n f v e) (perform_v n f v e) v (λ q. perform_in s v e inv q (g q) h) (λ q. h)
