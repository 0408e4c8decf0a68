-- Each rule's answer owes what Listening says of it, and gives it: by the cases of each rule (view/RuleCases).
use Prim.Native.Nat.{ℕ, suc, ◌+◌, ◌≤◌, ◌<◌}
use mathlib.Core.Path.{◌≡◌, refl}
use mathlib.Core.Bool.{Bool, true, false, not, ◌&&◌, ◌||◌, cond, false≢true}
use native.Mathlib.Omega.{arith}
use lib.Dec.{leb, ltb}
use mathlib.Core.Logic.{inl, inr}
use borrow.Author.Tests.{leb-false, le-leb, lt-ltb, ne_eqb}
use Rattle.ground.specs.Limit.{limit}
use Rattle.ground.specs.Tests.{no_both, by_cond, or_l, or_r}
use Rattle.ground.specs.Mask.{width, has}
use Rattle.ground.proofs.MaskLaws.{insert-own, insert-keeps}
use Rattle.votes.specs.Joining.{unanimous_in}
use Rattle.votes.specs.declared.VoteSet.{VoteSet}
use Rattle.model.specs.Ranges.{is_backup}
use Rattle.model.specs.Routes.{help_route, route}
use Rattle.model.specs.Numbers.{is_none, word_of}
use Rattle.model.specs.declared.Kind.TheVariants.{Vote, Ack, Help, Helped}
use Rattle.model.specs.declared.Outcome.{Outcome}
use Rattle.model.specs.declared.Event.{Event}
use Rattle.model.specs.declared.Event.TheVariants.{Lock, Order, Cast, Deliver, Timeout, Decide, Stop, Save, Restore, OfBallots}
use Rattle.protocol.specs.declared.Controller.{Controller}
use Rattle.protocol.specs.declared.Answer.{Answer}
use Rattle.protocol.specs.declared.Sent.{Sent}
use Rattle.protocol.specs.Controllers.{runs, phase, outcome, has_ack, has_helped, advance, learn, aim, keep_ack, keep_helped, freeze, add_caller, await, propose, conclude}
use Rattle.protocol.specs.Rules.{passing_over, becomes, proposing, verdict, vote_rule, vote_arrives, count_own, first_timeout, ack_join, sufficient, answers_join, propose_if_sufficient, help_votes, frozen, ready, calls_help, second_timeout, ack_arrives, helped_arrives, keeps_call, answers_call, help_arrives}
use Rattle.protocol.specs.Benches.{sent_after}
use Rattle.protocol.proofs.view.RuleCases.{vote_cases, ack_cases, helped_cases, help_cases, sufficient_cases, second_cases}
use Rattle.protocol.proofs.invariant.Words.{some_word, noting-phase}
use Rattle.protocol.proofs.gates.Frames.{conclude-taken}
use Rattle.protocol.proofs.clean.Parts.{ack-route}
use Rattle.protocol.proofs.clean.Ready.{posted-to}
use Rattle.protocol.proofs.hearing.Listening.{Open, Adds, Forth, forth-refl, Short, Stands, Nearly, Follows}

help-route : (f i k : ℕ) → (i ≡ k → ⊥) → f < i → f < k → help_route f i k ≡ true
unfolding help_route
help-route f i k d x y = rw (ne_eqb i k d, lt-ltb f i x, lt-ltb f k y)

-- a help answer that is not taken by one that waits was counted before
pub counted : (a w : Bool) → w ≡ true → (not a && w) ≡ false → a ≡ true
counted true w p q = refl
counted false w p q = absurd (no_both w p q)

-- a word put adds nothing, and ends waiting
adds-put : (i : ℕ) (c : Controller) (o : Outcome) (e : Event) → Adds i c e → Adds i (propose c o) e
unfolding propose
adds-put i c o (Lock a x own) h = tt
adds-put i c o (Order x) h = tt
adds-put i c o (Cast j w t) h = tt
adds-put i c o (Deliver k j Vote) h = tt
adds-put i c o (Deliver k j Ack) h = λ q s. h q (elim s [ inl x ↦ inl x | inr x ↦ absurd (false≢true x) ])
adds-put i c o (Deliver k j Help) h = h
adds-put i c o (Deliver k j Helped) h = λ q. ((h q).0, λ x. absurd (false≢true x))
adds-put i c o (Timeout j) h = tt
adds-put i c o (Decide j w) h = h
adds-put i c o (Stop j) h = tt
adds-put i c o (Save j) h = tt
adds-put i c o (OfBallots e) h = tt
adds-put i c o (Restore j) h = tt

module _ (n f : ℕ) where
  -- a word put where one is due
  put-nearly : (e : Event) (i : ℕ) (c : Controller) (l : Sent) (a : Answer) (w : Bool) → Nearly n f e i c l a → Nearly n f e i c l (proposing a (word_of w))
  unfolding proposing
  put-nearly e i c l a w t = record { forth = forth; adds = adds-put i a.controller (word_of w) e t.adds; stands = stands }
    where
      forth : Forth c (propose a.controller (word_of w))
      forth = unfold propose in record { callers = t.forth.callers; helped = t.forth.helped; acks = t.forth.acks; low = t.forth.low; waits = λ x. absurd (false≢true x); outcome = t.forth.outcome }

      stands : Stands n f i (propose a.controller (word_of w)) (sent_after l a.sends)
      stands = unfold propose in record { waits = λ x. absurd (false≢true x); ended = λ s o p. absurd (no_both _ p (some_word w)); acked = t.stands.acked }

  no_wait : (e : Event) (i : ℕ) (c : Controller) (l : Sent) (a : Answer) → a.controller.help.waiting ≡ false → Nearly n f e i c l a → Follows n f e i c l a
  no_wait e i c l a h t = record { nearly = t; short = λ w. absurd (no_both _ w h) }

  put-follows : (e : Event) (i : ℕ) (c : Controller) (l : Sent) (a : Answer) (w : Bool) → Nearly n f e i c l a → Follows n f e i c l (proposing a (word_of w))
  put-follows e i c l a w t = no_wait e i c l _ (unfold proposing propose in refl) (put-nearly e i c l a w t)

  -- the test: either a word is put, or the counts are short
  settle-follows : (e : Event) (i : ℕ) (c : Controller) (l : Sent) (a : Answer) → Nearly n f e i c l a → Follows n f e i c l (propose_if_sufficient n f a)
  unfolding verdict
  settle-follows e i c l a t = sufficient_cases (Follows n f e i c l) n f a (λ q. put-follows e i c l a (unanimous_in n (answers_join n a.controller)) t) (λ q. record { nearly = t; short = λ w. few w q })
    where
      few : a.controller.help.waiting ≡ true → sufficient n f a.controller ≡ false → Short n f a.controller
      few w q = unfold sufficient in leb-false n (a.controller.acks.cnt.0 + a.controller.helped.cnt_help.0 + f) (rw w at q)

  module _ (e : Event) (i : ℕ) (c : Controller) (l : Sent) (s : Stands n f i c l) (h : c.help.waiting ≡ true → Short n f c) where
    passed-follows : Adds i c e → Follows n f e i c l (passing_over c)
    unfolding passing_over sent_after
    passed-follows a = record { nearly = record { forth = forth-refl c; adds = a; stands = s }; short = h }

  module _ (i : ℕ) (c : Controller) (l : Sent) (s : Stands n f i c l) (h : c.help.waiting ≡ true → Short n f c) where
    -- its vote
    pub vote-follows : (w : Bool) (t : ℕ) → phase c ≡ 0 → Follows n f (Cast i w t) i c l (vote_rule n f i w t c)
    unfolding vote_rule advance aim learn sent_after
    vote-follows w t p = record {
      nearly = record {
        forth = record { callers = λ k e. e; helped = λ k e. e; acks = λ k e. e; low = λ x. omega (arith, p); waits = λ x. inr x; outcome = λ x. x };
        adds = tt;
        stands = record {
          waits = λ x. record { called = (s.waits x).called; itself = (s.waits x).itself };
          ended = λ x. absurd (late (leb i (suc f)) x);
          acked = λ x y. absurd (early (leb i (suc f)) x (le-leb i (suc f) (omega arith)));
        };
      };
      short = h;
    }
      where
        late : (t : Bool) → 3 ≤ cond t 1 2 → ⊥
        late true x = omega arith
        late false x = omega arith

        early : (t : Bool) → 2 ≤ cond t 1 2 → t ≡ true → ⊥
        early true x y = omega arith
        early false x y = false≢true y

    -- a vote that arrives
    pub vote_in-follows : (k : ℕ) (x : VoteSet) → Follows n f (Deliver k i Vote) i c l (vote_arrives x c)
    vote_in-follows k x = vote_cases (Follows n f (Deliver k i Vote) i c l) x c (λ p. learned) (passed-follows (Deliver k i Vote) i c l s h tt)
      where
        learned : Follows n f (Deliver k i Vote) i c l (becomes (learn c x))
        learned = unfold becomes learn sent_after in record {
          nearly = record {
            forth = record { callers = λ k e. e; helped = λ k e. e; acks = λ k e. e; low = λ x. x; waits = λ x. inr x; outcome = λ x. x };
            adds = tt;
            stands = record { waits = λ x. record { called = (s.waits x).called; itself = (s.waits x).itself }; ended = s.ended; acked = s.acked };
          };
          short = h;
        }

    -- an acknowledgement
    pub ack_in-follows : (k : ℕ) (x : VoteSet) → 1 ≤ k → k ≤ width → Follows n f (Deliver k i Ack) i c l (ack_arrives n f k x c)
    ack_in-follows k x lo hi = ack_cases (Follows n f (Deliver k i Ack) i c l) n f k x c
        (λ q. settle-follows (Deliver k i Ack) i c l _ kept) (λ q. passed-follows (Deliver k i Ack) i c l s h (λ z o. held o (has_ack c k) (leb (phase c) 2) c.help.waiting (λ y. le-leb (phase c) 2 y) (λ y. y) q))
      where
        held : Open c → (a b w : Bool) → (phase c ≤ 2 → b ≡ true) → (c.help.waiting ≡ true → w ≡ true) → (not a && (b || w)) ≡ false → a ≡ true
        held o true b w p r q = refl
        held (inl y) false b w p r q = absurd (no_both (b || w) (or_l b w (p y)) q)
        held (inr y) false b w p r q = absurd (no_both (b || w) (or_r b w (r y)) q)

        kept : Nearly n f (Deliver k i Ack) i c l (becomes (keep_ack c k x))
        kept = unfold becomes keep_ack sent_after in record {
          forth = record { callers = λ k e. e; helped = λ k e. e; acks = λ j e. insert-keeps c.acks.from k j e; low = λ x. x; waits = λ x. inr x; outcome = λ x. x };
          adds = λ z o. insert-own c.acks.from k lo hi;
          stands = record { waits = λ x. record { called = (s.waits x).called; itself = (s.waits x).itself }; ended = s.ended; acked = s.acked };
        }

    -- a help answer: it comes to one past its second timeout
    pub helped_in-follows : (k : ℕ) (x : VoteSet) → 1 ≤ k → k ≤ width → (phase c ≤ 2 → ⊥) → Follows n f (Deliver k i Helped) i c l (helped_arrives n f k x c)
    helped_in-follows k x lo hi late = helped_cases (Follows n f (Deliver k i Helped) i c l) n f k x c
        (λ p q. settle-follows (Deliver k i Helped) i c l _ kept) (λ q. passed-follows (Deliver k i Helped) i c l s h (λ z. (late, λ w. counted (has_helped c k) c.help.waiting w q)))
      where
        kept : Nearly n f (Deliver k i Helped) i c l (becomes (keep_helped c k x))
        kept = unfold becomes keep_helped sent_after in record {
          forth = record { callers = λ k e. e; helped = λ j e. insert-keeps c.helped.from k j e; acks = λ k e. e; low = λ x. x; waits = λ x. inr x; outcome = λ x. x };
          adds = λ z. (late, λ w. insert-own c.helped.from k lo hi);
          stands = record { waits = λ x. record { called = (s.waits x).called; itself = insert-keeps c.helped.from k i (s.waits x).itself }; ended = s.ended; acked = s.acked };
        }

    -- a help call is taken
    pub help_in-follows : (k : ℕ) → 1 ≤ k → k ≤ width → Follows n f (Deliver k i Help) i c l (help_arrives k c)
    help_in-follows k lo hi = help_cases (Follows n f (Deliver k i Help) i c l) k c (λ p. kept) (λ p q. answers) (λ q. passed-follows (Deliver k i Help) i c l s h (λ z. q))
      where
        kept : Follows n f (Deliver k i Help) i c l (keeps_call k c)
        kept = unfold keeps_call becomes add_caller sent_after in record {
          nearly = record {
            forth = record { callers = λ j e. insert-keeps c.help.callers k j e; helped = λ k e. e; acks = λ k e. e; low = λ x. x; waits = λ x. inr x; outcome = λ x. x };
            adds = λ z. insert-own c.help.callers k lo hi;
            stands = record { waits = λ x. record { called = (s.waits x).called; itself = (s.waits x).itself }; ended = s.ended; acked = s.acked };
          };
          short = h;
        }

        answers : Follows n f (Deliver k i Help) i c l (answers_call k c)
        answers = unfold answers_call add_caller sent_after in record {
          nearly = record {
            forth = record { callers = λ j e. insert-keeps c.help.callers k j e; helped = λ k e. e; acks = λ k e. e; low = λ x. x; waits = λ x. inr x; outcome = λ x. x };
            adds = λ z. insert-own c.help.callers k lo hi;
            stands = record { waits = λ x. record { called = (s.waits x).called; itself = (s.waits x).itself }; ended = s.ended; acked = s.acked };
          };
          short = h;
        }

    -- the arbiter's word
    pub decide-follows : (w : Bool) → runs (conclude c (word_of w)) ≡ true → Follows n f (Decide i w) i c l (becomes (conclude c (word_of w)))
    unfolding becomes sent_after
    decide-follows w r = no_wait (Decide i w) i c l _ (unfold becomes conclude in refl) (record {
      forth = forth;
      adds = λ z. conclude-taken c w r;
      stands = stands;
    })
      where
        lower : phase (conclude c (word_of w)) ≤ 2 → phase c ≤ 2
        lower x = unfold conclude in (rw (noting-phase c.condition (word_of w)) at x)

        higher : 2 ≤ phase (conclude c (word_of w)) → 2 ≤ phase c
        higher x = unfold conclude in (rw (noting-phase c.condition (word_of w)) at x)

        forth : Forth c (conclude c (word_of w))
        forth = record {
          callers = λ k e. unfold conclude in e;
          helped = λ k e. unfold conclude in e;
          acks = λ k e. unfold conclude in e;
          low = lower;
          waits = λ x. unfold conclude in absurd (false≢true x);
          outcome = λ x. conclude-taken c w r;
        }

        stands : Stands n f i (conclude c (word_of w)) l
        stands = record {
          waits = λ x. unfold conclude in absurd (false≢true x);
          ended = λ x o p. absurd (no_both _ o (conclude-taken c w r));
          acked = λ x. s.acked (higher x);
        }

    -- what counting its own acknowledgement leaves
    record OwnCounted (c' : Controller) : Type 0 where
      help : c'.help ≡ c.help
      helped : c'.helped ≡ c.helped
      acks : (k : ℕ) → has_ack c k ≡ true → has_ack c' k ≡ true
      same : outcome c' ≡ outcome c

    own-counted : OwnCounted (count_own f i c)
    unfolding count_own keep_ack
    own-counted = by_cond OwnCounted (is_backup f i && not (has_ack c i)) (keep_ack c i c.votes) c
        (λ e. record { help = refl; helped = refl; acks = λ k x. insert-keeps c.acks.from i k x; same = refl })
        (λ e. record { help = refl; helped = refl; acks = λ k x. x; same = refl })

    -- the first timeout: none waits yet
    pub first-follows : n ≤ limit → phase c ≡ 1 → c.help.waiting ≡ false → Follows n f (Timeout i) i c l (first_timeout n f i c)
    unfolding first_timeout advance sent_after
    first-follows small p z = no_wait (Timeout i) i c l _ idle (record {
      forth = record {
        callers = λ k e. rw own-counted.help e;
        helped = λ k e. rw own-counted.helped e;
        acks = own-counted.acks;
        low = λ x. omega (arith, p);
        waits = λ x. absurd (no_both _ x idle');
        outcome = λ x. rw own-counted.same x;
      };
      adds = tt;
      stands = record {
        waits = λ x. absurd (no_both _ x idle');
        ended = λ x. absurd (omega arith);
        acked = λ x y k lo hi d. posted-to n f small Ack i l.ack.to k lo hi (unfold route in ack-route n f i k d y);
      };
    })
      where
        idle' : (count_own f i c).help.waiting ≡ false
        idle' = rw own-counted.help z

        idle : (first_timeout n f i c).controller.help.waiting ≡ false
        idle = unfold first_timeout advance in idle'

    -- the second timeout
    module _ (small : n ≤ limit) (lo : 1 ≤ i) (hi : i ≤ n) (r : runs c ≡ true) (p : phase c ≡ 2) (beyond : ltb 0 c.acks.cnt.0 ≡ false → f < i) where
      past : (k : ℕ) → 1 ≤ k → k ≤ n → i ≤ f → (i ≡ k → ⊥) → has l.ack.to k ≡ true
      past k a b y d = s.acked (omega (arith, p)) y k a b d

      direct : Follows n f (Timeout i) i c l (ready (help_votes n c) (conclude (frozen n c) (verdict n (ack_join n c))))
      direct = no_wait (Timeout i) i c l _ (unfold ready conclude in refl) (unfold ready verdict sent_after in record {
        forth = record {
          callers = λ k e. unfold conclude frozen freeze advance in e;
          helped = λ k e. unfold conclude frozen freeze advance in e;
          acks = λ k e. unfold conclude frozen freeze advance in e;
          low = λ x. unfold conclude frozen freeze advance in absurd (omega arith);
          waits = λ x. unfold conclude in absurd (false≢true x);
          outcome = λ x. taken;
        };
        adds = tt;
        stands = record { waits = λ x. unfold conclude in absurd (false≢true x); ended = λ x o q. absurd (no_both _ o taken); acked = λ x y k a b d. past k a b y d };
      })
        where
          taken : is_none (outcome (conclude (frozen n c) (word_of (unanimous_in n (ack_join n c))))) ≡ false
          taken = conclude-taken (frozen n c) (unanimous_in n (ack_join n c)) (unfold conclude frozen freeze advance in refl)

      puts : Follows n f (Timeout i) i c l (proposing (ready (help_votes n c) (frozen n c)) (verdict n (ack_join n c)))
      puts = unfold proposing ready propose verdict frozen freeze advance sent_after in record {
        nearly = record {
          forth = record { callers = λ k e. e; helped = λ k e. e; acks = λ k e. e; low = λ x. absurd (omega arith); waits = λ x. absurd (false≢true x); outcome = λ x. x };
          adds = tt;
          stands = record { waits = λ x. absurd (false≢true x); ended = λ x o q. absurd (no_both (is_none (word_of (unanimous_in n (ack_join n c)))) q (some_word (unanimous_in n (ack_join n c)))); acked = λ x y k a b d. past k a b y d };
        };
        short = λ x. absurd (false≢true x);
      }

      calls : ltb 0 c.acks.cnt.0 ≡ false → Nearly n f (Timeout i) i c l (calls_help n f i (help_votes n c) (frozen n c))
      calls e = unfold calls_help keep_helped await frozen freeze advance sent_after in record {
        forth = record { callers = λ k e. e; helped = λ k e. insert-keeps c.helped.from i k e; acks = λ k e. e; low = λ x. absurd (omega arith); waits = λ x. inl (omega (arith, p)); outcome = λ x. x };
        adds = tt;
        stands = record {
          waits = λ x. record {
            called = λ k a b d. posted-to n f small Help i l.help.to k (omega arith) b (unfold route in help-route f i k d (beyond e) a);
            itself = insert-own c.helped.from i lo (omega arith);
          };
          ended = λ x o q. refl;
          acked = λ x y k a b d. past k a b y d;
        };
      }

      pub second-follows : Follows n f (Timeout i) i c l (second_timeout n f i c)
      second-follows = second_cases (Follows n f (Timeout i) i c l) n f i c (λ d. direct) (λ e. puts) (λ e. settle-follows (Timeout i) i c l _ (calls e))
