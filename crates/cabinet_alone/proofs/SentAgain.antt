-- What was sent stays what it was: of votes, acknowledgements and help calls nothing was sent before the one rule that sends them, and help answers all have the help vote set,
-- which is frozen by then. So it goes by the stage.
use Prim.Native.Nat.{ℕ, suc, ◌≤◌}
use mathlib.Core.Path.{◌≡◌, refl, sym, ◌∙◌}
use mathlib.Core.Bool.{Bool, true, false, not, ◌&&◌, ◌||◌, false≢true}
use mathlib.Core.Logic.{◌⊎◌, inl, inr}
use native.Mathlib.Omega.{arith}
use lib.Dec.{eqb, leb, ltb}
use borrow.Author.Tests.{eqb-true, leb-false}
use Rattle.ground.specs.Mask.{has}
use Rattle.ground.proofs.MaskLaws.{none_has, has_or}
use Rattle.ground.specs.Tests.{by_cond, and_l, and_r, or_l}
use Rattle.votes.specs.declared.VoteSet.{VoteSet}
use Rattle.model.specs.declared.Kind.{Kind}
use Rattle.model.specs.declared.Kind.TheVariants.{Vote, Ack, Help, Helped}
use Rattle.model.specs.declared.Message.{Message}
use Rattle.model.specs.declared.Outcome.{Outcome}
use Rattle.message_record.specs.Messages.{suits}
use Rattle.protocol.specs.declared.Answer.{Answer}
use Rattle.protocol.specs.declared.Condition.{Condition}
use Rattle.protocol.specs.declared.Condition.TheVariants.{Running, Stopped, Standby}
use Rattle.protocol.specs.declared.Controller.{Controller}
use Rattle.protocol.specs.declared.Identity.{Identity}
use Rattle.protocol.specs.declared.Outgoing.{Outgoing}
use Rattle.protocol.specs.declared.Sent.{Sent}
use Rattle.protocol.specs.Controllers.{is_running, runs, does_stand_by, phase, phase_in, has_ack, has_helped, has_called, cleared, advance, learn, aim, keep_ack, keep_helped, freeze, add_caller, await, propose, conclude, noting}
use Rattle.protocol.specs.Rules.{is_taken, nothing, passing_over, contradicted, becomes, proposing, phase_after_vote, vote_rule, vote_arrives, first_timeout, decides, sufficient, propose_if_sufficient, help_votes, frozen, ready, calls_help, second_timeout, ack_arrives, helped_arrives, keeps_call, answers_call, help_arrives}
use Rattle.protocol.specs.Calls.{valid_identity, vote, addressed, arrives, contradicts_held, tested, receive, timeout, awaits_decision, decide, stop}
use Rattle.protocol.specs.Benches.{of_kind, after_send, sent_after}
use Rattle.protocol.specs.Rules.{send_to}

-- what was sent stays, with its vote set
pub record Stays (old new : Outgoing) : Type 0 where
  pub sent : (j : ℕ) → has old.to j ≡ true → has new.to j ≡ true
  pub votes : (j : ℕ) → has old.to j ≡ true → new.votes ≡ old.votes

pub unchanged : (o : Outgoing) → Stays o o
unchanged o = record { sent = λ j e. e; votes = λ j e. refl }

pub onward : (a b c : Outgoing) → Stays a b → Stays b c → Stays a c
onward a b c x y = record { sent = λ j e. y.sent j (x.sent j e); votes = λ j e. y.votes j (x.sent j e) ∙ x.votes j e }

-- more is sent where nothing was, or with the same vote set
first-sent : (o : Outgoing) (to : ℕ) (s : VoteSet) → o.to ≡ 0 → Stays o (after_send o (send_to to s))
first-sent o to s e = record { sent = λ j h. none_has j (rw e at h); votes = λ j h. none_has j (rw e at h) }

more-sent : (o : Outgoing) (to : ℕ) (s : VoteSet) → o.votes ≡ s → Stays o (after_send o (send_to to s))
more-sent o to s e = record { sent = λ j h. has_or o.to to j ∙ or_l (has o.to j) (has to j) h; votes = λ j h. sym e }

-- what a running controller has not sent yet, by its stage; its help answers have its help vote set
pub record Before (c : Controller) (s : Sent) : Type 0 where
  pub vote : phase c ≡ 0 → s.vote.to ≡ 0
  pub ack : phase c ≤ 1 → s.ack.to ≡ 0
  pub help : phase c ≤ 2 → s.help.to ≡ 0
  pub helped : (s.helped.to ≡ 0) ⊎ ((3 ≤ phase c) × (s.helped.votes ≡ c.help.votes))

abbrev pub Inv : Controller → Sent → Type 0
Inv c s = runs c ≡ true → Before c s

-- an answer keeps both
pub record Good (s : Sent) (a : Answer) : Type 0 where
  pub stays : (kind : Kind) → Stays (of_kind kind s) (of_kind kind (sent_after s a.sends))
  pub next : Inv a.controller (sent_after s a.sends)

nothing-more : (s : Sent) (kind : Kind) → Stays (of_kind kind s) (of_kind kind (sent_after s nothing))
unfolding sent_after
nothing-more s Vote = unchanged s.vote
nothing-more s Ack = unchanged s.ack
nothing-more s Help = unchanged s.help
nothing-more s Helped = unchanged s.helped

same_before : (c d : Controller) (s : Sent) → phase d ≡ phase c → d.help.votes ≡ c.help.votes → Before c s → Before d (sent_after s nothing)
unfolding sent_after
same_before c d s p v x = record {
  vote = λ e. x.vote (sym p ∙ e);
  ack = λ e. x.ack (let q = p in omega (arith, q, e));
  help = λ e. x.help (let q = p in omega (arith, q, e));
  helped = elim x.helped [
    | inl z ↦ inl z
    | inr z ↦ inr ((let h = z.0 in let q = p in omega (arith, q, h)), z.1 ∙ sym v)
  ];
}

-- the help answers are unsent before stage 3
unhelped : (c : Controller) (s : Sent) → Before c s → phase c ≤ 2 → s.helped.to ≡ 0
unhelped c s x h = elim x.helped [
  | inl z ↦ z
  | inr z ↦ (let q = z.0 in absurd (omega (arith, h, q)))
]

phase-noted : (k : Condition) (o : Outcome) → phase_in (noting k o) ≡ phase_in k
phase-noted (Running p) o = refl
phase-noted Stopped o = refl
phase-noted (Standby x) o = refl

runs-noted : (k : Condition) (o : Outcome) → is_running (noting k o) ≡ is_running k
runs-noted (Running p) o = refl
runs-noted Stopped o = refl
runs-noted (Standby x) o = refl

-- a word put changes nothing here
put_good : (s : Sent) (a : Answer) (o : Outcome) → Good s a → Good s (proposing a o)
unfolding proposing propose
put_good s a o x = record { stays = x.stays; next = λ e. let y = x.next e in record { vote = y.vote; ack = y.ack; help = y.help; helped = y.helped } }

put_if : (s : Sent) (n f : ℕ) (a : Answer) → Good s a → Good s (propose_if_sufficient n f a)
unfolding propose_if_sufficient
put_if s n f a x = by_cond (Good s) (sufficient n f a.controller) (proposing a _) a (λ e. put_good s a _ x) (λ e. x)

module _ (c : Controller) (s : Sent) (x : Inv c s) where
  -- nothing is sent, and stage and help vote set are as they were
  becomes_good : (d : Controller) → runs d ≡ runs c → phase d ≡ phase c → d.help.votes ≡ c.help.votes → Good s (becomes d)
  unfolding becomes
  becomes_good d r p v = record { stays = nothing-more s; next = λ e. same_before c d s p v (x (sym r ∙ e)) }

  passed_good : Good s (passing_over c)
  unfolding passing_over
  passed_good = record { stays = nothing-more s; next = λ e. same_before c c s refl refl (x e) }

  refused_good : Good s (contradicted c)
  unfolding contradicted
  refused_good = record { stays = nothing-more s; next = λ e. same_before c c s refl refl (x e) }

  pub decide_good : (w : Bool) → Good s (decide w c)
  unfolding decide conclude
  decide_good w = by_cond (Good s) (awaits_decision c) _ _ (λ e. becomes_good _ (runs-noted c.condition _) (phase-noted c.condition _) refl) (λ e. passed_good)

  pub stop_good : Good s (stop c)
  unfolding stop becomes cleared
  stop_good = by_cond (Good s) (runs c || does_stand_by c) _ _ (λ e. record { stays = nothing-more s; next = λ q. absurd (false≢true q) }) (λ e. passed_good)

  -- a message arrives; a help call at stage 3 is answered
  answer_good : (j : ℕ) → runs c ≡ true → leb (phase c) 2 ≡ false → Good s (answers_call j c)
  unfolding answers_call add_caller sent_after
  answer_good j r e =
      let h = leb-false (phase c) 2 e in
      let y = x r in
      record {
        stays = λ kind. answered kind;
        next = λ q. record {
          vote = λ z. absurd (omega (arith, h, z));
          ack = λ z. absurd (omega (arith, h, z));
          help = λ z. absurd (omega (arith, h, z));
          helped = inr (omega (arith, h), refl);
        };
      }
    where
      answered : (kind : Kind) → Stays (of_kind kind s) (of_kind kind (sent_after s (answers_call j c).sends))
      answered Vote = unchanged s.vote
      answered Ack = unchanged s.ack
      answered Help = unchanged s.help
      answered Helped = elim (x r).helped [
        | inl z ↦ first-sent s.helped _ c.help.votes z
        | inr z ↦ more-sent s.helped _ c.help.votes z.1
      ]

  arrive_good : (kind : Kind) (n f from : ℕ) (v : VoteSet) → runs c ≡ true → Good s (arrives kind n f from v c)
  unfolding arrives vote_arrives ack_arrives helped_arrives help_arrives keeps_call learn keep_ack keep_helped add_caller
  arrive_good Vote n f from v r = by_cond (Good s) (leb (phase c) 1) _ _ (λ e. becomes_good _ refl refl refl) (λ e. passed_good)
  arrive_good Ack n f from v r = by_cond (Good s) (not (has_ack c from) && (leb (phase c) 2 || c.help.waiting)) _ _ (λ e. put_if s n f _ (becomes_good _ refl refl refl)) (λ e. passed_good)
  arrive_good Help n f from v r = by_cond (Good s) (has_called c from) _ _ (λ e. passed_good)
      (λ e. by_cond (Good s) (leb (phase c) 2) _ _ (λ q. becomes_good _ refl refl refl) (λ q. answer_good from r q))
  arrive_good Helped n f from v r = by_cond (Good s) (not (has_helped c from) && c.help.waiting) _ _ (λ e. put_if s n f _ (becomes_good _ refl refl refl)) (λ e. passed_good)

  pub receive_good : (me : Identity) (m : Message) → Good s (receive me m c)
  unfolding receive tested
  receive_good me m = by_cond (Good s) (valid_identity me && runs c && addressed me m && suits m) _ _
      (λ e. by_cond (Good s) (is_taken (arrives m.kind me.n me.f m.from m.votes c).reception && contradicts_held me.n c m.votes) _ _
      (λ q. refused_good) (λ q. arrive_good m.kind me.n me.f m.from m.votes (search (and_l, and_r))))
      (λ e. passed_good)

after-vote : (f i : ℕ) → phase_after_vote f i ≡ 0 → ⊥
after-vote f i = by_cond (λ (k : ℕ). k ≡ 0 → ⊥) (leb i (suc f)) 1 2 (λ e z. omega (arith, z)) (λ e z. omega (arith, z))

module _ (c : Controller) (s : Sent) (x : Inv c s) where
  -- **vote**, at stage 0
  cast_good : (n f i t : ℕ) (w : Bool) (d : Controller) → runs c ≡ true → phase c ≡ 0 → Good s (vote_rule n f i w t d)
  unfolding vote_rule advance aim learn sent_after
  cast_good n f i t w d r p =
      let y = x r in
      record {
        stays = λ kind. cast kind;
        next = λ q. record {
          vote = λ z. absurd (after-vote f i z);
          ack = λ z. y.ack (omega (arith, p));
          help = λ z. y.help (omega (arith, p));
          helped = inl (unhelped c s y (omega (arith, p)));
        };
      }
    where
      cast : (kind : Kind) → Stays (of_kind kind s) (of_kind kind (sent_after s (vote_rule n f i w t d).sends))
      cast Vote = first-sent s.vote _ _ ((x r).vote p)
      cast Ack = unchanged s.ack
      cast Help = unchanged s.help
      cast Helped = unchanged s.helped

  pub vote_good : (me : Identity) (w : Bool) (t : ℕ) → Good s (vote me w t c)
  unfolding vote
  vote_good me w t = by_cond (Good s) (valid_identity me && runs c && eqb (phase c) 0) _ _
      (λ e. cast_good me.n me.f me.id t w _ (search (and_l, and_r)) (eqb-true (phase c) 0 (search (and_l, and_r)))) (λ e. passed_good c s x)

  -- **timeout**, at stage 1 and at stage 2
  first_good : (n f i : ℕ) → runs c ≡ true → phase c ≡ 1 → Good s (first_timeout n f i c)
  unfolding first_timeout advance sent_after
  first_good n f i r p =
      let y = x r in
      record {
        stays = λ kind. acknowledged kind;
        next = λ q. record {
          vote = λ z. absurd (omega (arith, z));
          ack = λ z. absurd (omega (arith, z));
          help = λ z. y.help (omega (arith, p));
          helped = inl (unhelped c s y (omega (arith, p)));
        };
      }
    where
      acknowledged : (kind : Kind) → Stays (of_kind kind s) (of_kind kind (sent_after s (first_timeout n f i c).sends))
      acknowledged Vote = unchanged s.vote
      acknowledged Ack = first-sent s.ack _ _ ((x r).ack (omega (arith, p)))
      acknowledged Help = unchanged s.help
      acknowledged Helped = unchanged s.helped

  module _ (r : runs c ≡ true) (p : phase c ≡ 2) where
    -- at stage 3, with the help vote set that is sent
    ready_good : (v : VoteSet) (next : Controller) → phase next ≡ 3 → next.help.votes ≡ v → Good s (ready v next)
    unfolding ready sent_after
    ready_good v next q h = record {
      stays = λ kind. readied kind;
      next = λ e. record {
        vote = λ z. absurd (omega (arith, q, z));
        ack = λ z. absurd (omega (arith, q, z));
        help = λ z. absurd (omega (arith, q, z));
        helped = inr (omega (arith, q), sym h);
      };
    }
      where
        readied : (kind : Kind) → Stays (of_kind kind s) (of_kind kind (sent_after s (ready v next).sends))
        readied Vote = unchanged s.vote
        readied Ack = unchanged s.ack
        readied Help = unchanged s.help
        readied Helped = first-sent s.helped _ v (unhelped c s (x r) (omega (arith, p)))

    calls_good : (n f i : ℕ) → Good s (calls_help n f i (help_votes n c) (frozen n c))
    unfolding calls_help keep_helped await frozen freeze advance sent_after
    calls_good n f i = record {
      stays = λ kind. called kind;
      next = λ e. record {
        vote = λ z. absurd (omega (arith, z));
        ack = λ z. absurd (omega (arith, z));
        help = λ z. absurd (omega (arith, z));
        helped = inr (omega arith, refl);
      };
    }
      where
        called : (kind : Kind) → Stays (of_kind kind s) (of_kind kind (sent_after s (calls_help n f i (help_votes n c) (frozen n c)).sends))
        called Vote = unchanged s.vote
        called Ack = unchanged s.ack
        called Help = first-sent s.help _ _ ((x r).help (omega (arith, p)))
        called Helped = first-sent s.helped _ _ (unhelped c s (x r) (omega (arith, p)))

    frozen-phase : (n : ℕ) → phase (frozen n c) ≡ 3
    unfolding frozen freeze advance
    frozen-phase n = refl

    frozen-votes : (n : ℕ) → (frozen n c).help.votes ≡ help_votes n c
    unfolding frozen freeze advance
    frozen-votes n = refl

    concluded_good : (n : ℕ) (o : Outcome) → Good s (ready (help_votes n c) (conclude (frozen n c) o))
    concluded_good n o = ready_good (help_votes n c) (conclude (frozen n c) o)
        (unfold conclude in (phase-noted (frozen n c).condition o ∙ frozen-phase n)) (unfold conclude in frozen-votes n)

    second_good : (n f i : ℕ) → Good s (second_timeout n f i c)
    unfolding second_timeout
    second_good n f i = by_cond (Good s) (decides n f i c) _ _ (λ e. concluded_good n _)
        (λ e. by_cond (Good s) (ltb 0 c.acks.cnt.0) _ _ (λ q. put_good s _ _ (ready_good (help_votes n c) (frozen n c) (frozen-phase n) (frozen-votes n)))
        (λ q. put_if s n f _ (calls_good n f i)))

  pub timeout_good : (me : Identity) → Good s (timeout me c)
  unfolding timeout
  timeout_good me = by_cond (Good s) (valid_identity me && runs c && eqb (phase c) 1) _ _
      (λ e. first_good me.n me.f me.id (search (and_l, and_r)) (eqb-true (phase c) 1 (search (and_l, and_r))))
      (λ e. by_cond (Good s) (valid_identity me && runs c && eqb (phase c) 2) _ _
      (λ q. second_good (search (and_l, and_r)) (eqb-true (phase c) 2 (search (and_l, and_r))) me.n me.f me.id) (λ q. passed_good c s x))
