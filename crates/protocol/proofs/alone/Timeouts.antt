-- The two timeouts keep the invariant: the first keeps the own vote set as an acknowledgement, the second may join the help vote set to the answers.
-- Both are made of what is held, so they tell the same words (Telling).
use Prim.Native.Nat.{ℕ, ◌≤◌}
use mathlib.Core.Path.{◌≡◌, refl, sym, ◌∙◌, ap, subst}
use mathlib.Core.Bool.{true, not, ◌&&◌}
use native.Mathlib.Omega.{arith}
use lib.Dec.{eqb}
use borrow.Author.Tests.{eqb-true, not-true}
use Rattle.ground.specs.Limit.{limit}
use Rattle.ground.specs.Tests.{by_cond, and_l, and_r}
use Rattle.ground.specs.Mask.{has}
use Rattle.ground.proofs.MaskLaws.{has-none}
use Rattle.votes.specs.VoteSets.{union}
use Rattle.votes.specs.Joining.{join_next, agreed_or}
use Rattle.votes.specs.Joining.{Joined}
use Rattle.std.specs.Prelude.{Ok}
use Rattle.model.specs.Ranges.{is_backup}
use Rattle.protocol.specs.declared.Identity.{Identity}
use Rattle.protocol.specs.declared.Controller.{Controller}
use Rattle.protocol.specs.Controllers.{runs, phase, has_ack, advance, keep_ack, keep_helped, freeze, await}
use Rattle.protocol.specs.Rules.{proposing, count_own, first_timeout, ack_join, help_votes, frozen, ready, calls_help, second_timeout}
use Rattle.protocol.specs.Calls.{valid_identity, timeout}
use Rattle.protocol.specs.NoContradiction.{acks_union}
use Rattle.protocol.proofs.view.RuleCases.{second_cases}
use Rattle.protocol.proofs.strays.Strayed.{small_of}
use Rattle.protocol.proofs.alone.Telling.{Tells, union-tells, told_or, all_tell, all_told}
use Rattle.protocol.proofs.alone.Sound.{Sound, Leaves, passed_leaves, put-sound, concluded-sound, kept-sound, joined-sound, counted_leaves, place_of}

-- the joins of what is held
module _ (n i : ℕ) (c : Controller) (o : Sound n i c) where
  pub acks-agreed : ack_join n c ≡ Ok (acks_union n c)
  unfolding ack_join
  acks-agreed = all_told o.word n c.acks.from c.acks.sets o.held.acks_tell

  acks-told : Tells o.word (acks_union n c)
  acks-told = all_tell o.word n c.acks.from c.acks.sets o.held.acks_tell

  pub help-agreed : help_votes n c ≡ union (acks_union n c) c.votes
  unfolding help_votes
  help-agreed = ap (λ (j : Joined). agreed_or c.votes (join_next j c.votes)) acks-agreed ∙ told_or o.word c.votes (acks_union n c) c.votes acks-told o.held.own-tells

  pub help-told : Tells o.word (help_votes n c)
  help-told = subst (Tells o.word) (sym help-agreed) (union-tells o.word (acks_union n c) c.votes acks-told o.held.own-tells)

module _ (n f i : ℕ) (small : n ≤ limit) (lo : 1 ≤ i) (hi : i ≤ n) (c : Controller) (o : Sound n i c) where
  -- to a later stage
  to-second : (c' : Controller) → Sound n i c' → phase c' ≤ 2 → Sound n i (advance c' 2)
  unfolding advance
  to-second c' s e = record {
    word = s.word;
    held = s.held;
    counted = s.counted;
    phased = record { no-answers = λ x. s.phased.no-answers e; no_join = λ x. s.phased.no_join e; idle = λ x. s.phased.idle e; unvoted = λ x. absurd (omega arith) };
  }

  to-third : Sound n i (frozen n c)
  unfolding frozen freeze advance
  to-third = record {
    word = o.word;
    held = o.held;
    counted = o.counted;
    phased = record { no-answers = λ x. absurd (omega arith); no_join = λ x. absurd (omega arith); idle = λ x. absurd (omega arith); unvoted = λ x. absurd (omega arith) };
  }

  -- what is kept as its own acknowledgement
  record Owned (c' : Controller) : Type 0 where
    sound : Sound n i c'
    stage : phase c' ≡ phase c

  own-kept : Owned (count_own f i c)
  unfolding count_own
  own-kept = by_cond Owned (is_backup f i && not (has_ack c i)) _ _
      (λ e. record { sound = kept-sound n i c small i c.votes lo hi o.word o.held o.held.own-tells o.counted o.phased (not-true _ (and_r (is_backup f i) _ e)); stage = unfold keep_ack in refl })
      (λ e. record { sound = o; stage = refl })

  first_leaves : phase c ≡ 1 → Leaves n i (first_timeout n f i c)
  unfolding first_timeout
  first_leaves e = record { sound = to-second (count_own f i c) own-kept.sound (let x : phase (count_own f i c) ≡ phase c = own-kept.stage in omega arith) }

  -- it waits, and counts its own help vote set as an answer
  waiting-sound : Sound n i (await (frozen n c))
  unfolding await frozen freeze advance
  waiting-sound = record {
    word = o.word;
    held = o.held;
    counted = o.counted;
    phased = record { no-answers = λ x. absurd (omega arith); no_join = λ x. absurd (omega arith); idle = λ x. absurd (omega arith); unvoted = λ x. absurd (omega arith) };
  }

  waits-sound : phase c ≡ 2 → Sound n i (keep_helped (await (frozen n c)) i (help_votes n c))
  unfolding await frozen freeze advance
  waits-sound e = joined-sound n i (await (frozen n c)) small i (help_votes n c) lo hi o.word o.held (help-told n i c o) o.counted waiting-sound.phased
      (ap (λ (m : ℕ). has m i) (o.phased.no-answers (omega arith)) ∙ has-none i) (omega arith)

  second_leaves : phase c ≡ 2 → Leaves n i (second_timeout n f i c)
  second_leaves e = second_cases (Leaves n i) n f i c
      (λ q. unfold ready in record { sound = concluded-sound n i (frozen n c) _ to-third })
      (λ q. unfold proposing ready in record { sound = put-sound n i (frozen n c) _ to-third })
      (λ q. counted_leaves n f i _ (unfold calls_help in record { sound = waits-sound e }))

pub timeout_leaves : (me : Identity) (c : Controller) → Sound me.n me.id c → Leaves me.n me.id (timeout me c)
unfolding timeout
timeout_leaves me c o = by_cond (Leaves me.n me.id) (valid_identity me && runs c && eqb (phase c) 1) _ _
    (λ e. let v : valid_identity me ≡ true = and_l (valid_identity me) _ (and_l (valid_identity me && runs c) _ e) in
    first_leaves me.n me.f me.id (small_of me v) (place_of me v).0 (place_of me v).1 c o (eqb-true _ _ (and_r (valid_identity me && runs c) _ e)))
    (λ e. by_cond (Leaves me.n me.id) (valid_identity me && runs c && eqb (phase c) 2) _ _
    (λ q. let v : valid_identity me ≡ true = and_l (valid_identity me) _ (and_l (valid_identity me && runs c) _ q) in
    second_leaves me.n me.f me.id (small_of me v) (place_of me v).0 (place_of me v).1 c o (eqb-true _ _ (and_r (valid_identity me && runs c) _ q)))
    (λ q. passed_leaves me.n me.id c o))
