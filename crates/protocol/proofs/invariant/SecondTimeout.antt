-- The second timeout: its three ways out fit. Its help vote set is the union of what it holds, so it tells the votes as they were cast; a direct
-- decision has all backups' acknowledgements for its grounds; a word put and a wait go by Waiting and Keeping.
use Prim.Native.Nat.{ℕ, zero, suc, ◌≤◌, ◌<◌}
use mathlib.Core.Path.{◌≡◌, refl, sym, ◌∙◌, ap, subst}
use mathlib.Core.Bool.{Bool, true, false, not, ◌&&◌, ◌||◌, false≢true}
use native.Mathlib.Omega.{arith}
use native.Mathlib.Decide.{dec_le, ℕ_discrete}
use lib.Bits.{bit_or}
use lib.Dec.{leb, ltb}
use mathlib.Core.Logic.{inl, inr}
use borrow.Author.Tests.{leb-true, le-leb}
use Rattle.ground.specs.Tests.{no_both, refuted, and_l, and_r, or_r}
use Rattle.ground.specs.Quantify.{Found, all_to, all-at, count_to}
use Rattle.ground.specs.Mask.{has}
use Rattle.ground.proofs.MaskLaws.{has-none, has_or}
use Rattle.ground.specs.Update.{upd, upd_same}
use Rattle.votes.specs.VoteSets.{empty, knows, union, complete, unanimous}
use Rattle.votes.specs.Joining.{unanimous_in}
use Rattle.votes.proofs.VoteLaws.{union-knows, union-unanimous, knows_in-all, complete-knows}
use Rattle.votes.specs.declared.VoteSet.{VoteSet}
use Rattle.ground.specs.Limit.{limit}
use Rattle.model.specs.Routes.{recipients}
use Rattle.model.specs.Numbers.{word_of}
use Rattle.model.specs.declared.Kind.TheVariants.{Help}
use Rattle.model.specs.declared.Outcome.{Outcome}
use Rattle.protocol.specs.declared.Outgoing.{Outgoing}
use Rattle.protocol.specs.declared.Controller.{Controller}
use Rattle.protocol.specs.declared.Sent.{Sent}
use Rattle.protocol.specs.Controllers.{runs, phase, outcome, has_ack, ack_of, has_helped, has_called, advance, freeze, await, keep_helped, conclude}
use Rattle.protocol.specs.Rules.{verdict, ack_join, backups_complete, second_knows, decides, help_votes, frozen, ready, proposing, calls_help, second_timeout}
use Rattle.protocol.specs.Benches.{sent_after}
use Rattle.protocol.specs.NoContradiction.{acks_union}
use Rattle.protocol.proofs.view.RuleCases.{second_cases}
use Rattle.protocol.proofs.view.View.{View}
use Rattle.protocol.proofs.invariant.Words.{or_else-is}
use Rattle.protocol.proofs.invariant.Invariant.{help_on, frozen_by, Truthful, SentSound, Grown, Grows, SecondAck, DirectMove, StayGrounds, OutcomeGrounds, Own, HeldAck, HeldSound, Inv}
use Rattle.protocol.proofs.invariant.Growth.{truthful_mono, sent_mono, all_mono, stay_mono, out_mono, ctl_mono}
use Rattle.protocol.proofs.invariant.TrueVotes.{union_ok, move_all, all-move, stay-unwilling}
use Rattle.protocol.proofs.invariant.Commit.{Fits, grows-upd}
use Rattle.protocol.proofs.invariant.Waiting.{acks-true, acks-word, help-is, ack-stay, move-put, stay-put, own_put, ctl-put, settle_fits, count-some, not-above}
use Rattle.protocol.proofs.invariant.Keeping.{own-help-kept, ctl-help-kept}

module _ (n f : ℕ) where
  own-waiting : (i : ℕ) (c : Controller) (l : Sent) → f < i → 3 ≤ phase c → Own n f i c l → Own n f i (await c) l
  unfolding await
  own-waiting i c l h p o = record {
    phased = o.phased;
    helping = record {
      help-copy = o.helping.help-copy;
      answered = o.helping.answered;
      waiter = λ e. h;
      idle = λ e. absurd (omega arith);
      early = o.helping.early;
    };
    counted = o.counted;
  }

  ctl-waiting : (L : ℕ → Sent) (ch : Outcome) (i : ℕ) (c : Controller) → HeldSound n f L ch i c → HeldSound n f L ch i (await c)
  unfolding await
  ctl-waiting L ch i c o = record { votes_ok = o.votes_ok; acks_ok = o.acks_ok; helps_ok = o.helps_ok; helped_ok = o.helped_ok; calls_ok = o.calls_ok; outcome_ok = o.outcome_ok }

count-one : (m : ℕ) (p : ℕ → Bool) (j : ℕ) → 1 ≤ j → j ≤ m → p j ≡ true → 1 ≤ count_to m p
unfolding count_to
count-one zero p j a b e = absurd (omega arith)
count-one (suc m) p j a b e = elim (ℕ_discrete j (suc m)) [
  | yes q ↦ let e' : p (suc m) ≡ true = (rw q at e) in rw e' (omega arith)
  | no q ↦ omega (arith, count-one m p j a (omega arith) e)
]

module _ (n f : ℕ) (f<n : f < n) (1≤f : 1 ≤ f) (small : n ≤ limit) (b : View) (inv : Inv n f b) (i : ℕ) (low : 1 ≤ i) (high : i ≤ n) (runs' : runs (b.ctl i) ≡ true) (st : phase (b.ctl i) ≡ 2) where
  abbrev c : Controller
  c = b.ctl i

  abbrev L : ℕ → Sent
  L = b.state.sent

  abbrev s : VoteSet
  s = help_votes n c

  -- what it has sent afterwards: its help vote set is laid down, and help calls h are out or not
  abbrev l' : Outgoing → Sent
  l' h = record { vote = (L i).vote; ack = (L i).ack; help = h; helped = record { to = bit_or (L i).helped.to c.help.callers; votes = s } }

  abbrev L' : Outgoing → ℕ → Sent
  L' h = upd L i (l' h)

  -- own vote set and acknowledgements agree: the help vote set is their union
  s-is : s ≡ union (acks_union n c) c.votes
  s-is = help-is n f L inv.lines i c (inv.ctls i).votes_ok (inv.ctls i).acks_ok

  s_ok : Truthful L s
  s_ok = subst (Truthful L) (sym s-is) (union_ok L (acks_union n c) c.votes (acks-true n f L inv.lines i c (inv.ctls i).acks_ok) (inv.ctls i).votes_ok)

  s-knows : (k : ℕ) → knows c.votes k ≡ true → knows s k ≡ true
  s-knows k e = ap (λ (x : VoteSet). knows x k) s-is ∙ union-knows (acks_union n c) c.votes k ∙ or_r (knows (acks_union n c) k) (knows c.votes k) e

  s-own : knows s i ≡ true
  s-own = s-knows i ((inv.owns i).phased.own (omega arith))

  unfrozen : frozen_by i (L i) ≡ false
  unfrozen = (inv.owns i).phased.fresh2 runs' (omega arith)

  grown : (h : Outgoing) → Grown i (L i) (l' h)
  grown h = record {
    voted = λ e. e;
    will = λ e. refl;
    acked = λ e. e;
    ack = λ e. refl;
    helped = λ e. s-own;
    help = λ e. absurd (no_both (frozen_by i (L i)) e unfrozen);
    calls = λ j e. absurd (no_both (frozen_by i (L i)) ((inv.lines i).help-to j e) unfrozen);
  }

  grows : (h : Outgoing) → Grows L (L' h)
  grows h = grows-upd L i (l' h) (grown h)

  sent_ok : (h : Outgoing) → SentSound f (L' h) i (l' h)
  sent_ok h = let o : SentSound f (L' h) i (L i) = sent_mono L (L' h) (grows h) f i (L i) (inv.lines i) in record {
    ack_ok = o.ack_ok;
    help_ok = λ e. truthful_mono L (L' h) (grows h) s s_ok;
    ack_in-help = λ e e' k q. s-knows k ((inv.owns i).phased.same (omega arith) e k q);
    vote-to = o.vote-to;
    ack-to = o.ack-to;
    help-to = λ j e. s-own;
    helped-to = λ j e. s-own;
    vote-within = o.vote-within;
    vote_only = o.vote_only;
  }

  -- nobody was answered before, so those answered are those whose calls were kept
  kept-answered : (j : ℕ) → has (bit_or (L i).helped.to c.help.callers) j ≡ has_called c j
  kept-answered j = has_or (L i).helped.to c.help.callers j ∙ rw (refuted (has (L i).helped.to j) (λ e. no_both (frozen_by i (L i)) ((inv.lines i).helped-to j e) unfrozen))

  -- the controller at stage 3 with its help vote set frozen
  own-frozen : (h : Outgoing) → Own n f i (frozen n c) (l' h)
  unfolding frozen freeze advance
  own-frozen h = let o : Own n f i c (L i) = inv.owns i in record {
    phased = record {
      fresh0 = λ r e. absurd (omega arith);
      fresh1 = λ r e. absurd (omega arith);
      fresh2 = λ r e. absurd (omega arith);
      undecided = λ r e. absurd (omega arith);
      own = λ e. o.phased.own (omega arith);
      same = λ e. o.phased.same (omega arith);
      late = λ e. s-own;
    };
    helping = record {
      help-copy = λ e. refl;
      answered = λ e. kept-answered;
      waiter = o.helping.waiter;
      idle = λ e. absurd (omega arith);
      early = λ e. absurd (omega arith);
    };
    counted = record {
      own-ack = λ e. o.counted.own-ack (omega arith);
      ack-count = o.counted.ack-count;
      help-count = o.counted.help-count;
      room = o.counted.room;
    };
  }

  old_ok : (h : Outgoing) → HeldSound n f (L' h) b.state.consensus.decision i c
  old_ok h = ctl_mono L (L' h) (grows h) b.state.consensus.decision b.state.consensus.decision (λ v e. e) n f i c (inv.ctls i)

  ctl-frozen : (h : Outgoing) → HeldSound n f (L' h) b.state.consensus.decision i (frozen n c)
  unfolding frozen freeze advance
  ctl-frozen h = let o : HeldSound n f (L' h) b.state.consensus.decision i c = old_ok h in record { votes_ok = o.votes_ok; acks_ok = o.acks_ok; helps_ok = o.helps_ok; helped_ok = o.helped_ok; calls_ok = o.calls_ok; outcome_ok = o.outcome_ok }

  acks_ok : Truthful L (acks_union n c)
  acks_ok = acks-true n f L inv.lines i c (inv.ctls i).acks_ok

  word : unanimous_in n (ack_join n c) ≡ unanimous n (acks_union n c)
  word = acks-word n f L inv.lines i c (inv.ctls i).acks_ok

  abbrev h₀ : Outgoing
  h₀ = (L i).help

  -- the direct decision
  module _ (d : decides n f i c ≡ true) where
    got-ack : (j : ℕ) → 1 ≤ j → j ≤ f → (has_ack c j ≡ true) × (complete n (ack_of c j) ≡ true)
    unfolding decides backups_complete
    got-ack j a h =
        let all : all_to f (λ j. has_ack c j && complete n (ack_of c j)) ≡ true = search (and_l) in
        let e : has_ack c j && complete n (ack_of c j) ≡ true = all-at f (λ j. has_ack c j && complete n (ack_of c j)) all j a h in
        (and_l (has_ack c j) (complete n (ack_of c j)) e, and_r (has_ack c j) (complete n (ack_of c j)) e)

    ack_fact : (j : ℕ) → 1 ≤ j → j ≤ f → HeldAck n f L i (ack_of c j) j
    ack_fact j a h = (inv.ctls i).acks_ok j (got-ack j a h).0

    all_known : (k : ℕ) → 1 ≤ k → k ≤ n → knows (acks_union n c) k ≡ true
    all_known k x y = knows_in-all n c.acks.from c.acks.sets 1 (omega arith) (omega arith) (got-ack 1 (omega arith) 1≤f).0 k (complete-knows n (ack_of c 1) (got-ack 1 (omega arith) 1≤f).1 k x y)

    second : i ≤ f → SecondAck n f L
    unfolding decides second_knows
    second h =
        let e : not (leb i f) || (has_ack c (suc f) && complete f (ack_of c (suc f))) ≡ true = search (and_l, and_r) in
        let e' : has_ack c (suc f) && complete f (ack_of c (suc f)) ≡ true = (rw (le-leb i f h) at e) in
        let t : HeldAck n f L i (ack_of c (suc f)) (suc f) = (inv.ctls i).acks_ok (suc f) (and_l (has_ack c (suc f)) _ e') in
        record { acked = t.acked; knows = λ k x y. rw (← t.copy) (complete-knows f (ack_of c (suc f)) (and_r (has_ack c (suc f)) _ e') k x y) }

    moves : unanimous n (acks_union n c) ≡ true → DirectMove n f (L' h₀)
    moves e = record {
      acks = λ j a h. let t : HeldAck n f L i (ack_of c j) j = ack_fact j a h in (
        (grows h₀ j).acked t.acked,
        rw ((grows h₀ j).ack t.acked, ← t.copy) (all-move L n f (ack_of c j) (rw t.copy ((inv.lines j).ack_ok t.acked)) (move_all L n f (acks_union n c) acks_ok e) (got-ack j a h).1),
      );
      more = elim (dec_le i f) [
        | yes h ↦ let t : SecondAck n f L = second h in inr (record { acked = (grows h₀ (suc f)).acked t.acked; knows = λ k x y. rw ((grows h₀ (suc f)).ack t.acked) (t.knows k x y) })
        | no h ↦ inl (record { at = i; low = omega arith; high = high; helped = rw (upd_same L i (l' h₀)) s-own; moves = rw (upd_same L i (l' h₀)) (help-moves e) })
      ];
    }
      where
        help-moves : unanimous n (acks_union n c) ≡ true → unanimous n s ≡ true
        help-moves e = ap (unanimous n) s-is ∙ union-unanimous n (acks_union n c) c.votes e

    grounds : (v : Bool) → unanimous_in n (ack_join n c) ≡ v → OutcomeGrounds n f (L' h₀) b.state.consensus.decision v
    grounds true e = let u : unanimous n (acks_union n c) ≡ true = sym word ∙ e in (all_mono L (L' h₀) (grows h₀) n f (move_all L n f (acks_union n c) acks_ok u), inl (moves u))
    grounds false e = let u : unanimous n (acks_union n c) ≡ false = sym word ∙ e in out_mono L (L' h₀) (grows h₀) b.state.consensus.decision b.state.consensus.decision (λ v e. e) n f false (inl (stay-unwilling L n f (acks_union n c) acks_ok all_known u))

    direct_fits : Fits n f b i (ready (help_votes n c) (conclude (frozen n c) (verdict n (ack_join n c))))
    unfolding ready sent_after conclude frozen freeze advance verdict
    direct_fits =
        let o : Own n f i (frozen n c) (l' h₀) = own-frozen h₀ in
        let k : HeldSound n f (L' h₀) b.state.consensus.decision i (frozen n c) = ctl-frozen h₀ in
        record {
          grown = grown h₀;
          sent_ok = sent_ok h₀;
          own_ok = record {
            phased = record {
              fresh0 = o.phased.fresh0;
              fresh1 = o.phased.fresh1;
              fresh2 = o.phased.fresh2;
              undecided = λ r e. absurd (omega arith);
              own = o.phased.own;
              same = o.phased.same;
              late = o.phased.late;
            };
            helping = record {
              help-copy = o.helping.help-copy;
              answered = o.helping.answered;
              waiter = λ e. absurd (false≢true e);
              idle = λ e. refl;
              early = o.helping.early;
            };
            counted = record { own-ack = o.counted.own-ack; ack-count = o.counted.ack-count; help-count = o.counted.help-count; room = o.counted.room };
          };
          ctl_ok = record {
            votes_ok = k.votes_ok;
            acks_ok = k.acks_ok;
            helps_ok = k.helps_ok;
            helped_ok = k.helped_ok;
            calls_ok = k.calls_ok;
            outcome_ok = λ v e. or_else-is (outcome c) (unanimous_in n (ack_join n c)) v (k.outcome_ok v) (grounds v) e;
          };
          move_ok = λ e. absurd (false≢true e);
          stay_ok = λ e. absurd (false≢true e);
        }

  -- a word put at the timeout
  put_fits : ltb 0 c.acks.cnt.0 ≡ true → Fits n f b i (proposing (ready (help_votes n c) (frozen n c)) (verdict n (ack_join n c)))
  unfolding ready proposing sent_after verdict frozen freeze advance
  put_fits e = record {
    grown = grown h₀;
    sent_ok = sent_ok h₀;
    own_ok = own_put n f i (frozen n c) (l' h₀) (word_of (unanimous_in n (ack_join n c))) (own-frozen h₀);
    ctl_ok = ctl-put n f (L' h₀) b.state.consensus.decision i (frozen n c) (word_of (unanimous_in n (ack_join n c))) (ctl-frozen h₀);
    move_ok = λ p. all_mono L (L' h₀) (grows h₀) n f (move_all L n f (acks_union n c) acks_ok (sym word ∙ move-put n (unanimous_in n (ack_join n c)) p));
    stay_ok = λ p. stay_mono L (L' h₀) (grows h₀) n f (stays (sym word ∙ stay-put n (unanimous_in n (ack_join n c)) p));
  }
    where
      stays : unanimous n (acks_union n c) ≡ false → StayGrounds n f L
      stays q = elim (dec_le i f) [
        | yes h ↦ let o : has_ack c i ≡ true = (inv.owns i).counted.own-ack (omega arith) h in
            ack-stay n f L inv.lines i c i low h high o ((inv.ctls i).acks_ok i o) q
        | no h ↦ let x : 1 ≤ c.acks.cnt.0 = leb-true 1 c.acks.cnt.0 e in
            let y : c.acks.cnt.0 ≡ count_to n (has c.acks.from) = (inv.owns i).counted.ack-count in
            let r : Found n (has c.acks.from) = count-some n (has c.acks.from) (omega arith) in
            let t : HeldAck n f L i (ack_of c r.at) r.at = (inv.ctls i).acks_ok r.at r.holds in
            ack-stay n f L inv.lines i c r.at r.low (t.backup (omega arith)) r.high r.holds t q
      ]

  -- it waits
  abbrev h₁ : Outgoing
  h₁ = record { to = bit_or (L i).help.to (recipients n f Help i); votes = empty }

  pub beyond : ltb 0 c.acks.cnt.0 ≡ false → f < i
  beyond e = elim (dec_le i f) [
    | yes h ↦ let z : c.acks.cnt.0 ≡ 0 = not-above c.acks.cnt.0 e in
        let y : c.acks.cnt.0 ≡ count_to n (has c.acks.from) = (inv.owns i).counted.ack-count in
        absurd (omega (arith, count-one n (has c.acks.from) i low high ((inv.owns i).counted.own-ack (omega arith) h)))
    | no h ↦ omega arith
  ]

  unheard : has_helped (await (frozen n c)) i ≡ false
  unfolding await frozen freeze advance
  unheard = rw ((inv.owns i).helping.early (omega arith)) (has-none i)

  at3 : 3 ≤ phase (await (frozen n c))
  unfolding await frozen freeze advance
  at3 = omega arith

  at3' : 3 ≤ phase (frozen n c)
  unfolding frozen freeze advance
  at3' = omega arith

  wait_fits : ltb 0 c.acks.cnt.0 ≡ false → Fits n f b i (calls_help n f i (help_votes n c) (frozen n c))
  unfolding calls_help sent_after frozen freeze advance
  wait_fits e = record {
    grown = grown h₁;
    sent_ok = sent_ok h₁;
    own_ok = own-help-kept n f small i (await (frozen n c)) (l' h₁) i s low high at3 unheard (own-waiting n f i (frozen n c) (l' h₁) (beyond e) at3' (own-frozen h₁));
    ctl_ok = subst (λ (x : VoteSet). HeldSound n f (L' h₁) b.state.consensus.decision i (keep_helped (await (frozen n c)) i x)) (sym same)
        (ctl-help-kept n f small (L' h₁) b.state.consensus.decision i (await (frozen n c)) i low high (rw (upd_same L i (l' h₁)) s-own) (beyond e) (rw (upd_same L i (l' h₁)) (truthful_mono L (L' h₁) (grows h₁) s s_ok)) (ctl-waiting n f (L' h₁) b.state.consensus.decision i (frozen n c) (ctl-frozen h₁)));
    move_ok = λ p. absurd (false≢true p);
    stay_ok = λ p. absurd (false≢true p);
  }
    where
      same : s ≡ help_on (L' h₁ i)
      same = sym (ap (λ (x : Sent). help_on x) (upd_same L i (l' h₁)))

  pub second_fits : Fits n f b i (second_timeout n f i c)
  second_fits = second_cases (Fits n f b i) n f i c direct_fits put_fits (λ e. settle_fits n f f<n b inv i _ (wait_fits e))
