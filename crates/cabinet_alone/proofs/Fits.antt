-- What the types of the code say of a controller (`InBytes`), of the definitions: each call on a controller keeps it. Nothing counts past a byte (`bump`), and
-- nobody changes how many acknowledgements there are.
use Prim.Native.Nat.{ℕ, zero, suc, ◌<◌, ◌≤◌}
use mathlib.Core.Path.{◌≡◌, refl, ◌∙◌}
use mathlib.Core.Bool.{Bool, not, ◌&&◌, ◌||◌}
use native.Mathlib.Omega.{arith}
use lib.Dec.{eqb, leb, ltb}
use lib.ListN.{length}
use borrow.Author.Tests.{ltb-true}
use Rattle.ground.specs.Limit.{limit}
use Rattle.ground.specs.Lists.{nth, length-put}
use Rattle.ground.specs.Mask.{has}
use Rattle.ground.specs.Tests.{by_cond}
use Rattle.votes.specs.VoteSets.{empty, single}
use Rattle.votes.specs.Joining.{contradicts}
use Rattle.votes.specs.declared.VoteSet.{VoteSet}
use Rattle.model.specs.Numbers.{word_of}
use Rattle.model.specs.Ranges.{is_backup}
use Rattle.model.specs.declared.Kind.{Kind}
use Rattle.model.specs.declared.Kind.TheVariants.{Vote, Ack, Help, Helped}
use Rattle.model.specs.declared.Outcome.{Outcome}
use Rattle.model.specs.declared.Message.{Message}
use Rattle.model.specs.declared.Checkpoint.{Checkpoint}
use Rattle.message_record.specs.Messages.{suits}
use Rattle.protocol.specs.declared.Identity.{Identity}
use Rattle.protocol.specs.declared.Acks.{Acks}
use Rattle.protocol.specs.declared.Answer.{Answer}
use Rattle.protocol.specs.declared.Condition.{Condition}
use Rattle.protocol.specs.declared.Condition.TheVariants.{Running, Stopped, Standby}
use Rattle.protocol.specs.declared.Controller.{Controller}
use Rattle.protocol.specs.Controllers.{is_stopped, runs, does_stand_by, phase, phase_in, has_ack, has_helped, has_called, bump, noting, cleared, advance, learn, aim, keep_ack, drop_if, drop_to, drop_contradicting, keep_helped, freeze, add_caller, await, propose, conclude}
use Rattle.protocol.specs.Rules.{is_taken, passing_over, contradicted, becomes, proposing, phase_after_vote, vote_rule, vote_arrives, count_own, first_timeout, decides, sufficient, propose_if_sufficient, help_votes, frozen, ready, calls_help, second_timeout, ack_arrives, helped_arrives, keeps_call, answers_call, help_arrives}
use Rattle.protocol.specs.Calls.{valid_identity, vote, addressed, arrives, contradicts_held, tested, receive, timeout, awaits_decision, decide, stop, restore, renew}

pub record Fits (c : Controller) : Type 0 where
  pub phase : phase_in c.condition < 256
  pub cnt : c.acks.cnt.0 < 256
  pub helped : c.helped.cnt_help.0 < 256
  pub sets : length c.acks.sets ≡ limit

abbrev AnswerFits : Answer → Type 0
AnswerFits a = Fits a.controller

bumped : (k : ℕ) → k < 256 → bump k < 256
bumped k h = by_cond (λ (x : ℕ). x < 256) (ltb k 255) (suc k) k (λ e. let q = ltb-true k 255 e in omega (arith, q)) (λ e. h)

after-vote : (f i : ℕ) → phase_after_vote f i < 256
after-vote f i = by_cond (λ (x : ℕ). x < 256) (leb i (suc f)) 1 2 (λ e. omega arith) (λ e. omega arith)

noted : (k : Condition) (o : Outcome) → phase_in (noting k o) ≡ phase_in k
noted (Running p) o = refl
noted Stopped o = refl
noted (Standby x) o = refl

-- acknowledgements that contradict the own vote are taken out
abbrev Fewer : Acks → Acks → Type 0
Fewer a b = (b.sets ≡ a.sets) × (b.cnt.0 ≤ a.cnt.0)

dropped-one : (s : VoteSet) (j : ℕ) (a : Acks) → Fewer a (drop_if s j a)
unfolding drop_if
dropped-one s j a = by_cond (Fewer a) (has a.from j && contradicts (nth empty a.sets j) s) _ a (λ e. (refl, omega arith)) (λ e. (refl, omega arith))

dropped : (m : ℕ) (s : VoteSet) (a : Acks) → Fewer a (drop_to m s a)
unfolding drop_to
dropped zero s a = (refl, omega arith)
dropped (suc m) s a =
    let x = dropped m s a in
    let y = dropped-one s (suc m) (drop_to m s a) in
    (y.0 ∙ x.0, (let p = x.1 in let q = y.1 in omega (arith, p, q)))

module _ (c : Controller) (x : Fits c) where
  fits-cleared : (k : Condition) → phase_in k < 256 → Fits (cleared k c)
  unfolding cleared
  fits-cleared k h = record { phase = h; cnt = omega arith; helped = omega arith; sets = x.sets }

  pub fits-renewed : Fits (renew c)
  unfolding renew
  fits-renewed = by_cond Fits (is_stopped c.condition) _ _ (λ e. fits-cleared Stopped (omega arith)) (λ e. fits-cleared _ (omega arith))

  pub fits-stopped : AnswerFits (stop c)
  unfolding stop becomes passing_over
  fits-stopped = by_cond AnswerFits (runs c || does_stand_by c) _ _ (λ e. fits-cleared Stopped (omega arith)) (λ e. x)

  pub fits-restored : (me : Identity) (p : Checkpoint) → AnswerFits (restore me p c)
  unfolding restore becomes passing_over
  fits-restored me p = by_cond AnswerFits (is_stopped c.condition) _ _ (λ e. fits-cleared _ (omega arith)) (λ e. x)

  fits_concluded : (o : Outcome) → Fits (conclude c o)
  unfolding conclude
  fits_concluded o = record { phase = rw (noted c.condition o) x.phase; cnt = x.cnt; helped = x.helped; sets = x.sets }

  pub fits-decided : (w : Bool) → AnswerFits (decide w c)
  unfolding decide becomes passing_over
  fits-decided w = by_cond AnswerFits (awaits_decision c) _ _ (λ e. fits_concluded (word_of w)) (λ e. x)

  pub fits-voted : (me : Identity) (w : Bool) (t : ℕ) → AnswerFits (vote me w t c)
  unfolding vote vote_rule drop_contradicting learn aim advance passing_over
  fits-voted me w t = by_cond AnswerFits (valid_identity me && runs c && eqb (phase c) 0) _ _
      (λ e. let d = dropped me.n (single me.id w) c.acks in record {
        phase = after-vote me.f me.id;
        cnt = (let p = d.1 in let q = x.cnt in omega (arith, p, q));
        helped = x.helped;
        sets = rw d.0 x.sets;
      })
      (λ e. x)

  fits_kept : (j : ℕ) (s : VoteSet) → Fits (keep_ack c j s)
  unfolding keep_ack
  fits_kept j s = record { phase = x.phase; cnt = bumped c.acks.cnt.0 x.cnt; helped = x.helped; sets = length-put c.acks.sets j s ∙ x.sets }

  fits-counted : (j : ℕ) (s : VoteSet) → Fits (keep_helped c j s)
  unfolding keep_helped
  fits-counted j s = record { phase = x.phase; cnt = x.cnt; helped = bumped c.helped.cnt_help.0 x.helped; sets = x.sets }

  fits-frozen : (n : ℕ) → Fits (frozen n c)
  unfolding frozen freeze advance
  fits-frozen n = record { phase = omega arith; cnt = x.cnt; helped = x.helped; sets = x.sets }

fits-proposed : (n f : ℕ) (a : Answer) → AnswerFits a → AnswerFits (propose_if_sufficient n f a)
unfolding propose_if_sufficient proposing propose
fits-proposed n f a x = by_cond AnswerFits (sufficient n f a.controller) _ a (λ e. record { phase = x.phase; cnt = x.cnt; helped = x.helped; sets = x.sets }) (λ e. x)

module _ (c : Controller) (x : Fits c) where
  same_but : (d : Controller) → d.condition ≡ c.condition → d.acks ≡ c.acks → d.helped ≡ c.helped → Fits d
  same_but d p q r = record { phase = rw p x.phase; cnt = rw q x.cnt; helped = rw r x.helped; sets = rw q x.sets }

  fits_arrived : (kind : Kind) (n f from : ℕ) (s : VoteSet) → AnswerFits (arrives kind n f from s c)
  unfolding arrives vote_arrives ack_arrives helped_arrives help_arrives keeps_call answers_call becomes passing_over learn add_caller
  fits_arrived Vote n f from s = by_cond AnswerFits (leb (phase c) 1) _ _ (λ e. same_but _ refl refl refl) (λ e. x)
  fits_arrived Ack n f from s = by_cond AnswerFits (not (has_ack c from) && (leb (phase c) 2 || c.help.waiting)) _ _ (λ e. fits-proposed n f _ (fits_kept c x from s)) (λ e. x)
  fits_arrived Help n f from s = by_cond AnswerFits (has_called c from) _ _ (λ e. x)
      (λ e. by_cond AnswerFits (leb (phase c) 2) _ _ (λ q. same_but _ refl refl refl) (λ q. same_but _ refl refl refl))
  fits_arrived Helped n f from s = by_cond AnswerFits (not (has_helped c from) && c.help.waiting) _ _ (λ e. fits-proposed n f _ (fits-counted c x from s)) (λ e. x)

  pub fits-received : (me : Identity) (m : Message) → AnswerFits (receive me m c)
  unfolding receive tested contradicted passing_over
  fits-received me m = by_cond AnswerFits (valid_identity me && runs c && addressed me m && suits m) _ _
      (λ e. by_cond AnswerFits (is_taken (arrives m.kind me.n me.f m.from m.votes c).reception && contradicts_held me.n c m.votes) _ _ (λ q. x) (λ q. fits_arrived m.kind me.n me.f m.from m.votes)) (λ e. x)

  fits-first : (n f i : ℕ) → AnswerFits (first_timeout n f i c)
  unfolding first_timeout count_own advance
  fits-first n f i =
      let y = by_cond Fits (is_backup f i && not (has_ack c i)) (keep_ack c i c.votes) c (λ e. fits_kept c x i c.votes) (λ e. x) in
      record { phase = omega arith; cnt = y.cnt; helped = y.helped; sets = y.sets }

  fits-second : (n f i : ℕ) → AnswerFits (second_timeout n f i c)
  unfolding second_timeout ready proposing propose calls_help await
  fits-second n f i =
      let y = fits-frozen c x n in
      by_cond AnswerFits (decides n f i c) _ _ (λ e. fits_concluded (frozen n c) y _)
      (λ e. by_cond AnswerFits (ltb 0 c.acks.cnt.0) _ _ (λ q. record { phase = y.phase; cnt = y.cnt; helped = y.helped; sets = y.sets })
      (λ q. fits-proposed n f _ (fits-counted (await (frozen n c)) (record { phase = y.phase; cnt = y.cnt; helped = y.helped; sets = y.sets }) i (help_votes n c))))

  pub fits_timed-out : (me : Identity) → AnswerFits (timeout me c)
  unfolding timeout passing_over
  fits_timed-out me = by_cond AnswerFits (valid_identity me && runs c && eqb (phase c) 1) _ _ (λ e. fits-first me.n me.f me.id)
      (λ e. by_cond AnswerFits (valid_identity me && runs c && eqb (phase c) 2) _ _ (λ q. fits-second me.n me.f me.id) (λ q. x))
