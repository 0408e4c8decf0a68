-- From every moment of an open order the premises can be met: each running controller is brought to stage 3, each kind of message is delivered in
-- turn, answers last, and the arbiter answers each that put a word.
use Prim.Native.Nat.{ℕ, zero, suc, ◌≤◌, ◌<◌}
use mathlib.Core.Path.{◌≡◌, refl, sym, ◌∙◌, ap, subst}
use mathlib.Core.Bool.{Bool, true, false, not, ◌&&◌, ◌||◌, false≢true}
use mathlib.Core.List.{List, [], ◌∷◌, ◌++◌}
use native.Mathlib.Omega.{arith}
use native.Mathlib.Decide.{dec_le, ℕ_discrete}
use lib.Dec.{eqb, leb}
use mathlib.Core.Logic.{inl, inr}
use borrow.Author.Tests.{le-leb}
use Rattle.ground.specs.Limit.{limit}
use Rattle.ground.specs.Tests.{no_both, split, and_i, and_l, and_r}
use Rattle.ground.specs.Mask.{has}
use Rattle.ground.proofs.MaskLaws.{has-none}
use Rattle.ground.specs.Quantify.{count_to}
use Rattle.ground.specs.Update.{upd-all, fun_ext}
use Rattle.votes.specs.declared.VoteSet.{VoteSet}
use Rattle.model.specs.Ranges.{is_controller, position_in_range}
use Rattle.model.specs.RangeLaws.{Ranges, ranges, member, Member}
use Rattle.model.specs.Routes.{route}
use Rattle.model.specs.Numbers.{word_of, is_none}
use Rattle.model.specs.QuestionLaws.{AllYes, all_yes}
use Rattle.model.specs.declared.Kind.{Kind}
use Rattle.model.specs.declared.Kind.TheVariants.{Vote, Ack, Help, Helped}
use Rattle.model.specs.declared.Outcome.{Outcome}
use Rattle.model.specs.declared.Outcome.TheVariants.{None, Stay, Move}
use Rattle.model.specs.declared.Event.{Event}
use Rattle.model.specs.declared.Event.TheVariants.{Cast, Deliver, Timeout, Decide}
use Rattle.message_record.specs.Messages.{about_message}
use Rattle.protocol.specs.declared.Controller.{Controller}
use Rattle.protocol.specs.declared.Answer.{Answer}
use Rattle.protocol.specs.declared.Consensus.{Consensus}
use Rattle.protocol.specs.declared.Bench.{Bench}
use Rattle.protocol.specs.Controllers.{is_stopped, runs, phase, conclude}
use Rattle.protocol.specs.Rules.{passing_over, becomes, proposing, propose_if_sufficient, answers_call, second_timeout}
use Rattle.protocol.specs.Calls.{arrives}
use Rattle.protocol.specs.Benches.{new_bench, bench_of, controller, of_kind}
use Rattle.protocol.specs.Events.{subject, concerns_one}
use Rattle.protocol.specs.Questions.{unless, first_no, was_proposed, no_other_word}
use Rattle.protocol.specs.SentOnce.{receivers_of, send_of}
use Rattle.protocol.specs.Steps.{run}
use Rattle.protocol.specs.Display.{shown_stage}
use Rattle.protocol.specs.Claim.{after}
use Rattle.protocol.specs.Reach.{message_at}
use Rattle.protocol.specs.Termination.{RunsAt, HasPut, WasGiven, Premise, few-down, at-stage_3, delivered, answered, Meets, Onward}
use Rattle.protocol.proofs.view.View.{accepts}
use Rattle.protocol.proofs.view.Performed.{commit_v, chosen, timeout_rule, perform_v}
use Rattle.protocol.proofs.view.RuleCases.{sufficient_cases, arrives_cases}
use Rattle.protocol.proofs.view.Simulation.{view}
use Rattle.protocol.proofs.invariant.Orders.{not_both}
use Rattle.protocol.proofs.clean.Log.{In}
use Rattle.protocol.proofs.clean.Added.{NewVote, NewTimeout, perform-new, second_reaches, reached-after}
use Rattle.protocol.proofs.lists.Moments.{log_at, run-append, in_order}
use Rattle.protocol.proofs.lists.OrderNumbers.{number_same}
use Rattle.protocol.proofs.lists.Start.{start}
use Rattle.protocol.proofs.ranges.Reached.{reach}
use Rattle.protocol.proofs.hearing.Moments.{HeardAt, heard-at}
use Rattle.protocol.proofs.hearing.Hears.{stage_is}
use Rattle.protocol.proofs.hearing.Later.{view_at, Moment, performs, logs, Later, later_refl, later_trans, other, later-one, commit-calm}

-- a delivery of the first kind sends nothing of the second: only a help call sends, and answers alone
abbrev still : Kind → Kind → Bool
still Vote k = true
still Ack k = true
still Help Vote = true
still Help Ack = true
still Help Help = true
still Help Helped = false
still Helped k = true

record Silent (kind : Kind) (a : Answer) : Type 0 where
  none : (x : ℕ) → has (receivers_of (send_of kind a.sends)) x ≡ false

becomes-silent : (kind : Kind) (c : Controller) → Silent kind (becomes c)
unfolding becomes
becomes-silent Vote c = record { none = λ x. has-none x }
becomes-silent Ack c = record { none = λ x. has-none x }
becomes-silent Help c = record { none = λ x. has-none x }
becomes-silent Helped c = record { none = λ x. has-none x }

passed-silent : (kind : Kind) (c : Controller) → Silent kind (passing_over c)
unfolding passing_over becomes
passed-silent kind c = record { none = (becomes-silent kind c).none }

settle-silent : (n f : ℕ) (kind : Kind) (a : Answer) → Silent kind a → Silent kind (propose_if_sufficient n f a)
unfolding proposing
settle-silent n f kind a h = sufficient_cases (Silent kind) n f a (λ q. record { none = h.none }) (λ q. h)

answers-silent : (kind : Kind) → still Help kind ≡ true → (j : ℕ) (c : Controller) → Silent kind (answers_call j c)
unfolding answers_call
answers-silent Vote h j c = record { none = λ x. has-none x }
answers-silent Ack h j c = record { none = λ x. has-none x }
answers-silent Help h j c = record { none = λ x. has-none x }
answers-silent Helped h j c = absurd (false≢true h)

arrives-silent : (n f : ℕ) (kind k : Kind) → still kind k ≡ true → (i : ℕ) (s : VoteSet) (c : Controller) → Silent k (arrives kind n f i s c)
arrives-silent n f kind k h i s c = arrives_cases (Silent k) n f kind i s c (λ c' q. becomes-silent k c') (settle-silent n f k) (λ z p q. answers-silent k (ap (λ (x : Kind). still x k) (sym z) ∙ h) i c) (passed-silent k c)

-- a word that the arbiter may give
record Choice (k : Consensus) : Type 0 where
  move : Bool
  may : (was_proposed k move && no_other_word k.decision move) ≡ true

module _ (n f o : ℕ) (f<n : f < n) (1≤f : 1 ≤ f) (small : n ≤ limit) (opened : 1 ≤ o) where
  abbrev At : List Event → Type 0
  At es = Moment n f o f<n 1≤f small es

  abbrev To : List Event → List Event → Type 0
  To es es' = Later n f o f<n 1≤f small es es'

  pub open_at : (es : List Event) → At es → leb 1 (view_at es).order ≡ true
  unfolding view
  open_at es m = le-leb 1 (after es).shared.order (let q : (after es).shared.order ≡ o = m.is-order in omega arith)

  -- stage 3 ---------------------------------------------------------------------------
  pub record Brought (es : List Event) (P : List Event → Type 0) : Type 0 where
    pub to : List Event
    pub later : To es to
    pub holds : P to

  -- k is at stage s or past it; nobody else has changed, nor has any ballot
  pub record Raised (k s : ℕ) (es x : List Event) : Type 0 where
    pub stage : s ≤ phase ((view_at x).ctl k)
    pub others : (j : ℕ) → eqb j k ≡ false → (view_at x).ctl j ≡ (view_at es).ctl j
    pub ballots : (view_at x).ballots ≡ (view_at es).ballots

  -- whom an event does not concern, it does not change
  pub unmoved : (es : List Event) (m : At es) (e : Event) → concerns_one e ≡ true → accepts n f (view_at es) e ≡ true → (j : ℕ) → eqb j (subject e) ≡ false → (view_at (es ++ (e ∷ []))).ctl j ≡ (view_at es).ctl j
  unmoved es m e u q j d = rw (performs n f o f<n 1≤f small es m e q) (other n f o f<n 1≤f small (view_at es) e u j d)

  module _ (k : ℕ) (lo : 1 ≤ k) (hi : k ≤ n) where
    pub timeout-taken : (es : List Event) → At es → runs ((view_at es).ctl k) ≡ true → (eqb (phase ((view_at es).ctl k)) 1 || eqb (phase ((view_at es).ctl k)) 2) ≡ true → accepts n f (view_at es) (Timeout k) ≡ true
    unfolding accepts first_no unless is_controller
    timeout-taken es m r p = rw (le-leb 1 k lo, le-leb k n hi, open_at es m, r, p)

    pub cast-accepted : (es : List Event) → At es → runs ((view_at es).ctl k) ≡ true → phase ((view_at es).ctl k) ≡ 0 → accepts n f (view_at es) (Cast k true 0) ≡ true
    unfolding accepts first_no unless is_controller position_in_range
    cast-accepted es m r p = rw (le-leb 1 k lo, le-leb k n hi, open_at es m, r, p)

    raised : (es : List Event) → At es → runs ((view_at es).ctl k) ≡ true → (s : ℕ) → suc s ≤ 3 → phase ((view_at es).ctl k) ≡ s → Brought es (Raised k (suc s) es)
    raised es m r zero h p =
        let q : accepts n f (view_at es) (Cast k true 0) ≡ true = cast-accepted es m r p in
        let w : NewVote n f (view_at es) (perform_v n f (view_at es) (Cast k true 0)) k true = (perform-new n f small (view_at es) (Cast k true 0) m.inv q).vote k true 0 refl in
        record { to = es ++ (Cast k true 0 ∷ []); later = later-one n f o f<n 1≤f small es m (Cast k true 0) refl q r; holds = record { stage = rw (performs n f o f<n 1≤f small es m (Cast k true 0) q) w.begun; others = unmoved es m (Cast k true 0) refl q; ballots = rw (performs n f o f<n 1≤f small es m (Cast k true 0) q) (unfold perform_v commit_v in refl) } }
    raised es m r (suc zero) h p =
        let q : accepts n f (view_at es) (Timeout k) ≡ true = timeout-taken es m r (rw p) in
        let w : NewTimeout n f (view_at es) (perform_v n f (view_at es) (Timeout k)) k = (perform-new n f small (view_at es) (Timeout k) m.inv q).timeout k refl in
        record { to = es ++ (Timeout k ∷ []); later = later-one n f o f<n 1≤f small es m (Timeout k) refl q r; holds = record { stage = rw (performs n f o f<n 1≤f small es m (Timeout k) q) w.after; others = unmoved es m (Timeout k) refl q; ballots = rw (performs n f o f<n 1≤f small es m (Timeout k) q) (unfold perform_v commit_v in refl) } }
    raised es m r (suc (suc zero)) h p =
        let q : accepts n f (view_at es) (Timeout k) ≡ true = timeout-taken es m r (rw p) in
        record { to = es ++ (Timeout k ∷ []); later = later-one n f o f<n 1≤f small es m (Timeout k) refl q r; holds = record { stage = rw (performs n f o f<n 1≤f small es m (Timeout k) q) times-out; others = unmoved es m (Timeout k) refl q; ballots = rw (performs n f o f<n 1≤f small es m (Timeout k) q) (unfold perform_v commit_v in refl) } }
      where
        times-out : 3 ≤ phase ((perform_v n f (view_at es) (Timeout k)).ctl k)
        times-out = unfold perform_v timeout_rule in rw p (omega (arith, reached-after n f (view_at es) k (second_timeout n f k ((view_at es).ctl k)) 3 (second_reaches n f k ((view_at es).ctl k))))
    raised es m r (suc (suc (suc s))) h p = absurd (omega arith)

    pub to-stage : (s : ℕ) → s ≤ 3 → (es : List Event) → At es → runs ((view_at es).ctl k) ≡ true → Brought es (Raised k s es)
    to-stage zero h es m r = record { to = es; later = later_refl n f o f<n 1≤f small es m; holds = record { stage = omega arith; others = λ j d. refl; ballots = refl } }
    to-stage (suc s) h es m r =
        let b : Brought es (Raised k s es) = to-stage s (omega arith) es m r in
        let low : s ≤ phase ((view_at b.to).ctl k) = b.holds.stage in
        elim (dec_le (suc s) (phase ((view_at b.to).ctl k))) [
          | yes y ↦ record { to = b.to; later = b.later; holds = record { stage = y; others = b.holds.others; ballots = b.holds.ballots } }
          | no y ↦ let a : Brought b.to (Raised k (suc s) b.to) = raised b.to b.later.moment (b.later.running k ∙ r) s h (omega arith) in
              record {
                to = a.to;
                later = later_trans n f o f<n 1≤f small es b.to a.to b.later a.later;
                holds = record { stage = a.holds.stage; others = λ j d. a.holds.others j d ∙ b.holds.others j d; ballots = a.holds.ballots ∙ b.holds.ballots };
              }
        ]

  abbrev Staged : ℕ → List Event → Type 0
  Staged m es = (k : ℕ) → 1 ≤ k → k ≤ m → runs ((view_at es).ctl k) ≡ true → 3 ≤ phase ((view_at es).ctl k)

  all-staged : (m : ℕ) → m ≤ n → (es : List Event) → At es → Brought es (Staged m)
  all-staged zero h es w = record { to = es; later = later_refl n f o f<n 1≤f small es w; holds = λ k a b. absurd (omega arith) }
  all-staged (suc m) h es w =
      let b : Brought es (Staged m) = all-staged m (omega arith) es w in
      elim (split (runs ((view_at b.to).ctl (suc m)))) [
        | inr e ↦ record {
          to = b.to;
          later = b.later;
          holds = λ k lo hi r. elim (ℕ_discrete k (suc m)) [
            | yes q ↦ absurd (no_both _ r (subst (λ (x : ℕ). runs ((view_at b.to).ctl x) ≡ false) (sym q) e))
            | no q ↦ b.holds k lo (omega arith) r
          ];
        }
        | inl e ↦ let a : Brought b.to (Raised (suc m) 3 b.to) = to-stage (suc m) (omega arith) h 3 (omega arith) b.to b.later.moment e in
            record {
              to = a.to;
              later = later_trans n f o f<n 1≤f small es b.to a.to b.later a.later;
              holds = λ k lo hi r. elim (ℕ_discrete k (suc m)) [
                | yes q ↦ subst (λ (x : ℕ). 3 ≤ phase ((view_at a.to).ctl x)) (sym q) a.holds.stage
                | no q ↦ let r' : runs ((view_at b.to).ctl k) ≡ true = sym (a.later.running k) ∙ r in
                    let x : 3 ≤ phase ((view_at b.to).ctl k) = b.holds k lo (omega arith) r' in let y : phase ((view_at b.to).ctl k) ≤ phase ((view_at a.to).ctl k) = a.later.phases k r' in omega arith
              ];
            }
      ]

  -- deliveries ------------------------------------------------------------------------
  abbrev sent_to : Kind → ℕ → ℕ → List Event → Bool
  sent_to kind i j es = has (of_kind kind ((view_at es).state.sent i)).to j

  abbrev Delivered : Kind → ℕ → ℕ → List Event → Type 0
  Delivered kind i j es = sent_to kind i j es ≡ true → runs ((view_at es).ctl j) ≡ true → In (Deliver i j kind) (log_at es)

  -- later, with nothing more sent of the kinds of S
  record Onto (S : Kind → Bool) (es : List Event) (P : List Event → Type 0) : Type 0 where
    to : List Event
    later : To es to
    calm : (kind : Kind) → S kind ≡ true → (i j : ℕ) → sent_to kind i j to ≡ sent_to kind i j es
    holds : P to

  onto-refl : (S : Kind → Bool) (es : List Event) (P : List Event → Type 0) → At es → P es → Onto S es P
  onto-refl S es P m h = record { to = es; later = later_refl n f o f<n 1≤f small es m; calm = λ kind s i j. refl; holds = h }

  onto_then : (S : Kind → Bool) (es : List Event) (P Q R : List Event → Type 0) (a : Onto S es P) (b : Onto S a.to Q) → R b.to → Onto S es R
  onto_then S es P Q R a b h = record {
    to = b.to;
    later = later_trans n f o f<n 1≤f small es a.to b.to a.later b.later;
    calm = λ kind s i j. b.calm kind s i j ∙ a.calm kind s i j;
    holds = h;
  }

  -- what was delivered stays so
  delivered-on : (S : Kind → Bool) (kind : Kind) → S kind ≡ true → (es : List Event) (P : List Event → Type 0) (b : Onto S es P) (i j : ℕ) → Delivered kind i j es → Delivered kind i j b.to
  delivered-on S kind s es P b i j h e r = b.later.log (Deliver i j kind) (h (sym (b.calm kind s i j) ∙ e) (sym (b.later.running j) ∙ r))

  -- a message sent travels as it may
  module _ (es : List Event) (m : At es) (kind : Kind) (i j : ℕ) (e : sent_to kind i j es ≡ true) where
    asked : AllYes (about_message (message_at (after es) kind i j))
    asked = all_yes (about_message (message_at (after es) kind i j)) (reach.messages_pass es kind i j (unfold view in e))

    differ : (is_controller n i && is_controller n j && not (eqb i j)) ≡ true
    unfolding about_message
    differ = subst (λ (x : ℕ). (is_controller x i && is_controller x j && not (eqb i j)) ≡ true) m.is-n asked.1.0

    routed : route f kind i j ≡ true
    unfolding about_message
    routed = subst (λ (x : ℕ). route x kind i j ≡ true) m.is_f asked.1.1.1.1.0

    pub deliver-accepted : runs ((view_at es).ctl j) ≡ true → accepts n f (view_at es) (Deliver i j kind) ≡ true
    unfolding accepts first_no unless
    deliver-accepted r = rw (differ, routed, open_at es m, r, e)

  module _ (S : Kind → Bool) (kind : Kind) (mild : (k : Kind) → S k ≡ true → still kind k ≡ true) (covered : S kind ≡ true) where
    deliver-one : (es : List Event) → At es → (i j : ℕ) → Onto S es (Delivered kind i j)
    deliver-one es m i j = elim (split (sent_to kind i j es)) [
      | inr e ↦ onto-refl S es (Delivered kind i j) m (λ x. absurd (no_both _ x e))
      | inl e ↦ elim (split (runs ((view_at es).ctl j))) [
        | inr r ↦ onto-refl S es (Delivered kind i j) m (λ x y. absurd (no_both _ y r))
        | inl r ↦ let q : accepts n f (view_at es) (Deliver i j kind) ≡ true = deliver-accepted es m kind i j e r in record {
          to = es ++ (Deliver i j kind ∷ []);
          later = later-one n f o f<n 1≤f small es m (Deliver i j kind) refl q r;
          calm = λ k s a b. rw (performs n f o f<n 1≤f small es m (Deliver i j kind) q) (unfold perform_v in commit-calm n f o f<n 1≤f small (view_at es) j _ k (arrives-silent n f kind k (mild k s) i _ ((view_at es).ctl j)).none a b);
          holds = λ x y. subst (In (Deliver i j kind)) (sym (logs n f o f<n 1≤f small es m (Deliver i j kind) q refl)) (inl refl);
        }
      ]
    ]

    -- of sender i to 1..m; of the senders 1..m to all
    abbrev Row : ℕ → ℕ → List Event → Type 0
    Row i m es = (j : ℕ) → 1 ≤ j → j ≤ m → Delivered kind i j es

    abbrev Rows : ℕ → List Event → Type 0
    Rows m es = (i : ℕ) → 1 ≤ i → i ≤ m → Row i n es

    deliver-row : (i m : ℕ) (es : List Event) → At es → Onto S es (Row i m)
    deliver-row i zero es w = onto-refl S es (Row i zero) w (λ j a b. absurd (omega arith))
    deliver-row i (suc m) es w =
        let a : Onto S es (Row i m) = deliver-row i m es w in
        let b : Onto S a.to (Delivered kind i (suc m)) = deliver-one a.to a.later.moment i (suc m) in
        onto_then S es (Row i m) (Delivered kind i (suc m)) (Row i (suc m)) a b (λ j lo hi. elim (ℕ_discrete j (suc m)) [
          | yes q ↦ subst (λ (x : ℕ). Delivered kind i x b.to) (sym q) b.holds
          | no q ↦ delivered-on S kind covered a.to (Delivered kind i (suc m)) b i j (a.holds j lo (omega arith))
        ])

    deliver-rows : (m : ℕ) (es : List Event) → At es → Onto S es (Rows m)
    deliver-rows zero es w = onto-refl S es (Rows zero) w (λ i a b. absurd (omega arith))
    deliver-rows (suc m) es w =
        let a : Onto S es (Rows m) = deliver-rows m es w in
        let b : Onto S a.to (Row (suc m) n) = deliver-row (suc m) n a.to a.later.moment in
        onto_then S es (Rows m) (Row (suc m) n) (Rows (suc m)) a b (λ i lo hi. elim (ℕ_discrete i (suc m)) [
          | yes q ↦ subst (λ (x : ℕ). Row x n b.to) (sym q) b.holds
          | no q ↦ λ j lo' hi'. delivered-on S kind covered a.to (Row (suc m) n) b i j (a.holds i lo (omega arith) j lo' hi')
        ])

  -- all that is sent of a kind to a running controller was delivered
  abbrev AllDelivered : Kind → List Event → Type 0
  AllDelivered kind es = (i j : ℕ) → Delivered kind i j es

  rows_all : (kind : Kind) (es : List Event) → At es → ((i : ℕ) → 1 ≤ i → i ≤ n → (j : ℕ) → 1 ≤ j → j ≤ n → Delivered kind i j es) → AllDelivered kind es
  rows_all kind es m h i j e = h i from.low from.high j to.low to.high e
    where
      both : (is_controller n i && is_controller n j) ≡ true
      both = and_l _ (not (eqb i j)) (differ es m kind i j e)

      from : Member n i
      from = member n i (and_l (is_controller n i) (is_controller n j) both)

      to : Member n j
      to = member n j (and_r (is_controller n i) (is_controller n j) both)

  deliver-all : (S : Kind → Bool) (kind : Kind) → ((k : Kind) → S k ≡ true → still kind k ≡ true) → S kind ≡ true → (es : List Event) → At es → Onto S es (AllDelivered kind)
  deliver-all S kind mild covered es m = let a : Onto S es (Rows S kind mild covered n) = deliver-rows S kind mild covered n es m in
      record { to = a.to; later = a.later; calm = a.calm; holds = rows_all kind a.to a.later.moment a.holds }

  -- all kinds: answers last, since calls send them
  abbrev every : Kind → Bool
  every k = true

  abbrev Done : List Event → Type 0
  Done es = (kind : Kind) → AllDelivered kind es

  all-delivered : (es : List Event) → At es → Brought es Done
  all-delivered es m =
      let a : Onto (still Help) es (AllDelivered Vote) = deliver-all (still Help) Vote (λ k s. refl) refl es m in
      let b : Onto (still Help) a.to (AllDelivered Ack) = deliver-all (still Help) Ack (λ k s. refl) refl a.to a.later.moment in
      let c : Onto (still Help) b.to (AllDelivered Help) = deliver-all (still Help) Help (λ k s. s) refl b.to b.later.moment in
      let d : Onto every c.to (AllDelivered Helped) = deliver-all every Helped (λ k s. refl) refl c.to c.later.moment in
      record {
        to = d.to;
        later = later_trans n f o f<n 1≤f small es c.to d.to (later_trans n f o f<n 1≤f small es b.to c.to (later_trans n f o f<n 1≤f small es a.to b.to a.later b.later) c.later) d.later;
        holds = done a b c d;
      }
    where
      done : (a : Onto (still Help) es (AllDelivered Vote)) (b : Onto (still Help) a.to (AllDelivered Ack)) (c : Onto (still Help) b.to (AllDelivered Help)) (d : Onto every c.to (AllDelivered Helped)) → Done d.to
      done a b c d Vote i j = delivered-on every Vote refl c.to (AllDelivered Helped) d i j (delivered-on (still Help) Vote refl b.to (AllDelivered Help) c i j (delivered-on (still Help) Vote refl a.to (AllDelivered Ack) b i j (a.holds i j)))
      done a b c d Ack i j = delivered-on every Ack refl c.to (AllDelivered Helped) d i j (delivered-on (still Help) Ack refl b.to (AllDelivered Help) c i j (b.holds i j))
      done a b c d Help i j = delivered-on every Help refl c.to (AllDelivered Helped) d i j (c.holds i j)
      done a b c d Helped i j = d.holds i j

  -- the arbiter's answers -------------------------------------------------------------
  record GivenIn (k : ℕ) (es : List Event) : Type 0 where
    move : Bool
    entry : In (Decide k move) (log_at es)

  abbrev Given : ℕ → List Event → Type 0
  Given k es = runs ((view_at es).ctl k) ≡ true → is_none ((view_at es).ctl k).proposal ≡ false → GivenIn k es

  -- where a word was put one may be given: the one given before, or else that one
  module _ (es : List Event) (m : At es) (k : ℕ) (p : is_none ((view_at es).ctl k).proposal ≡ false) where
    abbrev s : Consensus
    s = (view_at es).state.consensus

    by_word : (x : Outcome) → ((view_at es).ctl k).proposal ≡ x → s.decision ≡ None → Choice s
    by_word None e d = absurd (no_both (is_none ((view_at es).ctl k).proposal) (ap is_none e) p)
    by_word Stay e d = record { move = false; may = and_i (was_proposed s false) (no_other_word s.decision false) (m.heard.put k false e) (rw d) }
    by_word Move e d = record { move = true; may = and_i (was_proposed s true) (no_other_word s.decision true) (m.heard.put k true e) (rw d) }

    by-decision : (x : Outcome) → s.decision ≡ x → Choice s
    by-decision None e = by_word ((view_at es).ctl k).proposal refl e
    by-decision Stay e = record { move = false; may = and_i (was_proposed s false) (no_other_word s.decision false) (m.inv.chosen false e) (rw e) }
    by-decision Move e = record { move = true; may = and_i (was_proposed s true) (no_other_word s.decision true) (m.inv.chosen true e) (rw e) }

    choice : Choice s
    choice = by-decision s.decision refl

  -- later, with nothing more sent and no more words put
  record Told (es : List Event) (P : List Event → Type 0) : Type 0 where
    onto : Onto every es P
    proposals : (k : ℕ) → ((view_at onto.to).ctl k).proposal ≡ ((view_at es).ctl k).proposal

  told-refl : (es : List Event) (P : List Event → Type 0) → At es → P es → Told es P
  unfolding onto-refl
  told-refl es P m h = record { onto = onto-refl every es P m h; proposals = λ k. refl }

  module _ (k : ℕ) (lo : 1 ≤ k) (hi : k ≤ n) (es : List Event) (m : At es) (r : runs ((view_at es).ctl k) ≡ true) (late : 3 ≤ phase ((view_at es).ctl k)) (ask : (view_at es).own ≡ false) (w : Choice (view_at es).state.consensus) where
    abbrev e : Event
    e = Decide k w.move

    at_3 : phase ((view_at es).ctl k) ≡ 3
    at_3 = let h : phase ((view_at es).ctl k) ≤ 3 = (unfold view in reach.stages es k) in omega arith

    decide-accepted : accepts n f (view_at es) e ≡ true
    unfolding accepts first_no unless is_controller
    decide-accepted = rw (le-leb 1 k lo, le-leb k n hi, open_at es m, r, not_both ((view_at es).ctl k).condition r, at_3, w.may, ask)

    decided : Told es (Given k)
    decided = record {
      onto = record {
        to = es ++ (e ∷ []);
        later = later-one n f o f<n 1≤f small es m e refl decide-accepted r;
        calm = λ kind s i j. rw (performs n f o f<n 1≤f small es m e decide-accepted) (calm kind i j);
        holds = λ x y. record { move = w.move; entry = subst (In e) (sym (logs n f o f<n 1≤f small es m e decide-accepted refl)) (inl refl) };
      };
      proposals = λ i. rw (performs n f o f<n 1≤f small es m e decide-accepted) (same i);
    }
      where
        calm : (kind : Kind) (i j : ℕ) → has (of_kind kind ((perform_v n f (view_at es) e).state.sent i)).to j ≡ sent_to kind i j es
        calm kind i j = unfold perform_v chosen in commit-calm n f o f<n 1≤f small (chosen (view_at es) w.move) k (becomes (conclude ((view_at es).ctl k) (word_of w.move))) kind (becomes-silent kind _).none i j

        same : (i : ℕ) → ((perform_v n f (view_at es) e).ctl i).proposal ≡ ((view_at es).ctl i).proposal
        same i = unfold perform_v commit_v chosen becomes in upd-all (λ (i : ℕ) (c : Controller). c.proposal ≡ ((view_at es).ctl i).proposal) (view_at es).ctl k (conclude ((view_at es).ctl k) (word_of w.move)) (unfold conclude in refl) (λ i. refl) i

  abbrev AllGiven : ℕ → List Event → Type 0
  AllGiven m es = (k : ℕ) → 1 ≤ k → k ≤ m → Given k es

  give-one : (es : List Event) → At es → (view_at es).own ≡ false → Staged n es → (k : ℕ) → 1 ≤ k → k ≤ n → Told es (Given k)
  give-one es m ask st k lo hi = elim (split (runs ((view_at es).ctl k))) [
    | inr r ↦ told-refl es (Given k) m (λ x y. absurd (no_both _ x r))
    | inl r ↦ elim (split (is_none ((view_at es).ctl k).proposal)) [
      | inl p ↦ told-refl es (Given k) m (λ x y. absurd (no_both _ p y))
      | inr p ↦ decided k lo hi es m r (st k lo hi r) ask (choice es m k p)
    ]
  ]

  staged-on : (es es' : List Event) → To es es' → Staged n es → Staged n es'
  staged-on es es' t h k lo hi r = let r' : runs ((view_at es).ctl k) ≡ true = sym (t.running k) ∙ r in let x : 3 ≤ phase ((view_at es).ctl k) = h k lo hi r' in let y : phase ((view_at es).ctl k) ≤ phase ((view_at es').ctl k) = t.phases k r' in omega arith

  give_all : (m : ℕ) → m ≤ n → (es : List Event) → At es → (view_at es).own ≡ false → Staged n es → Told es (AllGiven m)
  unfolding onto_then
  give_all zero h es w ask st = told-refl es (AllGiven zero) w (λ k a b. absurd (omega arith))
  give_all (suc m) h es w ask st =
      let a : Told es (AllGiven m) = give_all m (omega arith) es w ask st in
      let b : Told a.onto.to (Given (suc m)) = give-one a.onto.to a.onto.later.moment (a.onto.later.own ∙ ask) (staged-on es a.onto.to a.onto.later st) (suc m) (omega arith) h in
      record {
        onto = onto_then every es (AllGiven m) (Given (suc m)) (AllGiven (suc m)) a.onto b.onto (λ k lo hi. elim (ℕ_discrete k (suc m)) [
          | yes q ↦ subst (λ (x : ℕ). Given x b.onto.to) (sym q) b.onto.holds
          | no q ↦ given-on a b k (a.onto.holds k lo (omega arith))
        ]);
        proposals = λ k. b.proposals k ∙ a.proposals k;
      }
    where
      given-on : (a : Told es (AllGiven m)) (b : Told a.onto.to (Given (suc m))) (k : ℕ) → Given k a.onto.to → Given k b.onto.to
      given-on a b k g r p =
          let x : GivenIn k a.onto.to = g (sym (b.onto.later.running k) ∙ r) (ap is_none (sym (b.proposals k)) ∙ p) in
          record { move = x.move; entry = b.onto.later.log (Decide k x.move) x.entry }

  -- all together
  record Settled (es : List Event) : Type 0 where
    staged : Staged n es
    done : Done es
    given : AllGiven n es

  settle : (es : List Event) → At es → (view_at es).own ≡ false → Brought es Settled
  settle es m ask =
      let a : Brought es (Staged n) = all-staged n (omega arith) es m in
      let b : Brought a.to Done = all-delivered a.to a.later.moment in
      let st : Staged n b.to = staged-on a.to b.to b.later a.holds in
      let c : Told b.to (AllGiven n) = give_all n (omega arith) b.to b.later.moment (b.later.own ∙ a.later.own ∙ ask) st in
      record {
        to = c.onto.to;
        later = later_trans n f o f<n 1≤f small es b.to c.onto.to (later_trans n f o f<n 1≤f small es a.to b.to a.later b.later) c.onto.later;
        holds = record {
          staged = staged-on b.to c.onto.to c.onto.later st;
          done = λ kind i j. delivered-on every kind refl b.to (AllGiven n) c.onto i j (b.holds kind i j);
          given = c.onto.holds;
        };
      }

  -- so the premises are met
  settled-meets : (es x : List Event) → To es x → Settled x → count_to n (λ k. not (runs ((view_at es).ctl k))) ≤ f → (p : Premise) → Meets p x
  settled-meets es x t s few few-down =
      let q : (after x).shared.f ≡ f = t.moment.is_f in
      let e : count_to (after x).shared.n (λ k. not (runs (controller (after x) k))) ≡ count_to n (λ k. not (runs ((view_at es).ctl k))) = down-same in omega arith
    where
      down-same : count_to (after x).shared.n (λ k. not (runs (controller (after x) k))) ≡ count_to n (λ k. not (runs ((view_at es).ctl k)))
      down-same = unfold view in ap (λ (m : ℕ). count_to m (λ k. not (runs (controller (after x) k)))) t.moment.is-n
          ∙ ap (count_to n) (fun_ext (λ k. not (runs (controller (after x) k))) (λ k. not (runs (controller (after es) k))) (λ k. ap not (t.running k)))
  settled-meets es x t s few at-stage_3 = λ i r. staged i r
    where
      staged : (i : ℕ) → RunsAt x i → shown_stage (after x) i ≡ 3
      staged i r = unfold view in (
          let q : (after x).shared.n ≡ n = t.moment.is-n in let hi : i ≤ (after x).shared.n = r.high in
          let low : 3 ≤ phase (controller (after x) i) = s.staged i r.low (omega arith) r.running in let high : phase (controller (after x) i) ≤ 3 = reach.stages x i in
          stage_is (controller (after x) i).condition r.running ∙ (omega arith))
  settled-meets es x t s few delivered = λ kind i j e r. in_order x (Deliver i j kind) (unfold view in s.done kind i j e r.running)
  settled-meets es x t s few answered = λ i r p. given i r p
    where
      given : (i : ℕ) → RunsAt x i → HasPut x i → WasGiven x i
      given i r p = unfold view in (
          let q : (after x).shared.n ≡ n = t.moment.is-n in let hi : i ≤ (after x).shared.n = r.high in
          let g : GivenIn i x = s.given i r.low (omega arith) r.running p in record { move = g.move; event = in_order x (Decide i g.move) g.entry })

-- from a moment with its lock
module _ (es : List Event) (h : HeardAt (after es) (log_at es)) (opened : 1 ≤ (after es).shared.order) (arbiter : (view_at es).own ≡ false) (few : Meets few-down es) where
  abbrev n : ℕ
  n = (after es).shared.n

  abbrev f : ℕ
  f = (after es).shared.f

  abbrev o : ℕ
  o = (after es).shared.order

  range : Ranges n f
  range = ranges n f h.sound.sized

  now : Moment n f o range.high range.low range.small es
  now = record { sound = h.sound; is-n = refl; is_f = refl; is-order = refl; inv = h.sound.inv; heard = h.heard }

  there : Brought n f o range.high range.low range.small opened es (Settled n f o range.high range.low range.small opened)
  there = settle n f o range.high range.low range.small opened es now arbiter

  onward-at : Onward es
  onward-at = record {
    more = there.later.more;
    same = number_same there.later.more (after es) h.sound.locked same-order;
    running = λ i. unfold view in (subst (λ (x : List Event). runs ((view_at x).ctl i) ≡ runs ((view_at es).ctl i)) there.later.parts (there.later.running i));
    stopped = λ i. unfold view in (subst (λ (x : List Event). is_stopped ((view_at x).ctl i).condition ≡ is_stopped ((view_at es).ctl i).condition) there.later.parts (there.later.stopped i));
    meets = λ p. subst (Meets p) there.later.parts (settled-meets n f o range.high range.low range.small opened es there.to there.later there.holds (unfold view in few) p);
  }
    where
      same-order : (run (after es) there.later.more).shared.order ≡ (after es).shared.order
      same-order = ap (λ (b : Bench). b.shared.order) (sym (run-append es there.later.more new_bench) ∙ ap after (sym there.later.parts)) ∙ there.later.moment.is-order

pub onward : (es : List Event) → 1 ≤ (after es).shared.order → (after es).shared.own ≡ false → Meets few-down es → Onward es
onward es o own few = elim (start es) [
  | inl z ↦ absurd (let q : (after es).shared.order ≡ 0 = ap (λ (b : Bench). b.shared.order) z ∙ (unfold bench_of in refl) in omega arith)
  | inr x ↦ onward-at es (heard-at es x) o (unfold view in own) few
]
