-- The word that all have taken is chosen (paxos/Chosen), so it is given to each, and by demand 3 each holds it: `BallotsNotHollow`.
use Prim.Native.Nat.{ℕ, zero, suc, ◌≤◌, ◌<◌}
use mathlib.Core.Path.{◌≡◌, refl, sym, ◌∙◌, ap, subst}
use mathlib.Core.Bool.{Bool, true, false, false≢true}
use mathlib.Core.List.{List, [], ◌∷◌, ◌++◌}
use mathlib.Core.Logic.{inl, inr}
use native.Mathlib.Omega.{arith}
use native.Mathlib.Decide.{ℕ_discrete}
use borrow.Author.Tests.{le-leb, ne_eqb}
use Rattle.ground.specs.Limit.{limit}
use Rattle.ground.specs.Tests.{and_i}
use Rattle.ground.specs.Quantify.{any_of}
use Rattle.ground.specs.Update.{upd_same}
use Rattle.model.specs.Numbers.{word_of}
use Rattle.model.specs.Ranges.{sizes_in_range, is_controller}
use Rattle.model.specs.RangeLaws.{Ranges, ranges}
use Rattle.model.specs.declared.Outcome.{Outcome}
use Rattle.model.specs.declared.Outcome.TheVariants.{None}
use Rattle.model.specs.declared.Event.{Event}
use Rattle.model.specs.declared.Event.TheVariants.{Decide}
use Rattle.protocol.specs.declared.Condition.{Condition}
use Rattle.protocol.specs.declared.Condition.TheVariants.{Running, Stopped, Standby}
use Rattle.protocol.specs.declared.Controller.{Controller}
use Rattle.protocol.specs.declared.Ballots.{Ballots}
use Rattle.protocol.specs.Controllers.{is_running, outcome_in, runs, phase, outcome, or_else, noting, conclude}
use Rattle.protocol.specs.Rules.{becomes}
use Rattle.protocol.specs.Benches.{controller}
use Rattle.protocol.specs.Questions.{unless, first_no}
use Rattle.protocol.specs.Display.{shown_outcome}
use Rattle.protocol.specs.Ballots.{ballot_limit, majority, row, is_word_of, chosen_in, is_chosen}
use Rattle.protocol.specs.Claim.{after, opens_any, Holds}
use Rattle.protocol.specs.BallotClaim.{Chosen}
use Rattle.protocol.specs.BallotsNotHollow.{ChosenList, BallotsNotHollow}
use Rattle.protocol.proofs.view.View.{View, accepts}
use Rattle.protocol.proofs.view.Performed.{commit_v, chosen, perform_v}
use Rattle.protocol.proofs.view.Simulation.{view}
use Rattle.protocol.proofs.invariant.Orders.{not_both}
use Rattle.protocol.proofs.invariant.Words.{some_word}
use Rattle.protocol.proofs.clean.Log.{In}
use Rattle.protocol.proofs.lists.Moments.{log_at, in_order}
use Rattle.protocol.proofs.ranges.Reached.{reach}
use Rattle.protocol.proofs.paxos.Chosen.{ballots_agree}
use Rattle.protocol.proofs.claim.Theorem.{Word, word-of, demand_3}
use Rattle.protocol.proofs.paxos.Order.{passes_18}
use Rattle.protocol.proofs.hearing.Later.{view_at, performs, logs, no_more, later_refl, later_trans, later-one}
use Rattle.protocol.proofs.hearing.Onward.{open_at, unmoved}
use Rattle.protocol.proofs.settles.Proposer.{To, Staged, StagedList, all-staged}
use Rattle.protocol.proofs.settles.Ballot.{all-majority, balloted, noted, Reach, Taken, take_all}

is_word : (w : Bool) → is_word_of (word_of w) w ≡ true
is_word true = refl
is_word false = refl

-- the first word is taken
noted-first : (k : Condition) (o : Outcome) → is_running k ≡ true → outcome_in k ≡ None → outcome_in (noting k o) ≡ o
noted-first (Running p) o r e = ap (λ (x : Outcome). or_else x o) e
noted-first Stopped o r e = absurd (false≢true r)
noted-first (Standby x) o r e = absurd (false≢true r)

module _ (n f : ℕ) (sized : sizes_in_range n f ≡ true) (f<n : f < n) (1≤f : 1 ≤ f) (small : n ≤ limit) where
  abbrev Then : List Event → List Event → Type 0
  Then es es' = To n f sized f<n 1≤f small es es'

  module _ (start : List Event) (s : Staged n f sized f<n 1≤f small n start) (ballot : List Event) (b : Taken n f sized f<n 1≤f small start s n ballot) where
    picked : Word (row (view_at ballot).ballots 1).tally.word
    picked = word-of _ b.word

    abbrev w : Bool
    w = picked.move

    by_all : majority n (row (view_at ballot).ballots 1).accepted_by ≡ true
    by_all = all-majority n _ (omega arith) (λ k lo hi. noted n f sized f<n 1≤f small ballot b.going.later.moment k (b.going.later.running k ∙ s.running k lo hi) (b.taken k lo hi))

    settled : is_chosen n (view_at ballot).ballots w ≡ true
    unfolding is_chosen chosen_in
    settled = any_of ballot_limit (chosen_in n (view_at ballot).ballots w) 1 (omega arith) (omega arith) (and_i (is_word_of (row (view_at ballot).ballots 1).tally.word w) _ (ap (λ (o : Outcome). is_word_of o w) picked.is ∙ is_word w) by_all)

    -- the word was given to 1 to m, and 1 holds it
    record Gave (m : ℕ) (es : List Event) : Type 0 where
      later : Then ballot es
      ballots : (view_at es).ballots ≡ (view_at ballot).ballots
      given : (k : ℕ) → 1 ≤ k → k ≤ m → In (Decide k w) (log_at es)
      held : outcome ((view_at es).ctl 1) ≡ word_of w

    module _ (es : List Event) (t : Then ballot es) (same : (view_at es).ballots ≡ (view_at ballot).ballots) (k : ℕ) (lo : 1 ≤ k) (hi : k ≤ n) where
      abbrev e : Event
      e = Decide k w

      abbrev es' : List Event
      es' = es ++ (Decide k w ∷ [])

      running : runs ((view_at es).ctl k) ≡ true
      running = t.running k ∙ b.going.later.running k ∙ s.running k lo hi

      at_3 : phase ((view_at es).ctl k) ≡ 3
      at_3 =
          let x : 3 ≤ phase ((view_at start).ctl k) = s.stage k lo hi in
          let y : phase ((view_at start).ctl k) ≤ phase ((view_at ballot).ctl k) = b.going.later.phases k (s.running k lo hi) in
          let z : phase ((view_at ballot).ctl k) ≤ phase ((view_at es).ctl k) = t.phases k (b.going.later.running k ∙ s.running k lo hi) in
          let h : phase ((view_at es).ctl k) ≤ 3 = (unfold view in reach.stages es k) in omega arith

      own : (view_at es).own ≡ true
      own = t.own ∙ b.going.later.own ∙ s.own

      now : is_chosen n (view_at es).ballots w ≡ true
      now = ap (λ (x : Ballots). is_chosen n x w) same ∙ settled

      accepted : accepts n f (view_at es) e ≡ true
      unfolding accepts first_no unless is_controller
      accepted = rw (le-leb 1 k lo, le-leb k n hi, open_at n f 1 f<n 1≤f small (omega arith) es t.moment, running, not_both ((view_at es).ctl k).condition running, at_3, passes_18 n (view_at es) (balloted n f sized f<n 1≤f small es t.moment) own w now, own, now)

      later : Then ballot es'
      later = later_trans n f 1 f<n 1≤f small ballot es es' t (later-one n f 1 f<n 1≤f small es t.moment e refl accepted running)

      ballots-stay : (view_at es').ballots ≡ (view_at ballot).ballots
      ballots-stay = ap (λ (v : View). v.ballots) (performs n f 1 f<n 1≤f small es t.moment e accepted) ∙ (unfold perform_v commit_v chosen in same)

      entered : In e (log_at es')
      entered = subst (In e) (sym (logs n f 1 f<n 1≤f small es t.moment e accepted refl)) (inl refl)

      earlier : (x : Event) → In x (log_at es) → In x (log_at es')
      earlier x i = subst (In x) (sym (logs n f 1 f<n 1≤f small es t.moment e accepted refl)) (inr i)

      taken : outcome ((view_at es).ctl k) ≡ None → outcome ((view_at es').ctl k) ≡ word_of w
      taken z = rw (performs n f 1 f<n 1≤f small es t.moment e accepted)
          (unfold perform_v commit_v chosen becomes in rw (upd_same (view_at es).ctl k (conclude ((view_at es).ctl k) (word_of w))) (unfold conclude in noted-first ((view_at es).ctl k).condition (word_of w) running z))

      unchanged : (j : ℕ) → (j ≡ k → ⊥) → (view_at es').ctl j ≡ (view_at es).ctl j
      unchanged j d = unmoved n f 1 f<n 1≤f small (omega arith) es t.moment e refl accepted j (ne_eqb j k d)

    record GaveList (m : ℕ) : Type 0 where
      events : List Event
      gave : Gave m events

    begun : Then ballot ballot
    begun = later_refl n f 1 f<n 1≤f small ballot b.going.later.moment

    first : Gave 1 (ballot ++ (Decide 1 w ∷ []))
    first = record {
      later = later ballot begun refl 1 (omega arith) (omega arith);
      ballots = ballots-stay ballot begun refl 1 (omega arith) (omega arith);
      given = λ k lo hi. subst (λ (x : ℕ). In (Decide x w) (log_at (ballot ++ (Decide 1 w ∷ [])))) (let q : 1 ≡ k = omega arith in q) (entered ballot begun refl 1 (omega arith) (omega arith));
      held = taken ballot begun refl 1 (omega arith) (omega arith) (ap (λ (c : Controller). outcome c) (b.going.ctl 1) ∙ s.proposer.undecided);
    }

    next : (m : ℕ) → 1 ≤ m → suc m ≤ n → (es : List Event) → Gave m es → Gave (suc m) (es ++ (Decide (suc m) w ∷ []))
    next m lo hi es g = record {
      later = later es g.later g.ballots (suc m) (omega arith) hi;
      ballots = ballots-stay es g.later g.ballots (suc m) (omega arith) hi;
      given = λ k l h. elim (ℕ_discrete k (suc m)) [
        | yes q ↦ subst (λ (x : ℕ). In (Decide x w) (log_at (es ++ (Decide (suc m) w ∷ [])))) (sym q) (entered es g.later g.ballots (suc m) (omega arith) hi)
        | no q ↦ earlier es g.later g.ballots (suc m) (omega arith) hi (Decide k w) (g.given k l (omega arith))
      ];
      held = ap (λ (c : Controller). outcome c) (unchanged es g.later g.ballots (suc m) (omega arith) hi 1 (λ q. omega arith)) ∙ g.held;
    }

    give_all : (m : ℕ) → 1 ≤ m → m ≤ n → GaveList m
    give_all zero lo hi = absurd (omega arith)
    give_all (suc zero) lo hi = record { events = ballot ++ (Decide 1 w ∷ []); gave = first }
    give_all (suc (suc m)) lo hi = let l : GaveList (suc m) = give_all (suc m) (omega arith) (omega arith) in record { events = l.events ++ (Decide (suc (suc m)) w ∷ []); gave = next (suc m) (omega arith) hi l.events l.gave }

    -- at the end
    module _ (es : List Event) (g : Gave n es) where
      runs-all : (k : ℕ) → 1 ≤ k → k ≤ n → runs (controller (after es) k) ≡ true
      unfolding view
      runs-all k lo hi = g.later.running k ∙ b.going.later.running k ∙ s.running k lo hi

      held_first : Holds es 1 (word_of w)
      unfolding view
      held_first = record { shows = g.held; some = some_word w }

      held-some : (k : ℕ) → 1 ≤ k → k ≤ n → Holds es k (shown_outcome (after es) k)
      unfolding view
      held-some k lo hi = record { shows = refl; some = (g.later.moment.heard.listening k lo hi (runs-all k lo hi)).came.decisions w (g.given k lo hi) }

      same : (k : ℕ) → 1 ≤ k → k ≤ n → word_of w ≡ shown_outcome (after es) k
      same k lo hi = demand_3.agreement es [] 1 k (word_of w) (shown_outcome (after es) k) (unfold opens_any in refl) held_first
          (subst (λ (x : List Event). Holds x k (shown_outcome (after es) k)) (no_more es) (held-some k lo hi))

      is-chosen : Chosen (after es) w
      unfolding view
      is-chosen = record {
        ballot = 1;
        word = ap (λ (x : Ballots). (row x 1).tally.word) g.ballots ∙ picked.is;
        taken = ap (λ (m : ℕ). majority m (row (after es).ballots 1).accepted_by) g.later.moment.is-n ∙ ap (λ (x : Ballots). majority n (row x 1).accepted_by) g.ballots ∙ by_all;
      }

      end : ChosenList n f
      end = record {
        events = es;
        lock-n = g.later.moment.is-n;
        lock-f = g.later.moment.is_f;
        own = unfold view in (g.later.own ∙ b.going.later.own ∙ s.own);
        running = runs-all;
        word = w;
        put = ballots_agree.was-put es w is-chosen;
        chosen = is-chosen;
        given = λ k lo hi. in_order es (Decide k w) (g.given k lo hi);
        holds = λ k lo hi. record { shows = sym (same k lo hi); some = some_word w };
      }

    settles-from : ChosenList n f
    settles-from = let l : GaveList n = give_all n (omega arith) (omega arith) in end l.events l.gave

  settles : ChosenList n f
  settles =
      let l : StagedList n f sized f<n 1≤f small n = all-staged n f sized f<n 1≤f small n (omega arith) (omega arith) in
      let r : Reach n f sized f<n 1≤f small l.events l.staged (Taken n f sized f<n 1≤f small l.events l.staged n) = take_all n f sized f<n 1≤f small l.events l.staged n (omega arith) (omega arith) in
      settles-from l.events l.staged r.events r.holds

pub ballots-not_hollow : BallotsNotHollow
ballots-not_hollow = record { settles = λ n f sized. let r : Ranges n f = ranges n f sized in settles n f sized r.high r.low r.small }
