-- The ballots of a bench's order: every accepted event keeps their invariant, one of ballots by its rule (Kept), any other by what it does to the
-- controllers (Members, Environment). So at c = 1 a word given passes document 01's question 18 too (Agreement).
use Prim.Native.Nat.{ℕ, zero, suc, ◌≤◌, ◌<◌, ◌*◌}
use mathlib.Core.Path.{◌≡◌, refl, sym, ◌∙◌, ap, subst}
use mathlib.Core.Bool.{Bool, true, false, cond, not, ◌&&◌, ◌||◌, false≢true}
use mathlib.Core.List.{List, []}
use mathlib.Core.Logic.{inl, inr}
use native.Mathlib.Omega.{arith}
use lib.ListN.{length, replicate, length-replicate, get_or-replicate}
use lib.Dec.{eqb, leb}
use borrow.Author.Tests.{eqb-true, leb-true, ltb-true, lt-ltb, not-true}
use Rattle.ground.specs.Limit.{limit}
use Rattle.ground.specs.Tests.{split, by_cond, and_l, and_r, or_r}
use Rattle.ground.specs.Update.{upd, upd-all, fun_ext}
use Rattle.ground.specs.Lists.{nth, put, nth-put, length-put}
use Rattle.ground.specs.Mask.{has}
use Rattle.ground.proofs.MaskLaws.{none_has}
use Rattle.ground.specs.Quantify.{count_to, Found, any_at}
use Rattle.ground.proofs.Sizes.{count_mono}
use Rattle.model.specs.Ranges.{is_controller}
use Rattle.model.specs.Numbers.{word_of, is_none, says_move, is_stay}
use Rattle.model.specs.declared.Outcome.{Outcome}
use Rattle.model.specs.declared.Outcome.TheVariants.{None, Stay, Move}
use Rattle.model.specs.declared.BallotKind.{BallotKind}
use Rattle.model.specs.declared.BallotKind.TheVariants.{Prepare, Promise, Accept, Accepted}
use Rattle.model.specs.declared.BallotEvent.{BallotEvent}
use Rattle.model.specs.declared.BallotEvent.TheVariants.{Open, Carry}
use Rattle.model.specs.declared.Event.{Event}
use Rattle.model.specs.declared.Event.TheVariants.{Lock, Order, Cast, Deliver, Timeout, Decide, Stop, Save, Restore, OfBallots}
use Rattle.protocol.specs.declared.Acceptor.{Acceptor}
use Rattle.protocol.specs.declared.BallotAnswer.{BallotAnswer}
use Rattle.protocol.specs.declared.BallotRow.{BallotRow}
use Rattle.protocol.specs.declared.Ballots.{Ballots}
use Rattle.protocol.specs.declared.Controller.{Controller}
use Rattle.protocol.specs.declared.Answer.{Answer}
use Rattle.protocol.specs.declared.Condition.{Condition}
use Rattle.protocol.specs.declared.Condition.TheVariants.{Stopped, Standby}
use Rattle.protocol.specs.Controllers.{is_running, is_stopped, runs, in_phase, cleared, conclude}
use Rattle.protocol.specs.Rules.{passing_over, becomes}
use Rattle.protocol.specs.Calls.{renew}
use Rattle.protocol.specs.Questions.{first_no, was_proposed, no_other_word}
use Rattle.protocol.specs.Steps.{renewed, order_opened}
use Rattle.protocol.specs.Ballots.{ballot_limit, is_ballot, owner, majority, new_acceptor, new_row, new_ballots, acceptor, row, report, is_word_of, chosen_in, is_chosen}
use Rattle.protocol.specs.BallotRules.{prepare_arrives, accept_arrives, promise_arrives, open_ballot}
use Rattle.protocol.specs.BallotSteps.{ballot_subject, was_sent_in, row_after, answered, reported_word, carried, ballots_after}
use Rattle.protocol.proofs.view.View.{View, ballots_v, opened_v, accepts, ask_l, ask_r, all-of_copies}
use Rattle.protocol.proofs.view.Performed.{commit_v, chosen, saved_v, identity_v, perform_v, step_v, upd-id}
use Rattle.protocol.proofs.view.RuleCases.{restore_cases}
use Rattle.protocol.proofs.invariant.Words.{word-is, none-word, some_word, noting-runs}
use Rattle.protocol.proofs.paxos.View as P
use Rattle.protocol.proofs.paxos.Invariant.{IsPut, MemberSound, Inv}
use Rattle.protocol.proofs.paxos.Agreement.{agree}
use Rattle.protocol.proofs.paxos.Simulation.{view_of, view_at}
use Rattle.protocol.proofs.paxos.Parts.{Member, Part, applied}
use Rattle.protocol.proofs.paxos.Growth.{Grown, grown-refl, KeepsWord, row-grown, prepare-word, accept-word, promise-word, open-word}
use Rattle.protocol.proofs.paxos.Kept.{Good, prepare-keeps, accept-keeps, promise-arrives-keeps, open-keeps}
use Rattle.protocol.proofs.paxos.Members.{Steady, cleared_steady, cleared-idle, passed_steady, vote_steady, timeout_steady, arrives_steady, decide_steady}
use Rattle.protocol.proofs.paxos.Environment.{around-inv}
use Rattle.protocol.proofs.invariant.Commit.{cond_or}

-- the bench as the ballots see it
abbrev pub member_v : View → ℕ → Member
member_v v k = record { running = runs (v.ctl k); own = (v.ctl k).proposal; acceptor = acceptor v.ballots k }

abbrev pub ballot_view : View → P.View
ballot_view v = view_of (member_v v) (row v.ballots) v.state.consensus.move_proposed v.state.consensus.stay_proposed

pub record Sized (s : Ballots) : Type 0 where
  pub acceptors : length s.acceptors ≡ limit
  pub rows : length s.rows ≡ ballot_limit
  pub room : (b : ℕ) → 1 ≤ b → b ≤ ballot_limit → length (row s b).lasts ≡ limit

-- more than n/2 have taken the word in one ballot
pub record Chosen (n : ℕ) (s : Ballots) (x : Bool) : Type 0 where
  pub at : ℕ
  pub word : (row s at).tally.word ≡ word_of x
  pub taken : majority n (row s at).accepted_by ≡ true

pub record Balloted (n : ℕ) (v : View) : Type 0 where
  pub sized : Sized v.ballots
  pub inv : Inv n (ballot_view v)
  pub given : v.own ≡ true → (x : Bool) → v.state.consensus.decision ≡ word_of x → Chosen n v.ballots x

-- question 18 ----------------------------------------------------------------------

is_word : (o : Outcome) (x : Bool) → is_word_of o x ≡ true → o ≡ word_of x
is_word None true e = absurd (false≢true e)
is_word None false e = absurd (false≢true e)
is_word Stay true e = absurd (false≢true e)
is_word Stay false e = refl
is_word Move true e = refl
is_word Move false e = absurd (false≢true e)

pub chosen_found : (n : ℕ) (s : Ballots) (x : Bool) → is_chosen n s x ≡ true → Chosen n s x
unfolding is_chosen chosen_in
chosen_found n s x e = let f : Found ballot_limit (chosen_in n s x) = any_at ballot_limit (chosen_in n s x) e in record {
  at = f.at;
  word = is_word _ x (and_l (is_word_of (row s f.at).tally.word x) (majority n (row s f.at).accepted_by) f.holds);
  taken = and_r (is_word_of (row s f.at).tally.word x) (majority n (row s f.at).accepted_by) f.holds;
}

pub chosen_on : (n : ℕ) (s s' : Ballots) (x : Bool) → ((b : ℕ) → Grown (row s b) (row s' b)) → Chosen n s x → Chosen n s' x
unfolding majority
chosen_on n s s' x g c = record {
  at = c.at;
  word = (g c.at).word (ap is_none c.word ∙ some_word x) ∙ c.word;
  taken = lt-ltb n (2 * count_to n (has (row s' c.at).accepted_by)) (let a : n < 2 * count_to n (has (row s c.at).accepted_by) = ltb-true _ _ c.taken in
      let b : count_to n (has (row s c.at).accepted_by) ≤ count_to n (has (row s' c.at).accepted_by) = count_mono n _ _ (g c.at).taken in omega arith);
}

module _ (n : ℕ) (v : View) (ok : Balloted n v) where
  pub one : (x y : Bool) → Chosen n v.ballots x → Chosen n v.ballots y → x ≡ y
  unfolding majority
  one x y c d = word-is x y (sym c.word ∙ (agree n (ballot_view v) ok.inv c.at d.at c.taken d.taken ∙ d.word))

  put_is : (x : Bool) → cond x v.state.consensus.move_proposed v.state.consensus.stay_proposed ≡ was_proposed v.state.consensus x
  put_is true = refl
  put_is false = refl

  no_other : (o : Outcome) (x : Bool) → ((y : Bool) → o ≡ word_of y → y ≡ x) → no_other_word o x ≡ true
  no_other None x h = refl
  no_other Stay x h = ap not (sym (h false refl))
  no_other Move x h = sym (h true refl)

  pub put_first : (x : Bool) → Chosen n v.ballots x → was_proposed v.state.consensus x ≡ true
  put_first x c = sym (put_is x) ∙ ok.inv.put-proposed c.at x c.word

  -- what is chosen passes document 01's question
  pub passes_18 : v.own ≡ true → (x : Bool) → is_chosen n v.ballots x ≡ true → (was_proposed v.state.consensus x && no_other_word v.state.consensus.decision x) ≡ true
  passes_18 own x e =
      let c : Chosen n v.ballots x = chosen_found n v.ballots x e in
      let p : was_proposed v.state.consensus x ≡ true = put_first x c in
      let q : no_other_word v.state.consensus.decision x ≡ true = no_other v.state.consensus.decision x (λ y d. one y x (ok.given own y d) c) in
      rw (p, q)

-- an event of document 01 ----------------------------------------------------------

cond_now : (x a b : Bool) (o : Outcome) → o ≡ word_of x → cond x (a || says_move o) (b || is_stay o) ≡ true
cond_now true a b o e = or_r a (says_move o) (ap says_move e)
cond_now false a b o e = or_r b (is_stay o) (ap is_stay e)

-- a controller's answer put back: it runs only if it ran before
pub commit-balloted : (n : ℕ) (v : View) (i : ℕ) (a : Answer) → Balloted n v → (runs a.controller ≡ true → runs (v.ctl i) ≡ true) → Steady (v.ctl i) a → Balloted n (commit_v v i a)
unfolding commit_v
commit-balloted n v i a ok ran t = record {
  sized = ok.sized;
  inv = around-inv n (ballot_view v) ok.inv (λ k. runs (upd v.ctl i a.controller k)) (λ k. (upd v.ctl i a.controller k).proposal) _ _
      (upd-all (λ (k : ℕ) (c : Controller). runs c ≡ true → runs (v.ctl k) ≡ true) v.ctl i a.controller ran (λ k r. r))
      (upd-all (λ (k : ℕ) (c : Controller). runs c ≡ true → IsPut (v.ctl k).proposal → IsPut c.proposal) v.ctl i a.controller t.stays (λ k _ e. e))
      (upd-all (λ (k : ℕ) (c : Controller). (x : Bool) → c.proposal ≡ word_of x → cond x (v.state.consensus.move_proposed || says_move a.proposal) (v.state.consensus.stay_proposed || is_stay a.proposal) ≡ true) v.ctl i a.controller
      (λ x e. elim (t.put x e) [ inl q ↦ cond_or x v.state.consensus.move_proposed v.state.consensus.stay_proposed (says_move a.proposal) (is_stay a.proposal) (ok.inv.own-proposed i x q) | inr q ↦ cond_now x v.state.consensus.move_proposed v.state.consensus.stay_proposed a.proposal q ])
      (λ k x e. cond_or x v.state.consensus.move_proposed v.state.consensus.stay_proposed (says_move a.proposal) (is_stay a.proposal) (ok.inv.own-proposed k x e)))
      (λ x e. cond_or x v.state.consensus.move_proposed v.state.consensus.stay_proposed (says_move a.proposal) (is_stay a.proposal) e);
  given = ok.given;
}

pub chosen-balloted : (n : ℕ) (v : View) (w : Bool) → Balloted n v → (v.own ≡ true → Chosen n v.ballots w) → Balloted n (chosen v w)
unfolding chosen
chosen-balloted n v w ok c = record { sized = ok.sized; inv = ok.inv; given = λ own x e. subst (Chosen n v.ballots) (word-is w x e) (c own) }

pub saved-balloted : (n f : ℕ) (v : View) (i : ℕ) → Balloted n v → Balloted n (perform_v n f v (Save i))
unfolding perform_v saved_v
saved-balloted n f v i ok = record { sized = ok.sized; inv = ok.inv; given = ok.given }

-- a new order ----------------------------------------------------------------------

pub record NewRow (r : BallotRow) : Type 0 where
  pub promised : r.promised_by ≡ 0
  pub received : r.tally.from ≡ 0
  pub taken : r.accepted_by ≡ 0
  pub top : r.tally.top ≡ 0
  pub word : r.tally.word ≡ None

new-row : (l : List ℕ) → NewRow (new_row l)
unfolding new_row
new-row l = record { promised = refl; received = refl; taken = refl; top = refl; word = refl }

pub rows_new : (b : ℕ) → NewRow (row new_ballots b)
unfolding row new_ballots
rows_new b = all-of_copies NewRow (new_row []) (new_row (replicate limit 0)) (new-row []) (new-row (replicate limit 0)) ballot_limit b

pub acceptors-new : (k : ℕ) → acceptor new_ballots k ≡ new_acceptor
unfolding acceptor new_ballots
acceptors-new k = all-of_copies (λ (t : Acceptor). t ≡ new_acceptor) new_acceptor new_acceptor refl refl limit k

new-room : (b : ℕ) → 1 ≤ b → b ≤ ballot_limit → length (row new_ballots b).lasts ≡ limit
unfolding row new_ballots nth new_row
new-room zero l h = absurd (omega arith)
new-room (suc b) l h = ap (λ (r : BallotRow). length r.lasts) (get_or-replicate ballot_limit b (new_row (replicate limit 0)) (new_row []) h) ∙ length-replicate {A = ℕ} limit 0

new-sized : Sized new_ballots
new-sized = record { acceptors = unfold new_ballots in length-replicate limit new_acceptor; rows = unfold new_ballots in length-replicate ballot_limit (new_row (replicate limit 0)); room = new-room }

not_none : {X : Type 0} → is_none None ≡ false → X
not_none e = let z : ◌≡◌ {A = ℕ} 0 1 = cc in absurd (omega arith)

no-promise : {X : Type 0} (b j : ℕ) → has (row new_ballots b).promised_by j ≡ true → X
no-promise b j e = none_has j (ap (λ (m : ℕ). has m j) (sym (rows_new b).promised) ∙ e)

no_taking : {X : Type 0} (b j : ℕ) → has (row new_ballots b).accepted_by j ≡ true → X
no_taking b j e = none_has j (ap (λ (m : ℕ). has m j) (sym (rows_new b).taken) ∙ e)

abbrev member_in : Ballots → ℕ → Bool → Outcome → Member
member_in s k running own = record { running = running; own = own; acceptor = acceptor s k }

-- new ballots, and no word put
pub new-inv : (n : ℕ) (running : ℕ → Bool) (own : ℕ → Outcome) → ((k : ℕ) → own k ≡ None) → Inv n (view_of (λ k. member_in new_ballots k (running k) (own k)) (row new_ballots) false false)
new-inv n running own none = record {
  members = λ j _. subst (λ (t : Acceptor). MemberSound (λ b k. has (row new_ballots b).promised_by k) (λ b k. has (row new_ballots b).accepted_by k) (λ b. (row new_ballots b).tally.word) j t.highest t.promised t.last t.word) (sym (acceptors-new j))
      (record { given-low = omega arith; last-low = omega arith; promised-low = λ b e. no-promise b j e; taken-low = λ b e. no_taking b j e; last_word = inl refl });
  promises = λ b j e. no-promise b j e;
  opened = λ b j e. no-promise b j e;
  counted = λ b j e. none_has j (ap (λ (m : ℕ). has m j) (sym (rows_new b).received) ∙ e);
  tops = λ b. inl (rows_new b).top;
  puts = λ b e. not_none (ap is_none (sym (rows_new b).word) ∙ e);
  takings = λ b j e. no_taking b j e;
  own-proposed = λ j x e. none-word x (sym (none j) ∙ e);
  put-proposed = λ b x e. none-word x (sym (rows_new b).word ∙ e);
  no_zero = ap is_none (rows_new 0).word;
}

pub unput : (c : Controller) → (renew c).proposal ≡ None
unfolding renew cleared
unput c = by_cond (λ (x : Controller). x.proposal ≡ None) (is_stopped c.condition) (cleared Stopped c) (cleared (in_phase 0 None) c) (λ e. refl) (λ e. refl)

pub opened-balloted : (n f : ℕ) (v : View) (o : ℕ) → Balloted n (opened_v n f v o)
unfolding opened_v order_opened renewed
opened-balloted n f v o = record { sized = new-sized; inv = new-inv n (λ k. runs (renew (v.ctl k))) (λ k. (renew (v.ctl k)).proposal) (λ k. unput (v.ctl k)); given = λ own x e. none-word x e }

pub new-balloted : (n : ℕ) (v : View) → v.ballots ≡ new_ballots → v.state.consensus.move_proposed ≡ false → v.state.consensus.stay_proposed ≡ false → v.state.consensus.decision ≡ None
    → ((k : ℕ) → (v.ctl k).proposal ≡ None) → Balloted n v
new-balloted n v e p q d none = record {
  sized = subst Sized (sym e) new-sized;
  inv = subst (λ (s : Ballots). Inv n (view_of (λ k. member_in s k (runs (v.ctl k)) (v.ctl k).proposal) (row s) v.state.consensus.move_proposed v.state.consensus.stay_proposed)) (sym e)
      (rw (p, q) (new-inv n (λ k. runs (v.ctl k)) (λ k. (v.ctl k).proposal) none));
  given = λ own x z. none-word x (sym d ∙ z);
}

-- an event of ballots --------------------------------------------------------------

module _ (n : ℕ) (small : n ≤ limit) (v : View) (ok : Balloted n v) (i b : ℕ) (low : 1 ≤ i) (high : i ≤ n) (b-low : 1 ≤ b) (b-high : b ≤ ballot_limit) where
  abbrev s : Ballots
  s = v.ballots

  abbrev part : Part
  part = record { member = member_v v i; ballot = row s b }

  within : i ≤ limit
  within = omega arith

  abbrev GoodAt : Part → Type 0
  GoodAt p = Good n (member_v v) (row s) v.state.consensus.move_proposed v.state.consensus.stay_proposed b i b-low low within p

  acceptor-put : (t : Acceptor) → nth new_acceptor (put s.acceptors i t) ≡ upd (acceptor s) i t
  unfolding acceptor
  acceptor-put t = nth-put new_acceptor s.acceptors i t low (let e : length s.acceptors ≡ limit = ok.sized.acceptors in omega arith)

  row_put : (r : BallotRow) → nth (new_row []) (put s.rows b r) ≡ upd (row s) b r
  unfolding row
  row_put r = nth-put (new_row []) s.rows b r b-low (let e : length s.rows ≡ ballot_limit = ok.sized.rows in omega arith)

  -- the members with another acceptor at i
  member-at : (x : BallotAnswer) (k : ℕ) → record { running = runs (v.ctl k); own = (v.ctl k).proposal; acceptor = upd (acceptor s) i x.acceptor k } ≡ upd (member_v v) i (applied i part x).member k
  unfolding upd
  member-at x k = elim (split (eqb k i)) [
    | inl e ↦ rw (e, eqb-true k i e)
    | inr e ↦ rw e
  ]

  members-put : (x : BallotAnswer) → ◌≡◌ {A = ℕ → Member} (λ k. member_in (answered s i b x) k (runs (v.ctl k)) (v.ctl k).proposal) (upd (member_v v) i (applied i part x).member)
  unfolding answered acceptor
  members-put x = (λ z k. record { running = runs (v.ctl k); own = (v.ctl k).proposal; acceptor = acceptor-put x.acceptor z k }) ∙ fun_ext _ _ (member-at x)

  pub acceptors-put : (x : BallotAnswer) → acceptor (answered s i b x) ≡ upd (acceptor s) i x.acceptor
  unfolding answered acceptor
  acceptors-put x = acceptor-put x.acceptor

  pub rows-put : (x : BallotAnswer) → row (answered s i b x) ≡ upd (row s) b (row_after (row s b) i x)
  unfolding answered row
  rows-put x = row_put (row_after (row s b) i x)

  good_now : GoodAt part
  good_now = subst (Inv n) (λ t. view_of (sym (upd-id (member_v v) i) t) (sym (upd-id (row s) b) t) v.state.consensus.move_proposed v.state.consensus.stay_proposed) ok.inv

  room_now : limit ≤ length (row s b).lasts
  room_now = let e : length (row s b).lasts ≡ limit = ok.sized.room b b-low b-high in omega arith

  back-grown : (x : BallotAnswer) → KeepsWord (row s b).tally x → (c : ℕ) → Grown (row s c) (row (answered s i b x) c)
  back-grown x g c = subst (λ (F : ℕ → BallotRow). Grown (row s c) (F c)) (sym (rows-put x))
      (upd-all (λ (c : ℕ) (r : BallotRow). Grown (row s c) r) (row s) b (row_after (row s b) i x) (row-grown (row s b) i x g) (λ c. grown-refl (row s c)) c)

  back-view : (x : BallotAnswer) → ballot_view (ballots_v v (answered s i b x)) ≡ view_at (member_v v) (row s) v.state.consensus.move_proposed v.state.consensus.stay_proposed b i low within (applied i part x)
  back-view x = unfold ballots_v in λ z. view_of (members-put x z) (rows-put x z) v.state.consensus.move_proposed v.state.consensus.stay_proposed

  back-balloted : (x : BallotAnswer) → GoodAt (applied i part x) → KeepsWord (row s b).tally x → Balloted n (ballots_v v (answered s i b x))
  back-balloted x g o = record {
    sized = unfold ballots_v in record {
      acceptors = unfold answered in (length-put s.acceptors i x.acceptor ∙ ok.sized.acceptors);
      rows = unfold answered in (length-put s.rows b (row_after (row s b) i x) ∙ ok.sized.rows);
      room = λ c l h. (back-grown x o c).room ∙ ok.sized.room c l h;
    };
    inv = subst (Inv n) (sym (back-view x)) g;
    given = unfold ballots_v in λ own w e. chosen_on n s (answered s i b x) w (back-grown x o) (ok.given own w e);
  }

  -- the rules, behind their questions
  module _ (ran : runs (v.ctl i) ≡ true) where
    abbrev mine : Outcome
    mine = (v.ctl i).proposal

    opened_by : leb (acceptor s i).highest b ≡ true → has (row s b).promised_by i ≡ false → i ≡ owner n b → IsPut mine → Balloted n (ballots_v v (answered s i b (open_ballot n b i mine (acceptor s i) (row s b).tally)))
    opened_by h new own put = back-balloted _
        (open-keeps n (member_v v) (row s) _ _ b i b-low low within part good_now ran room_now h new own put)
        (open-word n b mine i (acceptor s i) (row s b).tally)

    asked_by : has (row s b).promised_by (owner n b) ≡ true → Balloted n (ballots_v v (answered s i b (prepare_arrives b (acceptor s i) (row s b).tally)))
    asked_by o = back-balloted _ (prepare-keeps n (member_v v) (row s) _ _ b i b-low low within part good_now ran room_now (inr o)) (prepare-word n b mine (acceptor s i) (row s b).tally)

    put_by : IsPut (row s b).tally.word → Balloted n (ballots_v v (answered s i b (accept_arrives b (row s b).tally.word (acceptor s i) (row s b).tally)))
    put_by w = back-balloted _ (accept-keeps n (member_v v) (row s) _ _ b i b-low low within part good_now ran w) (accept-word n b mine (row s b).tally.word (acceptor s i) (row s b).tally)

    promised_by_lem : (j : ℕ) → 1 ≤ j → j ≤ n → owner n b ≡ i → has (row s b).promised_by j ≡ true
        → Balloted n (ballots_v v (answered s i b (promise_arrives n b j (report (row s b) j) (reported_word s b j) mine (acceptor s i) (row s b).tally)))
    promised_by_lem j jl jh o given = back-balloted _
        (promise-arrives-keeps n (member_v v) (row s) _ _ b i b-low low within part j (report (row s b) j) (reported_word s b j) good_now ran
        (ap (λ (k : ℕ). is_none (v.ctl k).proposal) (sym o) ∙ (ok.inv.opened b j given).has_word (ap (λ (k : ℕ). runs (v.ctl k)) o ∙ ran))
        jl (omega arith) given refl
        (elim (ok.inv.promises b j given).real [ inl q ↦ inl q | inr q ↦ inr (ap (λ (F : ℕ → BallotRow). has (F (report (row s b) j)).accepted_by j) (upd-id (row s) b) ∙ q, ap (λ (F : ℕ → BallotRow). (F (report (row s b) j)).tally.word) (upd-id (row s) b)) ]))
        (promise-word n b mine j (report (row s b) j) (reported_word s b j) (acceptor s i) (row s b).tally)

same-ballots : (n : ℕ) (v : View) → Balloted n v → Balloted n (ballots_v v v.ballots)
unfolding ballots_v
same-ballots n v ok = record { sized = ok.sized; inv = ok.inv; given = ok.given }

carried-balloted : (n : ℕ) → n ≤ limit → (v : View) → Balloted n v → (i j b : ℕ) → 1 ≤ i → i ≤ n → 1 ≤ j → j ≤ n → 1 ≤ b → b ≤ ballot_limit → runs (v.ctl j) ≡ true
    → (kind : BallotKind) → was_sent_in kind n b i j (row v.ballots b) ≡ true → Balloted n (ballots_v v (carried n v.ballots (v.ctl j).proposal i j kind b))
unfolding carried was_sent_in
carried-balloted n small v ok i j b il ih jl jh bl bh r Prepare e =
    asked_by n small v ok j b jl jh bl bh r (ap (has (row v.ballots b).promised_by) (eqb-true _ _ (and_l (eqb (owner n b) i) _ e)) ∙ and_r (eqb (owner n b) i) _ e)
carried-balloted n small v ok i j b il ih jl jh bl bh r Promise e = promised_by_lem n small v ok j b jl jh bl bh r i il ih (eqb-true _ _ (and_l (eqb (owner n b) j) _ e)) (and_r (eqb (owner n b) j) _ e)
carried-balloted n small v ok i j b il ih jl jh bl bh r Accept e = put_by n small v ok j b jl jh bl bh r (not-true (is_none (row v.ballots b).tally.word) (and_r (eqb (owner n b) i) _ e))
carried-balloted n small v ok i j b il ih jl jh bl bh r Accepted e = same-ballots n v ok

-- an accepted event of ballots leaves each ballot's word and its takers
carried-grown : (n : ℕ) → n ≤ limit → (v : View) → Balloted n v → (i j b : ℕ) → 1 ≤ j → j ≤ n → 1 ≤ b → b ≤ ballot_limit → (kind : BallotKind) (c : ℕ)
    → Grown (row v.ballots c) (row (carried n v.ballots (v.ctl j).proposal i j kind b) c)
unfolding carried
carried-grown n small v ok i j b jl jh bl bh Prepare = back-grown n small v ok j b jl jh bl bh _ (prepare-word n b None (acceptor v.ballots j) (row v.ballots b).tally)
carried-grown n small v ok i j b jl jh bl bh Promise = back-grown n small v ok j b jl jh bl bh _
    (promise-word n b (v.ctl j).proposal i (report (row v.ballots b) i) (reported_word v.ballots b i) (acceptor v.ballots j) (row v.ballots b).tally)
carried-grown n small v ok i j b jl jh bl bh Accept = back-grown n small v ok j b jl jh bl bh _ (accept-word n b None (row v.ballots b).tally.word (acceptor v.ballots j) (row v.ballots b).tally)
carried-grown n small v ok i j b jl jh bl bh Accepted = λ c. grown-refl (row v.ballots c)

pub ballots-grown : (n f : ℕ) → n ≤ limit → (v : View) (e : BallotEvent) → Balloted n v → accepts n f v (OfBallots e) ≡ true → (c : ℕ)
    → Grown (row v.ballots c) (row (ballots_after n v.ballots (v.ctl (ballot_subject e)).proposal e) c)
unfolding accepts first_no is_controller is_ballot ballots_after
ballots-grown n f small v (Open i b) ok q =
    back-grown n small v ok i b (leb-true _ _ (search (ask_l, ask_r, and_l, and_r) depth 14)) (leb-true _ _ (search (ask_l, ask_r, and_l, and_r) depth 14)) (leb-true _ _ (search (ask_l, ask_r, and_l, and_r) depth 14)) (leb-true _ _ (search (ask_l, ask_r, and_l, and_r) depth 14))
    _ (open-word n b (v.ctl i).proposal i (acceptor v.ballots i) (row v.ballots b).tally)
ballots-grown n f small v (Carry i j k b) ok q =
    carried-grown n small v ok i j b (leb-true _ _ (search (ask_l, ask_r, and_l, and_r) depth 14)) (leb-true _ _ (search (ask_l, ask_r, and_l, and_r) depth 14))
    (leb-true _ _ (search (ask_l, ask_r, and_l, and_r) depth 14)) (leb-true _ _ (search (ask_l, ask_r, and_l, and_r) depth 14)) k

-- every event ----------------------------------------------------------------------

cleared-balloted : (n : ℕ) (v : View) (i : ℕ) (k : Condition) → is_running k ≡ false → Balloted n v → Balloted n (commit_v v i (becomes (cleared k (v.ctl i))))
cleared-balloted n v i k z ok = commit-balloted n v i _ ok (λ r. absurd (cleared-idle k (v.ctl i) z r)) (cleared_steady k (v.ctl i) z)

restored-idle : (n f : ℕ) (v : View) (i : ℕ) → is_stopped (v.ctl i).condition ≡ true → Balloted n v → Balloted n (perform_v n f v (Restore i))
unfolding perform_v
restored-idle n f v i z ok = restore_cases (λ a. Balloted n (commit_v v i a)) (identity_v n f v i) (v.saved i) (v.ctl i)
    (λ x q y. cleared-balloted n v i (Standby _) refl ok)
    (commit-balloted n v i (passing_over (v.ctl i)) ok (λ r. unfold passing_over in r) (passed_steady (v.ctl i)))

decided-balloted : (n : ℕ) (v : View) (i : ℕ) (w : Bool) → Balloted n v → cond v.own (is_chosen n v.ballots w) true ≡ true → Balloted n (commit_v (chosen v w) i (becomes (conclude (v.ctl i) (word_of w))))
decided-balloted n v i w ok c = commit-balloted n (chosen v w) i (becomes (conclude (v.ctl i) (word_of w))) (chosen-balloted n v w ok (λ own. chosen_found n v.ballots w (rw own at c)))
    (λ r. unfold chosen in ran (unfold becomes in r)) (unfold chosen in decide_steady n n (v.ctl i) (word_of w))
  where
    ran : runs (conclude (v.ctl i) (word_of w)) ≡ true → runs (v.ctl i) ≡ true
    ran r = unfold conclude in sym (noting-runs (v.ctl i).condition (word_of w)) ∙ r

pub perform-balloted : (n f : ℕ) → n ≤ limit → (v : View) (e : Event) → Balloted n v → accepts n f v e ≡ true → Balloted n (perform_v n f v e)
unfolding perform_v accepts first_no is_controller is_ballot ballots_after
perform-balloted n f small v (Lock a c own) ok q = ok
perform-balloted n f small v (Order o) ok q = opened-balloted n f v o
perform-balloted n f small v (Cast i w t) ok q = commit-balloted n v i _ ok (λ _. search (ask_l, ask_r, and_l, and_r) depth 14) (vote_steady n f (v.ctl i) i w t)
perform-balloted n f small v (Deliver i j k) ok q = commit-balloted n v j _ ok (λ _. search (ask_l, ask_r, and_l, and_r) depth 14) (arrives_steady n f (v.ctl j) k i _)
perform-balloted n f small v (Timeout i) ok q = commit-balloted n v i _ ok (λ _. search (ask_l, ask_r, and_l, and_r) depth 14) (timeout_steady n f (v.ctl i) i)
perform-balloted n f small v (Decide i w) ok q = decided-balloted n v i w ok (search (ask_l, ask_r, and_l, and_r) depth 14)
perform-balloted n f small v (Stop i) ok q = cleared-balloted n v i Stopped refl ok
perform-balloted n f small v (Save i) ok q = saved-balloted n f v i ok
perform-balloted n f small v (Restore i) ok q = restored-idle n f v i (search (ask_l, ask_r, and_l, and_r) depth 14) ok
perform-balloted n f small v (OfBallots (Open i b)) ok q =
    opened_by n small v ok i b (leb-true _ _ (search (ask_l, ask_r, and_l, and_r) depth 14)) (leb-true _ _ (search (ask_l, ask_r, and_l, and_r) depth 14)) (leb-true _ _ (search (ask_l, ask_r, and_l, and_r) depth 14)) (leb-true _ _ (search (ask_l, ask_r, and_l, and_r) depth 14))
    (search (ask_l, ask_r, and_l, and_r) depth 14) (search (ask_l, ask_r, and_l, and_r) depth 14) (not-true _ (search (ask_l, ask_r, and_l, and_r) depth 14)) (sym (eqb-true _ _ (search (ask_l, ask_r, and_l, and_r) depth 14))) (not-true _ (search (ask_l, ask_r, and_l, and_r) depth 14))
perform-balloted n f small v (OfBallots (Carry i j k b)) ok q =
    carried-balloted n small v ok i j b (leb-true _ _ (search (ask_l, ask_r, and_l, and_r) depth 14)) (leb-true _ _ (search (ask_l, ask_r, and_l, and_r) depth 14)) (leb-true _ _ (search (ask_l, ask_r, and_l, and_r) depth 14)) (leb-true _ _ (search (ask_l, ask_r, and_l, and_r) depth 14))
    (leb-true _ _ (search (ask_l, ask_r, and_l, and_r) depth 14)) (leb-true _ _ (search (ask_l, ask_r, and_l, and_r) depth 14)) (search (ask_l, ask_r, and_l, and_r) depth 14) k (search (ask_l, ask_r, and_l, and_r) depth 14)

pub step-balloted : (n f : ℕ) → n ≤ limit → (v : View) (e : Event) → Balloted n v → Balloted n (step_v n f v e)
unfolding step_v
step-balloted n f small v e ok = by_cond (Balloted n) (accepts n f v e) (perform_v n f v e) v (λ q. perform-balloted n f small v e ok q) (λ _. ok)
