-- The bench of the declared types steps as its view does: one list of stations changed at one place is three functions changed at one place; and the test
-- of vote sets, which the view does not make, finds nothing (Clear).
use Prim.Native.Nat.{ℕ, ◌≤◌}
use mathlib.Core.Path.{◌≡◌, refl, sym, ◌∙◌, ap, subst}
use mathlib.Core.Bool.{Bool, true, false, not, cond, ◌&&◌, true≢false, false≢true, and-false, and-true}
use mathlib.Core.List.{List, [], ◌∷◌, map}
use native.Mathlib.Omega.{arith}
use lib.ListN.{length, length-map}
use mathlib.Core.Logic.{inl, inr}
use Rattle.ground.specs.Limit.{limit}
use Rattle.ground.specs.Tests.{split, by_cond}
use Rattle.ground.specs.Update.{upd, fun_ext}
use Rattle.ground.specs.Lists.{nth, put, nth-put, map_at}
use Rattle.model.specs.Ranges.{sizes_in_range}
use Rattle.model.specs.RangeLaws.{Ranges, ranges}
use Rattle.model.specs.declared.Kind.{Kind}
use Rattle.model.specs.declared.Event.{Event}
use Rattle.model.specs.declared.Event.TheVariants.{Order, Deliver, Decide, Save}
use Rattle.protocol.specs.declared.Answer.{Answer}
use Rattle.protocol.specs.declared.Station.{Station}
use Rattle.protocol.specs.declared.Effect.{Effect}
use Rattle.protocol.specs.declared.Bench.{Bench}
use Rattle.protocol.specs.Ballots.{is_chosen}
use Rattle.protocol.specs.Controllers.{cleared}
use Rattle.protocol.specs.Rules.{is_contradicted}
use Rattle.protocol.specs.Calls.{renew}
use Rattle.protocol.specs.Benches.{fresh, fresh_station, station, controller, sent_by}
use Rattle.protocol.specs.Events.{subject, source, answer_to}
use Rattle.protocol.specs.Questions.{Reply, accepted, refused, is_accepted, first_no, may_open, may_give, was_proposed, no_other_word, agrees_at, questions_of, facts_of, reply}
use Rattle.protocol.specs.QuestionLaws.{asked-last}
use Rattle.protocol.specs.NoContradiction.{untested_reply}
use Rattle.protocol.specs.Steps.{renewed, order_opened, effect, put_back, perform_one, perform, step, run}
use Rattle.protocol.proofs.view.View.{View, same_view, ballots_v, may_give_v, put_back_v, opened_v, accepts, play_one_v, ask_l, ask_r, part}
use Rattle.protocol.proofs.view.Kinds.{by_sort, One, one, tests-delivery}
use Rattle.protocol.proofs.view.Performed.{Clear, answer_v, rule_answer, answered_by_rule, answered-back, decided-back, saved-back, perform_v, by-effect, place as inside, step_v, run_v}
use Rattle.protocol.proofs.view.Refusals.{arrives_unrefused}
use Rattle.protocol.proofs.invariant.Invariant.{Inv}
use Rattle.protocol.proofs.invariant.Orders.{step-next, next-inv}
use Rattle.protocol.proofs.ranges.Ranges.{AllIn, step_in}
use Rattle.protocol.proofs.contradictions.Clear.{clear}
use Rattle.protocol.proofs.paxos.Order.{Balloted, passes_18, step-balloted}

unfoldable pub view : Bench → View
view b = record {
  own = b.shared.own;
  order = b.shared.order;
  state = record { sent = λ k. sent_by b k; consensus = b.shared.consensus };
  ctl = λ k. controller b k;
  saved = λ k. (station b k).saved;
  counts = b.shared.counts;
  ballots = b.ballots;
}

-- a part of the stations after one is changed
field : (b : Bench) (i : ℕ) → 1 ≤ i → i ≤ length b.stations → {B : Type 0} (g : Station → B) (s : Station)
    → (λ (k : ℕ). g (nth (fresh_station []) (put b.stations i s) k)) ≡ upd (λ k. g (station b k)) i (g s)
unfolding station
field b i lo hi g s = ap (λ (F : ℕ → Station). λ k. g (F k)) (nth-put (fresh_station []) b.stations i s lo hi) ∙ part g (nth (fresh_station []) b.stations) i s

view-put-back : (b : Bench) (i : ℕ) → 1 ≤ i → i ≤ length b.stations → (t : Effect) → view (put_back b i t) ≡ put_back_v (view b) i t
unfolding view put_back_v station
view-put-back b i lo hi t = same_view _ _ refl refl (field b i lo hi (λ s. s.sent) t.station) refl (field b i lo hi (λ s. s.controller) t.station) (field b i lo hi (λ s. s.saved) t.station) refl refl

renewed-fresh : renewed (fresh_station []) ≡ fresh_station []
unfolding renewed fresh_station fresh renew cleared
renewed-fresh = refl

renewed-at : {B : Type 0} (g : Station → B) (b : Bench) → ◌≡◌ {A = ℕ → B} (λ k. g (nth (fresh_station []) (map renewed b.stations) k)) (λ k. g (renewed (station b k)))
unfolding station
renewed-at g b = fun_ext _ _ (λ k. ap g (map_at renewed (fresh_station []) renewed-fresh b.stations k))

-- what stays in range, whatever the events bring
abbrev pub Any : ℕ → Type 0
Any x = Unit {0}

-- a bench with its lock, which keeps the invariant
pub record Sound (b : Bench) : Type 0 where
  pub locked : b.shared.locked ≡ true
  pub size : length b.stations ≡ limit
  pub sized : sizes_in_range b.shared.n b.shared.f ≡ true
  pub inv : Inv b.shared.n b.shared.f (view b)
  pub ranged : AllIn Any Any tt b.shared.n b.shared.f (view b)
  pub balloted : Balloted b.shared.n (view b)

refused_before : (r x : Reply) → is_accepted r ≡ false → cond (is_accepted r) x r ≡ r
refused_before accepted x e = absurd (true≢false e)
refused_before (refused q) x e = refl

module _ (b : Bench) (ok : Sound b) where
  abbrev n : ℕ
  n = b.shared.n

  abbrev f : ℕ
  f = b.shared.f

  -- behind the questions the test finds nothing
  clear_at : (e : Event) → accepts n f (view b) e ≡ true → Clear n f (view b) e
  clear_at e q = clear Any Any tt n f (ranges n f ok.sized).small (view b) ok.inv ok.ranged e q

  -- the answer that an accepted event is given is the rule's
  pub rule_sim : (e : Event) → accepts n f (view b) e ≡ true → answer_to b.shared e (sent_by b (source e)) (station b (subject e)) ≡ rule_answer n f (view b) e
  rule_sim e q = same ∙ answered_by_rule n f ok.sized (view b) e (clear_at e q) q
    where
      same : answer_to b.shared e (sent_by b (source e)) (station b (subject e)) ≡ answer_v n f (view b) e
      same = unfold view in rw ok.locked

  -- with a lock the view's questions are the bench's, but for 24
  -- at c = 1 a word that a majority took passes document 01's question 18 too: the one place where the ballots' theorem enters
  give-same : (move : Bool) → may_give b.shared b.ballots move ≡ may_give_v b.shared b.ballots move
  give-same move = elim (split b.shared.own) [
    | inl own ↦ rw own (elim (split (is_chosen n b.ballots move)) [
      | inl c ↦ (let p : (was_proposed b.shared.consensus move && no_other_word b.shared.consensus.decision move) ≡ true = (unfold view in passes_18 n (view b) ok.balloted (unfold view in own) move (unfold view in c)) in rw (c, p))
      | inr c ↦ rw c (sym (and-false (was_proposed b.shared.consensus move && no_other_word b.shared.consensus.decision move)))
    ])
    | inr own ↦ rw own (sym (and-true (was_proposed b.shared.consensus move && no_other_word b.shared.consensus.decision move)))
  ]

  untested_sim : (e : Event) → is_accepted (untested_reply b e) ≡ accepts n f (view b) e
  unfolding accepts view
  untested_sim e = ap (λ (g : Bool → Bool). is_accepted (first_no (questions_of (facts_of b.shared b.ballots e (station b (subject e)) (sent_by b (source e)) (may_open b.shared) g true) e))) (λ t w. give-same w t) ∙ (rw ok.locked)

  agrees : (i j : ℕ) (kind : Kind) → accepts n f (view b) (Deliver i j kind) ≡ true → agrees_at b.shared (Deliver i j kind) (sent_by b i) (station b j) ≡ true
  unfolding rule_answer view
  agrees i j kind q = ap (λ (a : Answer). not (is_contradicted a.reception)) (rule_sim (Deliver i j kind) q) ∙ ap not (arrives_unrefused kind n f i _ _).is

  delivery-untested : (i j : ℕ) (kind : Kind) → reply b (Deliver i j kind) ≡ untested_reply b (Deliver i j kind)
  unfolding reply
  delivery-untested i j kind = elim (split (accepts n f (view b) (Deliver i j kind))) [
    | inl q ↦ ap (λ (t : Bool). first_no (questions_of (facts_of b.shared b.ballots (Deliver i j kind) (station b j) (sent_by b i) (may_open b.shared) (may_give b.shared b.ballots) t) (Deliver i j kind))) (agrees i j kind q)
    | inr q ↦ asked-last b.shared b.ballots (may_give b.shared b.ballots) i j kind (station b j) (sent_by b i) (may_open b.shared) (agrees_at b.shared (Deliver i j kind) (sent_by b i) (station b j)) ∙ refused_before _ _ (untested_sim (Deliver i j kind) ∙ q)
  ]

  pub reply-untested : (e : Event) → reply b e ≡ untested_reply b e
  reply-untested e = elim (tests-delivery b e) [ inl d ↦ subst (λ x. reply b x ≡ untested_reply b x) (sym d.is) (delivery-untested d.from d.to d.kind) | inr h ↦ h ]

  pub reply_sim : (e : Event) → is_accepted (reply b e) ≡ accepts n f (view b) e
  reply_sim e = ap (λ (r : Reply). is_accepted r) (reply-untested e) ∙ untested_sim e

  view_open : (o : ℕ) → view (perform b (Order o)) ≡ opened_v n f (view b) o
  unfolding view perform opened_v station renewed order_opened
  view_open o = same_view _ _ refl refl (renewed-at (λ s. s.sent) b) refl (renewed-at (λ s. s.controller) b) (renewed-at (λ s. s.saved) b) refl refl

  -- an event of one controller
  view-one : (e : Event) → perform b e ≡ perform_one b e → (1 ≤ subject e) × (subject e ≤ n) → view (perform b e) ≡ play_one_v n f (view b) e
  view-one e z p = ap view z ∙ view-put-back b (subject e) p.0 (room p.1) (effect b.shared e (sent_by b (source e)) (station b (subject e))) ∙ same
    where
      room : subject e ≤ n → subject e ≤ length b.stations
      room h = let p : length b.stations ≡ limit = ok.size in let q : n ≤ limit = (ranges n f ok.sized).small in omega arith

      same : put_back_v (view b) (subject e) (effect b.shared e (sent_by b (source e)) (station b (subject e))) ≡ play_one_v n f (view b) e
      same = unfold view in rw ok.locked

  perform_sim : (e : Event) → accepts n f (view b) e ≡ true → view (perform b e) ≡ perform_v n f (view b) e
  perform_sim e = by-effect n f (view b) (λ e v. accepts n f (view b) e ≡ true → view (perform b e) ≡ v) (λ a c own q. unfold accepts first_no in absurd (false≢true (ask_l _ _ _ (ask_r _ _ _ q)))) (λ o q. view_open o)
      (λ e x q. view-one e (x.performs b) (inside n f (view b) e x.one q) ∙ answered-back n f ok.sized (view b) e x (clear_at e q) q)
      (λ i w q. view-one (Decide i w) (unfold perform in refl) (inside n f (view b) (Decide i w) refl q) ∙ decided-back n f ok.sized (view b) i w (clear_at (Decide i w) q) q)
      (λ i q. view-one (Save i) (unfold perform in refl) (inside n f (view b) (Save i) refl q) ∙ saved-back n f (view b) i (unfold accepts first_no in search (ask_l, ask_r) depth 14))
      (λ e q. unfold perform view ballots_v station in refl) e

  -- what a step leaves
  pub record Steps (b' : Bench) : Type 0 where
    pub sound : Sound b'
    pub same-n : b'.shared.n ≡ b.shared.n
    pub same-f : b'.shared.f ≡ b.shared.f

  -- of it, the lock and the stations
  record Placed (b' : Bench) : Type 0 where
    locked : b'.shared.locked ≡ true
    size : length b'.stations ≡ limit
    same-n : b'.shared.n ≡ b.shared.n
    same-f : b'.shared.f ≡ b.shared.f

  perform_placed : (e : Event) → accepts n f (view b) e ≡ true → Placed (perform b e)
  perform_placed = by_sort (λ e. accepts n f (view b) e ≡ true → Placed (perform b e)) (λ a c own q. unfold accepts first_no in absurd (false≢true (ask_l _ _ _ (ask_r _ _ _ q))))
      (λ o q. unfold perform order_opened in record { locked = ok.locked; size = length-map b.stations renewed ∙ ok.size; same-n = refl; same-f = refl })
      (λ e c q. let k : One b e = one b e c in record { locked = k.locked ∙ ok.locked; size = k.size ∙ ok.size; same-n = k.same-n; same-f = k.same-f })

  step_placed : (e : Event) → Placed (step b e)
  unfolding step
  step_placed e = by_cond Placed (is_accepted (reply b e)) (perform b e) b (λ q. perform_placed e (sym (reply_sim e) ∙ q)) (λ q. record { locked = ok.locked; size = ok.size; same-n = refl; same-f = refl })

  pub step_sim : (e : Event) → view (step b e) ≡ step_v n f (view b) e
  unfolding step step_v
  step_sim e = elim (split (accepts n f (view b) e)) [
    | inl q ↦ rw (reply_sim e, q) (perform_sim e q)
    | inr q ↦ rw (reply_sim e, q)
  ]

  pub step-performs : (e : Event) → is_accepted (reply b e) ≡ true → view (step b e) ≡ perform_v n f (view b) e
  unfolding step
  step-performs e q = rw q (perform_sim e (sym (reply_sim e) ∙ q))

  pub step_steps : (e : Event) → Steps (step b e)
  step_steps e =
      let t : Placed (step b e) = step_placed e in
      let r : Ranges n f = ranges n f ok.sized in
      let i : Inv n f (step_v n f (view b) e) = next-inv n f r.high r.low r.small (view b) _ (step-next n f r.high r.low r.small (view b) e ok.inv) in
      let a : AllIn Any Any tt n f (step_v n f (view b) e) = step_in Any Any tt n f r.small (view b) e ok.inv (λ q. record { target = λ i w t z. tt; number = λ o z. tt }) ok.ranged in
      record {
        sound = record {
          locked = t.locked;
          size = t.size;
          sized = rw (t.same-n, t.same-f) ok.sized;
          inv = back Inv t i;
          ranged = back (AllIn Any Any tt) t a;
          balloted = back (λ x y v. Balloted x v) t (step-balloted n f r.small (view b) e ok.balloted);
        };
        same-n = t.same-n;
        same-f = t.same-f;
      }
    where
      -- from the view's step to the bench's
      back : (P : ℕ → ℕ → View → Type 0) → Placed (step b e) → P n f (step_v n f (view b) e) → P (step b e).shared.n (step b e).shared.f (view (step b e))
      back P t p = subst (λ (x : ℕ). P x (step b e).shared.f (view (step b e))) (sym t.same-n)
          (subst (λ (x : ℕ). P n x (view (step b e))) (sym t.same-f) (subst (P n f) (sym (step_sim e)) p))

pub record Runs (b b' : Bench) (v : View) : Type 0 where
  pub sound : Sound b'
  pub same-n : b'.shared.n ≡ b.shared.n
  pub same-f : b'.shared.f ≡ b.shared.f
  pub view-is : view b' ≡ v

-- the whole run
pub run_sim : (n f : ℕ) (es : List Event) (b : Bench) → Sound b → b.shared.n ≡ n → b.shared.f ≡ f → Runs b (run b es) (run_v n f (view b) es)
unfolding run run_v
run_sim n f [] b ok p q = record { sound = ok; same-n = refl; same-f = refl; view-is = refl }
run_sim n f (e ∷ es) b ok p q =
    let s : Steps b ok (step b e) = step_steps b ok e in
    let r : Runs (step b e) (run (step b e) es) (run_v n f (view (step b e)) es) = run_sim n f es (step b e) s.sound (s.same-n ∙ p) (s.same-f ∙ q) in
    record {
      sound = r.sound;
      same-n = r.same-n ∙ s.same-n;
      same-f = r.same-f ∙ s.same-f;
      view-is = r.view-is ∙ ap (λ (v : View). run_v n f v es) (step_sim b ok e ∙ ap (λ (x : ℕ). step_v x b.shared.f (view b) e) p ∙ ap (λ (x : ℕ). step_v n x (view b) e) q);
    }
