-- The statement's moments and the log of an order: an event stands in the log at its place exactly when it was accepted in the order of that moment.
-- Along the list: an event that concerns one controller enters the log, any other begins it anew (view/Kinds).
use Prim.Native.Nat.{ℕ}
use mathlib.Core.Path.{◌≡◌, refl, sym, ◌∙◌, ap, subst}
use mathlib.Core.Bool.{Bool, true, false, false≢true, not, ◌||◌, cond}
use mathlib.Core.List.{List, [], ◌∷◌, ◌++◌}
use native.Mathlib.Omega.{arith}
use mathlib.Core.Logic.{◌⊎◌, inl, inr}
use Rattle.ground.specs.Tests.{no_both, split, by_cond, or_no, or_no_l, or_no_r}
use Rattle.model.specs.QuestionLaws.{is-accepted}
use Rattle.model.specs.Ranges.{sizes_in_range}
use Rattle.model.specs.declared.Event.{Event}
use Rattle.model.specs.declared.Event.TheVariants.{Lock}
use Rattle.protocol.specs.declared.Bench.{Bench}
use Rattle.protocol.specs.Benches.{new_bench, bench_of}
use Rattle.protocol.specs.Events.{concerns_one}
use Rattle.protocol.specs.Questions.{Reply, accepted, is_accepted, unless, first_no, reply}
use Rattle.protocol.specs.Steps.{order_opened, perform, step, run}
use Rattle.protocol.specs.Claim.{after, opens_order, opens_any, InOrder}
use Rattle.protocol.proofs.view.Kinds.{by_sort, one, locks-or_locked}
use Rattle.protocol.proofs.clean.Log.{In, entered}

pub accepted-is : (r : Reply) → r ≡ accepted → is_accepted r ≡ true
accepted-is r e = rw e

-- the accepted events of the order that is open, newest first
unfoldable pub push : Bench → Event → List Event → List Event
push b e log = cond (is_accepted (reply b e)) (entered e log) log

unfoldable pub log_of : Bench → List Event → List Event → List Event
log_of b log [] = log
log_of b log (e ∷ es) = log_of (step b e) (push b e log) es

abbrev pub log_at : List Event → List Event
log_at es = log_of new_bench [] es

-- lists ------------------------------------------------------------------

head : Event → List Event → Event
head d [] = d
head d (x ∷ l) = x

tail : List Event → List Event
tail [] = []
tail (x ∷ l) = l

pub same_head : (x y : Event) (l m : List Event) → (x ∷ l) ≡ (y ∷ m) → x ≡ y
unfolding head
same_head x y l m e = ap (head x) e

pub same_tail : (x y : Event) (l m : List Event) → (x ∷ l) ≡ (y ∷ m) → l ≡ m
unfolding tail
same_tail x y l m e = ap tail e

empty_no : (x : Event) (l : List Event) → [] ≡ (x ∷ l) → ⊥
empty_no x l e = let z : ◌≡◌ {A = ℕ} 0 1 = cc in omega arith

pub nil_split : (x : Event) (earlier later : List Event) → [] ≡ later ++ (x ∷ earlier) → ⊥
nil_split x earlier [] e = empty_no x earlier e
nil_split x earlier (y ∷ later) e = empty_no y _ e

pub append_assoc : (xs ys zs : List Event) → xs ++ (ys ++ zs) ≡ (xs ++ ys) ++ zs
append_assoc [] ys zs = refl
append_assoc (x ∷ xs) ys zs = ap (λ (l : List Event). x ∷ l) (append_assoc xs ys zs)

pub run-append : (es es' : List Event) (b : Bench) → run b (es ++ es') ≡ run (run b es) es'
unfolding run
run-append [] es' b = refl
run-append (e ∷ es) es' b = run-append es es' (step b e)

pub run-one : (e : Event) (b : Bench) → run b (e ∷ []) ≡ step b e
unfolding run
run-one e b = refl

pub run-cons : (e : Event) (es : List Event) (b : Bench) → run b (e ∷ es) ≡ run (step b e) es
unfolding run
run-cons e es b = refl

-- a refused event leaves the bench
pub refused-step : (b : Bench) (e : Event) → is_accepted (reply b e) ≡ false → step b e ≡ b
refused-step b e q = unfold step in rw q

pub log-append : (es es' : List Event) (b : Bench) (log : List Event) → log_of b log (es ++ es') ≡ log_of (run b es) (log_of b log es) es'
unfolding log_of run
log-append [] es' b log = refl
log-append (e ∷ es) es' b log = log-append es es' (step b e) (push b e log)

pub record Split (e : Event) (log : List Event) : Type 0 where
  pub earlier : List Event
  pub later : List Event
  pub parts : log ≡ later ++ (e ∷ earlier)

in_split : (e : Event) (log : List Event) → In e log → Split e log
in_split e [] m = absurd m
in_split e (x ∷ log) (inl q) = record { earlier = log; later = []; parts = ap (λ (z : Event). z ∷ log) (sym q) }
in_split e (x ∷ log) (inr m) = let s : Split e log = in_split e log m in record { earlier = s.earlier; later = x ∷ s.later; parts = ap (λ (l : List Event). x ∷ l) s.parts }

split_in : (e : Event) (later earlier : List Event) → In e (later ++ (e ∷ earlier))
split_in e [] earlier = inl refl
split_in e (y ∷ later) earlier = inr (split_in e later earlier)

-- events that enter the log ----------------------------------------------------

-- an event that concerns one controller enters the log and opens no order; any other begins the log anew
pub record Entry (b : Bench) (e : Event) : Type 0 where
  pub adds : (log : List Event) → entered e log ≡ (e ∷ log)
  pub opens : opens_order b e ≡ false

pub entry_of : (b : Bench) (e : Event) → concerns_one e ≡ true → Entry b e
unfolding entered
entry_of b e c = record { adds = λ log. ap (λ (t : Bool). cond t (e ∷ log) []) c; opens = (one b e c).opens }

entry : (b : Bench) (e : Event) → ((log : List Event) → entered e log ≡ []) ⊎ Entry b e
unfolding entered
entry b e = elim (split (concerns_one e)) [ inl c ↦ inr (entry_of b e c) | inr c ↦ inl (λ log. ap (λ (t : Bool). cond t (e ∷ log) []) c) ]

-- a refused event opens no order
pub refused-opens : (b : Bench) (e : Event) → is_accepted (reply b e) ≡ false → opens_order b e ≡ false
refused-opens b = by_sort (λ e. is_accepted (reply b e) ≡ false → opens_order b e ≡ false) (λ n f own q. refl) (λ o q. q) (λ e c q. (one b e c).opens)

-- from the log to the list ---------------------------------------------------------

-- where an event of the log came from, after events es put to a bench b with a log
record Origin (b : Bench) (log : List Event) (es : List Event) (e : Event) (earlier : List Event) : Type 0 where
  before : List Event
  rest : List Event
  parts : es ≡ before ++ (e ∷ rest)
  taken : reply (run b before) e ≡ accepted
  same : opens_any (run b before) (e ∷ rest) ≡ false
  was : log_of b log before ≡ earlier

-- or it was in the log already, and no order has begun
record Older (b : Bench) (log : List Event) (es : List Event) (e : Event) (earlier : List Event) : Type 0 where
  later : List Event
  parts : log ≡ later ++ (e ∷ earlier)
  same : opens_any b es ≡ false

older-step : (b : Bench) (x e : Event) (log es earlier later : List Event) → opens_any (step b x) es ≡ false → push b x log ≡ later ++ (e ∷ earlier) → Older b log (x ∷ es) e earlier ⊎ Origin b log (x ∷ es) e earlier
unfolding push opens_any log_of run
older-step b x e log es earlier later o p = elim (split (is_accepted (reply b x))) [
  | inr q ↦ inl (record { later = later; parts = (rw q at p); same = or_no (opens_order b x) (opens_any (step b x) es) (refused-opens b x q) o })
  | inl q ↦ elim (entry b x) [
    | inl z ↦ absurd (nil_split e earlier later (sym (z log) ∙ (rw q at p)))
    | inr y ↦ enter later (sym (y.adds log) ∙ (rw q at p)) y q
  ]
]
  where
    enter : (later : List Event) → (x ∷ log) ≡ later ++ (e ∷ earlier) → Entry b x → is_accepted (reply b x) ≡ true → Older b log (x ∷ es) e earlier ⊎ Origin b log (x ∷ es) e earlier
    enter [] p y q = inr (record {
      before = [];
      rest = es;
      parts = ap (λ (z : Event). z ∷ es) (same_head x e log earlier p);
      taken = subst (λ (z : Event). reply b z ≡ accepted) (same_head x e log earlier p) (is-accepted (reply b x) q);
      same = subst (λ (z : Event). (opens_order b z || opens_any (step b z) es) ≡ false) (same_head x e log earlier p) (or_no (opens_order b x) (opens_any (step b x) es) y.opens o);
      was = same_tail x e log earlier p;
    })
    enter (z ∷ later) p y q = inl (record { later = later; parts = same_tail x z log _ p; same = or_no (opens_order b x) (opens_any (step b x) es) y.opens o })

origin : (es : List Event) (b : Bench) (log : List Event) (e : Event) (earlier later : List Event) → log_of b log es ≡ later ++ (e ∷ earlier) → Older b log es e earlier ⊎ Origin b log es e earlier
unfolding log_of run opens_any
origin [] b log e earlier later p = inl (record { later = later; parts = p; same = refl })
origin (x ∷ es) b log e earlier later p = elim (origin es (step b x) (push b x log) e earlier later p) [
  | inl o ↦ older-step b x e log es earlier o.later o.same o.parts
  | inr o ↦ inr (record { before = x ∷ o.before; rest = o.rest; parts = ap (λ (l : List Event). x ∷ l) o.parts; taken = o.taken; same = o.same; was = o.was })
]

-- what stands in the log at a place was accepted in the order, at the moment whose log is what stood before it
pub record Placed (es : List Event) (e : Event) (earlier : List Event) : Type 0 where
  pub event : InOrder es e
  pub was : log_at event.before ≡ earlier

pub placed : (es : List Event) (e : Event) (earlier later : List Event) → log_at es ≡ later ++ (e ∷ earlier) → Placed es e earlier
placed es e earlier later p = elim (origin es new_bench [] e earlier later p) [
  | inl o ↦ absurd (nil_split e earlier o.later o.parts)
  | inr o ↦ record { event = record { before = o.before; rest = o.rest; parts = o.parts; taken = o.taken; same = o.same }; was = o.was }
]

pub in_order : (es : List Event) (e : Event) → In e (log_at es) → InOrder es e
in_order es e m = let s : Split e (log_at es) = in_split e (log_at es) m in (placed es e s.earlier s.later s.parts).event

-- from the list to the log -----------------------------------------------------------

-- an event that enters the log is asked for a lock, a bench keeps its lock, and then refuses another
has-lock : (b : Bench) (e : Event) → concerns_one e ≡ true → reply b e ≡ accepted → b.shared.locked ≡ true
has-lock b e c q = elim (locks-or_locked b e (accepted-is _ q)) [ inl l ↦ absurd (false≢true (ap concerns_one (sym l.is) ∙ c)) | inr h ↦ h ]

perform-locked : (b : Bench) (e : Event) → b.shared.locked ≡ true → (perform b e).shared.locked ≡ true
unfolding perform bench_of order_opened
perform-locked b e h = by_sort (λ e. (perform b e).shared.locked ≡ true) (λ n f own. refl) (λ o. h) (λ e c. (one b e c).locked ∙ h) e

pub step-locked : (b : Bench) (e : Event) → b.shared.locked ≡ true → (step b e).shared.locked ≡ true
unfolding step
step-locked b e h = by_cond (λ (x : Bench). x.shared.locked ≡ true) (is_accepted (reply b e)) (perform b e) b (λ q. perform-locked b e h) (λ q. h)

pub lock-refused : (b : Bench) (a c : ℕ) (own : Bool) → b.shared.locked ≡ true → is_accepted (reply b (Lock a c own)) ≡ false
unfolding reply first_no unless
lock-refused b a c own h = by (sizes_in_range a c)
  where
    by : (t : Bool) → is_accepted (unless 4 t (unless 6 (not b.shared.locked) accepted)) ≡ false
    by true = unfold unless in rw h
    by false = unfold unless in refl

-- with a lock, an event that opens no order only adds to the log
record Grew (log log' : List Event) : Type 0 where
  later : List Event
  is : log' ≡ later ++ log

grew-step : (b : Bench) (x : Event) (log : List Event) → b.shared.locked ≡ true → opens_order b x ≡ false → Grew log (push b x log)
unfolding push
grew-step b x log h o = elim (split (is_accepted (reply b x))) [
  | inr q ↦ rw q (record { later = []; is = refl })
  | inl q ↦ rw q (by_kind x q o)
]
  where
    by_kind : (x : Event) → is_accepted (reply b x) ≡ true → opens_order b x ≡ false → Grew log (entered x log)
    by_kind = by_sort (λ x. is_accepted (reply b x) ≡ true → opens_order b x ≡ false → Grew log (entered x log)) (λ n f own q o. absurd (no_both _ q (lock-refused b n f own h))) (λ o q z. absurd (no_both _ q z))
        (λ x c q o. record { later = x ∷ []; is = (entry_of b x c).adds log })

grew : (es : List Event) (b : Bench) (log : List Event) → b.shared.locked ≡ true → opens_any b es ≡ false → Grew log (log_of b log es)
unfolding log_of opens_any
grew [] b log h o = record { later = []; is = refl }
grew (x ∷ es) b log h o =
    let g : Grew log (push b x log) = grew-step b x log h (or_no_l (opens_order b x) _ o) in
    let k : Grew (push b x log) (log_of (step b x) (push b x log) es) = grew es (step b x) (push b x log) (step-locked b x h) (or_no_r (opens_order b x) _ o) in
    record { later = k.later ++ g.later; is = k.is ∙ ap (λ (l : List Event). k.later ++ l) g.is ∙ append_assoc k.later g.later log }

-- an event accepted in the order stands in the log, before it what the log was at its moment
pub record Stands (es : List Event) (e : Event) (before : List Event) : Type 0 where
  pub later : List Event
  pub is : log_at es ≡ later ++ (e ∷ log_at before)

pub stands : (es : List Event) (e : Event) → concerns_one e ≡ true → (t : InOrder es e) → Stands es e t.before
stands es e u t =
    let b : Bench = after t.before in
    let h : b.shared.locked ≡ true = has-lock b e u t.taken in
    let y : Entry b e = entry_of b e u in
    let g : Grew (push b e (log_at t.before)) (log_of (step b e) (push b e (log_at t.before)) t.rest) = grew t.rest (step b e) (push b e (log_at t.before)) (step-locked b e h) (later-opens b) in
    record { later = g.later; is = ap log_at t.parts ∙ log-append t.before (e ∷ t.rest) new_bench [] ∙ unrolled b ∙ g.is ∙ ap (λ (l : List Event). g.later ++ l) (pushed b y) }
  where
    later-opens : (b : Bench) → opens_any (step (after t.before) e) t.rest ≡ false
    later-opens b = or_no_r (opens_order (after t.before) e) _ (unfold opens_any in t.same)

    unrolled : (b : Bench) → log_of (after t.before) (log_at t.before) (e ∷ t.rest) ≡ log_of (step (after t.before) e) (push (after t.before) e (log_at t.before)) t.rest
    unrolled b = unfold log_of in refl

    pushed : (b : Bench) → Entry (after t.before) e → push (after t.before) e (log_at t.before) ≡ (e ∷ log_at t.before)
    pushed b y = unfold push in rw (accepted-is _ t.taken) (y.adds (log_at t.before))

pub in-log : (es : List Event) (e : Event) → concerns_one e ≡ true → InOrder es e → In e (log_at es)
in-log es e u t = let s : Stands es e t.before = stands es e u t in subst (In e) (sym s.is) (split_in e s.later (log_at t.before))
