-- The moments of the list of events left are moments of the list of acts, through the list one act at a time; what a step back undoes is the last event
-- left; how many are remembered. Rests on Theorem.
use Prim.Native.Nat.{ℕ, suc, ◌≤◌, min}
use mathlib.Core.Path.{◌≡◌, refl, sym, ◌∙◌, ap, subst}
use mathlib.Core.Bool.{Bool, true, false, cond, false≢true}
use mathlib.Core.List.{List, [], ◌∷◌, ◌++◌, map, append_assoc, append-nil, head-eq_of_cons-eq, tail-eq_of_cons-eq, nil≢cons}
use mathlib.Core.Logic.{◌⊎◌, inl, inr}
use native.Mathlib.Omega.{arith}
use lib.ListN.{take, length, length-take}
use Rattle.ground.specs.Tests.{split}
use Rattle.model.specs.QuestionLaws.{is-accepted, all_yes, yes-all}
use Rattle.model.specs.Questions.{accepted, refused, is_accepted, unless, first_no}
use Rattle.model.specs.declared.Event.{Event}
use Rattle.model.specs.declared.Event.TheVariants.{Lock, Order, Cast, Deliver, Timeout, Decide, Stop, Save, Restore, OfBallots}
use Rattle.protocol.specs.declared.Bench.{Bench}
use Rattle.protocol.specs.Benches.{new_bench}
use Rattle.protocol.specs.Questions.{reply}
use Rattle.protocol.specs.Steps.{step, run}
use Rattle.protocol.specs.Claim.{after}
use Rattle.steps_back.specs.Memory.{Remembering, new_remembering, can_be_undone, most_remembered, past_after, set_back, is_some, answer, done, next, run_acts, without_last, left_from, left}
use Rattle.steps_back.specs.Claim.{at, bench, remembers, Accepted, NoLock, Came, Undoes}
use Rattle.model.specs.declared.Act.{Act}
use Rattle.model.specs.declared.Act.TheVariants.{Play, Back}
use Rattle.protocol.proofs.view.Kinds.{locks-or_locked}
use Rattle.protocol.proofs.lists.Moments.{accepted-is, step-locked}
use Rattle.steps_back.proofs.Theorem.{without_snoc, run_snoc, Found, found, find, inv, left-taken, at-taken, left-refused, at-refused}

-- where an element of a list with one more at its end stands: it is that one, or it stands in the list
record Last (l : List Event) (x : Event) (es : List Event) (e : Event) : Type 0 where
  front : es ≡ l
  same : e ≡ x

record Inside (l es : List Event) (e : Event) : Type 0 where
  rest : List Event
  parts : l ≡ es ++ (e ∷ rest)

nothing-there : (es : List Event) (e : Event) (rest : List Event) → [] ≡ es ++ (e ∷ rest) → ⊥
nothing-there [] e rest p = nil≢cons p
nothing-there (x ∷ es) e rest p = nil≢cons p

where_it-is : (l : List Event) (x : Event) (es : List Event) (e : Event) (rest : List Event) → l ++ (x ∷ []) ≡ es ++ (e ∷ rest) → Last l x es e ⊎ Inside l es e
where_it-is [] x [] e rest p = inl (record { front = refl; same = sym (head-eq_of_cons-eq p) })
where_it-is [] x (y ∷ es) e rest p = absurd (nothing-there es e rest (tail-eq_of_cons-eq p))
where_it-is (y ∷ l) x [] e rest p = inr (record { rest = l; parts = ap (λ (z : Event). z ∷ l) (head-eq_of_cons-eq p) })
where_it-is (y ∷ l) x (z ∷ es) e rest p = elim (where_it-is l x es e rest (tail-eq_of_cons-eq p)) [
  | inl a ↦ inl (record { front = ap (λ (m : List Event). z ∷ m) a.front ∙ ap (λ (w : Event). w ∷ l) (sym (head-eq_of_cons-eq p)); same = a.same })
  | inr i ↦ inr (record { rest = i.rest; parts = ap (λ (m : List Event). y ∷ m) i.parts ∙ ap (λ (w : Event). w ∷ (es ++ (e ∷ i.rest))) (head-eq_of_cons-eq p) })
]

-- every event that is left came so
Cames : List Act → Type 0
Cames acts = (es : List Event) (e : Event) (rest : List Event) → left acts ≡ es ++ (e ∷ rest) → Came acts es e

later : (acts : List Act) (a : Act) (es : List Event) (e : Event) → Came acts es e → Came (acts ++ (a ∷ [])) es e
later acts a es e k = record {
  before = k.before;
  since = k.since ++ (a ∷ []);
  parts = ap (λ (l : List Act). l ++ (a ∷ [])) k.parts ∙ append_assoc k.before (Play e ∷ k.since) (a ∷ []);
  taken = k.taken;
  was-left = k.was-left;
}

came_play : (acts : List Act) (x : Event) → Accepted acts (Play x) → Cames acts → Cames (acts ++ (Play x ∷ []))
unfolding Cames
came_play acts x ok ks es e rest p = elim (where_it-is (left acts) x es e rest (sym (left-taken acts (Play x) ok) ∙ p)) [
  | inl a ↦ subst (λ (y : Event). Came (acts ++ (Play x ∷ [])) es y) (sym a.same) (record { before = acts; since = []; parts = refl; taken = ok; was-left = sym a.front })
  | inr i ↦ later acts (Play x) es e (ks es e i.rest i.parts)
]

came-back : (acts : List Act) → Accepted acts Back → Cames acts → Cames (acts ++ (Back ∷ []))
unfolding Cames
came-back acts ok ks es e rest p =
    let f : Found (at acts) (left acts) = find (at acts) (left acts) (inv acts) ok in
    let now : left (acts ++ (Back ∷ [])) ≡ f.rest = left-taken acts Back ok ∙ ap without_last f.parts ∙ without_snoc f.rest f.event in
    later acts Back es e (ks es e (rest ++ (f.event ∷ [])) (f.parts ∙ ap (λ (l : List Event). l ++ (f.event ∷ [])) (sym now ∙ p) ∙ append_assoc es (e ∷ rest) (f.event ∷ [])))

came_refused : (acts : List Act) (a : Act) → is_accepted (answer (at acts) a) ≡ false → Cames acts → Cames (acts ++ (a ∷ []))
unfolding Cames
came_refused acts a q ks es e rest p = later acts a es e (ks es e rest (sym (left-refused acts a q) ∙ p))

came-taken : (acts : List Act) (a : Act) → Accepted acts a → Cames acts → Cames (acts ++ (a ∷ []))
came-taken acts (Play e) ok ks = came_play acts e ok ks
came-taken acts Back ok ks = came-back acts ok ks

came-one : (acts : List Act) (a : Act) → Cames acts → Cames (acts ++ (a ∷ []))
came-one acts a ks = elim (split (is_accepted (answer (at acts) a))) [
  | inl t ↦ came-taken acts a (is-accepted (answer (at acts) a) t) ks
  | inr q ↦ came_refused acts a q ks
]

came-more : (acts more : List Act) → Cames acts → Cames (acts ++ more)
came-more acts [] ks = subst Cames (sym (append-nil acts)) ks
came-more acts (a ∷ more) ks = subst Cames (append_assoc acts (a ∷ []) more) (came-more (acts ++ (a ∷ [])) more (came-one acts a ks))

pub moments : (acts : List Act) (es : List Event) (e : Event) (rest : List Event) → left acts ≡ es ++ (e ∷ rest) → Came acts es e
unfolding Cames left_from
moments acts = came-more [] acts (λ es e rest p. absurd (nothing-there es e rest p))

pub as-left : (acts : List Act) → bench acts ≡ after (left acts)
as-left acts = (inv acts).bench

-- "lock events cannot be undone", and all others can
is_no-lock : (e : Event) → can_be_undone e ≡ true → NoLock e
is_no-lock e u n f own same = false≢true (subst (λ (x : Event). can_be_undone x ≡ true) same u)

pub undoable : (e : Event) → NoLock e → can_be_undone e ≡ true
undoable (Lock n f own) h = absurd (h n f own refl)
undoable (Order o) h = refl
undoable (Cast i willing target) h = refl
undoable (Deliver i j kind) h = refl
undoable (Timeout i) h = refl
undoable (Decide i move) h = refl
undoable (Stop i) h = refl
undoable (Save i) h = refl
undoable (Restore i) h = refl
undoable (OfBallots e) h = refl

pub undoes : (acts : List Act) → Accepted acts Back → Undoes acts
undoes acts ok =
    let f : Found (at acts) (left acts) = find (at acts) (left acts) (inv acts) ok in
    let k : Came acts f.rest f.event = moments acts f.rest f.event [] f.parts in
    record {
      rest = f.rest;
      event = f.event;
      last = f.parts;
      no-lock = is_no-lock f.event f.no-lock;
      came = k;
      as_before = ap (λ (s : Remembering). s.bench) (at-taken acts Back ok) ∙ f.inv.bench ∙ ap after (sym k.was-left) ∙ sym (as-left k.before);
      now-left = left-taken acts Back ok ∙ ap without_last f.parts ∙ without_snoc f.rest f.event;
    }

-- each event's answer, and a refused act
pub answers : (acts : List Act) (e : Event) → answer (at acts) (Play e) ≡ reply (after (left acts)) e
unfolding answer
answers acts e = ap (λ (b : Bench). reply b e) (as-left acts)

pub untouched : (acts : List Act) (a : Act) (q : ℕ) → answer (at acts) a ≡ refused q → at (acts ++ (a ∷ [])) ≡ at acts
untouched acts a q e = at-refused acts a (ap is_accepted e)

-- with no step back
pub plain-one : (s : Remembering) (e : Event) → (next s (Play e)).bench ≡ step s.bench e
unfolding next answer done step
plain-one s e = elim (split (is_accepted (reply s.bench e))) [
  | inl t ↦ rw t refl
  | inr q ↦ rw q refl
]

plain-from : (es : List Event) (s : Remembering) → (run_acts s (map Play es)).bench ≡ run s.bench es
unfolding run_acts run
plain-from [] s = refl
plain-from (e ∷ es) s = plain-from es (next s (Play e)) ∙ ap (λ (b : Bench). run b es) (plain-one s e)

pub plain : (es : List Event) → bench (map Play es) ≡ after es
plain es = plain-from es new_remembering

-- how many are remembered
pub one_more : (acts : List Act) (e : Event) → Accepted acts (Play e) → NoLock e → remembers (acts ++ (Play e ∷ [])) ≡ min most_remembered (suc (remembers acts))
unfolding done past_after
one_more acts e ok h = ap (λ (s : Remembering). length s.past) (at-taken acts (Play e) ok)
    ∙ ap (λ (t : Bool). length (cond t (take most_remembered ((at acts).bench ∷ (at acts).past)) [])) (undoable e h) ∙ length-take most_remembered ((at acts).bench ∷ (at acts).past)

pub none-at-lock : (acts : List Act) (n f : ℕ) (own : Bool) → Accepted acts (Play (Lock n f own)) → remembers (acts ++ (Play (Lock n f own) ∷ [])) ≡ 0
unfolding done past_after
none-at-lock acts n f own ok = ap (λ (s : Remembering). length s.past) (at-taken acts (Play (Lock n f own)) ok)

fewer : (b : Bench) (past : List Bench) → is_some past ≡ true → suc (length (done (record { bench = b; past = past }) Back).past) ≡ length past
unfolding done set_back
fewer b [] some = absurd (false≢true some)
fewer b (old ∷ older) some = refl

pub one_fewer : (acts : List Act) → Accepted acts Back → suc (remembers (acts ++ (Back ∷ []))) ≡ remembers acts
unfolding answer
one_fewer acts ok = ap (λ (s : Remembering). suc (length s.past)) (at-taken acts Back ok) ∙ fewer (at acts).bench (at acts).past (all_yes _ ok).1.0

some-there : (past : List Bench) → 1 ≤ length past → is_some past ≡ true
some-there [] h = absurd (omega arith)
some-there (b ∷ past) h = refl

none-there : (past : List Bench) → length past ≡ 0 → is_some past ≡ false
none-there [] h = refl
none-there (b ∷ past) h = absurd (omega arith)

-- a lock is set up where an event is remembered: that was asked of it
has-lock : (b : Bench) (e : Event) → can_be_undone e ≡ true → reply b e ≡ accepted → b.shared.locked ≡ true
has-lock b e u ok = elim (locks-or_locked b e (accepted-is _ ok)) [ inl l ↦ absurd (false≢true (sym (ap can_be_undone l.is) ∙ u)) | inr h ↦ h ]

lock-there : (acts : List Act) → is_some (at acts).past ≡ true → (bench acts).shared.locked ≡ true
lock-there acts some =
    let f : Found (at acts) (left acts) = found (at acts).bench (at acts).past (left acts) (inv acts).past some in
    let k : Came acts f.rest f.event = moments acts f.rest f.event [] f.parts in
    let ok : reply (after f.rest) f.event ≡ accepted = ap (λ (es : List Event). reply (after es) f.event) (sym k.was-left) ∙ sym (answers k.before f.event) ∙ k.taken in
    let now : bench acts ≡ step (after f.rest) f.event = as-left acts ∙ ap after f.parts ∙ run_snoc f.rest f.event new_bench in
    subst (λ (b : Bench). b.shared.locked ≡ true) (sym now) (step-locked (after f.rest) f.event (has-lock (after f.rest) f.event f.no-lock ok))

can : (acts : List Act) → is_some (at acts).past ≡ true → Accepted acts Back
unfolding answer
can acts some = yes-all _ (lock-there acts some, (some, tt))

pub something : (acts : List Act) → 1 ≤ remembers acts → Accepted acts Back
something acts h = can acts (some-there (at acts).past h)

pub no-lock_yet : (acts : List Act) → (bench acts).shared.locked ≡ false → answer (at acts) Back ≡ refused 5
unfolding answer first_no unless
no-lock_yet acts l = rw l refl

pub nothing : (acts : List Act) → (bench acts).shared.locked ≡ true → remembers acts ≡ 0 → answer (at acts) Back ≡ refused 26
unfolding answer first_no unless
nothing acts l h = rw (l, none-there (at acts).past h) refl

-- an event, and a step back right after it
module _ (acts : List Act) (e : Event) (ok : Accepted acts (Play e)) (h : NoLock e) where
  some_then : is_some (at (acts ++ (Play e ∷ []))).past ≡ true
  unfolding done past_after
  some_then = ap (λ (s : Remembering). is_some s.past) (at-taken acts (Play e) ok)
      ∙ ap (λ (t : Bool). is_some (cond t (take most_remembered ((at acts).bench ∷ (at acts).past)) [])) (undoable e h)

  pub tried-left : left (acts ++ (Play e ∷ Back ∷ [])) ≡ left acts
  tried-left = ap left (sym (append_assoc acts (Play e ∷ []) (Back ∷ []))) ∙ left-taken (acts ++ (Play e ∷ [])) Back (can (acts ++ (Play e ∷ [])) some_then)
      ∙ ap without_last (left-taken acts (Play e) ok) ∙ without_snoc (left acts) e

  pub tried : bench (acts ++ (Play e ∷ Back ∷ [])) ≡ bench acts
  tried = as-left (acts ++ (Play e ∷ Back ∷ [])) ∙ ap after tried-left ∙ sym (as-left acts)
