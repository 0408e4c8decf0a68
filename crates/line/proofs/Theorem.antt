-- The proof of the claim: a lock that calls goes on calling until it is served, and every turn that serves another brings it nearer.
use Prim.Native.Nat.{ℕ, ◌-◌, ◌≤◌, ◌<◌}
use mathlib.Core.Path.{◌≡◌, refl, sym, ◌∙◌, ap}
use mathlib.Core.Bool.{true, false, not, true≢false}
use mathlib.Core.List.{List, [], ◌∷◌, ◌++◌, append_assoc, append-nil}
use native.Mathlib.Omega.{arith}
use native.Mathlib.Decide.{dec_le, ℕ_discrete}
use lib.Dec.{eqb}
use mathlib.Core.Logic.{inl, inr}
use borrow.Author.Tests.{not-true, eqb-true, ne_eqb}
use Rattle.ground.specs.Tests.{split, no_both, refuted, or_l, or_r, eqb_same, or_no_l, or_no_r}
use Rattle.ground.specs.Quantify.{all_to, all-at}
use Rattle.ground.specs.Lists.{nth, put}
use Rattle.line.specs.declared.Line.{Line}
use Rattle.line.specs.declared.Act.{Act}
use Rattle.line.specs.declared.Act.TheVariants.{Turn, Call}
use Rattle.line.specs.declared.Answer.TheVariants.{Served, Nobody}
use Rattle.line.specs.Turns.{new_line, is_lock, calls, ended, call_of, up, first_caller, next, turn_of, perform, run, number}
use Rattle.line.specs.Claim.{after, answer, turns, names, serves_any, latest, last_in, last_served, passed, Calling, KeptSeven, ServesOne, FairLine}
use Rattle.line.proofs.Callers.{caller-low, caller-high, met-high}
use Rattle.line.proofs.Distance.{ahead, ahead_small, up-low, up-high, beyond, Met, first-met, passed-ahead}
use Rattle.line.proofs.Lists.{run-append, run-one}
use Rattle.line.proofs.Steps.{Eight, eight-after, call_in, call-out, turn-none, turn_one, answer_in, answer-out, answer-none, answer-one, lock-low, lock-high, is-lock, next-calls, called-calls, ended-silent, goes_on, stays-silent, others-call, call-again}

-- every line that acts lead to has eight entries
eight-run : (l : Line) (acts : List Act) → Eight l → Eight (run l acts)
unfolding run
eight-run l [] h = h
eight-run l (a ∷ acts) h = eight-run (perform l a).line acts (eight-after l a h)

eight : (acts : List Act) → Eight (after acts)
eight acts = eight-run new_line acts refl

-- where one is calling, one is served, and no later than that one
met : (l : Line) (k : ℕ) → calls l k ≡ true → Met l (up l.last) k (next l)
met l k e = first-met l k e 8 (up l.last) (up-low _) (up-high _) (ahead_small _ k (up-low _) (up-high _) (caller-low l k e) (caller-high l k e))

-- a call leaves the last served as it was, and serves nobody
call-last : (l : Line) (i : ℕ) → (perform l (Call i)).line.last ≡ l.last
call-last l i = elim (split (is_lock i)) [
  | inl t ↦ rw (call_in l i t)
  | inr t ↦ rw (call-out l i t)
]

call-serves : (l : Line) (i k : ℕ) → names k (perform l (Call i)).answer ≡ false
call-serves l i k = elim (split (is_lock i)) [
  | inl t ↦ rw (call_in l i t)
  | inr t ↦ rw (call-out l i t)
]

-- by the time: as many turns as there are locks before it, and one more
by_turn : (acts : List Act) (l : Line) (k n : ℕ) → Eight l → calls l k ≡ true → ahead (up l.last) k < n → n ≤ turns acts → serves_any l k acts ≡ true
unfolding serves_any
by_turn [] l k n h e a t = absurd (omega arith)
by_turn (Call i ∷ acts) l k n h e a t =
    or_r (names k (perform l (Call i)).answer) (serves_any (perform l (Call i)).line k acts)
    (by_turn acts (perform l (Call i)).line k n (eight-after l (Call i) h) (goes_on l (Call i) k h e (call-serves l i k)) (rw (call-last l i) a) t)
by_turn (Turn ∷ acts) l k n h e a t = elim (ℕ_discrete (next l) k) [
  | yes q ↦ or_l (names k (perform l Turn).answer) (serves_any (perform l Turn).line k acts) (rw (one, q) (eqb_same k))
  | no q ↦ or_r (names k (perform l Turn).answer) (serves_any (perform l Turn).line k acts)
      (by_turn acts (perform l Turn).line k (n - 1) (eight-after l Turn h) (goes_on l Turn k h e (passed q)) (rw one (omega (arith, nearer q))) (omega arith))
]
  where
    m : Met l (up l.last) k (next l)
    m = met l k e

    one : perform l Turn ≡ record { line = ended l (next l); answer = Served (next l) }
    one = turn_one l m.some

    passed : (next l ≡ k → ⊥) → names k (perform l Turn).answer ≡ false
    passed q = rw one (ne_eqb k (next l) (λ z. q (sym z)))

    nearer : (next l ≡ k → ⊥) → ahead (up (next l)) k < ahead (up l.last) k
    nearer q = beyond (up l.last) (next l) k (up-low _) (up-high _) m.some (met-high l 8 _) (caller-low l k e) (caller-high l k e) q m.near

-- an accepted call
accepted-lock : (l : Line) (k : ℕ) → number (perform l (Call k)).answer ≡ 0 → is_lock k ≡ true
accepted-lock l k e = elim (split (is_lock k)) [
  | inl t ↦ t
  | inr t ↦ absurd (omega (arith, ap number (answer-out l k t)))
]

accepted-calls : (acts : List Act) (k : ℕ) → number (answer acts (Call k)) ≡ 0 → calls (after (acts ++ (Call k ∷ []))) k ≡ true
accepted-calls acts k e =
    let t : is_lock k ≡ true = accepted-lock (after acts) k e in
    rw (run-one new_line acts (Call k), call_in (after acts) k t) (called-calls (after acts) k (eight acts) t)

eighth : (before since : List Act) (k : ℕ) → number (answer before (Call k)) ≡ 0 → 8 ≤ turns since → serves_any (after (before ++ (Call k ∷ []))) k since ≡ true
eighth before since k e t =
    let l : Line = after (before ++ (Call k ∷ [])) in
    let c : calls l k ≡ true = accepted-calls before k e in
    by_turn since l k 8 (eight (before ++ (Call k ∷ []))) c (ahead_small _ k (up-low _) (up-high _) (caller-low l k c) (caller-high l k c)) t

-- a call is not lost
kept_run : (acts : List Act) (l : Line) (k : ℕ) → Eight l → calls l k ≡ true → serves_any l k acts ≡ false → calls (run l acts) k ≡ true
unfolding serves_any run
kept_run [] l k h e n = e
kept_run (a ∷ acts) l k h e n =
    kept_run acts (perform l a).line k (eight-after l a h)
    (goes_on l a k h e (or_no_l (names k (perform l a).answer) (serves_any (perform l a).line k acts) n))
    (or_no_r (names k (perform l a).answer) (serves_any (perform l a).line k acts) n)

known : (acts : List Act) (k : ℕ) → Calling acts k → calls (after acts) k ≡ true
known acts k c =
    let l : Line = after (c.before ++ (Call k ∷ [])) in
    let e : after acts ≡ run l c.since = ap after (c.parts ∙ sym (append_assoc c.before (Call k ∷ []) c.since)) ∙ run-append new_line (c.before ++ (Call k ∷ [])) c.since in
    rw e (kept_run c.since l k (eight (c.before ++ (Call k ∷ []))) (accepted-calls c.before k c.taken) c.unserved)

-- one act more does not end a call that it does not serve
serves-append : (acts : List Act) (l : Line) (k : ℕ) (a : Act) → serves_any l k acts ≡ false → names k (perform (run l acts) a).answer ≡ false
    → serves_any l k (acts ++ (a ∷ [])) ≡ false
unfolding serves_any run
serves-append [] l k a p q = rw q
serves-append (b ∷ acts) l k a p q =
    rw (or_no_l (names k (perform l b).answer) (serves_any (perform l b).line k acts) p)
    (serves-append acts (perform l b).line k a (or_no_r (names k (perform l b).answer) (serves_any (perform l b).line k acts) p) q)

longer : (acts : List Act) (a : Act) (k : ℕ) → Calling acts k → names k (answer acts a) ≡ false → Calling (acts ++ (a ∷ [])) k
longer acts a k c n = record {
  before = c.before;
  since = c.since ++ (a ∷ []);
  parts = ap (λ (x : List Act). x ++ (a ∷ [])) c.parts ∙ append_assoc c.before (Call k ∷ c.since) (a ∷ []);
  taken = c.taken;
  unserved = serves-append c.since (after (c.before ++ (Call k ∷ []))) k a c.unserved
      (rw (← run-append new_line (c.before ++ (Call k ∷ [])) c.since, append_assoc c.before (Call k ∷ []) c.since, ← c.parts) n);
}

-- who is served calls no longer
served-silent : (l : Line) (k : ℕ) → Eight l → names k (perform l Turn).answer ≡ true → calls (perform l Turn).line k ≡ false
served-silent l k h n = elim (dec_le 1 (next l)) [
  | yes q ↦ rw (turn_one l q, eqb-true k (next l) (rw (turn_one l q) at n)) (ended-silent l h q)
  | no q ↦ absurd (true≢false (sym n ∙ rw (turn-none l (omega arith))))
]

no-acts : (l : Line) (k : ℕ) → serves_any l k [] ≡ false
unfolding serves_any
no-acts l k = refl

-- who is calling after one act more
one_more : (acts : List Act) (a : Act) (k : ℕ) → (calls (after acts) k ≡ true → Calling acts k) → calls (perform (after acts) a).line k ≡ true
    → Calling (acts ++ (a ∷ [])) k
one_more acts Turn k ih e = elim (split (calls (after acts) k)) [
  | inl c ↦ (elim (split (names k (answer acts Turn))) [
    | inl n ↦ absurd (no_both _ e (served-silent (after acts) k (eight acts) n))
    | inr n ↦ longer acts Turn k (ih c) n
  ])
  | inr c ↦ absurd (no_both _ e (stays-silent (after acts) k (eight acts) c))
]
one_more acts (Call i) k ih e = elim (split (is_lock i)) [
  | inl t ↦ (elim (split (eqb k i)) [
    | inl s ↦ rw (eqb-true k i s) (record { before = acts; since = []; parts = refl; taken = ap number (answer_in (after acts) i t); unserved = no-acts _ i })
    | inr s ↦ longer acts (Call i) k (ih (sym (others-call (after acts) i k (eight acts) s) ∙ e)) (call-serves (after acts) i k)
  ])
  | inr t ↦ longer acts (Call i) k (ih (rw (call-out (after acts) i t) at e)) (call-serves (after acts) i k)
]

only-from : (acts more : List Act) (k : ℕ) → (calls (after acts) k ≡ true → Calling acts k) → calls (after (acts ++ more)) k ≡ true → Calling (acts ++ more) k
only-from acts [] k ih e = rw append-nil (ih (rw append-nil at e))
only-from acts (a ∷ more) k ih e =
    rw (← append_assoc acts (a ∷ []) more)
    (only-from (acts ++ (a ∷ [])) more k (λ c. one_more acts a k ih (rw (run-one new_line acts a) at c)) (rw (← append_assoc acts (a ∷ []) more) at e))

-- nobody on a new line
all-silent : all_to 8 (λ k. not (calls new_line k)) ≡ true
unfolding all_to calls nth
all-silent = refl

nobody : (k : ℕ) → calls new_line k ≡ false
nobody k = elim (split (calls new_line k)) [
  | inl e ↦ not-true _ (all-at 8 (λ k. not (calls new_line k)) all-silent k (caller-low new_line k e) (caller-high new_line k e))
  | inr e ↦ e
]

only-known : (acts : List Act) (k : ℕ) → calls (after acts) k ≡ true → Calling acts k
unfolding run
only-known acts k e = only-from [] acts k (λ c. absurd (true≢false (sym c ∙ nobody k))) e

-- what a turn answers
served-is : (acts : List Act) (k : ℕ) → answer acts Turn ≡ Served k → (1 ≤ next (after acts)) × (next (after acts) ≡ k)
served-is acts k e = elim (dec_le 1 (next (after acts))) [
  | yes q ↦ (q, same (sym (answer-one (after acts) q) ∙ e))
  | no q ↦ absurd (never (sym (answer-none (after acts) (omega arith)) ∙ e))
]
  where
    same : {i j : ℕ} → Served i ≡ Served j → i ≡ j
    same q = cc

    never : {j : ℕ} → Nobody ≡ Served j → ⊥
    never q = let z : ◌≡◌ {A = ℕ} 0 1 = cc in omega arith

served-called : (acts : List Act) (k : ℕ) → answer acts Turn ≡ Served k → Calling acts k
served-called acts k e = let s = served-is acts k e in only-known acts k (rw (← s.1) (next-calls (after acts) s.0))

serves : (acts : List Act) (k : ℕ) → Calling acts k → ServesOne acts
serves acts k c = record { lock = next (after acts); served = answer-one (after acts) (met (after acts) k (known acts k c)).some }

-- the last served, by the answers, is the one that the line keeps, and it is no more than 8
latest-last : (l : Line) (a : Act) → latest l.last (perform l a).answer ≡ (perform l a).line.last
latest-last l Turn = elim (dec_le 1 (next l)) [
  | yes q ↦ rw (turn_one l q)
  | no q ↦ rw (turn-none l (omega arith))
]
latest-last l (Call i) = elim (split (is_lock i)) [
  | inl t ↦ rw (call_in l i t)
  | inr t ↦ rw (call-out l i t)
]

last-run : (l : Line) (acts : List Act) → (run l acts).last ≡ last_in l l.last acts
unfolding run last_in
last-run l [] = refl
last-run l (a ∷ acts) = rw (latest-last l a) (last-run (perform l a).line acts)

last-small : (l : Line) (acts : List Act) → l.last ≤ 8 → (run l acts).last ≤ 8
unfolding run
last-small l [] h = h
last-small l (Turn ∷ acts) h = last-small (perform l Turn).line acts (elim (dec_le 1 (next l)) [
  | yes q ↦ rw (turn_one l q) (met-high l 8 _)
  | no q ↦ rw (turn-none l (omega arith)) h
])
last-small l (Call i ∷ acts) h = last-small (perform l (Call i)).line acts (rw (call-last l i) h)

keeps-last : (acts : List Act) → (after acts).last ≡ last_served acts
keeps-last acts = last-run new_line acts

-- the one served is met first
first : (acts : List Act) (k j : ℕ) → answer acts Turn ≡ Served k → Calling acts j → passed (last_served acts) k ≤ passed (last_served acts) j
first acts k j e c =
    let l : Line = after acts in
    let s = served-is acts k e in
    let t : calls l j ≡ true = known acts j c in
    let u : calls l k ≡ true = known acts k (served-called acts k e) in
    let small : l.last ≤ 8 = last-small new_line acts (omega arith) in
    let near : ahead (up l.last) k ≤ ahead (up l.last) j = rw (← s.1) (met l j t).near in
    let p : passed l.last k ≡ ahead (up l.last) k = passed-ahead l.last k small (caller-low l k u) (caller-high l k u) in
    let q : passed l.last j ≡ ahead (up l.last) j = passed-ahead l.last j small (caller-low l j t) (caller-high l j t) in
    rw (← keeps-last acts) (omega arith)

ends : (acts : List Act) (k : ℕ) → answer acts Turn ≡ Served k → Calling (acts ++ (Turn ∷ [])) k → ⊥
ends acts k e c =
    no_both (calls (perform (after acts) Turn).line k) (rw (run-one new_line acts Turn) at (known (acts ++ (Turn ∷ [])) k c))
    (served-silent (after acts) k (eight acts) (rw e (eqb_same k)))

called-again : (acts : List Act) (k : ℕ) → Calling acts k → after (acts ++ (Call k ∷ [])) ≡ after acts
called-again acts k c =
    let e : calls (after acts) k ≡ true = known acts k c in
    run-one new_line acts (Call k) ∙ rw (call_in (after acts) k (is-lock k (caller-low _ k e) (caller-high _ k e))) (call-again (after acts) k e)

none-next : (acts : List Act) → ((k : ℕ) → Calling acts k → ⊥) → next (after acts) < 1
none-next acts n = elim (dec_le 1 (next (after acts))) [
  | yes q ↦ absurd (n (next (after acts)) (only-known acts _ (next-calls (after acts) q)))
  | no q ↦ omega arith
]

idle : (acts : List Act) → ((k : ℕ) → Calling acts k → ⊥) → answer acts Turn ≡ Nobody
idle acts n = answer-none (after acts) (none-next acts n)

idle-line : (acts : List Act) → ((k : ℕ) → Calling acts k → ⊥) → after (acts ++ (Turn ∷ [])) ≡ after acts
idle-line acts n = run-one new_line acts Turn ∙ rw (turn-none (after acts) (none-next acts n))

idle-last : (acts : List Act) → ((k : ℕ) → Calling acts k → ⊥) → (after (acts ++ (Turn ∷ []))).last ≡ (after acts).last
idle-last acts n = ap (λ (l : Line). l.last) (idle-line acts n)

outside : (acts : List Act) (k : ℕ) → (1 ≤ k → k ≤ 8 → ⊥) → number (answer acts (Call k)) ≡ 25
outside acts k n = ap number (answer-out (after acts) k (refuted (is_lock k) (λ t. n (lock-low k t) (lock-high k t))))

refused : (acts : List Act) (k : ℕ) → number (answer acts (Call k)) ≡ 25 → after (acts ++ (Call k ∷ [])) ≡ after acts
refused acts k e = run-one new_line acts (Call k) ∙ elim (split (is_lock k)) [
  | inl t ↦ absurd (omega (arith, ap number (answer_in (after acts) k t)))
  | inr t ↦ rw (call-out (after acts) k t)
]

locks : (acts : List Act) (k : ℕ) → 1 ≤ k → k ≤ 8 → number (answer acts (Call k)) ≡ 0
locks acts k a b = ap number (answer_in (after acts) k (is-lock k a b))

-- lock k is served, calls again, and so do all; seven turns serve the others
all-call : List Act
all-call = Call 1 ∷ Call 2 ∷ Call 3 ∷ Call 4 ∷ Call 5 ∷ Call 6 ∷ Call 7 ∷ Call 8 ∷ Turn ∷ Turn ∷ Turn ∷ Turn ∷ Turn ∷ Turn ∷ Turn ∷ []

kept : all_to 8 (λ k. not (serves_any (after (Call k ∷ Turn ∷ Call k ∷ [])) k all-call)) ≡ true
unfolding all_to nth put calls call_of up first_caller turn_of perform run serves_any all-call
kept = refl

tight : (k : ℕ) → 1 ≤ k → k ≤ 8 → KeptSeven k
unfolding all-call
tight k a b = record {
  before = Call k ∷ Turn ∷ [];
  since = all-call;
  taken = locks (Call k ∷ Turn ∷ []) k a b;
  seven = refl;
  unserved = not-true _ (all-at 8 (λ k. not (serves_any (after (Call k ∷ Turn ∷ Call k ∷ [])) k all-call)) kept k a b);
}

pub fair-line : FairLine
fair-line = record {
  eighth = eighth;
  tight = tight;
  served-called = served-called;
  serves = serves;
  first = first;
  ends = ends;
  known = known;
  only-known = only-known;
  called-again = called-again;
  idle = idle;
  idle-last = idle-last;
  idle-line = idle-line;
  keeps-last = keeps-last;
  outside = outside;
  refused = refused;
  locks = locks;
}
