-- What a run's memory stands for (document 02, U11): the events left, by the places of their records, and a bench at the front of each page of them.
use Prim.Native.Nat.{ℕ, suc, ◌+◌, ◌-◌, ◌%◌, ◌≤◌, ◌<◌, min}
use mathlib.Core.Path.{◌≡◌, refl, sym, ap, subst, ◌∙◌}
use mathlib.Core.Bool.{Bool, true, false, cond, not, false≢true}
use mathlib.Core.List.{List, [], ◌∷◌, ◌++◌, append-nil}
use mathlib.Core.Logic.{inl, inr}
use native.Mathlib.Omega.{arith}
use native.Mathlib.Numerals.{add-one}
use lib.Dec.{eqb, ltb}
use lib.ListN.{length, take, get_or, set, length-append, length-set, length-take}
use lib.Seq.{take_all, take-append-le, get_or-set_same, get_or-set_other}
use borrow.Author.Tests.{eqb-true, eqb-false, ne_eqb, ltb-true, ltb-false, lt-ltb, le-ltb}
use Rattle.ground.specs.Tests.{split}
use Rattle.model.specs.QuestionLaws.{is-accepted}
use Rattle.model.specs.Questions.{accepted, is_accepted, number}
use Rattle.model.specs.declared.Act.{Act}
use Rattle.model.specs.declared.Act.TheVariants.{Play, Back}
use Rattle.model.specs.declared.Event.{Event}
use Rattle.model.specs.declared.Event.TheVariants.{Lock}
use Rattle.event_record.specs.Events.{read_event}
use Rattle.event_record.specs.Events.{ReadEvent}
use Rattle.std.specs.Prelude.{Ok, Err}
use Rattle.protocol.specs.declared.Bench.{Bench}
use Rattle.protocol.specs.Benches.{new_bench, bench_of}
use Rattle.protocol.specs.Questions.{reply}
use Rattle.protocol.specs.Steps.{perform, step, run}
use Rattle.protocol.specs.Claim.{after}
use Rattle.protocol.proofs.view.Kinds.{IsLock}
use Rattle.protocol.proofs.lists.Moments.{step-locked, lock-refused}
use Rattle.protocol.proofs.lists.Start.{new-lock}
use Rattle.steps_back.specs.Memory.{Remembering, can_be_undone, most_remembered, past_after, is_some, back_reply, answer, done, run_acts, without_last, left_by, left_from, left}
use Rattle.steps_back.specs.Claim.{at, bench, remembers}
use Rattle.steps_back.proofs.Theorem.{without_snoc, run_snoc, Found, find, inv, left-taken, at-taken, left-refused, at-refused}
use Rattle.steps_back.proofs.Moments.{undoable, as-left, one_fewer}
use Rattle.bench_run.specs.Schedule.{piece, let_through, acts_to}
use Rattle.bench_run.specs.Runs.{answer_at}
use Rattle.bench_run.specs.Memory.{remembered, back_number}

-- the events left after the first k records
abbrev pub left_to : List ℕ → ℕ → List Event
left_to s k = left (acts_to s k)

-- where the page of an event begins; the bench that is kept there
abbrev pub front : ℕ → ℕ
front i = i - i % 128

abbrev pub kept_of : ℕ → Bench → Bench → Bench
kept_of i even odd = cond (ltb (front i % 256) 128) even odd

-- event i of a list, whose record stands at q; it was accepted by the bench of those before it
pub record Placed (s : List ℕ) (noted : ℕ) (es : List Event) (i q : ℕ) : Type 0 where
  pub before : q < noted
  pub event : Event
  pub there : take (suc i) es ≡ take i es ++ (event ∷ [])
  pub read : read_event (piece s q) ≡ Ok (Play event)
  pub taken : reply (after (take i es)) event ≡ accepted
  pub answered : answer_at s q ≡ 0

-- what is remembered once the first `noted` records are noted
pub record Memory (s : List ℕ) (noted count undoable : ℕ) (ring : List ℕ) (even odd : Bench) : Type 0 where
  pub size : count ≡ length (left_to s noted)
  pub held : undoable ≡ remembers (acts_to s noted)
  pub low : undoable ≤ count - 1
  pub most : undoable ≤ 64
  pub slots : length ring ≡ 256
  pub few : count ≤ noted
  pub events : (i : ℕ) → i < count → count < undoable + front i + 128 → Placed s noted (left_to s noted) i (get_or ring (i % 256) 0)
  pub pages : (i : ℕ) → i ≤ count → count < undoable + front i + 128 → kept_of i even odd ≡ after (take (front i) (left_to s noted))
  pub locked : (i : ℕ) → 1 ≤ i → i ≤ count → (after (take i (left_to s noted))).shared.locked ≡ true

-- nothing noted yet
pub none-noted : (s ring : List ℕ) (even odd : Bench) → length ring ≡ 256 → even ≡ new_bench → Memory s 0 0 0 ring even odd
unfolding acts_to left_from run_acts run
none-noted s ring even odd r e = record {
  size = refl;
  held = refl;
  low = omega arith;
  most = omega arith;
  slots = r;
  few = omega arith;
  events = λ i h o. absurd (omega arith);
  pages = λ i h o. at_zero i (omega arith);
  locked = λ i h j. absurd (omega arith);
}
  where
    at_zero : (i : ℕ) → i ≡ 0 → kept_of i even odd ≡ after (take (front i) (left_to s 0))
    at_zero i z = subst (λ (j : ℕ). kept_of j even odd ≡ after (take (front j) (left_to s 0))) (sym z) e

-- one more record ---------------------------------------------------------
module _ (s : List ℕ) (k : ℕ) where
  acts-more : (r : ReadEvent) → r ≡ read_event (piece s k) → acts_to s (k + 1) ≡ acts_to s k ++ let_through r
  unfolding acts_to
  acts-more r e = rw (add-one, e) refl

  -- it is not read, or refused: nothing changes
  pub unread-left : (q : ℕ) → read_event (piece s k) ≡ Err q → left_to s (k + 1) ≡ left_to s k
  unread-left q e = ap left (acts-more _ refl ∙ ap (λ (r : ReadEvent). acts_to s k ++ let_through r) e ∙ append-nil (acts_to s k))

  pub unread-at : (q : ℕ) → read_event (piece s k) ≡ Err q → at (acts_to s (k + 1)) ≡ at (acts_to s k)
  unread-at q e = ap at (acts-more _ refl ∙ ap (λ (r : ReadEvent). acts_to s k ++ let_through r) e ∙ append-nil (acts_to s k))

  module _ (a : Act) (e : read_event (piece s k) ≡ Ok a) where
    read-acts : acts_to s (k + 1) ≡ acts_to s k ++ (a ∷ [])
    read-acts = acts-more _ refl ∙ ap (λ (r : ReadEvent). acts_to s k ++ let_through r) e

    pub refused-left : is_accepted (answer (at (acts_to s k)) a) ≡ false → left_to s (k + 1) ≡ left_to s k
    refused-left n = ap left read-acts ∙ left-refused (acts_to s k) a n

    pub refused-at : is_accepted (answer (at (acts_to s k)) a) ≡ false → at (acts_to s (k + 1)) ≡ at (acts_to s k)
    refused-at n = ap at read-acts ∙ at-refused (acts_to s k) a n

    pub taken-left : answer (at (acts_to s k)) a ≡ accepted → left_to s (k + 1) ≡ left_by (left_to s k) a
    taken-left n = ap left read-acts ∙ left-taken (acts_to s k) a n

    pub taken_at : answer (at (acts_to s k)) a ≡ accepted → at (acts_to s (k + 1)) ≡ done (at (acts_to s k)) a
    taken_at n = ap at read-acts ∙ at-taken (acts_to s k) a n

  -- an event: the bench after it
  pub played : (e : Event) → read_event (piece s k) ≡ Ok (Play e) → after (left_to s (k + 1)) ≡ step (after (left_to s k)) e
  unfolding answer step
  played e r = elim (split (is_accepted (answer (at (acts_to s k)) (Play e)))) [
    | inl t ↦ ap after (taken-left (Play e) r (is-accepted _ t)) ∙ run_snoc (left_to s k) e new_bench
    | inr n ↦ ap after (refused-left (Play e) r n) ∙ sym (still (subst (λ (b : Bench). is_accepted (reply b e) ≡ false) (as-left (acts_to s k)) n))
  ]
    where
      still : is_accepted (reply (after (left_to s k)) e) ≡ false → step (after (left_to s k)) e ≡ after (left_to s k)
      still n = rw n refl

-- what is remembered does not change with a record that changes nothing
pub same_memory : (s : List ℕ) (k count undoable : ℕ) (ring : List ℕ) (even odd : Bench) → Memory s k count undoable ring even odd
    → at (acts_to s (k + 1)) ≡ at (acts_to s k) → left_to s (k + 1) ≡ left_to s k → Memory s (k + 1) count undoable ring even odd
same_memory s k count undoable ring even odd m a l = record {
  size = m.size ∙ ap length (sym l);
  held = m.held ∙ ap (λ (b : Remembering). length b.past) (sym a);
  low = m.low;
  most = m.most;
  slots = m.slots;
  few = omega (arith, m.few);
  events = λ i h o. let p = m.events i h o in
      record {
        before = omega (arith, p.before);
        event = p.event;
        there = ap (take (suc i)) l ∙ p.there ∙ ap (λ (es : List Event). take i es ++ (p.event ∷ [])) (sym l);
        read = p.read;
        taken = ap (λ (es : List Event). reply (after (take i es)) p.event) l ∙ p.taken;
        answered = p.answered;
      };
  pages = λ i h o. m.pages i h o ∙ ap (λ (es : List Event). after (take (front i) es)) (sym l);
  locked = λ i h j. ap (λ (es : List Event). (after (take i es)).shared.locked) l ∙ m.locked i h j;
}

-- one more event ----------------------------------------------------------
-- an accepted event is the lock where none is left, and none where some are
first-lock : (e : Event) → reply new_bench e ≡ accepted → can_be_undone e ≡ false
first-lock e a = ap can_be_undone (new-lock e (ap is_accepted a)).is

later-none : (b : Bench) (e : Event) → b.shared.locked ≡ true → reply b e ≡ accepted → can_be_undone e ≡ true
later-none b e l a = undoable e (λ n f own z. false≢true (sym (lock-refused b n f own l) ∙ ap (λ (x : Event). is_accepted (reply b x)) (sym z) ∙ ap is_accepted a))

-- a lock that is accepted is set up
first-locked : (e : Event) → can_be_undone e ≡ false → reply new_bench e ≡ accepted → (step new_bench e).shared.locked ≡ true
first-locked e u a = let l : IsLock e = new-lock e (ap is_accepted a) in subst (λ (x : Event). (step new_bench x).shared.locked ≡ true) (sym l.is) (locks l.n l.f l.own (rw l.is at (ap is_accepted a)))
  where
    locks : (n f : ℕ) (own : Bool) → is_accepted (reply new_bench (Lock n f own)) ≡ true → (step new_bench (Lock n f own)).shared.locked ≡ true
    locks n f own q = unfold step perform bench_of in rw q

module _ (s : List ℕ) (k count undoable : ℕ) (ring : List ℕ) (even odd : Bench) (m : Memory s k count undoable ring even odd)
    (e : Event) (r : read_event (piece s k) ≡ Ok (Play e)) (z : answer_at s k ≡ 0) (ok : reply (after (left_to s k)) e ≡ accepted) where
  abbrev es : List Event
  es = left_to s k

  taken_here : answer (at (acts_to s k)) (Play e) ≡ accepted
  unfolding answer
  taken_here = subst (λ (b : Bench). reply b e ≡ accepted) (sym (as-left (acts_to s k))) ok

  now-left : left_to s (k + 1) ≡ es ++ (e ∷ [])
  now-left = taken-left s k (Play e) r taken_here

  long : length es ≡ count
  long = sym m.size

  all_there : take count es ≡ es
  all_there = take_all count es (omega (arith, long))

  earlier : (i : ℕ) → i ≤ count → take i (left_to s (k + 1)) ≡ take i es
  earlier i h = ap (take i) now-left ∙ take-append-le i es (e ∷ []) (omega (arith, long, h))

  whole_now : take (suc count) (left_to s (k + 1)) ≡ es ++ (e ∷ [])
  whole_now = ap (take (suc count)) now-left ∙ take_all (suc count) (es ++ (e ∷ [])) (simp length-append (omega (arith, long)))

  -- with none left before it is the lock, and is not remembered
  none_before : count ≡ 0 → es ≡ []
  none_before c = sym all_there ∙ ap (λ (i : ℕ). take i es) c

  undone : can_be_undone e ≡ cond (eqb count 0) false true
  unfolding run
  undone = elim (split (eqb count 0)) [
    | inl c ↦ rw c (first-lock e (subst (λ (l : List Event). reply (after l) e ≡ accepted) (none_before (eqb-true count 0 c)) ok))
    | inr c ↦ rw c (later-none (after es) e (subst (λ (l : List Event). (after l).shared.locked ≡ true) all_there (m.locked count (positive c) (omega arith))) ok)
  ]
    where
      positive : eqb count 0 ≡ false → 1 ≤ count
      positive c = elim (split (ltb 0 count)) [
        | inl h ↦ ltb-true 0 count h
        | inr h ↦ absurd (eqb-false count 0 c (omega (arith, ltb-false 0 count h)))
      ]

  now-held : remembered undoable count ≡ remembers (acts_to s (k + 1))
  unfolding remembered done past_after
  now-held = sym (ap (λ (b : Remembering). length b.past) (taken_at s k (Play e) r taken_here)
      ∙ ap (λ (t : Bool). length (cond t (take most_remembered ((at (acts_to s k)).bench ∷ (at (acts_to s k)).past)) [])) undone ∙ by_count)
    where
      least : min 64 (suc undoable) ≡ cond (ltb undoable 64) (undoable + 1) 64
      least = elim (split (ltb undoable 64)) [
        | inl h ↦ rw h (omega (arith, ltb-true undoable 64 h))
        | inr h ↦ rw h (omega (arith, ltb-false undoable 64 h))
      ]

      by_count : length (cond (cond (eqb count 0) false true) (take most_remembered ((at (acts_to s k)).bench ∷ (at (acts_to s k)).past)) []) ≡ cond (eqb count 0) 0 (cond (ltb undoable most_remembered) (undoable + 1) most_remembered)
      by_count = elim (split (eqb count 0)) [
        | inl c ↦ rw c refl
        | inr c ↦ rw c (length-take 64 ((at (acts_to s k)).bench ∷ (at (acts_to s k)).past) ∙ ap (λ (n : ℕ). min 64 (suc n)) (sym m.held) ∙ least)
      ]

  bounds : (remembered undoable count ≤ undoable + 1) × (remembered undoable count ≤ 64) × (remembered undoable count ≤ count)
  unfolding remembered
  bounds = elim (split (eqb count 0)) [
    | inl c ↦ rw c (omega arith, omega arith, omega arith)
    | inr c ↦ elim (split (ltb undoable 64)) [
      | inl h ↦ rw (c, h) (omega arith, omega (arith, ltb-true undoable 64 h), more c)
      | inr h ↦ rw (c, h) (omega (arith, ltb-false undoable 64 h), omega arith, omega (arith, m.low, ltb-false undoable 64 h))
    ]
  ]
    where
      more : eqb count 0 ≡ false → undoable + 1 ≤ count
      more c = omega (arith, m.low, eqb-false count 0 c)

  set-up : (step (after es) e).shared.locked ≡ true
  set-up = elim (split (eqb count 0)) [
    | inl c ↦ ap (λ (l : List Event). (step (after l) e).shared.locked) (none_before (eqb-true count 0 c))
        ∙ (unfold run in first-locked e (undone ∙ ap (λ (t : Bool). cond t false true) c) (subst (λ (l : List Event). reply (after l) e ≡ accepted) (none_before (eqb-true count 0 c)) ok))
    | inr c ↦ step-locked (after es) e (subst (λ (l : List Event). (after l).shared.locked ≡ true) all_there (m.locked count (omega (arith, eqb-false count 0 c)) (omega arith)))
  ]

  pub one-more-noted : (even' odd' : Bench)
      → ((i : ℕ) → i ≤ count + 1 → count + 1 < remembered undoable count + front i + 128 → kept_of i even' odd' ≡ after (take (front i) (left_to s (k + 1))))
      → Memory s (k + 1) (count + 1) (remembered undoable count) (set ring (count % 256) k) even' odd'
  one-more-noted even' odd' pages = record {
    size = sym (ap length now-left ∙ simp length-append (omega (arith, long)));
    held = now-held;
    low = omega (arith, bounds.2);
    most = bounds.1;
    slots = length-set ring (count % 256) k ∙ m.slots;
    few = omega (arith, m.few);
    events = λ i h o. elim (split (eqb i count)) [
      | inl y ↦ newest i (eqb-true i count y)
      | inr y ↦ older i (omega (arith, h, eqb-false i count y)) o
    ];
    pages = pages;
    locked = λ i h j. elim (split (ltb count i)) [
      | inl y ↦ locked_now i (omega (arith, j, ltb-true count i y))
      | inr y ↦ ap (λ (l : List Event). (after l).shared.locked) (earlier i (ltb-false count i y)) ∙ m.locked i h (ltb-false count i y)
    ];
  }
    where
      written : get_or (set ring (count % 256) k) (count % 256) 0 ≡ k
      written = get_or-set_same ring (count % 256) k 0 (omega (arith, m.slots))

      -- two events of open pages stand at different places
      apart : (i : ℕ) → i < count → count + 1 < remembered undoable count + front i + 128 → i % 256 ≡ count % 256 → ⊥
      apart i h o x = absurd (omega (arith, o, bounds.1, x, h))

      locked_now : (i : ℕ) → i ≡ count + 1 → (after (take i (left_to s (k + 1)))).shared.locked ≡ true
      locked_now i y = ap (λ (j : ℕ). (after (take j (left_to s (k + 1)))).shared.locked) y ∙ ap (λ (j : ℕ). (after (take j (left_to s (k + 1)))).shared.locked) (add-one count) ∙ ap (λ (l : List Event). (after l).shared.locked) whole_now
          ∙ ap (λ (b : Bench). b.shared.locked) (run_snoc es e new_bench) ∙ set-up

      newest : (i : ℕ) → i ≡ count → Placed s (k + 1) (left_to s (k + 1)) i (get_or (set ring (count % 256) k) (i % 256) 0)
      newest i y = subst (λ (j : ℕ). Placed s (k + 1) (left_to s (k + 1)) j (get_or (set ring (count % 256) k) (j % 256) 0)) (sym y) (record {
        before = subst (λ (q : ℕ). q < k + 1) (sym written) (omega arith);
        event = e;
        there = whole_now ∙ ap (λ (l : List Event). l ++ (e ∷ [])) (sym (earlier count (omega arith) ∙ all_there));
        read = ap (λ (q : ℕ). read_event (piece s q)) written ∙ r;
        taken = ap (λ (l : List Event). reply (after l) e) (earlier count (omega arith) ∙ all_there) ∙ ok;
        answered = ap (answer_at s) written ∙ z;
      })

      older : (i : ℕ) → i < count → count + 1 < remembered undoable count + front i + 128 → Placed s (k + 1) (left_to s (k + 1)) i (get_or (set ring (count % 256) k) (i % 256) 0)
      older i h o =
          let p = m.events i h (omega (arith, o, bounds.0)) in
          let same : get_or (set ring (count % 256) k) (i % 256) 0 ≡ get_or ring (i % 256) 0 = get_or-set_other ring (count % 256) (i % 256) k 0 (apart i h o) in
          record {
            before = subst (λ (q : ℕ). q < k + 1) (sym same) (omega (arith, p.before));
            event = p.event;
            there = earlier (suc i) (omega (arith, h)) ∙ p.there ∙ ap (λ (l : List Event). l ++ (p.event ∷ [])) (sym (earlier i (omega (arith, h))));
            read = ap (λ (q : ℕ). read_event (piece s q)) same ∙ p.read;
            taken = ap (λ (l : List Event). reply (after l) p.event) (earlier i (omega (arith, h))) ∙ p.taken;
            answered = ap (answer_at s) same ∙ p.answered;
          }

-- with no page full, and with one full: the bench is kept
module _ (s : List ℕ) (k count undoable : ℕ) (ring : List ℕ) (even odd : Bench) (m : Memory s k count undoable ring even odd)
    (e : Event) (r : read_event (piece s k) ≡ Ok (Play e)) (z : answer_at s k ≡ 0) (ok : reply (after (left_to s k)) e ≡ accepted) where
  abbrev held_now : ℕ
  held_now = remembered undoable count

  old-page : (even' odd' : Bench) (i : ℕ) → i ≤ count → count + 1 < held_now + front i + 128 → kept_of i even' odd' ≡ kept_of i even odd
      → kept_of i even' odd' ≡ after (take (front i) (left_to s (k + 1)))
  old-page even' odd' i h o same = same ∙ m.pages i h (omega (arith, o, (bounds s k count undoable ring even odd m e r z ok).0))
      ∙ ap after (sym (earlier s k count undoable ring even odd m e r z ok (front i) (omega (arith, h))))

  pub within-page : ((count + 1) % 128 ≡ 0 → ⊥) → Memory s (k + 1) (count + 1) held_now (set ring (count % 256) k) even odd
  within-page n = one-more-noted s k count undoable ring even odd m e r z ok even odd (λ i h o. elim (split (ltb count i)) [
    | inl y ↦ subst (λ (j : ℕ). kept_of i even odd ≡ after (take j (left_to s (k + 1)))) (sym (same-front i (omega (arith, h, ltb-true count i y))))
        (subst (λ (j : ℕ). cond (ltb (j % 256) 128) even odd ≡ after (take (front count) (left_to s (k + 1)))) (sym (same-front i (omega (arith, h, ltb-true count i y))))
        (old-page even odd count (omega arith) (omega (arith, o, same-front i (omega (arith, h, ltb-true count i y)))) refl))
    | inr y ↦ old-page even odd i (ltb-false count i y) o refl
  ])
    where
      same-front : (i : ℕ) → i ≡ count + 1 → front i ≡ front count
      same-front i y = omega (arith, y, n)

  abbrev now-bench : Bench
  now-bench = after (left_to s (k + 1))

  full-page : (even' odd' : Bench) → (count + 1) % 128 ≡ 0 → kept_of (count + 1) even' odd' ≡ now-bench
      → ((i : ℕ) → (front i % 256 ≡ (count + 1) % 256 → ⊥) → kept_of i even' odd' ≡ kept_of i even odd)
      → Memory s (k + 1) (count + 1) held_now (set ring (count % 256) k) even' odd'
  full-page even' odd' n kept other = one-more-noted s k count undoable ring even odd m e r z ok even' odd' (λ i h o. elim (split (ltb count i)) [
    | inl y ↦ newest i (omega (arith, h, ltb-true count i y))
    | inr y ↦ old-page even' odd' i (ltb-false count i y) o (other i (λ x. absurd (omega (arith, x, n, o, ltb-false count i y, (bounds s k count undoable ring even odd m e r z ok).1))))
  ])
    where
      at_front : front (count + 1) ≡ suc count
      at_front = omega (arith, n)

      newest : (i : ℕ) → i ≡ count + 1 → kept_of i even' odd' ≡ after (take (front i) (left_to s (k + 1)))
      newest i y = subst (λ (j : ℕ). kept_of j even' odd' ≡ after (take (front j) (left_to s (k + 1)))) (sym y)
          (kept ∙ ap after (sym (ap (λ (j : ℕ). take j (left_to s (k + 1))) at_front ∙ whole_now s k count undoable ring even odd m e r z ok ∙ sym (now-left s k count undoable ring even odd m e r z ok))))

  pub even-page : (count + 1) % 128 ≡ 0 → (count + 1) % 256 < 128 → (b : Bench) → b ≡ now-bench → Memory s (k + 1) (count + 1) held_now (set ring (count % 256) k) b odd
  even-page n h b is = full-page b odd n (rw (lt-ltb (front (count + 1) % 256) 128 (omega (arith, n, h))) is)
      (λ i x. rw (le-ltb (front i % 256) 128 (omega (arith, n, h, x))) refl)

  pub odd-page : (count + 1) % 128 ≡ 0 → ((count + 1) % 256 < 128 → ⊥) → (b : Bench) → b ≡ now-bench → Memory s (k + 1) (count + 1) held_now (set ring (count % 256) k) even b
  odd-page n h b is = full-page even b n (rw (le-ltb (front (count + 1) % 256) 128 (omega (arith, n, h))) is)
      (λ i x. rw (lt-ltb (front i % 256) 128 (omega (arith, n, h, x))) refl)

-- one fewer ---------------------------------------------------------------
module _ (s : List ℕ) (k count undoable : ℕ) (ring : List ℕ) (even odd : Bench) (m : Memory s k count undoable ring even odd) where
  -- the questions of a step back
  pub back-number : (b : Bench) → b ≡ after (left_to s k) → (q : ℕ) → q ≡ back_number b.shared.locked undoable → q ≡ number (answer (at (acts_to s k)) Back)
  unfolding answer
  back-number b is q e = e ∙ ap (λ (x : Bench). back_number x.shared.locked undoable) (is ∙ sym (as-left (acts_to s k))) ∙ ap (back_number (bench (acts_to s k)).shared.locked) m.held
      ∙ ap (λ (t : Bool). number (back_reply (bench (acts_to s k)).shared.locked t)) (some-past (at (acts_to s k)).past)
    where
      some-past : (past : List Bench) → not (eqb (length past) 0) ≡ is_some past
      some-past [] = refl
      some-past (x ∷ past) = rw (ne_eqb (suc (length past)) 0 (λ h. omega (arith, h))) refl

  module _ (r : read_event (piece s k) ≡ Ok Back) (ok : answer (at (acts_to s k)) Back ≡ accepted) where
    found : Found (at (acts_to s k)) (left_to s k)
    found = find (at (acts_to s k)) (left_to s k) (inv (acts_to s k)) ok

    fewer-left : left_to s (k + 1) ≡ found.rest
    fewer-left = taken-left s k Back r ok ∙ ap without_last found.parts ∙ without_snoc found.rest found.event

    size_now : length (left_to s (k + 1)) ≡ count - 1
    size_now =
        let w : length (left_to s k) ≡ length found.rest + 1 = ap length found.parts ∙ length-append found.rest (found.event ∷ []) in
        ap length fewer-left ∙ omega (arith, m.size, w)

    pub still-there : (i : ℕ) → i ≤ count - 1 → take i (left_to s (k + 1)) ≡ take i (left_to s k)
    still-there i h = ap (take i) fewer-left ∙ sym (ap (take i) found.parts ∙ take-append-le i found.rest (found.event ∷ []) (omega (arith, h, size_now, ap length fewer-left)))

    one-fewer-held : undoable ≡ suc (remembers (acts_to s (k + 1)))
    one-fewer-held = m.held ∙ sym (one_fewer (acts_to s k) ok) ∙ ap (λ (n : ℕ). suc n) (ap remembers (sym (read-acts s k Back r)))

    pub one-fewer-noted : Memory s (k + 1) (count - 1) (undoable - 1) ring even odd
    one-fewer-noted = record {
      size = sym size_now;
      held = omega (arith, one-fewer-held);
      low = omega (arith, m.low);
      most = omega (arith, m.most);
      slots = m.slots;
      few = omega (arith, m.few);
      events = λ i h o. let p = m.events i (omega (arith, h)) (omega (arith, o, one-fewer-held, h)) in
          record {
            before = omega (arith, p.before);
            event = p.event;
            there = still-there (suc i) (omega (arith, h)) ∙ p.there ∙ ap (λ (l : List Event). l ++ (p.event ∷ [])) (sym (still-there i (omega (arith, h))));
            read = p.read;
            taken = ap (λ (l : List Event). reply (after l) p.event) (still-there i (omega (arith, h))) ∙ p.taken;
            answered = p.answered;
          };
      pages = λ i h o. m.pages i (omega (arith, h)) (omega (arith, o, one-fewer-held, m.low)) ∙ ap after (sym (still-there (front i) (omega (arith, h))));
      locked = λ i h j. ap (λ (l : List Event). (after l).shared.locked) (still-there i j) ∙ m.locked i h (omega (arith, j));
    }
