-- Where a run stands between two turns of its loop, and what one turn makes of that: a record that is read or not, a step back, a note.
use Prim.Native.Nat.{ℕ, zero, suc, ◌+◌, ◌-◌, ◌*◌, ◌%◌, ◌≤◌, ◌<◌}
use mathlib.Core.Path.{◌≡◌, refl, sym, ap, subst, ◌∙◌}
use mathlib.Core.Bool.{Bool, true, false, cond, ◌&&◌, false≢true, true≢false}
use mathlib.Core.List.{List, [], ◌∷◌, ◌++◌}
use mathlib.Core.Logic.{◌⊎◌, inl, inr}
use native.Mathlib.Omega.{arith}
use native.Mathlib.Numerals.{add-one}
use lib.Dec.{ltb}
use lib.ListN.{length, take, drop, get_or, set, length-append, length-set, length-drop, take-append-drop}
use lib.Seq.{drop-drop, take_all, take-suc-set, set-get_or, get_or-take, get_or-append_seam, drop-set-lt}
use borrow.Author.Tests.{le-leb, lt-leb, ltb-true, ltb-false, lt-ltb, le-ltb}
use Rattle.ground.specs.Tests.{split, and_l, and_r}
use Rattle.model.specs.Questions.{Reply, accepted, refused, is_accepted, number, first_no, unless}
use Rattle.model.specs.QuestionLaws.{reply-accepted, is-accepted}
use Rattle.records.specs.Codec.{reads, read_questions, returned, value_on}
use Rattle.model.specs.declared.Act.{Act}
use Rattle.model.specs.declared.Act.TheVariants.{Play, Back}
use Rattle.model.specs.declared.Event.{Event}
use Rattle.event_record.specs.Events.{read_event, events}
use Rattle.event_record.specs.Events.{ReadEvent}
use Rattle.std.specs.Prelude.{Ok, Err}
use Rattle.schedule_reader.specs.Pieces.{record_at}
use Rattle.protocol.specs.declared.Bench.{Bench}
use Rattle.protocol.specs.Benches.{new_bench}
use Rattle.protocol.specs.Questions.{reply}
use Rattle.protocol.specs.Steps.{step, run}
use Rattle.protocol.specs.Claim.{after}
use Rattle.bench_state.proofs.Replies.{zero-accepted}
use Rattle.steps_back.specs.Memory.{answer, left_from}
use Rattle.steps_back.specs.Claim.{at}
use Rattle.steps_back.proofs.Theorem.{run_snoc}
use Rattle.steps_back.proofs.Moments.{as-left}
use Rattle.bench_run.specs.declared.Next.{Next}
use Rattle.bench_run.specs.declared.Next.TheVariants.{Play as Plays, Other}
use Rattle.bench_run.specs.declared.Pause.TheVariants.{Refused as Unread, Back as StepBack, Note}
use Rattle.bench_run.specs.Schedule.{piece, piece_at, count, acts_to}
use Rattle.bench_run.specs.Memory.{place_of, next_of, next_at, remembered, back_number, BackTaken, kept_of as kept_for}
use Rattle.bench_run.specs.Runs.{answer_number, answer_at, answers_to, has_room, not_run, run_of, answered, end_of, RunAsDefined}
use Rattle.bench_run.proofs.Remembered.{left_to, front, kept_of, Placed, Memory, none-noted, unread-left, unread-at, refused-left, refused-at, played, same_memory, within-page, even-page, odd-page, back-number, one-fewer-noted}

-- what a run is given: the schedule, the buffer of answers, and how many records there are
pub record Task : Type 0 where
  pub s : List ℕ
  pub out : List ℕ
  pub all : ℕ

-- what it remembers
pub record Notes : Type 0 where
  pub on : Bool
  pub noted : ℕ
  pub count : ℕ
  pub undoable : ℕ
  pub ring : List ℕ
  pub even : Bench
  pub odd : Bench

-- the record before was an event: what it came to is still to be noted
pub record AnEvent (s : List ℕ) (k : ℕ) : Type 0 where
  pub event : Event
  pub read : read_event (piece s k) ≡ Ok (Play event)

-- it plays record k, for the first time
pub record Playing (t : Task) (x : Notes) (k : ℕ) (b : Bench) (out : List ℕ) : Type 0 where
  pub past : x.noted ≤ k
  pub bench : b ≡ after (left_to t.s k)
  pub answers : take k out ≡ answers_to t.s k
  pub ahead : x.on ≡ true → k ≤ x.noted + 1
  pub event : x.on ≡ true → x.noted < k → answer_at t.s x.noted ≡ 0 → AnEvent t.s x.noted

-- it plays events again, up to where it stood
pub record Replaying (t : Task) (x : Notes) (k : ℕ) (b : Bench) (out : List ℕ) : Type 0 where
  pub on : x.on ≡ true
  pub behind : k < x.noted
  pub page : x.noted - k ≤ x.count % 128
  pub bench : b ≡ after (take (x.count - (x.noted - k)) (left_to t.s x.noted))
  pub answers : take x.noted out ≡ answers_to t.s x.noted

-- nothing is remembered yet
pub record Plain (x : Notes) : Type 0 where
  pub noted : x.noted ≡ 0
  pub count : x.count ≡ 0
  pub undoable : x.undoable ≡ 0
  pub even : x.even ≡ new_bench

pub record Upto (t : Task) (x : Notes) (k : ℕ) (b : Bench) (out : List ℕ) : Type 0 where
  pub upto : k ≤ t.all
  pub done : x.noted ≤ t.all
  pub whole : t.all ≡ count t.s
  pub room : t.all ≤ length t.out
  pub long : length out ≡ length t.out
  pub rest : drop t.all out ≡ drop t.all t.out
  pub slots : length x.ring ≡ 256
  pub list : List Event
  pub here : b ≡ run new_bench list
  pub mode : Playing t x k b out ⊎ Replaying t x k b out
  pub memory : x.on ≡ true → Memory t.s x.noted x.count x.undoable x.ring x.even x.odd
  pub plain : x.on ≡ false → Plain x

-- the answers so far, one for each record
pub length-answers : (s : List ℕ) (k : ℕ) → length (answers_to s k) ≡ k
unfolding answers_to
length-answers s zero = refl
length-answers s (suc k) = simp (length-append, length-answers s k) (omega arith)

get_d_front : (xs ys : List ℕ) (i : ℕ) → i < length xs → get_or (xs ++ ys) i 0 ≡ get_or xs i 0
get_d_front [] ys i h = absurd (omega arith)
get_d_front (x ∷ xs) ys zero h = refl
get_d_front (x ∷ xs) ys (suc i) h = get_d_front xs ys i (omega (arith, h))

pub nth-answer : (s : List ℕ) (n q : ℕ) → q < n → get_or (answers_to s n) q 0 ≡ answer_at s q
unfolding answers_to
nth-answer s zero q h = absurd (omega arith)
nth-answer s (suc n) q h = elim (split (ltb q n)) [
  | inl y ↦ get_d_front (answers_to s n) (answer_at s n ∷ []) q (omega (arith, length-answers s n, ltb-true q n y)) ∙ nth-answer s n q (ltb-true q n y)
  | inr y ↦ last (omega (arith, h, ltb-false q n y))
]
  where
    last : q ≡ n → get_or (answers_to s n ++ (answer_at s n ∷ [])) q 0 ≡ answer_at s q
    last e = subst (λ (j : ℕ). get_or (answers_to s n ++ (answer_at s n ∷ [])) j 0 ≡ answer_at s j) (sym e)
        (subst (λ (j : ℕ). get_or (answers_to s n ++ (answer_at s n ∷ [])) j 0 ≡ answer_at s n) (length-answers s n) (get_or-append_seam (answers_to s n) (answer_at s n) [] 0))

one-answered : (s out : List ℕ) (k a : ℕ) → k < length out → take k out ≡ answers_to s k → a ≡ answer_at s k → take (k + 1) (set out k a) ≡ answers_to s (k + 1)
unfolding answers_to
one-answered s out k a h p q = rw add-one (take-suc-set out k a h ∙ ap (λ (l : List ℕ). l ++ (a ∷ [])) p ∙ ap (λ (n : ℕ). answers_to s k ++ (n ∷ [])) q)

-- what comes next, taken apart
is_play : Next → Bool
is_play (Plays e) = true
is_play (Other u) = false

event_in : Event → Next → Event
event_in d (Plays e) = e
event_in d (Other u) = d

is_back : Next → Bool
is_back (Plays e) = false
is_back (Other StepBack) = true
is_back (Other (Unread q)) = false
is_back (Other Note) = false

is_unread : Next → Bool
is_unread (Plays e) = false
is_unread (Other StepBack) = false
is_unread (Other (Unread q)) = true
is_unread (Other Note) = false

number_in : Next → ℕ
number_in (Plays e) = 0
number_in (Other StepBack) = 0
number_in (Other (Unread q)) = q
number_in (Other Note) = 0

plays-read : (r : ReadEvent) (e : Event) → next_of r ≡ Plays e → r ≡ Ok (Play e)
unfolding next_of event_in is_play
plays-read (Ok (Play x)) e p = ap (λ (n : Next). Ok (Play (event_in x n))) p
plays-read (Ok Back) e p = absurd (false≢true (ap is_play p))
plays-read (Err q) e p = absurd (false≢true (ap is_play p))

back_read : (r : ReadEvent) → next_of r ≡ Other StepBack → r ≡ Ok Back
unfolding next_of is_back
back_read (Ok (Play x)) p = absurd (false≢true (ap is_back p))
back_read (Ok Back) p = refl
back_read (Err q) p = absurd (false≢true (ap is_back p))

unread : (r : ReadEvent) (q : ℕ) → next_of r ≡ Other (Unread q) → r ≡ Err q
unfolding next_of is_unread number_in
unread (Ok (Play x)) q p = absurd (false≢true (ap is_unread p))
unread (Ok Back) q p = absurd (false≢true (ap is_unread p))
unread (Err y) q p = ap (λ (n : Next). Err (number_in n)) p

is_refused : ReadEvent → Bool
is_refused (Ok a) = false
is_refused (Err q) = true

event_of : Event → ReadEvent → Event
event_of d (Ok (Play e)) = e
event_of d (Ok Back) = d
event_of d (Err q) = d

is_event : ReadEvent → Bool
is_event (Ok (Play e)) = true
is_event (Ok Back) = false
is_event (Err q) = false

-- reading refuses with a number that is not 0
refusal-of : ReadEvent → ℕ
refusal-of (Ok a) = 0
refusal-of (Err q) = q

refusal-numbered : (s : List ℕ) (q : ℕ) → read_event s ≡ Err q → q ≡ 0 → ⊥
unfolding reads first_no unless refusal-of is_refused
refusal-numbered s q e z = by (first_no (read_questions events s)) refl e
  where
    refused≢ : {n : ℕ} → refused n ≡ accepted → ⊥
    refused≢ w = false≢true (ap is_accepted w)

    by : (r : Reply) → first_no (read_questions events s) ≡ r → returned events r (value_on events s) ≡ Err q → ⊥
    by accepted x y = false≢true (ap is_refused y)
    by (refused n) x y = refused≢ (sym x ∙ reply-accepted (read_questions events s) n refl (sym (ap number x)) (ap refusal-of y ∙ z))

-- a record whose answer is not 0 changes nothing
unchanged : (s : List ℕ) (k : ℕ) → (answer_at s k ≡ 0 → ⊥) → (at (acts_to s (k + 1)) ≡ at (acts_to s k)) × (left_to s (k + 1) ≡ left_to s k)
unchanged s k n = by (read_event (piece s k)) refl
  where
    not_taken : (a : Act) → read_event (piece s k) ≡ Ok a → is_accepted (answer (at (acts_to s k)) a) ≡ false
    not_taken a e = elim (split (is_accepted (answer (at (acts_to s k)) a))) [
      | inl y ↦ absurd (n (ap (λ (r : ReadEvent). answer_number r (at (acts_to s k))) e ∙ ap number (is-accepted (answer (at (acts_to s k)) a) y)))
      | inr y ↦ y
    ]

    by : (r : ReadEvent) → read_event (piece s k) ≡ r → (at (acts_to s (k + 1)) ≡ at (acts_to s k)) × (left_to s (k + 1) ≡ left_to s k)
    by (Ok a) e = (refused-at s k a e (not_taken a e), refused-left s k a e (not_taken a e))
    by (Err q) e = (unread-at s k q e, unread-left s k q e)

-- an event whose answer is 0 was accepted
zero-taken : (b : Bench) (e : Event) → number (reply b e) ≡ 0 → reply b e ≡ accepted
zero-taken b e z = zero-accepted b e z

-- a step back that is accepted has something to undo
pub some : (locked : Bool) (undoable : ℕ) → back_number locked undoable ≡ 0 → 1 ≤ undoable
unfolding first_no unless
some true zero e = let z : ◌≡◌ {A = ℕ} 26 0 = e in omega arith
some true (suc n) e = omega arith
some false n e = let z : ◌≡◌ {A = ℕ} 5 0 = e in omega arith

-- a bench is kept for its page
same_kept : (i : ℕ) (even odd : Bench) → kept_for i even odd ≡ kept_of i even odd
same_kept i even odd = elim (split (ltb (i % 256) 128)) [
  | inl y ↦ rw (y, lt-ltb (front i % 256) 128 (omega (arith, ltb-true (i % 256) 128 y))) refl
  | inr y ↦ rw (y, le-ltb (front i % 256) 128 (omega (arith, ltb-false (i % 256) 128 y))) refl
]

-- a turn --------------------------------------------------------------------
module _ (t : Task) (x : Notes) (k : ℕ) (b : Bench) (out : List ℕ) (p : Upto t x k b out) (h : k < t.all) where
  -- no note is due
  module _ (w : ℕ) (place : w ≡ place_of x.ring x.noted k x.count) (ready : (x.on && ltb x.noted k) ≡ false) where
    placed_now : Playing t x k b out → w ≡ k
    unfolding place_of
    placed_now a = place ∙ rw (le-ltb k x.noted a.past) refl

    not-ahead : x.on ≡ true → k ≤ x.noted
    not-ahead o = ltb-false x.noted k (ap (λ (y : Bool). y && ltb x.noted k) (sym o) ∙ ready)

    module _ (a : Replaying t x k b out) where
      abbrev turn : ℕ
      turn = x.count - (x.noted - k)

      mem : Memory t.s x.noted x.count x.undoable x.ring x.even x.odd
      mem = p.memory a.on

      replayed : Placed t.s x.noted (left_to t.s x.noted) turn w
      unfolding place_of
      replayed = subst (λ (q : ℕ). Placed t.s x.noted (left_to t.s x.noted) turn q) (sym (place ∙ rw (lt-ltb k x.noted a.behind) refl))
          (mem.events turn (omega (arith, a.behind, a.page)) (omega (arith, a.behind, a.page)))

      within : w < length out
      within = omega (arith, replayed.before, p.done, p.room, p.long)

    pub in-room : w < length out
    in-room = elim p.mode [
      | inl a ↦ omega (arith, placed_now a, h, p.room, p.long)
      | inr a ↦ within a
    ]

    -- an event is played
    module _ (e : Event) (read : read_event (piece t.s w) ≡ Ok (Play e)) (b' : Bench) (q : ℕ) (steps : b' ≡ step b e) (replies : q ≡ number (reply b e)) where
      first_time : Playing t x k b out → Upto t x (k + 1) b' (set out w q)
      unfolding answer
      first_time a =
          let at-k : read_event (piece t.s k) ≡ Ok (Play e) = ap (λ (j : ℕ). read_event (piece t.s j)) (sym (placed_now a)) ∙ read in
          let asked : q ≡ answer_at t.s k = replies ∙ ap (λ (y : Bench). number (reply y e)) (a.bench ∙ sym (as-left (acts_to t.s k))) ∙ ap (λ (r : ReadEvent). answer_number r (at (acts_to t.s k))) (sym at-k) in
          let now : b' ≡ after (left_to t.s (k + 1)) = steps ∙ ap (λ (y : Bench). step y e) a.bench ∙ sym (played t.s k e at-k) in
          let put : take (k + 1) (set out w q) ≡ answers_to t.s (k + 1) = ap (λ (j : ℕ). take (k + 1) (set out j q)) (placed_now a) ∙ one-answered t.s out k q (omega (arith, h, p.room, p.long)) a.answers asked in
          record {
            upto = omega (arith, h);
            done = p.done;
            whole = p.whole;
            room = p.room;
            long = length-set out w q ∙ p.long;
            rest = drop-set-lt t.all out w q (omega (arith, placed_now a, h)) ∙ p.rest;
            slots = p.slots;
            list = left_to t.s (k + 1);
            here = now;
            mode = inl (record {
              past = omega (arith, a.past);
              bench = now;
              answers = put;
              ahead = λ o. omega (arith, not-ahead o);
              event = λ o l z. record { event = e; read = ap (λ (j : ℕ). read_event (piece t.s j)) (omega (arith, not-ahead o, a.past)) ∙ at-k };
            });
            memory = p.memory;
            plain = p.plain;
          }

      again : Replaying t x k b out → Upto t x (k + 1) b' (set out w q)
      unfolding event_of
      again a =
          let r = replayed a in
          let same : e ≡ r.event = ap (event_of e) (sym read ∙ r.read) in
          let zero-answer : q ≡ 0 = replies ∙ ap (λ (y : Bench). number (reply y e)) a.bench ∙ ap (λ (y : Event). number (reply (after (take (turn a) (left_to t.s x.noted))) y)) same ∙ ap number r.taken in
          let was : get_or out w 0 ≡ 0 = sym (get_or-take x.noted out w 0 r.before) ∙ ap (λ (l : List ℕ). get_or l w 0) a.answers ∙ nth-answer t.s x.noted w r.before ∙ r.answered in
          let kept : set out w q ≡ out = ap (set out w) (zero-answer ∙ sym was) ∙ set-get_or out w 0 in
          let now : b' ≡ after (take (suc (turn a)) (left_to t.s x.noted)) = steps ∙ ap (λ (y : Bench). step y e) a.bench ∙ ap (step (after (take (turn a) (left_to t.s x.noted)))) same ∙ sym (ap after r.there ∙ run_snoc (take (turn a) (left_to t.s x.noted)) r.event new_bench) in
          subst (Upto t x (k + 1) b') (sym kept) (record {
            upto = omega (arith, h);
            done = p.done;
            whole = p.whole;
            room = p.room;
            long = p.long;
            rest = p.rest;
            slots = p.slots;
            list = take (suc (turn a)) (left_to t.s x.noted);
            here = now;
            mode = elim (split (ltb (k + 1) x.noted)) [
              | inl y ↦ inr (record {
                on = a.on;
                behind = ltb-true (k + 1) x.noted y;
                page = omega (arith, a.page);
                bench = now ∙ ap (λ (j : ℕ). after (take j (left_to t.s x.noted))) (nearer a);
                answers = a.answers;
              })
              | inr y ↦ caught-up a (omega (arith, a.behind, ltb-false (k + 1) x.noted y)) now
            ];
            memory = p.memory;
            plain = p.plain;
          })
        where
          nearer : (a : Replaying t x k b out) → suc (turn a) ≡ x.count - (x.noted - (k + 1))
          nearer a = omega (arith, a.behind, a.page)

          caught-up : (a : Replaying t x k b out) → k + 1 ≡ x.noted → b' ≡ after (take (suc (turn a)) (left_to t.s x.noted)) → Playing t x (k + 1) b' out ⊎ Replaying t x (k + 1) b' out
          caught-up a y now = inl (record {
            past = omega (arith, y);
            bench = now ∙ ap after (take_all (suc (turn a)) (left_to t.s x.noted) (omega (arith, (mem a).size, a.behind, a.page, y)) ∙ ap (left_to t.s) (sym y));
            answers = subst (λ (j : ℕ). take j out ≡ answers_to t.s j) (sym y) a.answers;
            ahead = λ o. omega (arith, y);
            event = λ o l z. absurd (omega (arith, y, l));
          })

      pub let_through : Upto t x (k + 1) b' (set out w q)
      let_through = elim p.mode [
        | inl a ↦ first_time a
        | inr a ↦ again a
      ]

    -- a record that is not read
    module _ (q : ℕ) (read : read_event (piece t.s w) ≡ Err q) where
      not-again : Replaying t x k b out → ⊥
      unfolding is_event
      not-again a = false≢true (ap is_event (sym read ∙ (replayed a).read))

      not_played : Playing t x k b out → Upto t x (k + 1) b (set out w q)
      not_played a =
          let at-k : read_event (piece t.s k) ≡ Err q = ap (λ (j : ℕ). read_event (piece t.s j)) (sym (placed_now a)) ∙ read in
          let same : left_to t.s (k + 1) ≡ left_to t.s k = unread-left t.s k q at-k in
          record {
            upto = omega (arith, h);
            done = p.done;
            whole = p.whole;
            room = p.room;
            long = length-set out w q ∙ p.long;
            rest = drop-set-lt t.all out w q (omega (arith, placed_now a, h)) ∙ p.rest;
            slots = p.slots;
            list = p.list;
            here = p.here;
            mode = inl (record {
              past = omega (arith, a.past);
              bench = a.bench ∙ ap after (sym same);
              answers = ap (λ (j : ℕ). take (k + 1) (set out j q)) (placed_now a) ∙ one-answered t.s out k q (omega (arith, h, p.room, p.long)) a.answers (ap (λ (r : ReadEvent). answer_number r (at (acts_to t.s k))) (sym at-k));
              ahead = λ o. omega (arith, not-ahead o);
              event = λ o l z. absurd (no_zero a x.noted (omega (arith, not-ahead o, a.past)) z);
            });
            memory = p.memory;
            plain = p.plain;
          }
        where
          no_zero : Playing t x k b out → (j : ℕ) → j ≡ k → answer_at t.s j ≡ 0 → ⊥
          no_zero a j e z = refusal-numbered (piece t.s k) q (ap (λ (i : ℕ). read_event (piece t.s i)) (sym (placed_now a)) ∙ read)
              (sym (ap (λ (r : ReadEvent). answer_number r (at (acts_to t.s k))) (ap (λ (i : ℕ). read_event (piece t.s i)) (sym (placed_now a)) ∙ read)) ∙ ap (answer_at t.s) (sym e) ∙ z)

      pub not-read : Upto t x (k + 1) b (set out w q)
      not-read = elim p.mode [
        | inl a ↦ not_played a
        | inr a ↦ absurd (not-again a)
      ]

    -- a step back
    module _ (read : read_event (piece t.s w) ≡ Ok Back) where
      no-event : Replaying t x k b out → ⊥
      unfolding is_event
      no-event a = false≢true (ap is_event (sym read ∙ (replayed a).read))

      playing : Playing t x k b out
      playing = elim p.mode [
        | inl a ↦ a
        | inr a ↦ absurd (no-event a)
      ]

      here-read : read_event (piece t.s k) ≡ Ok Back
      here-read = ap (λ (j : ℕ). read_event (piece t.s j)) (sym (placed_now playing)) ∙ read

      module _ (o : x.on ≡ true) (q : ℕ) (asked : q ≡ back_number b.shared.locked x.undoable) where
        at-k : x.noted ≡ k
        at-k = omega (arith, not-ahead o, playing.past)

        memory-here : Memory t.s k x.count x.undoable x.ring x.even x.odd
        memory-here = subst (λ (j : ℕ). Memory t.s j x.count x.undoable x.ring x.even x.odd) at-k (p.memory o)

        number_is : q ≡ number (answer (at (acts_to t.s k)) Back)
        number_is = back-number t.s k x.count x.undoable x.ring x.even x.odd memory-here b playing.bench q asked

        answer-is : q ≡ answer_at t.s k
        answer-is = number_is ∙ ap (λ (r : ReadEvent). answer_number r (at (acts_to t.s k))) (sym here-read)

        put : take (k + 1) (set out w q) ≡ answers_to t.s (k + 1)
        put = ap (λ (j : ℕ). take (k + 1) (set out j q)) (placed_now playing) ∙ one-answered t.s out k q (omega (arith, h, p.room, p.long)) playing.answers answer-is

        pub back-refused : (q ≡ 0 → ⊥) → Upto t x (k + 1) b (set out w q)
        back-refused n = record {
          upto = omega (arith, h);
          done = p.done;
          whole = p.whole;
          room = p.room;
          long = length-set out w q ∙ p.long;
          rest = drop-set-lt t.all out w q (omega (arith, placed_now playing, h)) ∙ p.rest;
          slots = p.slots;
          list = p.list;
          here = p.here;
          mode = inl (record {
            past = omega (arith, playing.past);
            bench = playing.bench ∙ ap after (sym (refused-left t.s k Back here-read not-accepted));
            answers = put;
            ahead = λ _. omega (arith, at-k);
            event = λ _ l z. absurd (n (answer-is ∙ ap (answer_at t.s) (sym at-k) ∙ z));
          });
          memory = p.memory;
          plain = p.plain;
        }
          where
            not-accepted : is_accepted (answer (at (acts_to t.s k)) Back) ≡ false
            not-accepted = elim (split (is_accepted (answer (at (acts_to t.s k)) Back))) [
              | inl y ↦ absurd (n (number_is ∙ ap number (is-accepted (answer (at (acts_to t.s k)) Back) y)))
              | inr y ↦ y
            ]

        pub back-taken : q ≡ 0 → (count' undoable' k' : ℕ) → count' ≡ x.count - 1 → undoable' ≡ x.undoable - 1 → k' ≡ k + 1 - count' % 128 → (b' : Bench) → b' ≡ kept_of count' x.even x.odd
            → Upto t (record { on = true; noted = k + 1; count = count'; undoable = undoable'; ring = x.ring; even = x.even; odd = x.odd }) k' b' (set out w q)
        back-taken z count' undoable' k' e1 e2 e3 b' e4 = record {
          upto = omega (arith, h, e3);
          done = omega (arith, h);
          whole = p.whole;
          room = p.room;
          long = length-set out w q ∙ p.long;
          rest = drop-set-lt t.all out w q (omega (arith, placed_now playing, h)) ∙ p.rest;
          slots = p.slots;
          list = take (front count') (left_to t.s (k + 1));
          here = at_front;
          mode = elim (split (ltb 0 (count' % 128))) [
            | inl y ↦ inr (record {
              on = refl;
              behind = omega (arith, e3, ltb-true 0 (count' % 128) y, few-left);
              page = omega (arith, e3, few-left);
              bench = at_front ∙ ap (λ (j : ℕ). after (take j (left_to t.s (k + 1)))) (so-many (ltb-true 0 (count' % 128) y));
              answers = put;
            })
            | inr y ↦ inl (record {
              past = omega (arith, e3, ltb-false 0 (count' % 128) y);
              bench = at_front ∙ ap after (whole-page (omega (arith, ltb-false 0 (count' % 128) y)));
              answers = subst (λ (j : ℕ). take j (set out w q) ≡ answers_to t.s j) (omega (arith, e3, ltb-false 0 (count' % 128) y)) put;
              ahead = λ _. omega (arith, e3);
              event = λ _ l _. absurd (omega (arith, e3, l));
            })
          ];
          memory = λ _. now;
          plain = λ f. absurd (true≢false f);
        }
          where
            taken : answer (at (acts_to t.s k)) Back ≡ accepted
            taken = unfold answer in reply-accepted _ q refl number_is z

            now : Memory t.s (k + 1) count' undoable' x.ring x.even x.odd
            now = subst (λ (c : ℕ). Memory t.s (k + 1) c undoable' x.ring x.even x.odd) (sym e1) (subst (λ (u : ℕ). Memory t.s (k + 1) (x.count - 1) u x.ring x.even x.odd) (sym e2)
                (one-fewer-noted t.s k x.count x.undoable x.ring x.even x.odd memory-here here-read taken))

            few-left : count' ≤ k + 1
            few-left = now.few

            at_front : b' ≡ after (take (front count') (left_to t.s (k + 1)))
            at_front = e4 ∙ now.pages count' (omega arith) (omega arith)

            so-many : 0 < count' % 128 → front count' ≡ count' - (k + 1 - k')
            so-many y = omega (arith, e3, few-left)

            whole-page : count' % 128 ≡ 0 → take (front count') (left_to t.s (k + 1)) ≡ left_to t.s k'
            whole-page y = take_all (front count') (left_to t.s (k + 1)) (omega (arith, y, now.size)) ∙ ap (left_to t.s) (omega (arith, e3, y))

      -- the first one: from the front again, and now with a memory
      pub restarted : x.on ≡ false → (b' : Bench) → b' ≡ x.even → (q : ℕ) → Upto t (record { on = true; noted = 0; count = 0; undoable = 0; ring = x.ring; even = x.even; odd = x.odd }) 0 b' (set out w q)
      unfolding acts_to left_from answers_to run
      restarted o b' e q = record {
        upto = omega arith;
        done = omega arith;
        whole = p.whole;
        room = p.room;
        long = length-set out w q ∙ p.long;
        rest = drop-set-lt t.all out w q (omega (arith, placed_now playing, h)) ∙ p.rest;
        slots = p.slots;
        list = [];
        here = e ∙ (p.plain o).even;
        mode = inl (record {
          past = omega arith;
          bench = e ∙ (p.plain o).even;
          answers = refl;
          ahead = λ _. omega arith;
          event = λ _ l _. absurd (omega arith);
        });
        memory = λ _. none-noted t.s x.ring x.even x.odd p.slots (p.plain o).even;
        plain = λ f. absurd (true≢false f);
      }

      -- as the code does it
      pub step_safe : (1 ≤ k + 1) × (x.undoable ≤ x.count - 1) × (x.count ≤ k + 1)
      step_safe = (omega arith, elim (split x.on) [ inl o ↦ (p.memory o).low | inr f ↦ omega (arith, (p.plain f).undoable) ], elim (split x.on) [ inl o ↦ omega (arith, (p.memory o).few, playing.past) | inr f ↦ omega (arith, (p.plain f).count) ])

      module _ (a k' n' l' u' : ℕ) (g : BackTaken x.on b.shared.locked x.undoable x.count (k + 1) a k' n' l' u') where
        pub stepped-refused : (a ≡ 0 → ⊥) → Upto t (record { on = true; noted = n'; count = l'; undoable = u'; ring = x.ring; even = x.even; odd = x.odd }) k' b (set out w a)
        stepped-refused n = elim (split x.on) [
          | inl o ↦ let r = g.refused o n in
              subst (λ (j : ℕ). Upto t (record { on = true; noted = n'; count = l'; undoable = u'; ring = x.ring; even = x.even; odd = x.odd }) j b (set out w a)) (sym r.0)
              (subst (λ (y : Notes). Upto t y (k + 1) b (set out w a))
              (λ i. record { on = o i; noted = same_noted o r.1 i; count = sym r.2 i; undoable = sym r.3 i; ring = x.ring; even = x.even; odd = x.odd })
              (back-refused o a (g.asked o) n))
          | inr f ↦ absurd (n (g.first f).0)
        ]
          where
            same_noted : x.on ≡ true → n' ≡ k + 1 - 1 → x.noted ≡ n'
            same_noted o e = omega (arith, not-ahead o, playing.past, e)

        pub stepped-taken : a ≡ 0 → (b' : Bench) → b' ≡ kept_for l' x.even x.odd
            → Upto t (record { on = true; noted = n'; count = l'; undoable = u'; ring = x.ring; even = x.even; odd = x.odd }) k' b' (set out w a)
        stepped-taken z b' e = elim (split x.on) [
          | inl o ↦ let r = g.taken o z in
              subst (λ (j : ℕ). Upto t (record { on = true; noted = j; count = l'; undoable = u'; ring = x.ring; even = x.even; odd = x.odd }) k' b' (set out w a)) (sym r.1)
              (back-taken o a (g.asked o) z l' u' k' r.2 r.3 (r.0 ∙ ap (λ (c : ℕ). k + 1 - c % 128) (sym r.2)) b' (e ∙ same_kept l' x.even x.odd))
          | inr f ↦ let r = g.first f in
              subst (λ (j : ℕ). Upto t (record { on = true; noted = n'; count = l'; undoable = u'; ring = x.ring; even = x.even; odd = x.odd }) j b' (set out w a)) (sym r.1)
              (subst (λ (y : Notes). Upto t y 0 b' (set out w a))
              (λ i. record { on = true; noted = sym r.2 i; count = sym r.3 i; undoable = sym r.4 i; ring = x.ring; even = x.even; odd = x.odd })
              (restarted f b' (e ∙ ap (λ (j : ℕ). kept_for j x.even x.odd) r.3) a))
        ]

        -- so many turns are left
        pub back_nearer : a ≡ 0 → 200 * (t.all - n') + (t.all - k') < 200 * (t.all - x.noted) + (t.all - k) + cond x.on 0 (t.all + 1)
        back_nearer z = elim (split x.on) [
          | inl o ↦ let r = g.taken o z in rw o (omega (arith, r.0, r.1, h, not-ahead o, playing.past))
          | inr f ↦ let r = g.first f in rw f (omega (arith, r.1, r.2, h, (p.plain f).noted))
        ]

        pub refused_nearer : (a ≡ 0 → ⊥) → 200 * (t.all - n') + (t.all - k') < 200 * (t.all - x.noted) + (t.all - k) + cond x.on 0 (t.all + 1)
        refused_nearer n = elim (split x.on) [
          | inl o ↦ let r = g.refused o n in rw o (omega (arith, r.0, r.1, h, not-ahead o, playing.past))
          | inr f ↦ absurd (n (g.first f).0)
        ]

  -- a note is due: what did the record before come to?
  module _ (o : x.on ≡ true) (due : x.noted < k) where
    waiting : Playing t x k b out
    waiting = elim p.mode [
      | inl a ↦ a
      | inr a ↦ absurd (omega (arith, a.behind, due))
    ]

    last-is : x.noted + 1 ≡ k
    last-is = omega (arith, waiting.ahead o, due)

    last-answer : (q : ℕ) → q ≡ get_or out x.noted 0 → q ≡ answer_at t.s x.noted
    last-answer q e = e ∙ sym (get_or-take k out x.noted 0 due) ∙ ap (λ (l : List ℕ). get_or l x.noted 0) waiting.answers ∙ nth-answer t.s k x.noted due

    -- settled, with what is then remembered
    noted_with : (count undoable : ℕ) (ring : List ℕ) (even odd : Bench) → Memory t.s k count undoable ring even odd
        → Upto t (record { on = true; noted = k; count = count; undoable = undoable; ring = ring; even = even; odd = odd }) k b out
    noted_with count undoable ring even odd m = record {
      upto = p.upto;
      done = p.upto;
      whole = p.whole;
      room = p.room;
      long = p.long;
      rest = p.rest;
      slots = m.slots;
      list = p.list;
      here = p.here;
      mode = inl (record { past = omega arith; bench = waiting.bench; answers = waiting.answers; ahead = λ _. omega arith; event = λ _ l _. absurd (omega (arith, l)) });
      memory = λ _. m;
      plain = λ f. absurd (true≢false f);
    }

    pub note-refused : (q : ℕ) → q ≡ get_or out x.noted 0 → (q ≡ 0 → ⊥) → Upto t (record { on = true; noted = k; count = x.count; undoable = x.undoable; ring = x.ring; even = x.even; odd = x.odd }) k b out
    note-refused q e n = noted_with x.count x.undoable x.ring x.even x.odd
        (subst (λ (j : ℕ). Memory t.s j x.count x.undoable x.ring x.even x.odd) last-is
        (same_memory t.s x.noted x.count x.undoable x.ring x.even x.odd (p.memory o) (unchanged t.s x.noted (λ z. n (last-answer q e ∙ z))).0 (unchanged t.s x.noted (λ z. n (last-answer q e ∙ z))).1))

    -- an accepted event: one more is left
    module _ (q : ℕ) (e : q ≡ get_or out x.noted 0) (z : q ≡ 0) (last : ℕ) (l : last ≡ k - 1) where
      was-taken : answer_at t.s x.noted ≡ 0
      was-taken = sym (last-answer q e) ∙ z

      found : AnEvent t.s x.noted
      found = waiting.event o due was-taken

      asked_then : number (reply (at (acts_to t.s x.noted)).bench found.event) ≡ answer_at t.s x.noted
      unfolding answer
      asked_then = ap (λ (r : ReadEvent). answer_number r (at (acts_to t.s x.noted))) (sym found.read)

      ok : reply (after (left_to t.s x.noted)) found.event ≡ accepted
      ok = zero-taken (after (left_to t.s x.noted)) found.event (ap (λ (y : Bench). number (reply y found.event)) (sym (as-left (acts_to t.s x.noted))) ∙ asked_then ∙ was-taken)

      bench_now : b ≡ after (left_to t.s (x.noted + 1))
      bench_now = waiting.bench ∙ ap (λ (j : ℕ). after (left_to t.s j)) (sym last-is)

      abbrev ring_now : List ℕ
      ring_now = set x.ring (x.count % 256) last

      abbrev notes_with : Bench → Bench → Notes
      notes_with even odd = record { on = true; noted = k; count = x.count + 1; undoable = remembered x.undoable x.count; ring = ring_now; even = even; odd = odd }

      settle : (even odd : Bench) → Memory t.s (x.noted + 1) (x.count + 1) (remembered x.undoable x.count) (set x.ring (x.count % 256) x.noted) even odd → Upto t (notes_with even odd) k b out
      settle even odd m = noted_with (x.count + 1) (remembered x.undoable x.count) ring_now even odd
          (subst (λ (j : ℕ). Memory t.s k (x.count + 1) (remembered x.undoable x.count) (set x.ring (x.count % 256) j) even odd) same_place
          (subst (λ (j : ℕ). Memory t.s j (x.count + 1) (remembered x.undoable x.count) (set x.ring (x.count % 256) x.noted) even odd) last-is m))
        where
          same_place : x.noted ≡ last
          same_place = omega (arith, last-is, l)

      pub note-within : ((x.count + 1) % 128 ≡ 0 → ⊥) → Upto t (notes_with x.even x.odd) k b out
      note-within n = settle x.even x.odd (within-page t.s x.noted x.count x.undoable x.ring x.even x.odd (p.memory o) found.event found.read was-taken ok n)

      pub note-even : (x.count + 1) % 128 ≡ 0 → (x.count + 1) % 256 < 128 → (y : Bench) → y ≡ b → Upto t (notes_with y x.odd) k b out
      note-even n i y is = settle y x.odd (even-page t.s x.noted x.count x.undoable x.ring x.even x.odd (p.memory o) found.event found.read was-taken ok n i y (is ∙ bench_now))

      pub note-odd : (x.count + 1) % 128 ≡ 0 → ((x.count + 1) % 256 < 128 → ⊥) → (y : Bench) → y ≡ b → Upto t (notes_with x.even y) k b out
      note-odd n i y is = settle x.even y (odd-page t.s x.noted x.count x.undoable x.ring x.even x.odd (p.memory o) found.event found.read was-taken ok n i y (is ∙ bench_now))

pub next-from : (s : List ℕ) (from w : ℕ) (t : Bool) (n : Next) → t ≡ false → n ≡ next_at t (record_at s (from + w * 10)) → n ≡ next_of (read_event (piece (drop from s) w))
unfolding piece_at next_at
next-from s from w t n f e = e ∙ ap (λ (y : Bool). next_at y (record_at s (from + w * 10))) f ∙ ap (λ (l : List ℕ). next_of (read_event (take 10 l))) (sym (drop-drop (w * 10) from s))

-- where the record lies that is played now
module _ (t : Task) (x : Notes) (k : ℕ) (b : Bench) (out : List ℕ) (p : Upto t x k b out) where
  pub place_safe : (length x.ring ≡ 256) × (k < x.noted → (x.on ≡ true) × (x.noted - k ≤ x.count))
  place_safe = (
    p.slots,
    λ l. elim p.mode [
      | inl a ↦ absurd (omega (arith, a.past, l))
      | inr a ↦ (a.on, omega (arith, a.page))
    ],
  )

  pub place-all : k < t.all → (w : ℕ) → w ≡ place_of x.ring x.noted k x.count → w < t.all
  unfolding place_of
  place-all h w e = elim p.mode [
    | inl a ↦ first a
    | inr a ↦ omega (arith, (replayed t x k b out p h w e (no_note a) a).before, p.done)
  ]
    where
      first : Playing t x k b out → w < t.all
      first a =
          let here : w ≡ k = e ∙ ap (λ (y : Bool). cond y (get_or x.ring ((x.count - (x.noted - k)) % 256) 0) k) (le-ltb k x.noted a.past) in
          omega (arith, here, h)

      no_note : Replaying t x k b out → (x.on && ltb x.noted k) ≡ false
      no_note a = rw (a.on, le-ltb x.noted k (omega (arith, a.behind))) refl

-- what the code tests ----------------------------------------------------------
is_note : Next → Bool
is_note (Plays e) = false
is_note (Other (Unread q)) = false
is_note (Other StepBack) = false
is_note (Other Note) = true

never_note : (r : ReadEvent) → next_of r ≡ Other Note → ⊥
unfolding next_of is_note
never_note (Ok (Play e)) p = false≢true (ap is_note p)
never_note (Ok Back) p = false≢true (ap is_note p)
never_note (Err q) p = false≢true (ap is_note p)

due_then : (t : Bool) (r : ReadEvent) → next_at t r ≡ Other Note → t ≡ true
unfolding next_at
due_then true r p = refl
due_then false r p = absurd (never_note r p)

module _ (s : List ℕ) (from w : ℕ) (t : Bool) (n : Next) (e : n ≡ next_at t (record_at s (from + w * 10))) where
  note-due : n ≡ Other Note → t ≡ true
  note-due p = due_then t (record_at s (from + w * 10)) (sym e ∙ p)

  none-due : is_note n ≡ false → t ≡ false
  unfolding next_at is_note
  none-due f = elim (split t) [
    | inl y ↦ absurd (true≢false (sym (ap is_note (e ∙ ap (λ (z : Bool). next_at z (record_at s (from + w * 10))) y)) ∙ f))
    | inr y ↦ y
  ]

  read_here : is_note n ≡ false → n ≡ next_of (read_event (piece (drop from s) w))
  read_here f = next-from s from w t n (none-due f) e

  pub event-ready : (x : Event) → n ≡ Plays x → t ≡ false
  event-ready x p = none-due (ap is_note p ∙ (unfold is_note in refl))

  pub event-read : (x : Event) → n ≡ Plays x → read_event (piece (drop from s) w) ≡ Ok (Play x)
  event-read x p = plays-read _ x (sym (read_here (ap is_note p ∙ (unfold is_note in refl))) ∙ p)

  pub refused-ready : (q : ℕ) → n ≡ Other (Unread q) → t ≡ false
  refused-ready q p = none-due (ap is_note p ∙ (unfold is_note in refl))

  pub refused-read : (q : ℕ) → n ≡ Other (Unread q) → read_event (piece (drop from s) w) ≡ Err q
  refused-read q p = unread _ q (sym (read_here (ap is_note p ∙ (unfold is_note in refl))) ∙ p)

  pub back-ready : n ≡ Other StepBack → t ≡ false
  back-ready p = none-due (ap is_note p ∙ (unfold is_note in refl))

  pub step-back-read : n ≡ Other StepBack → read_event (piece (drop from s) w) ≡ Ok Back
  step-back-read p = back_read _ (sym (read_here (ap is_note p ∙ (unfold is_note in refl))) ∙ p)

  pub due_note : (on : Bool) (noted k : ℕ) → t ≡ (on && ltb noted k) → n ≡ Other Note → (on ≡ true) × (noted < k)
  due_note on noted k is p = let d : (on && ltb noted k) ≡ true = sym is ∙ note-due p in (and_l on (ltb noted k) d, ltb-true noted k (and_r on (ltb noted k) d))

-- the beginning and the end ---------------------------------------------------
pub start : (s out : List ℕ) (all : ℕ) (b even odd : Bench) (ring : List ℕ) (on : Bool) → all ≡ count s → all ≤ length out → length ring ≡ 256 → b ≡ new_bench → even ≡ new_bench
    → Upto (record { s = s; out = out; all = all }) (record { on = on; noted = 0; count = 0; undoable = 0; ring = ring; even = even; odd = odd }) 0 b out
unfolding acts_to left_from answers_to run
start s out all b even odd ring on w r l e f = record {
  upto = omega arith;
  done = omega arith;
  whole = w;
  room = r;
  long = refl;
  rest = refl;
  slots = l;
  list = [];
  here = e;
  mode = inl (record { past = omega arith; bench = e; answers = refl; ahead = λ _. omega arith; event = λ _ i _. absurd (omega arith) });
  memory = λ _. none-noted s ring even odd l f;
  plain = λ _. record { noted = refl; count = refl; undoable = refl; even = f };
}

pub no_room : (s out : List ℕ) (all : ℕ) → all ≡ count s → length out < all → RunAsDefined s out not_run out
unfolding run_of answered
no_room s out all w h =
    let f : has_room s out ≡ false = lt-leb (count s) (length out) (omega (arith, w)) in
    record { result = rw f; buffer = rw f }

pub ended : (t : Task) (x : Notes) (k : ℕ) (b : Bench) (out : List ℕ) → Upto t x k b out → t.all ≤ k → RunAsDefined t.s t.out (end_of true t.all b) out
unfolding run_of answered
ended t x k b out p h =
    let e : k ≡ count t.s = omega (arith, p.upto, p.whole) in
    let f : has_room t.s t.out ≡ true = le-leb (count t.s) (length t.out) (omega (arith, p.room, p.whole)) in
    let a : Playing t x k b out = at-end in
    record {
      result = rw f (ap (end_of true t.all) (a.bench ∙ ap (λ (j : ℕ). after (left_to t.s j)) e ∙ sym (as-left (acts_to t.s (count t.s)))) ∙ ap (λ (n : ℕ). end_of true n (at (acts_to t.s (count t.s))).bench) p.whole);
      buffer = rw f (sym (take-append-drop (count t.s) out) ∙ ap (λ (l : List ℕ). l ++ drop (count t.s) out) (subst (λ (j : ℕ). take j out ≡ answers_to t.s j) e a.answers)
          ∙ ap (λ (l : List ℕ). answers_to t.s (count t.s) ++ l) (subst (λ (j : ℕ). drop j out ≡ drop j t.out) p.whole p.rest));
    }
  where
    at-end : Playing t x k b out
    at-end = elim p.mode [
      | inl a ↦ a
      | inr a ↦ absurd (omega (arith, a.behind, p.done, h))
    ]

-- a note, as the code takes it
module _ (t : Task) (x : Notes) (k : ℕ) (b : Bench) (out : List ℕ) (p : Upto t x k b out) (h : k < t.all) (o : x.on ≡ true) (due : x.noted < k) (last : ℕ) (l : last ≡ k - 1) where
  is_last : last ≡ x.noted
  is_last = omega (arith, l, last-is t x k b out p h o due)

  still-on : (n c u : ℕ) (ring : List ℕ) (even odd : Bench) → Upto t (record { on = true; noted = n; count = c; undoable = u; ring = ring; even = even; odd = odd }) k b out
      → Upto t (record { on = x.on; noted = n; count = c; undoable = u; ring = ring; even = even; odd = odd }) k b out
  still-on n c u ring even odd = subst (λ (y : Bool). Upto t (record { on = y; noted = n; count = c; undoable = u; ring = ring; even = even; odd = odd }) k b out) (sym o)

  pub note-place : last < length out
  note-place = omega (arith, is_last, due, h, p.room, p.long)

  pub note-few : x.count ≤ k
  note-few = omega (arith, (p.memory o).few, due)

  pub noted-refused : (get_or out last 0 ≡ 0 → ⊥) → Upto t (record { on = x.on; noted = k; count = x.count; undoable = x.undoable; ring = x.ring; even = x.even; odd = x.odd }) k b out
  noted-refused n = still-on k x.count x.undoable x.ring x.even x.odd (note-refused t x k b out p h o due (get_or out last 0) (ap (λ (j : ℕ). get_or out j 0) is_last) n)

  module _ (z : get_or out last 0 ≡ 0) (u : ℕ) (is-u : u ≡ remembered x.undoable x.count) where
    with_u : (c : ℕ) (ring : List ℕ) (even odd : Bench) → Upto t (record { on = true; noted = k; count = c; undoable = remembered x.undoable x.count; ring = ring; even = even; odd = odd }) k b out
        → Upto t (record { on = x.on; noted = k; count = c; undoable = u; ring = ring; even = even; odd = odd }) k b out
    with_u c ring even odd y = still-on k c u ring even odd (subst (λ (v : ℕ). Upto t (record { on = true; noted = k; count = c; undoable = v; ring = ring; even = even; odd = odd }) k b out) (sym is-u) y)

    abbrev ring' : List ℕ
    ring' = set x.ring (x.count % 256) last

    pub noted-within : ((x.count + 1) % 128 ≡ 0 → ⊥) → Upto t (record { on = x.on; noted = k; count = x.count + 1; undoable = u; ring = ring'; even = x.even; odd = x.odd }) k b out
    noted-within n = with_u (x.count + 1) ring' x.even x.odd (note-within t x k b out p h o due (get_or out last 0) (ap (λ (j : ℕ). get_or out j 0) is_last) z last l n)

    pub noted-even : (x.count + 1) % 128 ≡ 0 → (x.count + 1) % 256 < 128 → (y : Bench) → y ≡ b → Upto t (record { on = x.on; noted = k; count = x.count + 1; undoable = u; ring = ring'; even = y; odd = x.odd }) k b out
    noted-even n i y is = with_u (x.count + 1) ring' y x.odd (note-even t x k b out p h o due (get_or out last 0) (ap (λ (j : ℕ). get_or out j 0) is_last) z last l n i y is)

    pub noted-odd : (x.count + 1) % 128 ≡ 0 → 128 ≤ (x.count + 1) % 256 → (y : Bench) → y ≡ b → Upto t (record { on = x.on; noted = k; count = x.count + 1; undoable = u; ring = ring'; even = x.even; odd = y }) k b out
    noted-odd n i y is = with_u (x.count + 1) ring' x.even y (note-odd t x k b out p h o due (get_or out last 0) (ap (λ (j : ℕ). get_or out j 0) is_last) z last l n (λ g. absurd (omega (arith, g, i))) y is)

-- a record of what stands from a place on: it lies within the schedule, and is read at that place
pub place-within : (s : List ℕ) (from all k : ℕ) → all ≡ count (drop from s) → k < all → from + k * 10 < length s
unfolding count
place-within s from all k w h =
    let l : length (drop from s) ≡ length s - from = length-drop from s in
    omega (arith, l, w, h)
