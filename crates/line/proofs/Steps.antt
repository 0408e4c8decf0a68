-- One act: what it answers and what it leaves.
use Prim.Native.Nat.{ℕ, ◌-◌, ◌≤◌, ◌<◌}
use mathlib.Core.Path.{◌≡◌, sym, ◌∙◌, ap}
use mathlib.Core.Bool.{Bool, true, false}
use native.Mathlib.Omega.{arith}
use native.Mathlib.Decide.{dec_le}
use lib.Dec.{eqb, leb}
use lib.ListN.{length, get_or, set}
use lib.Seq.{set-get_or}
use borrow.Author.Tests.{lt-ltb, le-ltb, le-leb, leb-true, eqb-true}
use mathlib.Core.Logic.{inl, inr}
use Rattle.ground.specs.Tests.{split, and_l, and_r, and_i}
use Rattle.ground.specs.Update.{upd_same, upd_other}
use Rattle.ground.specs.Lists.{nth, put, nth-at, nth-put-at, length-put}
use Rattle.line.specs.declared.Line.{Line}
use Rattle.line.specs.declared.Done.{Done}
use Rattle.line.specs.declared.Act.{Act}
use Rattle.line.specs.declared.Act.TheVariants.{Turn, Call}
use Rattle.line.specs.declared.Answer.TheVariants.{Accepted, Refused, Served, Nobody}
use Rattle.line.specs.Turns.{is_lock, calls, called, ended, call_of, next, turn_of, perform}
use Rattle.line.specs.Claim.{names}
use Rattle.line.proofs.Callers.{caller-low, met-calls, met-high}

-- the four things that an act can do
pub call_in : (l : Line) (k : ℕ) → is_lock k ≡ true → perform l (Call k) ≡ record { line = called l k; answer = Accepted }
unfolding perform call_of
call_in l k e = rw e

pub call-out : (l : Line) (k : ℕ) → is_lock k ≡ false → perform l (Call k) ≡ record { line = l; answer = Refused }
unfolding perform call_of
call-out l k e = rw e

pub turn-none : (l : Line) → next l < 1 → perform l Turn ≡ record { line = l; answer = Nobody }
unfolding perform turn_of
turn-none l h = rw (lt-ltb (next l) 1 h)

pub turn_one : (l : Line) → 1 ≤ next l → perform l Turn ≡ record { line = ended l (next l); answer = Served (next l) }
unfolding perform turn_of
turn_one l h = rw (le-ltb (next l) 1 h)

-- and their answers
pub answer_in : (l : Line) (k : ℕ) → is_lock k ≡ true → (perform l (Call k)).answer ≡ Accepted
answer_in l k e = ap (λ (d : Done). d.answer) (call_in l k e)

pub answer-out : (l : Line) (k : ℕ) → is_lock k ≡ false → (perform l (Call k)).answer ≡ Refused
answer-out l k e = ap (λ (d : Done). d.answer) (call-out l k e)

pub answer-none : (l : Line) → next l < 1 → (perform l Turn).answer ≡ Nobody
answer-none l h = ap (λ (d : Done). d.answer) (turn-none l h)

pub answer-one : (l : Line) → 1 ≤ next l → (perform l Turn).answer ≡ Served (next l)
answer-one l h = ap (λ (d : Done). d.answer) (turn_one l h)

-- a line as the code has it: eight entries
abbrev pub Eight : Line → Type 0
Eight l = length l.calling ≡ 8

pub eight-after : (l : Line) (a : Act) → Eight l → Eight (perform l a).line
eight-after l Turn h = elim (dec_le 1 (next l)) [
  | yes q ↦ rw (turn_one l q) (length-put l.calling (next l) _ ∙ h)
  | no q ↦ rw (turn-none l (omega arith)) h
]
eight-after l (Call k) h = elim (split (is_lock k)) [
  | inl e ↦ rw (call_in l k e) (length-put l.calling k _ ∙ h)
  | inr e ↦ rw (call-out l k e) h
]

pub lock-low : (k : ℕ) → is_lock k ≡ true → 1 ≤ k
lock-low k e = leb-true 1 k (and_l (leb 1 k) (leb k 8) e)

pub lock-high : (k : ℕ) → is_lock k ≡ true → k ≤ 8
lock-high k e = leb-true k 8 (and_r (leb 1 k) (leb k 8) e)

pub is-lock : (k : ℕ) → 1 ≤ k → k ≤ 8 → is_lock k ≡ true
is-lock k a b = and_i (leb 1 k) (leb k 8) (le-leb 1 k a) (le-leb k 8 b)

-- a line with another entry for lock i
module _ (l : Line) (h : Eight l) (i : ℕ) (t : Bool) (last : ℕ) (e : is_lock i ≡ true) where
  entry-same : calls (record { calling = put l.calling i t; last = last }) i ≡ t
  unfolding calls
  entry-same = rw (e, nth-put-at false l.calling i t (lock-low i e) (omega (arith, lock-high i e)) i, upd_same (nth false l.calling) i t)

  entry_other : (k : ℕ) → eqb k i ≡ false → calls (record { calling = put l.calling i t; last = last }) k ≡ calls l k
  unfolding calls
  entry_other k n = rw (nth-put-at false l.calling i t (lock-low i e) (omega (arith, lock-high i e)) k, upd_other (nth false l.calling) i t k n)

-- the one served is a lock that was calling
pub next-calls : (l : Line) → 1 ≤ next l → calls l (next l) ≡ true
next-calls l q = met-calls l 8 _ q

next-lock : (l : Line) → 1 ≤ next l → is_lock (next l) ≡ true
next-lock l q = is-lock (next l) q (met-high l 8 _)

-- after its call it is calling, after its service not
pub called-calls : (l : Line) (k : ℕ) → Eight l → is_lock k ≡ true → calls (called l k) k ≡ true
called-calls l k h e = entry-same l h k true _ e

pub ended-silent : (l : Line) → Eight l → 1 ≤ next l → calls (ended l (next l)) (next l) ≡ false
ended-silent l h q = entry-same l h (next l) false _ (next-lock l q)

-- one who is not served by an act goes on calling
pub goes_on : (l : Line) (a : Act) (k : ℕ) → Eight l → calls l k ≡ true → names k (perform l a).answer ≡ false → calls (perform l a).line k ≡ true
goes_on l Turn k h e n = elim (dec_le 1 (next l)) [
  | yes q ↦ rw (turn_one l q) (entry_other l h (next l) _ _ (next-lock l q) k (rw (turn_one l q) at n) ∙ e)
  | no q ↦ rw (turn-none l (omega arith)) e
]
goes_on l (Call i) k h e n = elim (split (is_lock i)) [
  | inl t ↦ rw (call_in l i t) (elim (split (eqb k i)) [
    | inl s ↦ rw (eqb-true k i s) (called-calls l i h t)
    | inr s ↦ entry_other l h i _ _ t k s ∙ e
  ])
  | inr t ↦ rw (call-out l i t) e
]

-- one who was not calling is not after a turn, nor after another's call
pub stays-silent : (l : Line) (k : ℕ) → Eight l → calls l k ≡ false → calls (perform l Turn).line k ≡ false
stays-silent l k h e = elim (dec_le 1 (next l)) [
  | yes q ↦ rw (turn_one l q) (elim (split (eqb k (next l))) [
    | inl s ↦ rw (eqb-true k (next l) s) (ended-silent l h q)
    | inr s ↦ entry_other l h (next l) _ _ (next-lock l q) k s ∙ e
  ])
  | no q ↦ rw (turn-none l (omega arith)) e
]

pub others-call : (l : Line) (i k : ℕ) → Eight l → eqb k i ≡ false → calls (perform l (Call i)).line k ≡ calls l k
others-call l i k h s = elim (split (is_lock i)) [
  | inl t ↦ rw (call_in l i t) (entry_other l h i _ _ t k s)
  | inr t ↦ rw (call-out l i t)
]

-- a call by a lock already calling changes nothing
pub call-again : (l : Line) (k : ℕ) → calls l k ≡ true → called l k ≡ l
unfolding calls put
call-again l k e =
    let n : nth false l.calling k ≡ true = and_r (is_lock k) (nth false l.calling k) e in
    let g : get_or l.calling (k - 1) false ≡ true = sym (nth-at false l.calling k (caller-low l k e)) ∙ n in
    let s : set l.calling (k - 1) true ≡ l.calling = rw (← g) (set-get_or l.calling (k - 1) false) in
    rw s
