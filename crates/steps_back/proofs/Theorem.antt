-- The benches remembered are those before the last events left, each after the events before it (`Trace`). Every act keeps that, so the bench is the one
-- after the events left.
use Prim.Native.Nat.{ℕ, zero, suc}
use mathlib.Core.Path.{◌≡◌, refl, sym, ◌∙◌, ap, subst}
use mathlib.Core.Bool.{Bool, true, false, cond, false≢true}
use mathlib.Core.List.{List, [], ◌∷◌, ◌++◌}
use mathlib.Core.Logic.{inl, inr}
use lib.ListN.{take}
use Rattle.ground.specs.Tests.{split, by_cond}
use Rattle.model.specs.QuestionLaws.{is-accepted, all_yes}
use Rattle.model.specs.Questions.{Reply, accepted, is_accepted}
use Rattle.model.specs.declared.Event.{Event}
use Rattle.protocol.specs.declared.Bench.{Bench}
use Rattle.protocol.specs.Benches.{new_bench}
use Rattle.protocol.specs.Steps.{step, run}
use Rattle.protocol.specs.Claim.{after}
use Rattle.steps_back.specs.Memory.{Remembering, new_remembering, can_be_undone, most_remembered, past_after, set_back, is_some, answer, done, next, run_acts, without_last, left_by, left_from, left}
use Rattle.steps_back.specs.Claim.{at}
use Rattle.model.specs.declared.Act.{Act}
use Rattle.model.specs.declared.Act.TheVariants.{Play, Back}

-- lists
pub without_snoc : (es : List Event) (e : Event) → without_last (es ++ (e ∷ [])) ≡ es
without_snoc [] e = refl
without_snoc (x ∷ []) e = refl
without_snoc (x ∷ y ∷ es) e = ap (λ (l : List Event). x ∷ l) (without_snoc (y ∷ es) e)

pub run_snoc : (es : List Event) (e : Event) (b : Bench) → run b (es ++ (e ∷ [])) ≡ step (run b es) e
unfolding run
run_snoc [] e b = refl
run_snoc (x ∷ es) e b = run_snoc es e (step b x)

-- the benches that are remembered are those before the last events that are left
pub record Before (b : Bench) (Older : List Event → Type 0) (es : List Event) : Type 0 where
  pub rest : List Event
  pub event : Event
  pub parts : es ≡ rest ++ (event ∷ [])
  pub is : b ≡ after rest
  pub no-lock : can_be_undone event ≡ true
  pub older : Older rest

unfoldable pub Trace : List Bench → List Event → Type 0
Trace [] es = Unit {0}
Trace (b ∷ past) es = Before b (Trace past) es

pub cut : (n : ℕ) (past : List Bench) (es : List Event) → Trace past es → Trace (take n past) es
unfolding Trace
cut zero past es t = tt
cut (suc n) [] es t = tt
cut (suc n) (b ∷ past) es t = record { rest = t.rest; event = t.event; parts = t.parts; is = t.is; no-lock = t.no-lock; older = cut n past t.rest t.older }

pub record Inv (s : Remembering) (es : List Event) : Type 0 where
  pub bench : s.bench ≡ after es
  pub past : Trace s.past es

-- one act -----------------------------------------------------------------
abbrev pub left_next : Remembering → List Event → Act → List Event
left_next s es a = cond (is_accepted (answer s a)) (left_by es a) es

play-past : (s : Remembering) (es : List Event) (e : Event) → Inv s es → Trace (past_after s e) (es ++ (e ∷ []))
unfolding past_after Trace
play-past s es e i = by_cond (λ (past : List Bench). Trace past (es ++ (e ∷ []))) (can_be_undone e) (take most_remembered (s.bench ∷ s.past)) []
    (λ u. cut most_remembered (s.bench ∷ s.past) (es ++ (e ∷ [])) (record { rest = es; event = e; parts = refl; is = i.bench; no-lock = u; older = i.past }))
    (λ _. tt)

-- what a step back finds: the last event left, and the bench before it
pub record Found (s : Remembering) (es : List Event) : Type 0 where
  pub rest : List Event
  pub event : Event
  pub parts : es ≡ rest ++ (event ∷ [])
  pub no-lock : can_be_undone event ≡ true
  pub inv : Inv (done s Back) rest

pub found : (b : Bench) (past : List Bench) (es : List Event) → Trace past es → is_some past ≡ true → Found (record { bench = b; past = past }) es
unfolding Trace done set_back
found b [] es t some = absurd (false≢true some)
found b (old ∷ older) es t some = record { rest = t.rest; event = t.event; parts = t.parts; no-lock = t.no-lock; inv = record { bench = t.is; past = t.older } }

pub find : (s : Remembering) (es : List Event) → Inv s es → answer s Back ≡ accepted → Found s es
unfolding answer
find s es i ok = found s.bench s.past es i.past (all_yes _ ok).1.0

done-inv : (s : Remembering) (es : List Event) (a : Act) → Inv s es → answer s a ≡ accepted → Inv (done s a) (left_by es a)
unfolding done
done-inv s es (Play e) i ok = record { bench = ap (λ (b : Bench). step b e) i.bench ∙ sym (run_snoc es e new_bench); past = play-past s es e i }
done-inv s es Back i ok = let f : Found s es = find s es i ok in
    subst (Inv (done s Back)) (sym (ap without_last f.parts ∙ without_snoc f.rest f.event)) f.inv

pub next-inv : (s : Remembering) (es : List Event) (a : Act) → Inv s es → Inv (next s a) (left_next s es a)
unfolding next
next-inv s es a i = elim (split (is_accepted (answer s a))) [
  | inl ok ↦ rw ok (done-inv s es a i (is-accepted (answer s a) ok))
  | inr q ↦ rw q i
]

-- lists of acts -----------------------------------------------------------
pub at_more : (s : Remembering) (acts more : List Act) → run_acts s (acts ++ more) ≡ run_acts (run_acts s acts) more
unfolding run_acts
at_more s [] more = refl
at_more s (a ∷ acts) more = at_more (next s a) acts more

left-more : (s : Remembering) (es : List Event) (acts more : List Act) → left_from s es (acts ++ more) ≡ left_from (run_acts s acts) (left_from s es acts) more
unfolding run_acts left_from
left-more s es [] more = refl
left-more s es (a ∷ acts) more = left-more (next s a) (left_next s es a) acts more

-- one more act
pub at_one : (acts : List Act) (a : Act) → at (acts ++ (a ∷ [])) ≡ next (at acts) a
unfolding run_acts
at_one acts a = at_more new_remembering acts (a ∷ [])

pub left_one : (acts : List Act) (a : Act) → left (acts ++ (a ∷ [])) ≡ left_next (at acts) (left acts) a
unfolding left_from
left_one acts a = left-more new_remembering [] acts (a ∷ [])

run-inv : (s : Remembering) (es : List Event) (acts : List Act) → Inv s es → Inv (run_acts s acts) (left_from s es acts)
unfolding run_acts left_from
run-inv s es [] i = i
run-inv s es (a ∷ acts) i = run-inv (next s a) (left_next s es a) acts (next-inv s es a i)

pub inv : (acts : List Act) → Inv (at acts) (left acts)
inv acts = run-inv new_remembering [] acts (record { bench = unfold run in refl; past = unfold Trace in tt })

-- an accepted act, and a refused one
module _ (acts : List Act) (a : Act) where
  pub left-taken : answer (at acts) a ≡ accepted → left (acts ++ (a ∷ [])) ≡ left_by (left acts) a
  left-taken ok = left_one acts a ∙ ap (λ (r : Reply). cond (is_accepted r) (left_by (left acts) a) (left acts)) ok

  pub at-taken : answer (at acts) a ≡ accepted → at (acts ++ (a ∷ [])) ≡ done (at acts) a
  unfolding next
  at-taken ok = at_one acts a ∙ ap (λ (r : Reply). cond (is_accepted r) (done (at acts) a) (at acts)) ok

  pub left-refused : is_accepted (answer (at acts) a) ≡ false → left (acts ++ (a ∷ [])) ≡ left acts
  left-refused q = left_one acts a ∙ ap (λ (t : Bool). cond t (left_by (left acts) a) (left acts)) q

  pub at-refused : is_accepted (answer (at acts) a) ≡ false → at (acts ++ (a ∷ [])) ≡ at acts
  unfolding next
  at-refused q = at_one acts a ∙ ap (λ (t : Bool). cond t (done (at acts) a) (at acts)) q
