-- Each way out of an act gives what the definition does.
use Prim.Native.Nat.{ℕ}
use mathlib.Core.Path.{◌≡◌, refl, sym, ◌∙◌, ap}
use mathlib.Core.Bool.{Bool, true, false, cond}
use mathlib.Core.List.{List, [], ◌∷◌}
use mathlib.Core.Logic.{inl, inr}
use native.Mathlib.Omega.{arith}
use Rattle.ground.specs.Tests.{split}
use Rattle.model.specs.Questions.{number, is_accepted, unless, first_no}
use Rattle.model.specs.QuestionLaws.{is-accepted}
use Rattle.model.specs.declared.Act.{Act}
use Rattle.model.specs.declared.Act.TheVariants.{Play, Back}
use Rattle.model.specs.declared.Event.{Event}
use Rattle.protocol.specs.declared.Bench.{Bench}
use Rattle.protocol.specs.Questions.{reply}
use Rattle.bench_state.proofs.Replies.{zero-accepted}
use Rattle.bench_step.specs.Steps.{Stepped, stepped}
use Rattle.steps_back.specs.Memory.{Remembering, can_be_undone, past_after, set_back, back_reply, answer, done, next}
use Rattle.steps_back.proofs.Moments.{plain-one}
use Rattle.bench_back.specs.declared.Recall.{Recall}
use Rattle.bench_back.specs.declared.Recall.TheVariants.{Same, More, Fewer, Nothing}
use Rattle.bench_back.specs.declared.Acted.{Acted}
use Rattle.bench_back.specs.Recalls.{remembering_of, recall_by, recall_of, acted, recalled, Recalls}

-- an event: by what the step gave
module _ (b : Bench) (e : Event) (past : List Bench) (d : Stepped) (given : d ≡ stepped b e) where
  abbrev s : Remembering
  s = record { bench = b; past = past }

  answered : d.answer ≡ number (reply b e)
  answered = ap (λ (x : Stepped). x.answer) given

  played : (recall : Recall) → recall ≡ recall_of s (Play e) → ◌≡◌ {A = Acted} (record { answer = d.answer; bench = d.bench; recall = recall }) (acted s (Play e))
  unfolding answer
  played recall r = λ i. record {
    answer = answered i;
    bench = (ap (λ (x : Stepped). x.bench) given ∙ sym (plain-one s e)) i;
    recall = r i;
  }

  pub refused : (d.answer ≡ 0 → ⊥) → ◌≡◌ {A = Acted} (record { answer = d.answer; bench = d.bench; recall = Same }) (acted s (Play e))
  unfolding recall_of answer
  refused n = played Same (elim (split (is_accepted (reply b e))) [
    | inl y ↦ absurd (n (answered ∙ ap number (is-accepted (reply b e) y)))
    | inr y ↦ rw y
  ])

  module _ (z : d.answer ≡ 0) where
    taken : recall_of s (Play e) ≡ recall_by (Play e)
    unfolding recall_of answer
    taken = rw (zero-accepted b e (sym answered ∙ z))

    pub accepted : (recall : Recall) → recall ≡ recall_by (Play e) → ◌≡◌ {A = Acted} (record { answer = d.answer; bench = d.bench; recall = recall }) (acted s (Play e))
    accepted recall r = played recall (r ∙ sym taken)

-- a step back: by the number that its questions gave
module _ (b newest : Bench) (older : List Bench) (remembers : Bool) (q : ℕ) (e : q ≡ number (back_reply b.shared.locked remembers)) where
  abbrev gives : Bench → Recall → Type 0
  gives bench recall = ◌≡◌ {A = Acted} (record { answer = q; bench = bench; recall = recall }) (acted (remembering_of b remembers newest older) Back)

  is : (l r : Bool) → b.shared.locked ≡ l → remembers ≡ r → q ≡ number (back_reply l r)
  is l r x y = e ∙ ap (λ (t : Bool). number (back_reply t remembers)) x ∙ ap (λ (t : Bool). number (back_reply l t)) y

  pub kept : (q ≡ 0 → ⊥) → gives b Same
  unfolding recall_of next answer first_no unless
  kept n = elim (split b.shared.locked) [
    | inr x ↦ rw (is false remembers x refl, x) refl
    | inl x ↦ elim (split remembers) [
      | inr y ↦ rw (is true false x y, x, y) refl
      | inl y ↦ absurd (n (is true true x y))
    ]
  ]

  pub undone : q ≡ 0 → gives newest Fewer
  unfolding recall_of next done set_back answer first_no unless
  undone z = elim (split b.shared.locked) [
    | inr x ↦ let w : q ≡ 5 = is false remembers x refl in absurd (omega (arith, w, z))
    | inl x ↦ elim (split remembers) [
      | inr y ↦ let w : q ≡ 26 = is true false x y in absurd (omega (arith, w, z))
      | inl y ↦ rw (z, x, y) refl
    ]
  ]

-- what is remembered
one_fewer : (s : Remembering) (past : List Bench) → s.past ≡ past → (set_back s past).past ≡ recalled Fewer (record { bench = s.bench; past = past })
unfolding set_back
one_fewer s [] e = e
one_fewer s (b ∷ past) e = refl

by_play : (e : Event) (s : Remembering) → past_after s e ≡ recalled (recall_by (Play e)) s
unfolding past_after
by_play e s = elim (split (can_be_undone e)) [
  | inl y ↦ rw y refl
  | inr y ↦ rw y refl
]

by_act : (a : Act) (s : Remembering) → (done s a).past ≡ recalled (recall_by a) s
unfolding done
by_act (Play e) s = by_play e s
by_act Back s = one_fewer s s.past refl

pub recalls : Recalls
unfolding next recall_of
recalls s a = elim (split (is_accepted (answer s a))) [
  | inl y ↦ rw y (by_act a s)
  | inr y ↦ rw y refl
]
