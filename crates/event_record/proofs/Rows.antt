-- The rows of the table of events, by the kind.
use Prim.Native.Nat.{ℕ, zero, suc, ◌≤◌, ◌<◌}
use mathlib.Core.Path.{◌≡◌, refl, ◌∙◌, sym, ap}
use Rattle.std.specs.Prelude.{List, Option, Some, None}
use Rattle.std.specs.Bool.{then_some}
use mathlib.Core.Bool.{Bool, true, false}
use native.Mathlib.Omega.{arith}
use borrow.Author.Tests.{ne_eqb}
use Rattle.model.specs.declared.Act.{Act}
use Rattle.model.specs.declared.Act.TheVariants.{Play, Back}
use Rattle.records.specs.Rows.{row, row_of}
use mathlib.Core.Logic.{inl, inr}
use Rattle.std.specs.Option.{ok_or}
use Rattle.ground.specs.Tests.{split}
use Rattle.model.specs.Questions.{accepted, first_no}
use Rattle.model.specs.Refusals.{numbered}
use Rattle.model.specs.declared.Event.{Event}
use Rattle.model.specs.declared.Refusal.TheVariants.{Listed}
use Rattle.records.specs.Codec.{fields_by}
use Rattle.records.specs.Frames.{frame_questions}
use Rattle.records.proofs.FrameLaws.{unlisted, questions-passed}
use Rattle.event_record.specs.Events.{fields_in, delivery_listed, delivery_of, rows, row_for, listed_act, event_form, events, read_event}
use Rattle.event_record.specs.declared.Fields.{Fields}

-- what code answers by the row of a kind, it answers by the table
pub at_row : (x : Fields) (k : ℕ) → x.kind ≡ k → {o : Option Act} {listed : Bool} {act : Act} → o ≡ then_some listed act
    → listed ≡ (row_of Back k (rows x)).listed → act ≡ (row_of Back k (rows x)).value → o ≡ listed_act x
unfolding listed_act row_for rows
at_row x k e o l v =
    o ∙ ((λ i. then_some (l i) (v i)) ∙ ap (λ (j : ℕ). then_some (row_of Back j (rows x)).listed (row_of Back j (rows x)).value) (sym e))

-- what a match knows after the arms 0 to m - 1
abbrev NoneOf : ℕ → ℕ → Type 0
NoneOf zero k = Unit
NoneOf (suc m) k = NoneOf m k × (k ≡ m → ⊥)

pub above : (m k : ℕ) → NoneOf m k → m ≤ k
above zero k h = omega arith
above (suc m) k h = let i : m ≤ k = above m k h.0 in let n : k ≡ m → ⊥ = h.1 in omega arith

-- no kind is above 10
pub no_row : (x : Fields) → 10 < x.kind → row_for x ≡ row x.kind false Back
unfolding row_for row_of rows
no_row x h =
    simp (
      ne_eqb x.kind 0 (λ e. omega arith),
      ne_eqb x.kind 1 (λ e. omega arith),
      ne_eqb x.kind 2 (λ e. omega arith),
      ne_eqb x.kind 3 (λ e. omega arith),
      ne_eqb x.kind 4 (λ e. omega arith),
      ne_eqb x.kind 5 (λ e. omega arith),
      ne_eqb x.kind 6 (λ e. omega arith),
      ne_eqb x.kind 7 (λ e. omega arith),
      ne_eqb x.kind 8 (λ e. omega arith),
      ne_eqb x.kind 9 (λ e. omega arith),
      ne_eqb x.kind 10 (λ e. omega arith),
    )

-- a delivery's row, from what its own function answered
abbrev pub played : Option Event → Option Act
played None = None
played (Some e) = Some (Play e)

moved : (t : Bool) (d : Event) → played (then_some t d) ≡ then_some t (Play d)
moved true d = refl
moved false d = refl

pub delivered-act : (x : Fields) (o : Option Event) → x.kind ≡ 3 → o ≡ then_some (delivery_listed x.c x.value) (delivery_of x.a x.b x.c x.value) → played o ≡ listed_act x
unfolding row_of rows
delivered-act x o k e = at_row x 3 k (ap played e ∙ moved (delivery_listed x.c x.value) (delivery_of x.a x.b x.c x.value)) refl refl

-- reading, from the act that was found
pub act-read : (s : List ℕ) (x : Fields) → accepted ≡ first_no (frame_questions 10 0x4C45 s) → x ≡ fields_in (fields_by event_form s) → numbered (ok_or (listed_act x) Listed) ≡ read_event s
unfolding listed_act first_no
act-read s x e f = elim (split (row_for x).listed) [
  | inl t ↦ rw t (questions-passed events s tt refl 0x4C45 refl e (ap (λ (y : Fields). (row_for y).listed) (sym f) ∙ t) _ (ap (λ (y : Fields). (row_for y).value) f) refl)
  | inr n ↦ rw n (unlisted events s tt refl 0x4C45 refl e (ap (λ (y : Fields). (row_for y).listed) (sym f) ∙ n))
]
