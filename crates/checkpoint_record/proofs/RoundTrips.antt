-- Checkpoint records, both ways round: the description is lawful.
use Prim.Native.Nat.{ℕ}
use mathlib.Core.Path.{◌≡◌, refl, sym, ◌∙◌}
use mathlib.Core.Bool.{true}
use mathlib.Core.List.{List, [], ◌∷◌}
use native.Mathlib.Omega.{arith}
use lib.ListN.{get_or, length}
use Rattle.model.specs.declared.Checkpoint.{Checkpoint}
use Rattle.records.proofs.ByteLaws.{spread}
use Rattle.records.specs.Codes.{is_outcome}
use Rattle.records.specs.CodeLaws.{outcome-listed, outcome-of-number, number-of-outcome}
use Rattle.records.proofs.CodecLaws.{Lawful, promises-kept}
use Rattle.records.specs.Promises.{Promises}
use Rattle.checkpoint_record.specs.Checkpoints.{checkpoint_form, checkpoints}

value-of-fields : (p : Checkpoint) → checkpoint_form.value (checkpoint_form.fields p) ≡ p
value-of-fields p = rw (outcome-of-number p.outcome)

fields-of-value : (v : List ℕ) → length v ≡ 6 → is_outcome (get_or v 3 0) ≡ true → checkpoint_form.fields (checkpoint_form.value v) ≡ v
fields-of-value v h t =
    (λ i. get_or v 0 0 ∷ get_or v 1 0 ∷ get_or v 2 0 ∷ number-of-outcome (get_or v 3 0) t i ∷ get_or v 4 0 ∷ get_or v 5 0 ∷ []) ∙ sym (spread 6 v h)

lawful : Lawful checkpoints
lawful = record {
  mark_fits = λ k. omega arith;
  value-of-fields = λ p all. value-of-fields p;
  fields-of-value = λ k. fields-of-value;
  all_listed = λ p all. outcome-listed p.outcome;
  fit = λ p h yes. (tt, (tt, (tt, (tt, (h.0, (h.1.0, tt))))));
  told-apart = λ k p. refl;
  own = λ k v l all. refl;
}

pub promises : Promises checkpoints
promises = promises-kept checkpoints lawful
