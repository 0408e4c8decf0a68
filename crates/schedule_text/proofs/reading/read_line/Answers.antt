-- `schedule_text::read_line` meets its contract. The invariant: the first i words, which stand before `at`, gave these fields.
use Prim.Native.Nat.{◌+◌}
use mathlib.Core.Path.{◌≡◌, refl, sym, ◌∙◌, ap}
use Rattle.std.specs.Prelude.{Some, None}
use Rattle.std.proofs.lemmas.Result.{err_from_is_err_and}
use native.Mathlib.Omega.{arith}
use lib.ListN.{drop}
use Rattle.words.specs.Words.{words_of}
use Rattle.words.specs.WordLaws.{no-next, next}
use Rattle.event_record.specs.declared.Fields.{Fields}
use Rattle.schedule_text.specs.Forms.{slot_in}
use Rattle.schedule_text.specs.FormLaws.{fits_field}
use Rattle.schedule_text.specs.Texts.{read_words, read_line}
use Rattle.schedule_text.specs.TextLaws.{ended_here, not_expected, word-taken}
use Rattle.schedule_text.specs.declared.Row.{Row}
use Rattle.schedule_text.proofs.reading.read_line.Goals as goal

pub loop-x-init : goal.loop-x-init
unfolding read_line
loop-x-init c = (omega arith, omega arith, refl)

pub returns-then-from-to : goal.returns-then-from-to
returns-then-from-to c =
    let m = c.loop-x in
    let l = c.args.l.now in
    let s = (c.slot_in-slot.ensures ∙ ap (λ (r : Row). slot_in r m.i) c.row_of.ensures) in
    c.ended.ensures ∙ ended_here m.i m.x s (no-next l m.at c.next_word-word.ensures c.if-from-to.true) ∙ m.invariant.2

pub slice_bounds-value_in-end : goal.slice_bounds-value_in-end
slice_bounds-value_in-end c = c.next_word-word.ensures.high c.loop-x.invariant.0

pub returns-in_err-v : goal.returns-in_err-v
returns-in_err-v c =
    let m = c.loop-x in
    let l = c.args.l.now in
    let s = (c.slot_in-slot.ensures ∙ ap (λ (r : Row). slot_in r m.i) c.row_of.ensures) in
    let none : c.value_in.result ≡ None = grind arith in
    let place : c.in_err-v.field-0.0 ≡ record { 0 = m.i } = grind arith in
    let p = err_from_is_err_and c.from_residual.result c.from_residual.ensures.1 in
    rw (p.1, p.2, place) (not_expected m.i m.x s (next l m.at c.next_word-word.ensures c.if-from-to.false) (sym none ∙ c.value_in.ensures) ∙ m.invariant.2)

pub with_field-x-requires : goal.with_field-x-requires
with_field-x-requires c =
    let some : c.value_in.result ≡ Some c.in_ok-v.v = grind arith in
    fits_field _ _ _ (sym some ∙ c.value_in.ensures)

pub loop-x-smaller : goal.loop-x-smaller
loop-x-smaller c =
    omega (arith, c.next_word-word.ensures.high c.loop-x.invariant.0)

pub loop-x-preserved : goal.loop-x-preserved
loop-x-preserved c =
    let m = c.loop-x in
    let l = c.args.l.now in
    let n = c.next_word-word.ensures in
    let s = (c.slot_in-slot.ensures ∙ ap (λ (r : Row). slot_in r m.i) c.row_of.ensures) in
    let some : c.value_in.result ≡ Some c.in_ok-v.v = grind arith in
    let e = word-taken m.i m.x s c.in_ok-v.v (next l m.at n c.if-from-to.false) (sym some ∙ c.value_in.ensures) in (
      n.high m.invariant.0,
      omega arith,
      ap (λ (y : Fields). read_words (m.i + 1) y (words_of (drop c.next_word-word.result.to l))) c.with_field-x.ensures ∙ sym e ∙ m.invariant.2,
    )
