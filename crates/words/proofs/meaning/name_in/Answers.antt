-- `words::name_in` meets its contract. The invariant: the word is none of the first k names, which stand before `at`.
use Rattle.std.proofs.Common.{ℕ, List, sym, ◌∙◌, ap, arith}
use Rattle.words.specs.Numbers.{number_among}
use Rattle.words.specs.WordLaws.{no-next, next, none-at-end}
use Rattle.words.specs.NumberLaws.{named_here, named-later, not_named}
use Rattle.words.proofs.meaning.name_in.Goals as goal

pub returns-then-from-to : goal.returns-then-from-to
returns-then-from-to c =
    let l = c.loop-at in
    let a = c.args in
    sym (l.invariant.2 ∙ ap (λ (ws : List (List ℕ)). number_among l.k ws a.w.now) (no-next a.names.now l.at c.next_word-name.ensures c.if-from-to.true) ∙ not_named l.k a.w.now)

pub returns-then-eq : goal.returns-then-eq
returns-then-eq c =
    let l = c.loop-at in
    let a = c.args in
    let n = c.next_word-name.ensures in
    sym (l.invariant.2 ∙ ap (λ (ws : List (List ℕ)). number_among l.k ws a.w.now) (next a.names.now l.at n c.if-from-to.false) ∙ named_here l.k _ a.w.now _ (sym c.eq.ensures ∙ c.if-eq.true))

pub loop-at-preserved : goal.loop-at-preserved
loop-at-preserved c =
    let l = c.loop-at in
    let a = c.args in
    let n = c.next_word-name.ensures in (
      n.high l.invariant.0,
      omega arith,
      l.invariant.2 ∙ ap (λ (ws : List (List ℕ)). number_among l.k ws a.w.now) (next a.names.now l.at n c.if-from-to.false) ∙ named-later l.k _ a.w.now _ (sym c.eq.ensures ∙ c.if-eq.false),
    )

pub returns : goal.returns
returns c =
    let l = c.loop-at in
    let a = c.args in
    sym (l.invariant.2 ∙ ap (λ (ws : List (List ℕ)). number_among l.k ws a.w.now) (none-at-end a.names.now l.at c.loop-at-test.false) ∙ not_named l.k a.w.now)
