-- `words::end_of_run` meets its contract. The invariant: from the place on stand bytes of the class up to i, so that the run ends where the one from i on does.
use Rattle.std.proofs.Common.{◌≡◌, length, sym, ◌∙◌, arith, inl, inr}
use Rattle.std.proofs.lemmas.Bool.{cases_lt}
use Rattle.words.specs.Words.{end_of_run}
use Rattle.words.specs.WordLaws.{goes_on, stops, ends}
use Rattle.words.proofs.scan.end_of_run.Goals as goal

pub returns-then-not-belongs : goal.returns-then-not-belongs
returns-then-not-belongs c =
    let l = c.loop-i in
    let a = c.args in
    record {
      is = sym (l.invariant ∙ stops a.class a.s.now l.i c.loop-i-test.true (sym c.belongs.ensures ∙ c.if-not-belongs.true));
      low = omega arith;
      high = λ _. omega arith;
    }

pub loop-i-preserved : goal.loop-i-preserved
loop-i-preserved c =
    let l = c.loop-i in
    let a = c.args in
    l.invariant ∙ goes_on a.class a.s.now l.i c.loop-i-test.true (sym c.belongs.ensures ∙ c.if-not-belongs.false)

pub returns : goal.returns
returns c =
    let l = c.loop-i in
    let a = c.args in
    let m = c.max.ensures in
    let e : end_of_run a.class a.s.now a.at ≡ l.i = l.invariant ∙ ends a.class a.s.now l.i c.loop-i-test.false in
    elim (cases_lt (length a.s.now) a.at) [
      | inl short ↦ record { is = sym (ends a.class a.s.now a.at (omega arith) ∙ omega arith); low = omega arith; high = λ h. omega arith }
      | inr long ↦ record { is = sym (e ∙ omega arith); low = omega arith; high = λ h. omega arith }
    ]
