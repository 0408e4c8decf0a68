-- Laws of the bytes as acts: one act more, and few or many of them.
use Prim.Native.Nat.{ℕ, ◌+◌, ◌≤◌, ◌<◌}
use mathlib.Core.Path.{◌≡◌, refl, sym, ◌∙◌, ap}
use mathlib.Core.List.{List, [], ◌∷◌, ◌++◌, map-append}
use native.Mathlib.Numerals.{add-one}
use lib.ListN.{length, take, get_or}
use lib.Seq.{take-suc}
use borrow.Author.Tests.{lt-ltb, le-ltb}
use Rattle.text.specs.Text.{lines, refusal}
use Rattle.line.specs.declared.Act.{Act}
use Rattle.line.specs.declared.Line.{Line}
use Rattle.line.specs.declared.Done.{Done}
use Rattle.line.specs.Turns.{new_line, perform, run}
use Rattle.line.specs.Claim.{after}
use Rattle.line.proofs.Lists.{run-one}
use Rattle.line_output.specs.Output.{act_of, acts, act_line, most, output_of}

acts-more : (s : List ℕ) (i : ℕ) → i < length s → acts (take (i + 1) s) ≡ acts (take i s) ++ (act_of (get_or s i 0) ∷ [])
acts-more s i h = rw (add-one, take-suc s i 0) (map-append act_of (take i s) (get_or s i 0 ∷ []))

pub line-more : (s : List ℕ) (i : ℕ) → i < length s → (perform (after (acts (take i s))) (act_of (get_or s i 0))).line ≡ after (acts (take (i + 1) s))
line-more s i h = sym (ap after (acts-more s i h) ∙ run-one new_line (acts (take i s)) (act_of (get_or s i 0)))

pub none_yet : new_line ≡ after []
unfolding run
none_yet = refl

-- what the code did at act i
pub done_at : (s : List ℕ) (i : ℕ) {d : Done} {l : Line} {a : Act} → d ≡ perform l a → a ≡ act_of (get_or s i 0) → l ≡ after (acts (take i s))
    → d ≡ perform (after (acts (take i s))) (act_of (get_or s i 0))
done_at s i {d} {l} {a} e p q = e ∙ ap (λ (x : Act). perform l x) p ∙ ap (λ (x : Line). perform x (act_of (get_or s i 0))) q

-- the output, of few enough acts or too many
pub few : (s : List ℕ) → length s ≤ most → output_of s ≡ lines (length s) (act_line s)
unfolding output_of
few s h = rw (le-ltb most (length s) h)

pub many : (s : List ℕ) → most < length s → output_of s ≡ refusal 1
unfolding output_of
many s h = rw (lt-ltb most (length s) h)
