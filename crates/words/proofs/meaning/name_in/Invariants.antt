-- `words::name_in` meets its contract. The invariant: the word is none of the first k names, which stand before `at`.
use Prim.Native.Nat.{◌+◌, ◌-◌, ◌≤◌}
use mathlib.Core.Path.{◌≡◌}
use lib.ListN.{length, drop}
use Rattle.words.specs.Words.{words_of}
use Rattle.words.specs.Numbers.{number_among, name_in}
use Rattle.words.proofs.meaning.name_in.Given as goal

abbrev pub invariant-loop-at : goal.invariant-loop-at
invariant-loop-at l = (l.at ≤ length l.names) × (l.k ≤ l.first + l.at) × (name_in l.first l.names l.w ≡ number_among l.k (words_of (drop l.at l.names)) l.w)

abbrev pub decreases-loop-at : goal.decreases-loop-at
decreases-loop-at l = length l.names - l.at
