-- `words::number_in` meets its contract. The invariant: the bytes before this one are digits, and v is their number.
use Rattle.std.proofs.Common.{◌≡◌, ◌≤◌, ◌<◌, length, drop}
use Rattle.text.specs.TextLaws.{read}
use Rattle.words.specs.Numbers.{all_digits}
use Rattle.words.proofs.meaning.number_in.Given as goal

abbrev pub invariant-loop-b : goal.invariant-loop-b
invariant-loop-b l = (l.v ≤ l.most) × (0 < length l.w) × (all_digits l.w ≡ all_digits (drop l.b-index l.w)) × (read 0 l.w ≡ read l.v (drop l.b-index l.w))
