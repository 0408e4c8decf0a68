-- The part of a slice that is lent to the event reader is the piece.
use Rattle.std.specs.Prelude.{ℕ, ◌+◌, ◌-◌, ◌≤◌, min, ◌≡◌, refl, List, [], length, take, drop}
use Rattle.std.proofs.Common.{sym, ◌∙◌, arith, length-drop, drop_of_length-le, take_all}
use Rattle.std.proofs.Math.Decide.{dec_le}
use Rattle.model.specs.Questions.{first_no, unless}
use Rattle.records.specs.Codec.{reads}
use Rattle.event_record.specs.Events.{read_event}
use Rattle.std.specs.Prelude.{Err}
use Rattle.schedule_reader.specs.Pieces.{piece_at}

pub part-is-piece : (s : List ℕ) (at to : ℕ) → to ≡ min (at + 10) (length s) → take (to - at) (drop at s) ≡ piece_at s at
unfolding piece_at
part-is-piece s at to e = elim (dec_le (at + 10) (length s)) [
  | yes h ↦ let d : to - at ≡ 10 = omega arith in rw d
  | no h ↦ take_all (to - at) (drop at s) (simp length-drop (omega arith)) ∙ sym (take_all 10 (drop at s) (simp length-drop (omega arith)))
]

-- past the end there is none
pub no-piece : (s : List ℕ) (at : ℕ) → length s ≤ at → piece_at s at ≡ []
unfolding piece_at
no-piece s at h = rw (drop_of_length-le s h)

-- and nothing is no record
pub nothing_read : read_event [] ≡ Err 1
unfolding reads first_no unless
nothing_read = refl
