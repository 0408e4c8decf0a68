-- Checkpoint records (document 01: cards).
use Rattle.std.specs.Prelude.{ℕ, List, [], ◌∷◌, leb, get_or, Result}
use Rattle.model.specs.Numbers.{outcome_number}
use Rattle.model.specs.Questions.{Question, ask}
use Rattle.model.specs.Ranges.{sizes_in_range, is_controller, position_in_range}
use Rattle.model.specs.declared.Checkpoint.{Checkpoint}
use Rattle.records.specs.Bytes.{one, four}
use Rattle.records.specs.Codes.{is_outcome, outcome_of}
use Rattle.records.specs.Codec.{marked, Form, Codec, one_form}

-- the checkpoint of the fields
abbrev pub checkpoint_of : List ℕ → Checkpoint
checkpoint_of v =
    record { id = get_or v 0 0; n = get_or v 1 0; f = get_or v 2 0; outcome = outcome_of (get_or v 3 0); order = get_or v 4 0; position = get_or v 5 0 }

-- 4, 7, 8 and 11
unfoldable pub about_checkpoint : Checkpoint → List Question
about_checkpoint p =
    ask 4 (sizes_in_range p.n p.f) ∷ ask 7 (is_controller p.n p.id) ∷ ask 8 (leb 1 p.order) ∷ ask 11 (position_in_range p.position) ∷ []

-- "Card, 14 bytes: 4C 53; controller; n; f; outcome (0 none, 1 Stay, 2 Move); order (4); position (4, two's complement)."
abbrev pub checkpoint_form : Form Checkpoint
checkpoint_form = record {
  mark = marked 0x4C53;
  widths = one ∷ one ∷ one ∷ one ∷ four ∷ four ∷ [];
  fields = λ p. p.id ∷ p.n ∷ p.f ∷ outcome_number p.outcome ∷ p.order ∷ p.position ∷ [];
  value = checkpoint_of;
  listed = λ v. is_outcome (get_or v 3 0);
  asked = about_checkpoint;
}

abbrev pub checkpoints : Codec (Unit {0}) Checkpoint
checkpoints = one_form checkpoint_form

-- what its reader returns
abbrev pub ReadCheckpoint : Type 0
ReadCheckpoint = Result Checkpoint ℕ
