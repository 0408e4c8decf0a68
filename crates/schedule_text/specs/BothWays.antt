-- What is promised of the two forms of a schedule.
use Rattle.std.specs.Prelude.{ℕ, suc, ◌*◌, ◌≤◌, ◌<◌, ◌≡◌, List, [], get_or}
use Rattle.words.specs.Words.{lines_of, uncommented}
use Rattle.records.specs.Bytes.{AllBytes}
use Rattle.std.specs.Prelude.{Err}
use Rattle.schedule_reader.specs.Pieces.{record_at}
use Rattle.schedule_text.specs.Texts.{unexpected, read_line, made, refused, read_text, count, write_text}

pub record BothWays : Type 0 where
  -- the text of a schedule, read, gives the same bytes
  pub back : (s t : List ℕ) → AllBytes s → write_text s ≡ made t → read_text t ≡ made s
  -- a schedule that is not written has a record that reading refuses, with that number: so one whose records all read is written
  pub refused_record : (s : List ℕ) (k q : ℕ) → write_text s ≡ refused k q → (k < count s) × (record_at s (k * 10) ≡ Err q)
  -- a text that is not read has that word of that line, which is not expected there; lines count from 1 on, words from 0 on
  pub refused-line : (t : List ℕ) (k i : ℕ) → read_text t ≡ refused (suc k) i → read_line (uncommented (get_or (lines_of t) k [])) ≡ unexpected i
  -- a text with a line that is of no form is refused, for that line or one before it: so for the first
  pub first-line : (t : List ℕ) (j q : ℕ) → read_line (uncommented (get_or (lines_of t) j [])) ≡ unexpected q → (k i : ℕ) × (read_text t ≡ refused (suc k) i) × (k ≤ j)
  -- there is no line 0
  pub no_line : (t : List ℕ) (i : ℕ) → read_text t ≡ refused 0 i → ⊥
