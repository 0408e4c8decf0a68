-- What is given up where bytes are taken as a text. Document 01 reads every input as records and answers each of them; here a text gets another answer.
use Rattle.std.specs.Prelude.{ℕ, suc, ◌≤◌, ◌≡◌, true, false, List, ◌∷◌, length, take}
use Rattle.model.specs.declared.Act.{Act}
use Rattle.records.specs.Bytes.{AllBytes}
use Rattle.event_record.specs.Events.{records_of}
use Rattle.std.specs.Prelude.{Ok}
use Rattle.schedule_reader.specs.Pieces.{record_at}
use Rattle.bench_report.specs.Limits.{longest_schedule}
use Rattle.schedule_text.specs.Texts.{made, write_text}
use Rattle.schedule_input.specs.Input.{is_text, records_in, records_output, text_output}

pub record NothingLost : Type 0 where
  -- no record of a text reads: as records it would get refusals by 1 to 3 alone
  pub none_reads : (s : List ℕ) (at : ℕ) (act : Act) → AllBytes s → is_text s ≡ true → record_at s at ≡ Ok act → ⊥
  -- and no schedule is a text, nor is one that breaks off
  pub no_text : (act : Act) (acts : List Act) (k : ℕ) → is_text (take (suc k) (records_of (act ∷ acts))) ≡ false
  -- the text of a schedule is a text, and its records are that schedule
  pub back : (s t : List ℕ) → AllBytes s → write_text s ≡ made t → records_in t ≡ made s
  -- so `text` and `records` turn one form of a schedule into the other
  pub turned : (s t : List ℕ) → AllBytes s → length s ≤ longest_schedule → write_text s ≡ made t → (text_output s ≡ t) × (records_output t ≡ s)
