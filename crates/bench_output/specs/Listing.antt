-- Trial 1 from bytes to text: the records of document 01's listing, one after the other, and what the program prints of them.
use Rattle.std.specs.Prelude.{◌≡◌, refl, true, [], ◌∷◌, map}
use Rattle.records.specs.Codec.{reads}
use Rattle.records.specs.Codes.{is_kind, kind_of}
use Rattle.records.specs.Rows.{row_of}
use Rattle.event_record.specs.Events.{fields_in, fields_of, event_fields, rows, row_for, records_of}
use Rattle.schedule_reader.specs.Pieces.{piece_at}
use Rattle.protocol.specs.Computing.{whole_run}
use Rattle.protocol.specs.Trials.{listing}
use Rattle.model.specs.declared.Act.TheVariants.{Play}
use Rattle.steps_back.specs.Memory.{past_after, answer, done, next, run_acts}
use Rattle.bench_run.specs.Schedule.{count, acts_to}
use Rattle.bench_run.specs.Runs.{answers_to}
use Rattle.text.specs.Text.{digits, decimal, signed, lines}
use Rattle.bench_report.specs.Limits.{is_too_long}
use Rattle.bench_report.specs.Lines.{report_of}
use Rattle.bench_report.specs.Listing.{page}
use Rattle.bench_summary.specs.Summary.{summary_of}
use Rattle.bench_output.specs.Output.{output_of}

-- "Output: twelve lines "0 0" to "11 0", then .."
pub listing_printed : output_of (records_of (map Play (listing true))) ≡ page (
    "0 0" ∷ "1 0" ∷ "2 0" ∷ "3 0" ∷ "4 0" ∷ "5 0" ∷ "6 0" ∷ "7 0" ∷ "8 0" ∷ "9 0" ∷ "10 0" ∷ "11 0" ∷
    "C 1 3 M 500" ∷
    "C 2 3 M -250" ∷
    "T 2 2 0 0" ∷ [])
unfolding output_of records_of is_too_long summary_of report_of lines signed decimal digits answers_to acts_to run_acts next done answer past_after count piece_at reads row_for rows row_of fields_in fields_of event_fields is_kind kind_of whole_run
listing_printed = refl
