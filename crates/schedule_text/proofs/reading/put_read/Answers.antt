-- `schedule_text::put_read` meets its contract.
use Rattle.schedule_text.proofs.reading.put_read.Goals as goal

pub returns-in-Some : goal.returns-in-Some
returns-in-Some c = rw (c.in-Some.is, ← c.record_bytes.ensures) c.bytes.ensures
