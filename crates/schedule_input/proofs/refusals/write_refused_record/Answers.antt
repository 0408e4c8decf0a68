-- `schedule_input::write_refused_record` meets its contract: the line is put into an array that holds it.
use Rattle.std.proofs.Common.{refl, rules}
use Rattle.text.specs.WritingLaws.{put-moved, same-fitted}
use Rattle.schedule_input.specs.InputLaws.{in_array, refused_record-length}
use Rattle.schedule_input.proofs.refusals.write_refused_record.Goals as goal

pub write_front-requires : goal.write_front-requires
write_front-requires c = (in_array _ (refused_record-length _ _) (put-moved c.new-w.ensures.kept refl c.new-w.ensures.front c.put_refused_record.ensures.put)).0

pub returns : goal.returns
returns c = same-fitted _ (in_array _ (refused_record-length _ _) (put-moved c.new-w.ensures.kept (search rules) c.new-w.ensures.front c.put_refused_record.ensures.put)).1 c.write_front.ensures
