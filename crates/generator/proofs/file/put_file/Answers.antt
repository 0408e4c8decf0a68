use Rattle.std.proofs.Common.{rules}
use Rattle.text.specs.WritingLaws.{put-moved}
use Rattle.text.proofs.Wrote.{wrote_then, wrote-text}
use Rattle.generator.proofs.FileLaws.{file-parts}
use Rattle.generator.proofs.file.put_file.Goals as goal

pub returns : goal.returns
returns c =
    let parts = wrote_then c.put_record.ensures (wrote_then c.put_record-2.ensures (wrote_then c.put_votes.ensures c.put_drawn.ensures)) in
    put-moved c.new-w.ensures.kept (search rules) c.new-w.ensures.front (wrote-text parts (file-parts _ _ _ _)).put
