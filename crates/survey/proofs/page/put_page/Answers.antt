-- `survey::page::put_page` meets its contract.
use Rattle.std.proofs.Common.{rules}
use Rattle.text.specs.WritingLaws.{put-moved}
use Rattle.text.proofs.Wrote.{wrote_then}
use Rattle.survey.specs.Page.{page}
use Rattle.survey.proofs.page.put_page.Goals as goal

pub returns : goal.returns
unfolding page
returns c =
    let text = (wrote_then c.put_endings.ensures (wrote_then c.put_messages.ensures (wrote_then c.put_two.ensures c.put_two-2.ensures))).put in
    put-moved c.new-w.ensures.kept (search rules) c.new-w.ensures.front text
