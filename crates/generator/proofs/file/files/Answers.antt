use Rattle.generator.proofs.FileLaws.{files-kept}
use Rattle.generator.proofs.file.files.Goals as goal

pub returns : goal.returns
returns c = files-kept c.round_trips.ensures c.draws.ensures
