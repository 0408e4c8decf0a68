use Rattle.bench_back.proofs.ActLaws.{recalls}
use Rattle.bench_back.proofs.recalls.Goals as goal

pub returns : goal.returns
returns c = recalls
