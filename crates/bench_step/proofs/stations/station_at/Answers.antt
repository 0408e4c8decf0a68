-- `station_at` meets its contract: the array has as many stations as the limit.
use Rattle.std.specs.Prelude.{◌≡◌, length}
use Rattle.std.proofs.Common.{rules}
use Rattle.ground.specs.Limit.{limit}
use Rattle.bench_step.proofs.stations.station_at.Goals as goal

pub returns : goal.returns
returns c =
    let l : length c.args.b.stations ≡ limit = search rules in
    record { value = rw (c.nth.ensures, c.fresh_station.ensures); stations_len = l }
