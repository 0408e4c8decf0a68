-- `bench_summary::summary::summary_of` meets its contract. The first loop: the first i rows are those of the stations, the others blank. The second: the messages are
-- those of the first j controllers, at most 255 of a kind for each.
use Prim.Native.Nat.{ℕ, suc, ◌≤◌, ◌<◌}
use mathlib.Core.List.{[], map}
use mathlib.Core.Path.{◌≡◌, refl, sym, ◌∙◌, ap}
use native.Mathlib.Omega.{arith}
use lib.ListN.{length, get_or, replicate, length-map, length-replicate, get_or-map}
use Rattle.ground.specs.Limit.{limit}
use Rattle.ground.specs.Mask.{has}
use Rattle.ground.specs.Quantify.{count_to}
use Rattle.model.specs.declared.Kind.{Kind}
use Rattle.protocol.specs.Benches.{station, fresh_station, fresh, unsent_all}
use Rattle.protocol.specs.Display.{message_count, sent_count}
use Rattle.bench_report.specs.Lines.{blank_row}
use Rattle.bench_summary.specs.Summary.{summary_of, row_of, shown_of, counts_to, sent_at}
use Rattle.bench_summary.proofs.Filled.{one_filled, all_filled}
use Rattle.bench_summary.proofs.Stations.{sent-at}
use Rattle.bench_summary.proofs.Sums.{no-messages, more-messages}
use Rattle.std.proofs.Common.{rules}
use Rattle.bench_summary.proofs.summary.summary_of.Goals as goal

pub loop-i-preserved : goal.loop-i-preserved
unfolding fresh_station fresh unsent_all
loop-i-preserved c =
    let l = c.loop-i in
    let stations = c.args.stations in
    let here : l.i < length stations = search rules in
    let row = c.row_of.ensures ∙ sym (get_or-map row_of stations l.i (fresh_station [])) in
    let next = one_filled (map row_of stations) (replicate limit blank_row) l.i blank_row (rw (length-map stations row_of) here) (rw (length-replicate limit blank_row) (omega arith)) in
    rw (l.invariant, row) next

pub loop-j-preserved : goal.loop-j-preserved
unfolding sent_count station fresh_station fresh unsent_all
loop-j-preserved c =
    let a = c.args in
    let l = c.loop-j in
    let at = c.place_of-at in
    let all : length a.stations ≡ limit = search rules in
    let s = get_or a.stations at.result (fresh_station []) in
    let sent : (kind : Kind) → sent_at a.m.n l.j kind s ≡ sent_count (shown_of a.m a.stations) kind (suc l.j) = λ kind. ap (λ (x : ℕ). count_to a.m.n (has x)) (sent-at a.stations kind l.j at.result all at.ensures.1) in
    let most = c.counted-messages.ensures.1 in
    ((omega arith, (omega arith, (omega arith, omega arith))), more-messages (shown_of a.m a.stations) a.m.n l.j l.messages c.counted-messages.result s l.invariant.1 c.counted-messages.ensures.0 sent)

pub returns : goal.returns
unfolding summary_of message_count sent_count station
returns c =
    let a = c.args in
    let l = c.loop-i in
    let l2 = c.loop-j in
    let all : length a.stations ≤ l.i = omega arith in
    let rows = l.invariant ∙ all_filled (map row_of a.stations) (replicate limit blank_row) l.i (rw (length-map a.stations row_of) all) (rw (length-replicate limit blank_row) (omega arith)) in
    let end : l2.j ≡ a.m.n = omega arith in
    let messages = l2.invariant.1 ∙ ap (counts_to (shown_of a.m a.stations)) end in
    λ s k. record { n = a.m.n; rows = rows k; messages = messages k }

pub loop-i-init : goal.loop-i-init
loop-i-init c = refl

pub loop-j-init : goal.loop-j-init
loop-j-init c = ((omega arith, (omega arith, (omega arith, omega arith))), no-messages _)

pub counted-messages-requires : goal.counted-messages-requires
counted-messages-requires c = (omega arith, (omega arith, (omega arith, omega arith)))
