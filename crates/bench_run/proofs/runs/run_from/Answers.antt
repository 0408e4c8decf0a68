-- The loop keeps `Upto`: the bench in the run's variables is that of the events left of the records so far, or, while events are played again, of the first of them; the buffer begins with
-- the answers; what is remembered is `Memory`. Each way through the body is one law of PlayLaws, BallotPlay or Records. The second loop keeps that the stations before its index are renewed
-- and the others as they were; the third, whether the word was chosen in a ballot before its index.
use Prim.Native.Nat.{ℕ, min}
use mathlib.Core.Path.{◌≡◌, refl, sym, ap, ◌∙◌}
use mathlib.Core.Bool.{true, false}
use mathlib.Core.List.{List, []}
use native.Mathlib.Omega.{arith}
use lib.ListN.{length, get_or, set, replicate, length-replicate}
use Rattle.ground.specs.Limit.{limit}
use Rattle.ground.specs.Firsts.{map_first, first-none, first_more, first-all}
use Rattle.model.specs.Questions.{number}
use Rattle.model.specs.declared.Event.TheVariants.{OfBallots}
use Rattle.protocol.specs.declared.Station.{Station}
use Rattle.protocol.specs.Ballots.{ballot_limit, new_acceptor, new_row}
use Rattle.protocol.specs.Benches.{fresh_station, fresh, unsent_all}
use Rattle.protocol.specs.Controllers.{phase_in}
use Rattle.protocol.specs.Steps.{renewed}
use Rattle.bench_run.specs.declared.Next.TheVariants.{Play as Plays, Other}
use Rattle.bench_run.specs.Runs.{end_of}
use Rattle.bench_run.proofs.Local.{all_stations, new-parts, new-ballots}
use Rattle.bench_run.proofs.Records.{start, in-room, not-read, no_room, ended, place-within, place_safe, place-all, refused-ready, refused-read, back-ready, step-back-read, due_note, step_safe, stepped-refused, stepped-taken, refused_nearer, back_nearer, note-place, note-few, noted-refused, noted-within, noted-even, noted-odd}
use Rattle.bench_run.proofs.PlayLaws.{reading, in_place, order-size, lock-refused, lock-accepted, order-refused, order-accepted, order_quiet, cast-refused, cast-accepted, delivery-refused, vote-accepted, ack-passed-over, ack-held, ack-put, help-accepted, helped-accepted, timeout-refused, first-laid, second-accepted, decide-refused, decide-accepted, stop-refused, stop-accepted, save-refused, save-accepted, restore-refused, restore-accepted}
use Rattle.bench_run.proofs.BallotPlay.{none-chosen, more-chosen, may_give_lem, turn-refused, turn-accepted}
use Rattle.bench_run.proofs.runs.run_from.Goals as goal

pub returns-then-answers-count : goal.returns-then-answers-count
returns-then-answers-count c =
    let n = no_room _ _ _ c.count_from-count.ensures c.if-answers-count.true in
    record { result = c.ended.ensures (record { acceptors = replicate limit new_acceptor; rows = replicate ballot_limit (new_row (replicate limit 0)) }) ∙ ap (end_of false 0) (new-parts _ _ _ _ c.new_shared-m.ensures c.fresh_station-stations.ensures refl refl) ∙ n.result; buffer = n.buffer }

pub loop-k-init : goal.loop-k-init
loop-k-init c = start _ _ _ _ _ _ _ _ c.count_from-count.ensures c.if-answers-count.false (length-replicate {A = ℕ} 256 0) (new-parts _ _ _ _ c.new_shared-m.ensures c.fresh_station-stations.ensures c.new_acceptor-acceptors.ensures c.new_row-rows.ensures) (new-parts _ _ _ _ c.new_shared-m.ensures c.fresh_station-stations.ensures c.new_acceptor-acceptors.ensures c.new_row-rows.ensures)

pub place_of-here-requires : goal.place_of-here-requires
place_of-here-requires c = place_safe _ _ _ _ _ c.loop-k.invariant

pub overflow_mul-here : goal.overflow_mul-here
overflow_mul-here c =
    let p = place-within c.args.s.now c.args.from c.count_from-count.result c.place_of-here.result c.loop-k.invariant.whole (place-all _ _ _ _ _ c.loop-k.invariant c.loop-k-test.true _ c.place_of-here.ensures) in
    omega (arith, p, c.well_formed.0.0)

pub overflow_add-from : goal.overflow_add-from
overflow_add-from c =
    let p = place-within c.args.s.now c.args.from c.count_from-count.result c.place_of-here.result c.loop-k.invariant.whole (place-all _ _ _ _ _ c.loop-k.invariant c.loop-k-test.true _ c.place_of-here.ensures) in
    omega (arith, p, c.well_formed.0.0)

pub bounds-answers-here : goal.bounds-answers-here
bounds-answers-here c =
    omega (arith, in-room _ _ _ _ _ c.loop-k.invariant c.loop-k-test.true _ c.place_of-here.ensures (sym c.is_pending-pending.ensures ∙ refused-ready _ _ _ _ _ c.next_at-next.ensures _ (c.in-Other.is ∙ ap Other c.in-Refused.is)))

pub overflow_add-k : goal.overflow_add-k
overflow_add-k c =
    let p = place-within c.args.s.now c.args.from c.count_from-count.result c.loop-k.k c.loop-k.invariant.whole c.loop-k-test.true in
    omega (arith, p, c.well_formed.0.0)

pub loop-k-smaller-in-Refused : goal.loop-k-smaller-in-Refused
loop-k-smaller-in-Refused c =
    omega (arith, c.loop-k-test.true)

pub loop-k-preserved-in-Refused : goal.loop-k-preserved-in-Refused
loop-k-preserved-in-Refused c =
    not-read _ _ _ _ _ c.loop-k.invariant c.loop-k-test.true _ c.place_of-here.ensures (sym c.is_pending-pending.ensures ∙ refused-ready _ _ _ _ _ c.next_at-next.ensures _ (c.in-Other.is ∙ ap Other c.in-Refused.is)) _ (refused-read _ _ _ _ _ c.next_at-next.ensures _ (c.in-Other.is ∙ ap Other c.in-Refused.is))

pub overflow_add-k-in-Back : goal.overflow_add-k-in-Back
overflow_add-k-in-Back c =
    let p = place-within c.args.s.now c.args.from c.count_from-count.result c.loop-k.k c.loop-k.invariant.whole c.loop-k-test.true in
    omega (arith, p, c.well_formed.0.0)

pub step_back-t-requires : goal.step_back-t-requires
step_back-t-requires c =
    step_safe _ _ _ _ _ c.loop-k.invariant c.loop-k-test.true _ c.place_of-here.ensures (sym c.is_pending-pending.ensures ∙ back-ready _ _ _ _ _ c.next_at-next.ensures (c.in-Other.is ∙ ap Other c.in-Back.is)) (step-back-read _ _ _ _ _ c.next_at-next.ensures (c.in-Other.is ∙ ap Other c.in-Back.is))

pub bounds-answers-here-in-Back : goal.bounds-answers-here-in-Back
bounds-answers-here-in-Back c =
    omega (arith, in-room _ _ _ _ _ c.loop-k.invariant c.loop-k-test.true _ c.place_of-here.ensures (sym c.is_pending-pending.ensures ∙ back-ready _ _ _ _ _ c.next_at-next.ensures (c.in-Other.is ∙ ap Other c.in-Back.is)))

pub loop-k-smaller-then-t-ne0 : goal.loop-k-smaller-then-t-ne0
loop-k-smaller-then-t-ne0 c =
    omega (arith, refused_nearer _ _ _ _ _ c.loop-k.invariant c.loop-k-test.true _ c.place_of-here.ensures (sym c.is_pending-pending.ensures ∙ back-ready _ _ _ _ _ c.next_at-next.ensures (c.in-Other.is ∙ ap Other c.in-Back.is)) (step-back-read _ _ _ _ _ c.next_at-next.ensures (c.in-Other.is ∙ ap Other c.in-Back.is)) _ _ _ _ _ c.step_back-t.ensures c.if-t-ne0.true)

pub loop-k-preserved-then-t-ne0 : goal.loop-k-preserved-then-t-ne0
unfolding fresh_station fresh unsent_all new_row
loop-k-preserved-then-t-ne0 c =
    stepped-refused _ _ _ _ _ c.loop-k.invariant c.loop-k-test.true _ c.place_of-here.ensures (sym c.is_pending-pending.ensures ∙ back-ready _ _ _ _ _ c.next_at-next.ensures (c.in-Other.is ∙ ap Other c.in-Back.is)) (step-back-read _ _ _ _ _ c.next_at-next.ensures (c.in-Other.is ∙ ap Other c.in-Back.is)) _ _ _ _ _ c.step_back-t.ensures c.if-t-ne0.true

pub loop-k-smaller-in-Back : goal.loop-k-smaller-in-Back
loop-k-smaller-in-Back c =
    omega (arith, back_nearer _ _ _ _ _ c.loop-k.invariant c.loop-k-test.true _ c.place_of-here.ensures (sym c.is_pending-pending.ensures ∙ back-ready _ _ _ _ _ c.next_at-next.ensures (c.in-Other.is ∙ ap Other c.in-Back.is)) (step-back-read _ _ _ _ _ c.next_at-next.ensures (c.in-Other.is ∙ ap Other c.in-Back.is)) _ _ _ _ _ c.step_back-t.ensures c.if-t-ne0.false)

pub loop-k-preserved-in-Back : goal.loop-k-preserved-in-Back
unfolding fresh_station fresh unsent_all new_row
loop-k-preserved-in-Back c =
    stepped-taken _ _ _ _ _ c.loop-k.invariant c.loop-k-test.true _ c.place_of-here.ensures (sym c.is_pending-pending.ensures ∙ back-ready _ _ _ _ _ c.next_at-next.ensures (c.in-Other.is ∙ ap Other c.in-Back.is)) (step-back-read _ _ _ _ _ c.next_at-next.ensures (c.in-Other.is ∙ ap Other c.in-Back.is)) _ _ _ _ _ c.step_back-t.ensures c.if-t-ne0.false _ c.kept_of-kept.ensures

pub overflow_sub-last : goal.overflow_sub-last
overflow_sub-last c =
    omega (arith, (due_note _ _ _ _ _ c.next_at-next.ensures c.loop-k.remembers c.loop-k.noted c.loop-k.k c.is_pending-pending.ensures (c.in-Other.is ∙ ap Other c.in-Note.is)).1)

pub bounds-answers-last : goal.bounds-answers-last
bounds-answers-last c =
    omega (arith, note-place _ _ _ _ _ c.loop-k.invariant c.loop-k-test.true (due_note _ _ _ _ _ c.next_at-next.ensures c.loop-k.remembers c.loop-k.noted c.loop-k.k c.is_pending-pending.ensures (c.in-Other.is ∙ ap Other c.in-Note.is)).0 (due_note _ _ _ _ _ c.next_at-next.ensures c.loop-k.remembers c.loop-k.noted c.loop-k.k c.is_pending-pending.ensures (c.in-Other.is ∙ ap Other c.in-Note.is)).1 _ refl)

pub loop-k-smaller-then-answers-last-ne0 : goal.loop-k-smaller-then-answers-last-ne0
loop-k-smaller-then-answers-last-ne0 c =
    omega (arith, (due_note _ _ _ _ _ c.next_at-next.ensures c.loop-k.remembers c.loop-k.noted c.loop-k.k c.is_pending-pending.ensures (c.in-Other.is ∙ ap Other c.in-Note.is)).1, c.loop-k.invariant.upto)

pub loop-k-preserved-then-answers-last-ne0 : goal.loop-k-preserved-then-answers-last-ne0
unfolding fresh_station fresh unsent_all new_row
loop-k-preserved-then-answers-last-ne0 c =
    noted-refused _ _ _ _ _ c.loop-k.invariant c.loop-k-test.true (due_note _ _ _ _ _ c.next_at-next.ensures c.loop-k.remembers c.loop-k.noted c.loop-k.k c.is_pending-pending.ensures (c.in-Other.is ∙ ap Other c.in-Note.is)).0 (due_note _ _ _ _ _ c.next_at-next.ensures c.loop-k.remembers c.loop-k.noted c.loop-k.k c.is_pending-pending.ensures (c.in-Other.is ∙ ap Other c.in-Note.is)).1 _ refl c.if-answers-last-ne0.true

pub overflow_add-left : goal.overflow_add-left
overflow_add-left c =
    let f = note-few _ _ _ _ _ c.loop-k.invariant c.loop-k-test.true (due_note _ _ _ _ _ c.next_at-next.ensures c.loop-k.remembers c.loop-k.noted c.loop-k.k c.is_pending-pending.ensures (c.in-Other.is ∙ ap Other c.in-Note.is)).0 (due_note _ _ _ _ _ c.next_at-next.ensures c.loop-k.remembers c.loop-k.noted c.loop-k.k c.is_pending-pending.ensures (c.in-Other.is ∙ ap Other c.in-Note.is)).1 _ refl in
    let p = place-within c.args.s.now c.args.from c.count_from-count.result c.loop-k.k c.loop-k.invariant.whole c.loop-k-test.true in
    omega (arith, f, p, c.well_formed.0.0)

pub loop-k-smaller-then-left-ne0 : goal.loop-k-smaller-then-left-ne0
loop-k-smaller-then-left-ne0 c =
    omega (arith, (due_note _ _ _ _ _ c.next_at-next.ensures c.loop-k.remembers c.loop-k.noted c.loop-k.k c.is_pending-pending.ensures (c.in-Other.is ∙ ap Other c.in-Note.is)).1, c.loop-k.invariant.upto)

pub loop-k-preserved-then-left-ne0 : goal.loop-k-preserved-then-left-ne0
unfolding fresh_station fresh unsent_all new_row
loop-k-preserved-then-left-ne0 c =
    noted-within _ _ _ _ _ c.loop-k.invariant c.loop-k-test.true (due_note _ _ _ _ _ c.next_at-next.ensures c.loop-k.remembers c.loop-k.noted c.loop-k.k c.is_pending-pending.ensures (c.in-Other.is ∙ ap Other c.in-Note.is)).0 (due_note _ _ _ _ _ c.next_at-next.ensures c.loop-k.remembers c.loop-k.noted c.loop-k.k c.is_pending-pending.ensures (c.in-Other.is ∙ ap Other c.in-Note.is)).1 _ refl c.if-answers-last-ne0.false _ c.remembered-undoable.ensures c.if-left-ne0.true

pub loop-k-smaller-then-left-lt-PAGE : goal.loop-k-smaller-then-left-lt-PAGE
loop-k-smaller-then-left-lt-PAGE c =
    omega (arith, (due_note _ _ _ _ _ c.next_at-next.ensures c.loop-k.remembers c.loop-k.noted c.loop-k.k c.is_pending-pending.ensures (c.in-Other.is ∙ ap Other c.in-Note.is)).1, c.loop-k.invariant.upto)

pub loop-k-preserved-then-left-lt-PAGE : goal.loop-k-preserved-then-left-lt-PAGE
unfolding fresh_station fresh unsent_all new_row
loop-k-preserved-then-left-lt-PAGE c =
    noted-even _ _ _ _ _ c.loop-k.invariant c.loop-k-test.true (due_note _ _ _ _ _ c.next_at-next.ensures c.loop-k.remembers c.loop-k.noted c.loop-k.k c.is_pending-pending.ensures (c.in-Other.is ∙ ap Other c.in-Note.is)).0 (due_note _ _ _ _ _ c.next_at-next.ensures c.loop-k.remembers c.loop-k.noted c.loop-k.k c.is_pending-pending.ensures (c.in-Other.is ∙ ap Other c.in-Note.is)).1 _ refl c.if-answers-last-ne0.false _ c.remembered-undoable.ensures c.if-left-ne0.false c.if-left-lt-PAGE.true _ refl

pub loop-k-smaller-in-Note : goal.loop-k-smaller-in-Note
loop-k-smaller-in-Note c =
    omega (arith, (due_note _ _ _ _ _ c.next_at-next.ensures c.loop-k.remembers c.loop-k.noted c.loop-k.k c.is_pending-pending.ensures (c.in-Other.is ∙ ap Other c.in-Note.is)).1, c.loop-k.invariant.upto)

pub loop-k-preserved-in-Note : goal.loop-k-preserved-in-Note
unfolding fresh_station fresh unsent_all new_row
loop-k-preserved-in-Note c =
    noted-odd _ _ _ _ _ c.loop-k.invariant c.loop-k-test.true (due_note _ _ _ _ _ c.next_at-next.ensures c.loop-k.remembers c.loop-k.noted c.loop-k.k c.is_pending-pending.ensures (c.in-Other.is ∙ ap Other c.in-Note.is)).0 (due_note _ _ _ _ _ c.next_at-next.ensures c.loop-k.remembers c.loop-k.noted c.loop-k.k c.is_pending-pending.ensures (c.in-Other.is ∙ ap Other c.in-Note.is)).1 _ refl c.if-answers-last-ne0.false _ c.remembered-undoable.ensures c.if-left-ne0.false c.if-left-lt-PAGE.false _ refl

pub bounds-answers-here-in-Lock : goal.bounds-answers-here-in-Lock
bounds-answers-here-in-Lock c =
    omega (arith, in_place _ _ _ _ _ _ _ _ _ (reading _ _ _ _ _ _ _ _ _ _ _ _ c.loop-k.invariant c.loop-k-test.true c.place_of-here.ensures _ c.is_pending-pending.ensures _ c.next_at-next.ensures (c.in-Play.is ∙ ap Plays c.in-Lock.is)))

pub overflow_add-k-in-Lock : goal.overflow_add-k-in-Lock
overflow_add-k-in-Lock c =
    let p = place-within c.args.s.now c.args.from c.count_from-count.result c.loop-k.k c.loop-k.invariant.whole c.loop-k-test.true in
    omega (arith, p, c.well_formed.0.0)

pub loop-k-smaller-then-answer-ne0 : goal.loop-k-smaller-then-answer-ne0
loop-k-smaller-then-answer-ne0 c =
    omega (arith, c.loop-k-test.true)

pub loop-k-preserved-then-answer-ne0 : goal.loop-k-preserved-then-answer-ne0
unfolding fresh_station fresh unsent_all
loop-k-preserved-then-answer-ne0 c =
    lock-refused _ _ _ _ _ _ _ _ _ _ _ _ (reading _ _ _ _ _ _ _ _ _ _ _ _ c.loop-k.invariant c.loop-k-test.true c.place_of-here.ensures _ c.is_pending-pending.ensures _ c.next_at-next.ensures (c.in-Play.is ∙ ap Plays c.in-Lock.is)) (c.answer_number-answer.ensures ∙ ap number (c.lock_question.ensures false)) c.if-answer-ne0.true

pub loop-k-smaller-in-Lock : goal.loop-k-smaller-in-Lock
loop-k-smaller-in-Lock c =
    omega (arith, c.loop-k-test.true)

pub loop-k-preserved-in-Lock : goal.loop-k-preserved-in-Lock
unfolding fresh_station fresh unsent_all
loop-k-preserved-in-Lock c =
    lock-accepted _ _ _ _ _ _ _ _ _ _ _ _ (reading _ _ _ _ _ _ _ _ _ _ _ _ c.loop-k.invariant c.loop-k-test.true c.place_of-here.ensures _ c.is_pending-pending.ensures _ c.next_at-next.ensures (c.in-Play.is ∙ ap Plays c.in-Lock.is)) (c.answer_number-answer.ensures ∙ ap number (c.lock_question.ensures false)) c.if-answer-ne0.false _ c.locked-m.ensures

pub bounds-answers-here-in-Order : goal.bounds-answers-here-in-Order
bounds-answers-here-in-Order c =
    omega (arith, in_place _ _ _ _ _ _ _ _ _ (reading _ _ _ _ _ _ _ _ _ _ _ _ c.loop-k.invariant c.loop-k-test.true c.place_of-here.ensures _ c.is_pending-pending.ensures _ c.next_at-next.ensures (c.in-Play.is ∙ ap Plays c.in-Order.is)))

pub overflow_add-k-in-Order : goal.overflow_add-k-in-Order
overflow_add-k-in-Order c =
    let p = place-within c.args.s.now c.args.from c.count_from-count.result c.loop-k.k c.loop-k.invariant.whole c.loop-k-test.true in
    omega (arith, p, c.well_formed.0.0)

pub loop-k-smaller-then-answer-ne0-2 : goal.loop-k-smaller-then-answer-ne0-2
loop-k-smaller-then-answer-ne0-2 c =
    omega (arith, c.loop-k-test.true)

pub loop-k-preserved-then-answer-ne0-2 : goal.loop-k-preserved-then-answer-ne0-2
unfolding fresh_station fresh unsent_all
loop-k-preserved-then-answer-ne0-2 c =
    order-refused _ _ _ _ _ _ _ _ _ _ (reading _ _ _ _ _ _ _ _ _ _ _ _ c.loop-k.invariant c.loop-k-test.true c.place_of-here.ensures _ c.is_pending-pending.ensures _ c.next_at-next.ensures (c.in-Play.is ∙ ap Plays c.in-Order.is)) _ c.may_open.ensures (c.answer_number-answer-in-Order.ensures ∙ ap number c.order_question.ensures) c.if-answer-ne0-2.true

pub loop-i-init : goal.loop-i-init
loop-i-init c =
    (omega arith, all_stations _ _ c.loop-k.invariant.here, first-none renewed _)

pub loop-i-preserved : goal.loop-i-preserved
unfolding fresh_station fresh unsent_all
loop-i-preserved c =
    let i = c.loop-i.invariant in
    (omega arith, i.1, ap (λ (x : List Station). set x c.loop-i.i c.renewed.result) i.2 ∙ ap (set (map_first renewed c.loop-i.i c.loop-k.stations) c.loop-i.i) (c.renewed.ensures ∙ ap (λ (x : List Station). renewed (get_or x c.loop-i.i (fresh_station []))) i.2) ∙ first_more renewed c.loop-i.i c.loop-k.stations (fresh_station []) (omega (arith, i.1, i.0)))

pub loop-k-smaller-then-not-m : goal.loop-k-smaller-then-not-m
loop-k-smaller-then-not-m c =
    omega (arith, c.loop-k-test.true)

pub loop-k-preserved-then-not-m : goal.loop-k-preserved-then-not-m
unfolding fresh_station fresh unsent_all new_row
loop-k-preserved-then-not-m c =
    let i = c.loop-i.invariant in
    let all : c.loop-i.i ≡ min c.loop-k.m.n (length c.loop-k.stations) = order-size _ c.loop-k.stations _ _ c.order_opened-m.ensures _ _ c.up_to_limit-end.ensures i.1 (omega (arith, i.0, c.loop-i-test.false)) in
    order_quiet _ _ _ _ _ _ _ _ _ _ (reading _ _ _ _ _ _ _ _ _ _ _ _ c.loop-k.invariant c.loop-k-test.true c.place_of-here.ensures _ c.is_pending-pending.ensures _ c.next_at-next.ensures (c.in-Play.is ∙ ap Plays c.in-Order.is)) _ c.may_open.ensures (c.answer_number-answer-in-Order.ensures ∙ ap number c.order_question.ensures) c.if-answer-ne0-2.false _ c.order_opened-m.ensures c.if-not-m.true _ (i.2 ∙ first-all renewed c.loop-k.m.n c.loop-i.i c.loop-k.stations all)

pub loop-k-smaller-in-Order : goal.loop-k-smaller-in-Order
loop-k-smaller-in-Order c =
    omega (arith, c.loop-k-test.true)

pub loop-k-preserved-in-Order : goal.loop-k-preserved-in-Order
unfolding fresh_station fresh unsent_all new_row
loop-k-preserved-in-Order c =
    let i = c.loop-i.invariant in
    let all : c.loop-i.i ≡ min c.loop-k.m.n (length c.loop-k.stations) = order-size _ c.loop-k.stations _ _ c.order_opened-m.ensures _ _ c.up_to_limit-end.ensures i.1 (omega (arith, i.0, c.loop-i-test.false)) in
    order-accepted _ _ _ _ _ _ _ _ _ _ (reading _ _ _ _ _ _ _ _ _ _ _ _ c.loop-k.invariant c.loop-k-test.true c.place_of-here.ensures _ c.is_pending-pending.ensures _ c.next_at-next.ensures (c.in-Play.is ∙ ap Plays c.in-Order.is)) _ c.may_open.ensures (c.answer_number-answer-in-Order.ensures ∙ ap number c.order_question.ensures) c.if-answer-ne0-2.false _ c.order_opened-m.ensures _ (i.2 ∙ first-all renewed c.loop-k.m.n c.loop-i.i c.loop-k.stations all) _ (new-ballots _ _ c.new_acceptor-acceptors-in-Order.ensures c.new_row-rows-in-Order.ensures)

pub bounds-answers-here-in-Cast : goal.bounds-answers-here-in-Cast
bounds-answers-here-in-Cast c =
    omega (arith, in_place _ _ _ _ _ _ _ _ _ (reading _ _ _ _ _ _ _ _ _ _ _ _ c.loop-k.invariant c.loop-k-test.true c.place_of-here.ensures _ c.is_pending-pending.ensures _ c.next_at-next.ensures (c.in-Play.is ∙ ap Plays c.in-Cast.is)))

pub overflow_add-k-in-Cast : goal.overflow_add-k-in-Cast
overflow_add-k-in-Cast c =
    let p = place-within c.args.s.now c.args.from c.count_from-count.result c.loop-k.k c.loop-k.invariant.whole c.loop-k-test.true in
    omega (arith, p, c.well_formed.0.0)

pub loop-k-smaller-then-answer-ne0-3 : goal.loop-k-smaller-then-answer-ne0-3
loop-k-smaller-then-answer-ne0-3 c =
    omega (arith, c.loop-k-test.true)

pub loop-k-preserved-then-answer-ne0-3 : goal.loop-k-preserved-then-answer-ne0-3
unfolding fresh_station fresh unsent_all
loop-k-preserved-then-answer-ne0-3 c =
    cast-refused _ _ _ _ _ _ _ _ _ _ _ c.seat-at.ensures _ c.condition_of.ensures _ _
    (reading _ _ _ _ _ _ _ _ _ _ _ _ c.loop-k.invariant c.loop-k-test.true c.place_of-here.ensures _ c.is_pending-pending.ensures _ c.next_at-next.ensures (c.in-Play.is ∙ ap Plays c.in-Cast.is)) (c.answer_number-answer-in-Cast.ensures ∙ ap number (c.cast_question.ensures true))
    c.if-answer-ne0-3.true

pub offset_bounds-stations-at-in-Cast-2 : goal.offset_bounds-stations-at-in-Cast-2
offset_bounds-stations-at-in-Cast-2 c = omega (arith, c.seat-at.ensures.0)

pub bounds-stations-at-in-Cast-2 : goal.bounds-stations-at-in-Cast-2
bounds-stations-at-in-Cast-2 c = omega (arith, c.seat-at.ensures.0)

pub loop-k-smaller-in-Cast : goal.loop-k-smaller-in-Cast
loop-k-smaller-in-Cast c =
    omega (arith, c.loop-k-test.true)

pub loop-k-preserved-in-Cast : goal.loop-k-preserved-in-Cast
unfolding fresh_station fresh unsent_all
loop-k-preserved-in-Cast c =
    cast-accepted _ _ _ _ _ _ _ _ _ _ _ c.seat-at.ensures _ c.condition_of.ensures _ _
    (reading _ _ _ _ _ _ _ _ _ _ _ _ c.loop-k.invariant c.loop-k-test.true c.place_of-here.ensures _ c.is_pending-pending.ensures _ c.next_at-next.ensures (c.in-Play.is ∙ ap Plays c.in-Cast.is)) (c.answer_number-answer-in-Cast.ensures ∙ ap number (c.cast_question.ensures true))
    c.if-answer-ne0-3.false _ c.cast_turn.ensures

pub bounds-answers-here-in-Deliver : goal.bounds-answers-here-in-Deliver
bounds-answers-here-in-Deliver c =
    omega (arith, in_place _ _ _ _ _ _ _ _ _ (reading _ _ _ _ _ _ _ _ _ _ _ _ c.loop-k.invariant c.loop-k-test.true c.place_of-here.ensures _ c.is_pending-pending.ensures _ c.next_at-next.ensures (c.in-Play.is ∙ ap Plays c.in-Deliver.is)))

pub overflow_add-k-in-Deliver : goal.overflow_add-k-in-Deliver
overflow_add-k-in-Deliver c =
    let p = place-within c.args.s.now c.args.from c.count_from-count.result c.loop-k.k c.loop-k.invariant.whole c.loop-k-test.true in
    omega (arith, p, c.well_formed.0.0)

pub loop-k-smaller-then-answer-ne0-4 : goal.loop-k-smaller-then-answer-ne0-4
loop-k-smaller-then-answer-ne0-4 c =
    omega (arith, c.loop-k-test.true)

pub loop-k-preserved-then-answer-ne0-4 : goal.loop-k-preserved-then-answer-ne0-4
unfolding fresh_station fresh unsent_all
loop-k-preserved-then-answer-ne0-4 c =
    delivery-refused _ _ _ _ _ _ _ _ _ _ _ c.seat-at-in-Deliver.ensures _ c.condition_of-in-Deliver.ensures _ _ c.seat-origin.ensures _ _ c.outgoing-out.ensures
    (reading _ _ _ _ _ _ _ _ _ _ _ _ c.loop-k.invariant c.loop-k-test.true c.place_of-here.ensures _ c.is_pending-pending.ensures _ c.next_at-next.ensures (c.in-Play.is ∙ ap Plays c.in-Deliver.is)) (c.answer_number-answer-in-Deliver.ensures ∙ ap number c.deliver_question.ensures)
    c.if-answer-ne0-4.true

pub offset_bounds-stations-at-in-Vote-2 : goal.offset_bounds-stations-at-in-Vote-2
offset_bounds-stations-at-in-Vote-2 c = omega (arith, c.seat-at-in-Deliver.ensures.0)

pub bounds-stations-at-in-Vote-2 : goal.bounds-stations-at-in-Vote-2
bounds-stations-at-in-Vote-2 c = omega (arith, c.seat-at-in-Deliver.ensures.0)

pub loop-k-smaller-in-Vote : goal.loop-k-smaller-in-Vote
loop-k-smaller-in-Vote c =
    omega (arith, c.loop-k-test.true)

pub loop-k-preserved-in-Vote : goal.loop-k-preserved-in-Vote
unfolding fresh_station fresh unsent_all
loop-k-preserved-in-Vote c =
    vote-accepted _ _ _ _ _ _ _ _ _ _ _ c.seat-at-in-Deliver.ensures _ c.condition_of-in-Deliver.ensures _ _ c.seat-origin.ensures _ _ c.outgoing-out.ensures
    (reading _ _ _ _ _ _ _ _ _ _ _ _ c.loop-k.invariant c.loop-k-test.true c.place_of-here.ensures _ c.is_pending-pending.ensures _ c.next_at-next.ensures (c.in-Play.is ∙ ap Plays c.in-Deliver.is)) (c.answer_number-answer-in-Deliver.ensures ∙ ap number c.deliver_question.ensures)
    c.in-Vote.is c.if-answer-ne0-4.false _ c.vote_turn.ensures

pub loop-k-smaller-then-not-takes_ack : goal.loop-k-smaller-then-not-takes_ack
loop-k-smaller-then-not-takes_ack c =
    omega (arith, c.loop-k-test.true)

pub loop-k-preserved-then-not-takes_ack : goal.loop-k-preserved-then-not-takes_ack
unfolding fresh_station fresh unsent_all
loop-k-preserved-then-not-takes_ack c =
    ack-passed-over _ _ _ _ _ _ _ _ _ _ _ c.seat-at-in-Deliver.ensures _ c.condition_of-in-Deliver.ensures _ _ c.seat-origin.ensures _ _ c.outgoing-out.ensures
    (reading _ _ _ _ _ _ _ _ _ _ _ _ c.loop-k.invariant c.loop-k-test.true c.place_of-here.ensures _ c.is_pending-pending.ensures _ c.next_at-next.ensures (c.in-Play.is ∙ ap Plays c.in-Deliver.is)) (c.answer_number-answer-in-Deliver.ensures ∙ ap number c.deliver_question.ensures)
    c.in-Ack.is c.if-answer-ne0-4.false _ c.condition_of-condition.ensures _ c.takes_ack.ensures (c.if-not-takes_ack.true)

pub offset_bounds-stations-at-in-Ack-5 : goal.offset_bounds-stations-at-in-Ack-5
offset_bounds-stations-at-in-Ack-5 c = omega (arith, c.seat-at-in-Deliver.ensures.0)

pub bounds-stations-at-in-Ack-5 : goal.bounds-stations-at-in-Ack-5
bounds-stations-at-in-Ack-5 c = omega (arith, c.seat-at-in-Deliver.ensures.0)

pub loop-k-smaller-then-not-waiting : goal.loop-k-smaller-then-not-waiting
loop-k-smaller-then-not-waiting c =
    omega (arith, c.loop-k-test.true)

pub loop-k-preserved-then-not-waiting : goal.loop-k-preserved-then-not-waiting
unfolding fresh_station fresh unsent_all
loop-k-preserved-then-not-waiting c =
    ack-held _ _ _ _ _ _ _ _ _ _ _ c.seat-at-in-Deliver.ensures _ c.condition_of-in-Deliver.ensures _ _ c.seat-origin.ensures _ _ c.outgoing-out.ensures
    (reading _ _ _ _ _ _ _ _ _ _ _ _ c.loop-k.invariant c.loop-k-test.true c.place_of-here.ensures _ c.is_pending-pending.ensures _ c.next_at-next.ensures (c.in-Play.is ∙ ap Plays c.in-Deliver.is)) (c.answer_number-answer-in-Deliver.ensures ∙ ap number c.deliver_question.ensures)
    c.in-Ack.is c.if-answer-ne0-4.false _ c.condition_of-condition.ensures _ c.takes_ack.ensures (c.if-not-takes_ack.false) (c.if-not-waiting.true) _ _ _ c.insert.ensures c.bump.ensures refl

pub offset_bounds-stations-at-in-Ack-7 : goal.offset_bounds-stations-at-in-Ack-7
offset_bounds-stations-at-in-Ack-7 c = omega (arith, c.seat-at-in-Deliver.ensures.0)

pub bounds-stations-at-in-Ack-7 : goal.bounds-stations-at-in-Ack-7
bounds-stations-at-in-Ack-7 c = omega (arith, c.seat-at-in-Deliver.ensures.0)

pub loop-k-smaller-in-Ack : goal.loop-k-smaller-in-Ack
loop-k-smaller-in-Ack c =
    omega (arith, c.loop-k-test.true)

pub loop-k-preserved-in-Ack : goal.loop-k-preserved-in-Ack
unfolding fresh_station fresh unsent_all
loop-k-preserved-in-Ack c =
    ack-put _ _ _ _ _ _ _ _ _ _ _ c.seat-at-in-Deliver.ensures _ c.condition_of-in-Deliver.ensures _ _ c.seat-origin.ensures _ _ c.outgoing-out.ensures
    (reading _ _ _ _ _ _ _ _ _ _ _ _ c.loop-k.invariant c.loop-k-test.true c.place_of-here.ensures _ c.is_pending-pending.ensures _ c.next_at-next.ensures (c.in-Play.is ∙ ap Plays c.in-Deliver.is)) (c.answer_number-answer-in-Deliver.ensures ∙ ap number c.deliver_question.ensures)
    c.in-Ack.is c.if-answer-ne0-4.false _ c.condition_of-condition.ensures _ c.takes_ack.ensures (c.if-not-takes_ack.false) _ _ _ c.insert.ensures c.bump.ensures refl _ c.settled_turn-t.ensures

pub offset_bounds-stations-at-in-Help-2 : goal.offset_bounds-stations-at-in-Help-2
offset_bounds-stations-at-in-Help-2 c = omega (arith, c.seat-at-in-Deliver.ensures.0)

pub bounds-stations-at-in-Help-2 : goal.bounds-stations-at-in-Help-2
bounds-stations-at-in-Help-2 c = omega (arith, c.seat-at-in-Deliver.ensures.0)

pub loop-k-smaller-in-Help : goal.loop-k-smaller-in-Help
loop-k-smaller-in-Help c =
    omega (arith, c.loop-k-test.true)

pub loop-k-preserved-in-Help : goal.loop-k-preserved-in-Help
unfolding fresh_station fresh unsent_all
loop-k-preserved-in-Help c =
    help-accepted _ _ _ _ _ _ _ _ _ _ _ c.seat-at-in-Deliver.ensures _ c.condition_of-in-Deliver.ensures _ _ c.seat-origin.ensures _ _ c.outgoing-out.ensures
    (reading _ _ _ _ _ _ _ _ _ _ _ _ c.loop-k.invariant c.loop-k-test.true c.place_of-here.ensures _ c.is_pending-pending.ensures _ c.next_at-next.ensures (c.in-Play.is ∙ ap Plays c.in-Deliver.is)) (c.answer_number-answer-in-Deliver.ensures ∙ ap number c.deliver_question.ensures)
    c.in-Help.is c.if-answer-ne0-4.false _ c.help_turn.ensures

pub offset_bounds-stations-at-in-Helped-2 : goal.offset_bounds-stations-at-in-Helped-2
offset_bounds-stations-at-in-Helped-2 c = omega (arith, c.seat-at-in-Deliver.ensures.0)

pub bounds-stations-at-in-Helped-2 : goal.bounds-stations-at-in-Helped-2
bounds-stations-at-in-Helped-2 c = omega (arith, c.seat-at-in-Deliver.ensures.0)

pub loop-k-smaller-in-Helped : goal.loop-k-smaller-in-Helped
loop-k-smaller-in-Helped c =
    omega (arith, c.loop-k-test.true)

pub loop-k-preserved-in-Helped : goal.loop-k-preserved-in-Helped
unfolding fresh_station fresh unsent_all
loop-k-preserved-in-Helped c =
    helped-accepted _ _ _ _ _ _ _ _ _ _ _ c.seat-at-in-Deliver.ensures _ c.condition_of-in-Deliver.ensures _ _ c.seat-origin.ensures _ _ c.outgoing-out.ensures
    (reading _ _ _ _ _ _ _ _ _ _ _ _ c.loop-k.invariant c.loop-k-test.true c.place_of-here.ensures _ c.is_pending-pending.ensures _ c.next_at-next.ensures (c.in-Play.is ∙ ap Plays c.in-Deliver.is)) (c.answer_number-answer-in-Deliver.ensures ∙ ap number c.deliver_question.ensures)
    c.in-Helped.is c.if-answer-ne0-4.false _ c.outgoing-out-in-Helped.ensures _ c.helped_turn-t.ensures

pub bounds-answers-here-in-Timeout : goal.bounds-answers-here-in-Timeout
bounds-answers-here-in-Timeout c =
    omega (arith, in_place _ _ _ _ _ _ _ _ _ (reading _ _ _ _ _ _ _ _ _ _ _ _ c.loop-k.invariant c.loop-k-test.true c.place_of-here.ensures _ c.is_pending-pending.ensures _ c.next_at-next.ensures (c.in-Play.is ∙ ap Plays c.in-Timeout.is)))

pub overflow_add-k-in-Timeout : goal.overflow_add-k-in-Timeout
overflow_add-k-in-Timeout c =
    let p = place-within c.args.s.now c.args.from c.count_from-count.result c.loop-k.k c.loop-k.invariant.whole c.loop-k-test.true in
    omega (arith, p, c.well_formed.0.0)

pub loop-k-smaller-then-answer-ne0-5 : goal.loop-k-smaller-then-answer-ne0-5
loop-k-smaller-then-answer-ne0-5 c =
    omega (arith, c.loop-k-test.true)

pub loop-k-preserved-then-answer-ne0-5 : goal.loop-k-preserved-then-answer-ne0-5
unfolding fresh_station fresh unsent_all
loop-k-preserved-then-answer-ne0-5 c =
    timeout-refused _ _ _ _ _ _ _ _ _ _ _ c.seat-at-in-Timeout.ensures _ c.condition_of-condition-in-Timeout.ensures
    (reading _ _ _ _ _ _ _ _ _ _ _ _ c.loop-k.invariant c.loop-k-test.true c.place_of-here.ensures _ c.is_pending-pending.ensures _ c.next_at-next.ensures (c.in-Play.is ∙ ap Plays c.in-Timeout.is)) (c.answer_number-answer-in-Timeout.ensures ∙ ap number c.timeout_question.ensures)
    c.if-answer-ne0-5.true

pub offset_bounds-stations-at-then-phase_in-eq1-2 : goal.offset_bounds-stations-at-then-phase_in-eq1-2
offset_bounds-stations-at-then-phase_in-eq1-2 c = omega (arith, c.seat-at-in-Timeout.ensures.0)

pub bounds-stations-at-then-phase_in-eq1-2 : goal.bounds-stations-at-then-phase_in-eq1-2
bounds-stations-at-then-phase_in-eq1-2 c = omega (arith, c.seat-at-in-Timeout.ensures.0)

pub loop-k-smaller-then-phase_in-eq1 : goal.loop-k-smaller-then-phase_in-eq1
loop-k-smaller-then-phase_in-eq1 c =
    omega (arith, c.loop-k-test.true)

pub loop-k-preserved-then-phase_in-eq1 : goal.loop-k-preserved-then-phase_in-eq1
unfolding fresh_station fresh unsent_all
loop-k-preserved-then-phase_in-eq1 c =
    first-laid _ _ _ _ _ _ _ _ _ _ _ c.seat-at-in-Timeout.ensures _ c.condition_of-condition-in-Timeout.ensures
    (reading _ _ _ _ _ _ _ _ _ _ _ _ c.loop-k.invariant c.loop-k-test.true c.place_of-here.ensures _ c.is_pending-pending.ensures _ c.next_at-next.ensures (c.in-Play.is ∙ ap Plays c.in-Timeout.is)) (c.answer_number-answer-in-Timeout.ensures ∙ ap number c.timeout_question.ensures)
    c.if-answer-ne0-5.false _ (c.phase_in.ensures ∙ ap phase_in c.condition_of-condition-in-Timeout.ensures) c.if-phase_in-eq1.true _ c.counts_own-counts.ensures _ c.set_if.ensures _ c.from_if.ensures _ c.cnt_if.ensures _ refl _ c.first_turn.ensures

pub offset_bounds-stations-at-in-Timeout-3 : goal.offset_bounds-stations-at-in-Timeout-3
offset_bounds-stations-at-in-Timeout-3 c = omega (arith, c.seat-at-in-Timeout.ensures.0)

pub bounds-stations-at-in-Timeout-3 : goal.bounds-stations-at-in-Timeout-3
bounds-stations-at-in-Timeout-3 c = omega (arith, c.seat-at-in-Timeout.ensures.0)

pub loop-k-smaller-in-Timeout : goal.loop-k-smaller-in-Timeout
loop-k-smaller-in-Timeout c =
    omega (arith, c.loop-k-test.true)

pub loop-k-preserved-in-Timeout : goal.loop-k-preserved-in-Timeout
unfolding fresh_station fresh unsent_all
loop-k-preserved-in-Timeout c =
    second-accepted _ _ _ _ _ _ _ _ _ _ _ c.seat-at-in-Timeout.ensures _ c.condition_of-condition-in-Timeout.ensures
    (reading _ _ _ _ _ _ _ _ _ _ _ _ c.loop-k.invariant c.loop-k-test.true c.place_of-here.ensures _ c.is_pending-pending.ensures _ c.next_at-next.ensures (c.in-Play.is ∙ ap Plays c.in-Timeout.is)) (c.answer_number-answer-in-Timeout.ensures ∙ ap number c.timeout_question.ensures)
    c.if-answer-ne0-5.false (λ z. c.if-phase_in-eq1.false (c.phase_in.ensures ∙ ap phase_in c.condition_of-condition-in-Timeout.ensures ∙ z)) _ c.second_turn-t.ensures

pub loop-i-2-init : goal.loop-i-2-init
loop-i-2-init c = (omega arith, none-chosen _ _ _)

pub offset_bounds-rows-i : goal.offset_bounds-rows-i
offset_bounds-rows-i c = omega (arith, c.loop-i-2-test.true, c.ballots_asked-end.ensures.1)

pub bounds-rows-i : goal.bounds-rows-i
bounds-rows-i c = omega (arith, c.loop-i-2-test.true, c.ballots_asked-end.ensures.1)

pub overflow_add-i-in-loop-i-2 : goal.overflow_add-i-in-loop-i-2
overflow_add-i-in-loop-i-2 c = omega (arith, c.loop-i-2-test.true, c.ballots_asked-end.ensures.1)

pub loop-i-2-smaller : goal.loop-i-2-smaller
loop-i-2-smaller c = omega (arith, c.loop-i-2-test.true, c.ballots_asked-end.ensures.1)

pub loop-i-2-preserved : goal.loop-i-2-preserved
unfolding fresh_station fresh unsent_all new_row
loop-i-2-preserved c = (omega arith, more-chosen _ _ _ _ _ _ c.loop-i-2.invariant.1 c.chosen_at-chosen.ensures)

pub bounds-answers-here-in-Decide : goal.bounds-answers-here-in-Decide
bounds-answers-here-in-Decide c =
    omega (arith, in_place _ _ _ _ _ _ _ _ _ (reading _ _ _ _ _ _ _ _ _ _ _ _ c.loop-k.invariant c.loop-k-test.true c.place_of-here.ensures _ c.is_pending-pending.ensures _ c.next_at-next.ensures (c.in-Play.is ∙ ap Plays c.in-Decide.is)))

pub overflow_add-k-in-Decide : goal.overflow_add-k-in-Decide
overflow_add-k-in-Decide c =
    let p = place-within c.args.s.now c.args.from c.count_from-count.result c.loop-k.k c.loop-k.invariant.whole c.loop-k-test.true in
    omega (arith, p, c.well_formed.0.0)

pub loop-k-smaller-then-answer-ne0-6 : goal.loop-k-smaller-then-answer-ne0-6
loop-k-smaller-then-answer-ne0-6 c =
    omega (arith, c.loop-k-test.true)

pub loop-k-preserved-then-answer-ne0-6 : goal.loop-k-preserved-then-answer-ne0-6
unfolding fresh_station fresh unsent_all new_row
loop-k-preserved-then-answer-ne0-6 c =
    let end : c.loop-i-2.i ≡ c.ballots_asked-end.result = omega (arith, c.loop-i-2.invariant.0, c.loop-i-2-test.false) in
    decide-refused _ _ _ _ _ _ _ _ _ _ _ c.seat-at-in-Decide.ensures _ c.condition_of-in-Decide.ensures _ _ (may_give_lem c.loop-k.m _ _ _ _ _ _ c.ballots_asked-end.ensures.0 end c.loop-i-2.invariant.1 c.may_give-may.ensures)
    (reading _ _ _ _ _ _ _ _ _ _ _ _ c.loop-k.invariant c.loop-k-test.true c.place_of-here.ensures _ c.is_pending-pending.ensures _ c.next_at-next.ensures (c.in-Play.is ∙ ap Plays c.in-Decide.is)) (c.answer_number-answer-in-Decide.ensures ∙ ap number (c.decide_question.ensures false)) c.if-answer-ne0-6.true

pub offset_bounds-stations-at-in-Decide-3 : goal.offset_bounds-stations-at-in-Decide-3
offset_bounds-stations-at-in-Decide-3 c = omega (arith, c.seat-at-in-Decide.ensures.0)

pub bounds-stations-at-in-Decide-3 : goal.bounds-stations-at-in-Decide-3
bounds-stations-at-in-Decide-3 c = omega (arith, c.seat-at-in-Decide.ensures.0)

pub loop-k-smaller-in-Decide : goal.loop-k-smaller-in-Decide
loop-k-smaller-in-Decide c =
    omega (arith, c.loop-k-test.true)

pub loop-k-preserved-in-Decide : goal.loop-k-preserved-in-Decide
unfolding fresh_station fresh unsent_all new_row
loop-k-preserved-in-Decide c =
    let end : c.loop-i-2.i ≡ c.ballots_asked-end.result = omega (arith, c.loop-i-2.invariant.0, c.loop-i-2-test.false) in
    decide-accepted _ _ _ _ _ _ _ _ _ _ _ c.seat-at-in-Decide.ensures _ c.condition_of-in-Decide.ensures _ _ (may_give_lem c.loop-k.m _ _ _ _ _ _ c.ballots_asked-end.ensures.0 end c.loop-i-2.invariant.1 c.may_give-may.ensures)
    (reading _ _ _ _ _ _ _ _ _ _ _ _ c.loop-k.invariant c.loop-k-test.true c.place_of-here.ensures _ c.is_pending-pending.ensures _ c.next_at-next.ensures (c.in-Play.is ∙ ap Plays c.in-Decide.is)) (c.answer_number-answer-in-Decide.ensures ∙ ap number (c.decide_question.ensures false)) c.if-answer-ne0-6.false _ c.decide_turn-t.ensures

pub bounds-answers-here-in-Stop : goal.bounds-answers-here-in-Stop
bounds-answers-here-in-Stop c =
    omega (arith, in_place _ _ _ _ _ _ _ _ _ (reading _ _ _ _ _ _ _ _ _ _ _ _ c.loop-k.invariant c.loop-k-test.true c.place_of-here.ensures _ c.is_pending-pending.ensures _ c.next_at-next.ensures (c.in-Play.is ∙ ap Plays c.in-Stop.is)))

pub overflow_add-k-in-Stop : goal.overflow_add-k-in-Stop
overflow_add-k-in-Stop c =
    let p = place-within c.args.s.now c.args.from c.count_from-count.result c.loop-k.k c.loop-k.invariant.whole c.loop-k-test.true in
    omega (arith, p, c.well_formed.0.0)

pub loop-k-smaller-then-answer-ne0-7 : goal.loop-k-smaller-then-answer-ne0-7
loop-k-smaller-then-answer-ne0-7 c =
    omega (arith, c.loop-k-test.true)

pub loop-k-preserved-then-answer-ne0-7 : goal.loop-k-preserved-then-answer-ne0-7
unfolding fresh_station fresh unsent_all
loop-k-preserved-then-answer-ne0-7 c =
    stop-refused _ _ _ _ _ _ _ _ _ _ _ c.seat-at-in-Stop.ensures _ c.condition_of-in-Stop.ensures
    (reading _ _ _ _ _ _ _ _ _ _ _ _ c.loop-k.invariant c.loop-k-test.true c.place_of-here.ensures _ c.is_pending-pending.ensures _ c.next_at-next.ensures (c.in-Play.is ∙ ap Plays c.in-Stop.is)) (c.answer_number-answer-in-Stop.ensures ∙ ap number c.present_question.ensures.value)
    c.if-answer-ne0-7.true

pub offset_bounds-stations-at-in-Stop-3 : goal.offset_bounds-stations-at-in-Stop-3
offset_bounds-stations-at-in-Stop-3 c = omega (arith, c.seat-at-in-Stop.ensures.0)

pub bounds-stations-at-in-Stop-3 : goal.bounds-stations-at-in-Stop-3
bounds-stations-at-in-Stop-3 c = omega (arith, c.seat-at-in-Stop.ensures.0)

pub loop-k-smaller-in-Stop : goal.loop-k-smaller-in-Stop
loop-k-smaller-in-Stop c =
    omega (arith, c.loop-k-test.true)

pub loop-k-preserved-in-Stop : goal.loop-k-preserved-in-Stop
unfolding fresh_station fresh unsent_all
loop-k-preserved-in-Stop c =
    stop-accepted _ _ _ _ _ _ _ _ _ _ _ c.seat-at-in-Stop.ensures _ c.condition_of-in-Stop.ensures
    (reading _ _ _ _ _ _ _ _ _ _ _ _ c.loop-k.invariant c.loop-k-test.true c.place_of-here.ensures _ c.is_pending-pending.ensures _ c.next_at-next.ensures (c.in-Play.is ∙ ap Plays c.in-Stop.is)) (c.answer_number-answer-in-Stop.ensures ∙ ap number c.present_question.ensures.value)
    c.if-answer-ne0-7.false _ c.stop_turn-t.ensures

pub bounds-answers-here-in-Save : goal.bounds-answers-here-in-Save
bounds-answers-here-in-Save c =
    omega (arith, in_place _ _ _ _ _ _ _ _ _ (reading _ _ _ _ _ _ _ _ _ _ _ _ c.loop-k.invariant c.loop-k-test.true c.place_of-here.ensures _ c.is_pending-pending.ensures _ c.next_at-next.ensures (c.in-Play.is ∙ ap Plays c.in-Save.is)))

pub overflow_add-k-in-Save : goal.overflow_add-k-in-Save
overflow_add-k-in-Save c =
    let p = place-within c.args.s.now c.args.from c.count_from-count.result c.loop-k.k c.loop-k.invariant.whole c.loop-k-test.true in
    omega (arith, p, c.well_formed.0.0)

pub loop-k-smaller-then-answer-ne0-8 : goal.loop-k-smaller-then-answer-ne0-8
loop-k-smaller-then-answer-ne0-8 c =
    omega (arith, c.loop-k-test.true)

pub loop-k-preserved-then-answer-ne0-8 : goal.loop-k-preserved-then-answer-ne0-8
unfolding fresh_station fresh unsent_all
loop-k-preserved-then-answer-ne0-8 c =
    save-refused _ _ _ _ _ _ _ _ _ _ _ c.seat-at-in-Save.ensures _ c.condition_of-in-Save.ensures
    (reading _ _ _ _ _ _ _ _ _ _ _ _ c.loop-k.invariant c.loop-k-test.true c.place_of-here.ensures _ c.is_pending-pending.ensures _ c.next_at-next.ensures (c.in-Play.is ∙ ap Plays c.in-Save.is)) (c.answer_number-answer-in-Save.ensures ∙ ap number c.present_question-in-Save.ensures.value_2)
    c.if-answer-ne0-8.true

pub offset_bounds-stations-at-in-Save-3 : goal.offset_bounds-stations-at-in-Save-3
offset_bounds-stations-at-in-Save-3 c = omega (arith, c.seat-at-in-Save.ensures.0)

pub bounds-stations-at-in-Save-3 : goal.bounds-stations-at-in-Save-3
bounds-stations-at-in-Save-3 c = omega (arith, c.seat-at-in-Save.ensures.0)

pub loop-k-smaller-in-Save : goal.loop-k-smaller-in-Save
loop-k-smaller-in-Save c =
    omega (arith, c.loop-k-test.true)

pub loop-k-preserved-in-Save : goal.loop-k-preserved-in-Save
unfolding fresh_station fresh unsent_all
loop-k-preserved-in-Save c =
    save-accepted _ _ _ _ _ _ _ _ _ _ _ c.seat-at-in-Save.ensures _ c.condition_of-in-Save.ensures
    (reading _ _ _ _ _ _ _ _ _ _ _ _ c.loop-k.invariant c.loop-k-test.true c.place_of-here.ensures _ c.is_pending-pending.ensures _ c.next_at-next.ensures (c.in-Play.is ∙ ap Plays c.in-Save.is)) (c.answer_number-answer-in-Save.ensures ∙ ap number c.present_question-in-Save.ensures.value_2)
    c.if-answer-ne0-8.false _ c.save_turn.ensures

pub bounds-answers-here-in-Restore : goal.bounds-answers-here-in-Restore
bounds-answers-here-in-Restore c =
    omega (arith, in_place _ _ _ _ _ _ _ _ _ (reading _ _ _ _ _ _ _ _ _ _ _ _ c.loop-k.invariant c.loop-k-test.true c.place_of-here.ensures _ c.is_pending-pending.ensures _ c.next_at-next.ensures (c.in-Play.is ∙ ap Plays c.in-Restore.is)))

pub overflow_add-k-in-Restore : goal.overflow_add-k-in-Restore
overflow_add-k-in-Restore c =
    let p = place-within c.args.s.now c.args.from c.count_from-count.result c.loop-k.k c.loop-k.invariant.whole c.loop-k-test.true in
    omega (arith, p, c.well_formed.0.0)

pub loop-k-smaller-then-answer-ne0-9 : goal.loop-k-smaller-then-answer-ne0-9
loop-k-smaller-then-answer-ne0-9 c =
    omega (arith, c.loop-k-test.true)

pub loop-k-preserved-then-answer-ne0-9 : goal.loop-k-preserved-then-answer-ne0-9
unfolding fresh_station fresh unsent_all
loop-k-preserved-then-answer-ne0-9 c =
    restore-refused _ _ _ _ _ _ _ _ _ _ _ c.seat-at-in-Restore.ensures _ c.condition_of-in-Restore.ensures _ c.is_saved.ensures
    (reading _ _ _ _ _ _ _ _ _ _ _ _ c.loop-k.invariant c.loop-k-test.true c.place_of-here.ensures _ c.is_pending-pending.ensures _ c.next_at-next.ensures (c.in-Play.is ∙ ap Plays c.in-Restore.is)) (c.answer_number-answer-in-Restore.ensures ∙ ap number c.restore_question.ensures)
    c.if-answer-ne0-9.true

pub offset_bounds-stations-at-in-Restore-3 : goal.offset_bounds-stations-at-in-Restore-3
offset_bounds-stations-at-in-Restore-3 c = omega (arith, c.seat-at-in-Restore.ensures.0)

pub bounds-stations-at-in-Restore-3 : goal.bounds-stations-at-in-Restore-3
bounds-stations-at-in-Restore-3 c = omega (arith, c.seat-at-in-Restore.ensures.0)

pub loop-k-smaller-in-Restore : goal.loop-k-smaller-in-Restore
loop-k-smaller-in-Restore c =
    omega (arith, c.loop-k-test.true)

pub loop-k-preserved-in-Restore : goal.loop-k-preserved-in-Restore
unfolding fresh_station fresh unsent_all
loop-k-preserved-in-Restore c =
    restore-accepted _ _ _ _ _ _ _ _ _ _ _ c.seat-at-in-Restore.ensures _ c.condition_of-in-Restore.ensures _ c.is_saved.ensures
    (reading _ _ _ _ _ _ _ _ _ _ _ _ c.loop-k.invariant c.loop-k-test.true c.place_of-here.ensures _ c.is_pending-pending.ensures _ c.next_at-next.ensures (c.in-Play.is ∙ ap Plays c.in-Restore.is)) (c.answer_number-answer-in-Restore.ensures ∙ ap number c.restore_question.ensures)
    c.if-answer-ne0-9.false _ c.restore_turn-t.ensures

pub offset_bounds-rows-place : goal.offset_bounds-rows-place
offset_bounds-rows-place c = omega (arith, c.slot-place.ensures.0)

pub bounds-rows-place : goal.bounds-rows-place
bounds-rows-place c = omega (arith, c.slot-place.ensures.0)

pub offset_bounds-rows-slot_reported : goal.offset_bounds-rows-slot_reported
offset_bounds-rows-slot_reported c = omega (arith, c.slot_reported.ensures.0)

pub bounds-rows-slot_reported : goal.bounds-rows-slot_reported
bounds-rows-slot_reported c = omega (arith, c.slot_reported.ensures.0)

pub offset_bounds-stations-at-in-OfBallots : goal.offset_bounds-stations-at-in-OfBallots
offset_bounds-stations-at-in-OfBallots c = omega (arith, c.seat-at-in-OfBallots.ensures.0)

pub bounds-stations-at-in-OfBallots : goal.bounds-stations-at-in-OfBallots
bounds-stations-at-in-OfBallots c = omega (arith, c.seat-at-in-OfBallots.ensures.0)

pub offset_bounds-acceptors-at : goal.offset_bounds-acceptors-at
offset_bounds-acceptors-at c = omega (arith, c.seat-at-in-OfBallots.ensures.0)

pub bounds-acceptors-at : goal.bounds-acceptors-at
bounds-acceptors-at c = omega (arith, c.seat-at-in-OfBallots.ensures.0)

pub offset_bounds-rows-place-in-OfBallots : goal.offset_bounds-rows-place-in-OfBallots
offset_bounds-rows-place-in-OfBallots c = omega (arith, c.slot-place.ensures.0)

pub bounds-rows-place-in-OfBallots : goal.bounds-rows-place-in-OfBallots
bounds-rows-place-in-OfBallots c = omega (arith, c.slot-place.ensures.0)

pub bounds-answers-here-in-OfBallots : goal.bounds-answers-here-in-OfBallots
bounds-answers-here-in-OfBallots c =
    omega (arith, in_place _ _ _ _ _ _ _ _ _ (reading _ _ _ _ _ _ _ _ _ _ _ _ c.loop-k.invariant c.loop-k-test.true c.place_of-here.ensures _ c.is_pending-pending.ensures _ c.next_at-next.ensures (c.in-Play.is ∙ ap Plays c.in-OfBallots.is)))

pub overflow_add-k-in-OfBallots : goal.overflow_add-k-in-OfBallots
overflow_add-k-in-OfBallots c =
    let p = place-within c.args.s.now c.args.from c.count_from-count.result c.loop-k.k c.loop-k.invariant.whole c.loop-k-test.true in
    omega (arith, p, c.well_formed.0.0)

pub offset_bounds-acceptors-at-in-OfBallots : goal.offset_bounds-acceptors-at-in-OfBallots
offset_bounds-acceptors-at-in-OfBallots c = omega (arith, c.seat-at-in-OfBallots.ensures.0)

pub bounds-acceptors-at-in-OfBallots : goal.bounds-acceptors-at-in-OfBallots
bounds-acceptors-at-in-OfBallots c = omega (arith, c.seat-at-in-OfBallots.ensures.0)

pub offset_bounds-rows-place-in-OfBallots-2 : goal.offset_bounds-rows-place-in-OfBallots-2
offset_bounds-rows-place-in-OfBallots-2 c = omega (arith, c.slot-place.ensures.0)

pub bounds-rows-place-in-OfBallots-2 : goal.bounds-rows-place-in-OfBallots-2
bounds-rows-place-in-OfBallots-2 c = omega (arith, c.slot-place.ensures.0)

pub loop-k-smaller-in_default : goal.loop-k-smaller-in_default
loop-k-smaller-in_default c =
    omega (arith, c.loop-k-test.true)

pub loop-k-preserved-in_default : goal.loop-k-preserved-in_default
unfolding fresh_station fresh unsent_all new_row
loop-k-preserved-in_default c =
    turn-refused _ _ _ _ _ _ _ _ _ (reading _ _ _ _ _ _ _ _ _ _ _ _ c.loop-k.invariant c.loop-k-test.true c.place_of-here.ensures _ c.is_pending-pending.ensures _ c.next_at-next.ensures (c.in-Play.is ∙ ap Plays (c.in-OfBallots.is ∙ ap OfBallots (sym c.rebuilt-e.ensures))))
    _ c.subject_of.ensures _ c.seat-at-in-OfBallots.ensures _ c.ballot_of.ensures _ c.slot-place.ensures
    _ c.report_in-last.ensures _ c.slot_reported.ensures _ c.word_in-reported.ensures _ c.ballot_turn-turn.ensures _ c.answer_number.ensures _ c.in_default.is

pub loop-k-smaller : goal.loop-k-smaller
loop-k-smaller c =
    omega (arith, c.loop-k-test.true)

pub loop-k-preserved : goal.loop-k-preserved
unfolding fresh_station fresh unsent_all new_row
loop-k-preserved c =
    turn-accepted _ _ _ _ _ _ _ _ _ (reading _ _ _ _ _ _ _ _ _ _ _ _ c.loop-k.invariant c.loop-k-test.true c.place_of-here.ensures _ c.is_pending-pending.ensures _ c.next_at-next.ensures (c.in-Play.is ∙ ap Plays (c.in-OfBallots.is ∙ ap OfBallots (sym c.rebuilt-e.ensures))))
    _ c.subject_of.ensures _ c.seat-at-in-OfBallots.ensures _ c.ballot_of.ensures _ c.slot-place.ensures
    _ c.report_in-last.ensures _ c.slot_reported.ensures _ c.word_in-reported.ensures _ c.ballot_turn-turn.ensures _ c.answer_number.ensures _ c.in-Ok.is

pub returns : goal.returns
returns c =
    let n = ended _ _ _ _ _ c.loop-k.invariant c.loop-k-test.false in
    record { result = c.ended-2.ensures (record { acceptors = c.loop-k.acceptors; rows = c.loop-k.rows }) ∙ n.result; buffer = n.buffer }
