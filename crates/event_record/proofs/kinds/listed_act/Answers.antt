-- `listed_act` meets its contract: each arm of the match is its row of the table of kinds (`at_row`), and what is left is no row.
use mathlib.Core.Path.{refl}
use Rattle.std.specs.Prelude.{Some, None}
use Rattle.records.specs.Rows.{row_of}
use Rattle.event_record.specs.Events.{rows, listed_act}
use Rattle.event_record.proofs.Rows.{at_row, delivered-act, no_row, above}
use Rattle.event_record.proofs.kinds.listed_act.Goals as goal

pub returns-in-0 : goal.returns-in-0
unfolding row_of rows
returns-in-0 c = at_row _ 0 c.in-0.is c.then_some.ensures c.lock_listed.ensures (rw c.flag_of.ensures)

pub returns-in-1 : goal.returns-in-1
unfolding row_of rows
returns-in-1 c = at_row _ 1 c.in-1.is c.then_some-in-1.ensures c.order_listed.ensures refl

pub returns-in-2 : goal.returns-in-2
unfolding row_of rows
returns-in-2 c = at_row _ 2 c.in-2.is c.then_some-in-2.ensures c.vote_listed.ensures (rw c.flag_of-in-2.ensures)

pub returns-in_err-delivery-in-3 : goal.returns-in_err-delivery-in-3
returns-in_err-delivery-in-3 c = rw c.from_residual.ensures (delivered-act _ None c.in-3.is c.in_err-delivery-in-3.ensures)

pub returns-in_ok-delivery-in-3 : goal.returns-in_ok-delivery-in-3
returns-in_ok-delivery-in-3 c = delivered-act _ (Some _) c.in-3.is c.in_ok-delivery-in-3.ensures

pub returns-in-4 : goal.returns-in-4
unfolding row_of rows
returns-in-4 c = at_row _ 4 c.in-4.is c.then_some-in-4.ensures c.other_listed.ensures refl

pub returns-in-5 : goal.returns-in-5
unfolding row_of rows
returns-in-5 c = at_row _ 5 c.in-5.is c.then_some-in-5.ensures c.decision_listed.ensures (rw c.flag_of-in-5.ensures)

pub returns-in-6 : goal.returns-in-6
unfolding row_of rows
returns-in-6 c = at_row _ 6 c.in-6.is c.then_some-in-6.ensures c.other_listed-in-6.ensures refl

pub returns-in-7 : goal.returns-in-7
unfolding row_of rows
returns-in-7 c = at_row _ 7 c.in-7.is c.then_some-in-7.ensures c.other_listed-in-7.ensures refl

pub returns-in-8 : goal.returns-in-8
unfolding row_of rows
returns-in-8 c = at_row _ 8 c.in-8.is c.then_some-in-8.ensures c.other_listed-in-8.ensures refl

pub returns-in-9 : goal.returns-in-9
unfolding row_of rows
returns-in-9 c = at_row _ 9 c.in-9.is c.then_some-in-9.ensures c.step_back_listed.ensures refl

pub returns-in-10 : goal.returns-in-10
unfolding row_of rows
returns-in-10 c = at_row _ 10 c.in-10.is c.then_some-in-10.ensures c.opening_listed.ensures (rw c.opening.ensures)

pub returns-in_default : goal.returns-in_default
unfolding listed_act
returns-in_default c = rw (no_row c.args.x (above 11 c.args.x.kind c.in_default.in_default-own.rest))
