-- What came of the turn, and what that says of the signals that it saw.
use Rattle.std.proofs.Common.{◌≡◌, Some, length, subst, sym}
use Rattle.feed_core.specs.EndedBy.{IsEndedBy}
use Rattle.feed_core.specs.declared.turn.outlook.Outlook.TheVariants.{Ended}
use Rattle.feed_cell.specs.Parties.{TaskState, known_by_task}
use Rattle.feed_cell.specs.Seats.{CellSeat}
use Rattle.feed_cell.specs.TaskTurns.{IsFoundIn, MayEndIn, MayGoOn, StopsAs, has_cancel}
use Rattle.feed_cell.proofs.Tasks.TurnEnds.{turn_ended_by}
use Rattle.feed_cell.proofs.Tasks.TurnSignals.{few_seen, few_items, completed_by, errored_by}
use Rattle.feed_cell.proofs.cell.task.Task.turn.Goals as goal

pub returns-in-Again-clause-at_most : goal.returns-in-Again-clause-at_most
returns-in-Again-clause-at_most g c = few_items c.in-Again.ensures.runs.1.turned

pub returns-in-Again-clause-few : goal.returns-in-Again-clause-few
returns-in-Again-clause-few g c = few_seen c.in-Again.ensures.runs.1.turned

pub returns-in-Again-clause-again : goal.returns-in-Again-clause-again
returns-in-Again-clause-again g c = subst (λ (t : TaskState). MayGoOn t.knows (known_by_task c.run.new.party.seat.me.0) c.run.new.seen.signals) c.self.view_is c.in-Again.ensures.runs.2

pub returns-in-Again-clause-completed : goal.returns-in-Again-clause-completed
returns-in-Again-clause-completed g c = completed_by c.in-Again.ensures.runs.1.turned

pub returns-in-Again-clause-errored : goal.returns-in-Again-clause-errored
returns-in-Again-clause-errored g c = errored_by c.in-Again.ensures.runs.1.turned

pub returns-in-Resting-clause-at_most : goal.returns-in-Resting-clause-at_most
returns-in-Resting-clause-at_most g c = few_items c.in-Resting.ensures.runs.0.turned

pub returns-in-Resting-clause-few : goal.returns-in-Resting-clause-few
returns-in-Resting-clause-few g c = few_seen c.in-Resting.ensures.runs.0.turned

pub returns-in-Resting-clause-completed : goal.returns-in-Resting-clause-completed
returns-in-Resting-clause-completed g c = completed_by c.in-Resting.ensures.runs.0.turned

pub returns-in-Resting-clause-errored : goal.returns-in-Resting-clause-errored
returns-in-Resting-clause-errored g c = errored_by c.in-Resting.ensures.runs.0.turned

pub returns-in-Ended-clause-turned : goal.returns-in-Ended-clause-turned
returns-in-Ended-clause-turned g c =
    let ended = λ (t : TaskState) (after : CellSeat g.row.B.Denot). (after.table_id ≡ t.table) × (after.id ≡ t.seat) × StopsAs t.knows (known_by_task after.me.0) t.told c.run.new.seen.signals t.replied after.me.0.replied (Ended c.in-Ended.how) × MayEndIn t.knows.order c.in-Ended.how (length after.me.0.taken) after.me.0.runner
    × IsFoundIn t.knows.order after.me.0.replied c.in-Ended.how after.me.0.look after.me.0.runner in
    let end = c.in-Ended.ensures in
    subst (ended c.args.self) (sym c.into_seat-seat-in-Ended.ensures) (subst (λ (t : TaskState). ended t c.run.new.party.seat) c.self.view_is (end.seat.0, end.seat.1, end.runs.0, end.runs.1, end.runs.2))

pub returns-in-Ended-clause-at_most : goal.returns-in-Ended-clause-at_most
returns-in-Ended-clause-at_most g c = few_items c.in-Ended.ensures.runs.0.turned

pub returns-in-Ended-clause-few : goal.returns-in-Ended-clause-few
returns-in-Ended-clause-few g c = few_seen c.in-Ended.ensures.runs.0.turned

pub returns-in-Ended-clause-completed : goal.returns-in-Ended-clause-completed
returns-in-Ended-clause-completed g c = completed_by c.in-Ended.ensures.runs.0.turned

pub returns-in-Ended-clause-errored : goal.returns-in-Ended-clause-errored
returns-in-Ended-clause-errored g c = errored_by c.in-Ended.ensures.runs.0.turned

pub returns-in-Ended-clause-asked_for : goal.returns-in-Ended-clause-asked_for
returns-in-Ended-clause-asked_for g c =
    let asked = λ (after : CellSeat g.row.B.Denot). IsEndedBy (has_cancel after.me.0.look) (Some c.in-Ended.how) after.me.0.replied in
    let me = c.run.new.party.seat.me.0 in
    let runs = c.in-Ended.ensures.runs in
    subst asked (sym c.into_seat-seat-in-Ended.ensures) (turn_ended_by _ me.replied c.in-Ended.how me.look me.runner runs.0.turned.ends runs.2)
