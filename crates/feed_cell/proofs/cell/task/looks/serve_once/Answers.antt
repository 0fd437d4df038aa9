use Rattle.std.proofs.Common.{sym, ap, subst, ◌∙◌}
use Rattle.feed_core.specs.Answered.{causes_by}
use Rattle.feed_core.specs.Cause.{IsNoFailure}
use Rattle.feed_core.proofs.Turns.Failed.{stops_without_failure}
use Rattle.feed_cell.proofs.Signals.HandOver.{some_of, none_of}
use Rattle.feed_cell.proofs.Tasks.Looks.{look_shows, serves_finish, serves_give, serves_none, has_taken, carries_on}
use Rattle.feed_cell.specs.Seats.{SeatOf}
use Rattle.feed_cell.specs.TaskAnswers.{AreShownAt}
use Rattle.feed_cell.specs.TaskPauses.{replied_out}
use Rattle.feed_cell.specs.TaskSteps.{Carries, IsInOrder, TakesNext}
use Rattle.feed_cell.specs.TaskLooks.{IsNotedOut, Serves, ServesOnce}
use Rattle.feed_cell.proofs.cell.task.looks.serve_once.Goals as goal

pub returns-in-Some-clause-serves : goal.returns-in-Some-clause-serves
returns-in-Some-clause-serves g c = serves_finish g.B.Listener.told g.B.Listener.replied c.in-Some.due c.finish.result c.args.party.now.seat.me c.notes-given.new.party.seat.me c.finish.new.party.seat.me c.args.seen.now c.finish.new.seen
    (ap (λ (m : SeatOf g.row.B.Denot). m.1) c.notes-given.ensures.same) (ap (λ (m : SeatOf g.row.B.Denot). m.0.taken) c.notes-given.ensures.same) (ap (λ (m : SeatOf g.row.B.Denot). m.0.misses) c.notes-given.ensures.same) (ap (λ (m : SeatOf g.row.B.Denot). m.0.grants) c.notes-given.ensures.same) (ap (λ (m : SeatOf g.row.B.Denot). m.0.order) c.notes-given.ensures.same, λ stood. subst (λ (m : SeatOf g.row.B.Denot). IsInOrder c.args.party.now.seat.me.0.order m.0.runner) (sym c.notes-given.ensures.same) stood)
    (subst (λ (m : SeatOf g.row.B.Denot). AreShownAt m.0.look (causes_by c.args.party.now.seat.me.0.order (replied_out g.B.Listener.replied c.args.party.now.seat.me.1)) m.0.runner) (sym c.notes-given.ensures.same) (look_shows g.B.Listener.told g.B.Listener.replied c.args.word c.args.party.now.seat.me c.requires.looked c.notes-given.ensures.noted))
    (subst IsNoFailure (sym c.stops.ensures ∙ c.in-Some.is) (stops_without_failure c.causes_in-causes.result)) c.finish.ensures.finishes

pub give-requires-clause-taken : goal.give-requires-clause-taken
give-requires-clause-taken g c = has_taken g.B.Listener.told g.B.Listener.replied c.in-Some-next.item c.notes-given.new.party.seat.me c.next_item-tail.new.party.seat.me
    (subst (λ (m : SeatOf g.row.B.Denot). Carries g.B.Listener.told m) (sym c.notes-given.ensures.same) c.requires.looked.carries) (some_of (λ item. TakesNext item c.notes-given.new.party.seat.me c.next_item-tail.new.party.seat.me) c.next_item-tail.result.1 c.in-Some-next.item c.in-Some-next.is c.next_item-tail.ensures.some)

pub close_or_rest-requires-clause-carries : goal.close_or_rest-requires-clause-carries
close_or_rest-requires-clause-carries g c = carries_on g.B.Listener.told g.B.Listener.replied c.next_item-tail.result.0 c.notes-given.new.party.seat.me c.next_item-tail.new.party.seat.me
    (subst (λ (m : SeatOf g.row.B.Denot). Carries g.B.Listener.told m) (sym c.notes-given.ensures.same) c.requires.looked.carries) (none_of c.next_item-tail.result.1 c.in-None.is c.next_item-tail.ensures.none)

pub returns-in-Some-next-clause-serves : goal.returns-in-Some-next-clause-serves
returns-in-Some-next-clause-serves g c = subst (λ (m : SeatOf g.row.B.Denot). Serves g.B.Listener.told g.B.Listener.replied c.give.result m c.give.new.party.seat.me c.args.seen.now c.give.new.seen) c.notes-given.ensures.same
    (serves_give g.B.Listener.told g.B.Listener.replied c.in-Some-next.item c.give.result c.notes-given.new.party.seat.me c.next_item-tail.new.party.seat.me c.give.new.party.seat.me c.args.seen.now c.give.new.seen
    (subst (λ (m : SeatOf g.row.B.Denot). Carries g.B.Listener.told m) (sym c.notes-given.ensures.same) c.requires.looked.carries) (subst (IsNotedOut g.B.Listener.replied) (sym c.notes-given.ensures.same) c.notes-given.ensures.noted) (some_of (λ item. TakesNext item c.notes-given.new.party.seat.me c.next_item-tail.new.party.seat.me) c.next_item-tail.result.1 c.in-Some-next.item c.in-Some-next.is c.next_item-tail.ensures.some) c.give.ensures.gives)

pub returns-in-None-clause-serves : goal.returns-in-None-clause-serves
returns-in-None-clause-serves g c =
    let carries : Carries g.B.Listener.told c.notes-given.new.party.seat.me = subst (λ (m : SeatOf g.row.B.Denot). Carries g.B.Listener.told m) (sym c.notes-given.ensures.same) c.requires.looked.carries in
    let found = none_of c.next_item-tail.result.1 c.in-None.is c.next_item-tail.ensures.none in
    subst (λ (m : SeatOf g.row.B.Denot). ServesOnce g.B.Listener.told g.B.Listener.replied c.args.word c.close_or_rest.result m c.close_or_rest.new.party.seat.me c.args.seen.now c.close_or_rest.new.seen) c.notes-given.ensures.same
    (serves_none g.B.Listener.told g.B.Listener.replied c.next_item-tail.result.0 c.args.word c.close_or_rest.result c.notes-given.new.party.seat.me c.next_item-tail.new.party.seat.me c.close_or_rest.new.party.seat.me c.args.seen.now c.close_or_rest.new.seen
    (carries_on g.B.Listener.told g.B.Listener.replied c.next_item-tail.result.0 c.notes-given.new.party.seat.me c.next_item-tail.new.party.seat.me carries found)
    (subst (IsNotedOut g.B.Listener.replied) (sym c.notes-given.ensures.same) c.notes-given.ensures.noted)
    (subst (λ (m : SeatOf g.row.B.Denot). AreShownAt m.0.look (causes_by m.0.order (replied_out g.B.Listener.replied m.1)) m.0.runner) (sym c.notes-given.ensures.same) (look_shows g.B.Listener.told g.B.Listener.replied c.args.word c.args.party.now.seat.me c.requires.looked c.notes-given.ensures.noted))
    found c.close_or_rest.ensures.concludes)
