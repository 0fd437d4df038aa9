-- What the seat and the measure say of the numbers that the code compares.
use Rattle.std.proofs.Common.{sym, ◌∙◌, arith, rules, inl}
use Rattle.feed_cell.proofs.Tasks.Item.{may_take, measured_is, takes_next, finds_none, finds_no_demand}
use Rattle.feed_cell.proofs.cell.task.known.find_item.Goals as goal

pub take-requires-clause-may : goal.take-requires-clause-may
take-requires-clause-may g c =
    let m = c.measure-asked.ensures.measures.1 in
    let asked = measured_is c.see-tail.new.party.seat.me c.measure-asked.new.party.seat.me c.measure-asked.result m in
    inl (may_take c.args.party.now.seat.me c.see-tail.new.party.seat.me c.measure-asked.new.party.seat.me c.see-tail.result c.measure-asked.result c.requires.stage
    (omega (arith, c.see-tail.ensures.sees.1.put, c.requires.counted, c.if-tail-given.false)) c.see-tail.ensures.sees.1 m
    (omega (arith, asked, c.requires.counted, c.requires.own, c.min.ensures, c.saturating_add.ensures, c.if-min-given.false)))

pub take-requires-clause-counted : goal.take-requires-clause-counted
take-requires-clause-counted g c =
    let least = c.min.ensures in
    let below = c.if-min-given.false in
    (search rules, omega arith)

pub returns-clause-some : goal.returns-clause-some
returns-clause-some g c =
    let m = c.measure-asked.ensures.measures.1 in
    let asked = measured_is c.see-tail.new.party.seat.me c.measure-asked.new.party.seat.me c.measure-asked.result m in
    takes_next c.args.party.now.seat.me c.see-tail.new.party.seat.me c.measure-asked.new.party.seat.me c.take.new.party.seat.me c.take.result c.see-tail.result c.measure-asked.result c.requires.stage
    (omega (arith, c.see-tail.ensures.sees.1.put, c.requires.counted, c.if-tail-given.false)) (omega arith) c.see-tail.ensures.sees.1 m
    (omega (arith, asked, c.requires.counted, c.requires.own, c.min.ensures, c.saturating_add.ensures, c.if-min-given.false)) c.take.ensures.taken.1

pub returns-then-tail-given-clause-none : goal.returns-then-tail-given-clause-none
returns-then-tail-given-clause-none g c = finds_none c.args.party.now.seat.me c.see-tail.new.party.seat.me c.measure_none.new.party.seat.me c.see-tail.result c.measure_none.ensures.measures.1.0 c.requires.stage c.requires.carries.none_out
    (c.if-tail-given.true ∙ sym c.requires.counted) c.see-tail.ensures.sees.1 c.measure_none.ensures.measures.1.1

pub returns-then-min-given-clause-none : goal.returns-then-min-given-clause-none
returns-then-min-given-clause-none g c =
    let m = c.measure-asked.ensures.measures.1 in
    let asked = measured_is c.see-tail.new.party.seat.me c.measure-asked.new.party.seat.me c.measure-asked.result m in
    finds_no_demand c.args.party.now.seat.me c.see-tail.new.party.seat.me c.measure-asked.new.party.seat.me c.see-tail.result c.measure-asked.result c.requires.stage
    (omega (arith, c.see-tail.ensures.sees.1.put, c.requires.counted, c.if-tail-given.false)) c.see-tail.ensures.sees.1 m
    (omega (arith, asked, c.requires.counted, c.requires.own, c.min.ensures, c.saturating_add.ensures, c.if-min-given.true))
