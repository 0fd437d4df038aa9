use Rattle.std.proofs.Common.{rules, ap, ◌∙◌}
use Rattle.feed_cell.proofs.Tasks.Calls.{same_guest, top, gives_on, gives_end}
use Rattle.feed_cell.specs.declared.cell.Held.TheVariants as Held
use Rattle.feed_cell.specs.declared.cell.Lodger.{Lodger}
use Rattle.feed_cell.proofs.cell.task.looks.give.Goals as goal

pub slot_mut-requires : goal.slot_mut-requires
slot_mut-requires g c = (search rules, (Held.Guest c.requires.taken.guest, top g.B.Listener.told c.args.party.now.seat.me.1 _ c.args.party.now.capacity _ c.requires.taken.slot c.args.party.now.sized))

pub end-requires-clause-ending : goal.end-requires-clause-ending
end-requires-clause-ending g c =
    let ends = gives_end g.B.Listener.told g.B.Listener.replied c.args.party.now.seat.me c.args.party.now.capacity c.in-Guest.guest c.give.new.self c.slot_mut.result.now c.args.seen.now c.give.new.seen c.args.party.now.sized c.slot_mut.ensures.value c.in-Guest.is c.args.item c.in-Some.how c.requires.taken c.in-Some.ensures.ends c.in-Some.ensures.replies in
    (c.in-Some.how, ends.ending)

pub returns-in-None-clause-gives : goal.returns-in-None-clause-gives
returns-in-None-clause-gives g c = gives_on g.B.Listener.told g.B.Listener.replied c.args.party.now.seat.me c.args.party.now.capacity c.in-Guest.guest c.give.new.self c.slot_mut.result.now c.args.seen.now c.give.new.seen c.args.party.now.sized c.slot_mut.ensures.value c.in-Guest.is c.args.item c.requires.taken c.in-None.ensures.goes c.in-None.ensures.replies

pub returns-in-Some-clause-gives : goal.returns-in-Some-clause-gives
returns-in-Some-clause-gives g c =
    let ends = gives_end g.B.Listener.told g.B.Listener.replied c.args.party.now.seat.me c.args.party.now.capacity c.in-Guest.guest c.give.new.self c.slot_mut.result.now c.args.seen.now c.give.new.seen c.args.party.now.sized c.slot_mut.ensures.value c.in-Guest.is c.args.item c.in-Some.how c.requires.taken c.in-Some.ensures.ends c.in-Some.ensures.replies in
    (_, ends, c.end.ensures.ended.1)

pub give-requires-clause-going : goal.give-requires-clause-going
give-requires-clause-going g c = ap (λ (l : Lodger g.row.B.Denot). l.how) (same_guest g.B.Listener.told c.args.party.now.seat.me.1 c.args.party.now.seat.me.0.capacity c.args.party.now.capacity c.requires.taken.guest c.in-Guest.guest c.slot_mut.result.now c.requires.taken.slot c.slot_mut.ensures.value c.in-Guest.is) ∙ c.requires.taken.how
