use Rattle.std.proofs.Common.{rules, ap, ◌∙◌}
use Rattle.feed_cell.proofs.Tasks.Calls.{same_guest, top, finishes}
use Rattle.feed_cell.specs.declared.cell.Held.TheVariants as Held
use Rattle.feed_cell.specs.declared.cell.Lodger.{Lodger}
use Rattle.feed_cell.proofs.cell.task.looks.finish.Goals as goal

pub slot_mut-requires : goal.slot_mut-requires
slot_mut-requires g c = (search rules, (Held.Guest c.requires.carries.guest, top g.B.Listener.told c.args.party.now.seat.me.1 _ c.args.party.now.capacity _ c.requires.carries.slot c.args.party.now.sized))

pub end-requires-clause-ending : goal.end-requires-clause-ending
end-requires-clause-ending g c =
    let finished = finishes g.B.Listener.told g.B.Listener.replied c.args.party.now.seat.me c.args.party.now.capacity c.in-Guest.guest c.finish-how.new.self c.slot_mut.result.now c.args.seen.now c.finish-how.new.seen c.args.party.now.sized c.slot_mut.ensures.value c.in-Guest.is c.args.due c.finish-how.result c.requires.carries c.requires.due.0 c.requires.due.1 c.requires.due.2 c.finish-how.ensures.finishes c.finish-how.ensures.replies in
    (c.finish-how.result, finished.ending)

pub returns-clause-finishes : goal.returns-clause-finishes
returns-clause-finishes g c =
    let finished = finishes g.B.Listener.told g.B.Listener.replied c.args.party.now.seat.me c.args.party.now.capacity c.in-Guest.guest c.finish-how.new.self c.slot_mut.result.now c.args.seen.now c.finish-how.new.seen c.args.party.now.sized c.slot_mut.ensures.value c.in-Guest.is c.args.due c.finish-how.result c.requires.carries c.requires.due.0 c.requires.due.1 c.requires.due.2 c.finish-how.ensures.finishes c.finish-how.ensures.replies in
    (_, finished, c.end.ensures.ended.1)

pub finish-how-requires-clause-going : goal.finish-how-requires-clause-going
finish-how-requires-clause-going g c = ap (λ (l : Lodger g.row.B.Denot). l.how) (same_guest g.B.Listener.told c.args.party.now.seat.me.1 c.args.party.now.seat.me.0.capacity c.args.party.now.capacity c.requires.carries.guest c.in-Guest.guest c.slot_mut.result.now c.requires.carries.slot c.slot_mut.ensures.value c.in-Guest.is) ∙ c.requires.carries.how
