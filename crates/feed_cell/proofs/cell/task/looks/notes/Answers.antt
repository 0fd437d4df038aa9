use Rattle.std.proofs.Common.{rules}
use Rattle.feed_cell.proofs.Tasks.Calls.{noted_out, top}
use Rattle.feed_cell.specs.declared.cell.Held.TheVariants as Held
use Rattle.feed_cell.proofs.cell.task.looks.notes.Goals as goal

pub slot_mut-requires : goal.slot_mut-requires
slot_mut-requires g c = (search rules, (Held.Guest c.requires.carries.guest, top g.B.Listener.told c.args.party.now.seat.me.1 _ c.args.party.now.capacity _ c.requires.carries.slot c.args.party.now.sized))

pub returns-clause-noted : goal.returns-clause-noted
returns-clause-noted g c = noted_out g.B.Listener.told g.B.Listener.replied c.args.party.now.seat.me c.args.party.now.capacity c.in-Guest.guest c.slot_mut.result.now c.requires.carries c.slot_mut.ensures.value c.in-Guest.is c.notes.ensures.noted
