use Rattle.std.proofs.Common.{sym, subst, arith, refl}
use Rattle.publisher_hub.specs.Sound.{IsSound}
use Rattle.publisher.proofs.Tickets.Compared.{is_beside, one_compared}
use Rattle.publisher.proofs.state.close.compare_tickets.Goals as goal

pub compare_ticket-requires-clause-sound : goal.compare_ticket-requires-clause-sound
compare_ticket-requires-clause-sound g c = subst IsSound (sym c.loop-entry.invariant.0.hub) c.requires.sound

pub compare_ticket-requires-clause-one_count : goal.compare_ticket-requires-clause-one_count
compare_ticket-requires-clause-one_count g c =
    is_beside c.args.hub.now c.loop-entry.hub c.args.last.now c.loop-entry.last c.loop-entry.entry
    c.loop-entry.invariant.0.hub c.loop-entry.invariant.0.last_is c.requires.one_count

pub loop-entry-preserved : goal.loop-entry-preserved
loop-entry-preserved g c =
    let e = c.compare_ticket.ensures in (
      one_compared c.args.hub.now c.loop-entry.hub c.compare_ticket.new.hub c.args.last.now c.loop-entry.last
          c.compare_ticket.new.last c.loop-entry.entry c.loop-entry.invariant.0 e.hub e.last e.none,
      omega arith,
    )

pub loop-entry-init : goal.loop-entry-init
loop-entry-init g c = (record { hub = refl; last_is = refl; none = λ some k entry less at. absurd (omega arith) }, omega arith)
