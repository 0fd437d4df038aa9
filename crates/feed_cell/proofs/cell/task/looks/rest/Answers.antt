use Rattle.feed_cell.proofs.Tasks.Looks.{misses_rest, rests_now}
use Rattle.feed_cell.proofs.cell.task.looks.rest.Goals as goal

pub returns-else-try_rest-clause-rests : goal.returns-else-try_rest-clause-rests
returns-else-try_rest-clause-rests g c = misses_rest g.B.Listener.told g.B.Listener.replied c.args.party.now.seat.me c.try_rest.new.party.seat.me c.requires.carries (c.try_rest.ensures.missed c.if-try_rest.false)

pub returns-then-try_rest-clause-rests : goal.returns-then-try_rest-clause-rests
returns-then-try_rest-clause-rests g c = rests_now g.B.Listener.told g.B.Listener.replied c.args.party.now.seat.me c.try_rest.new.party.seat.me c.requires.carries (c.try_rest.ensures.rests c.if-try_rest.true)
