-- After peeks that found nothing to do it looks, and what it does after that look it does after the first peek, too.
use Rattle.std.proofs.Common.{subst}
use Rattle.feed_core.specs.Seen.{SeenState}
use Rattle.feed_cell.specs.TaskLooks.{Serves}
use Rattle.feed_cell.proofs.Tasks.Passes.{may_look_again, serves_too}
use Rattle.feed_cell.proofs.cell.task.looks.serve.Goals as goal

pub look-word-requires-clause-can : goal.look-word-requires-clause-can
look-word-requires-clause-can g c = may_look_again g.B.Listener.told g.B.Listener.replied c.args.party.now.seat.me c.serve_soon.new.party.seat.me c.in_default.ensures.serves.0

pub returns-clause-serves : goal.returns-clause-serves
returns-clause-serves g c =
    let passed = c.in_default.ensures.serves in
    subst (λ (s : SeenState). Serves g.B.Listener.told g.B.Listener.replied c.in-Some-serve_once.served c.args.party.now.seat.me c.serve_once.new.party.seat.me s c.serve_once.new.seen) passed.1
    (serves_too g.B.Listener.told g.B.Listener.replied c.args.party.now.seat.me c.serve_soon.new.party.seat.me c.look-word.new.party.seat.me c.serve_once.new.party.seat.me c.look-word.result passed.0 c.look-word.ensures.looked c.look-word.ensures.counts c.look-word.ensures.keeps
    c.in-Some-serve_once.served c.serve_soon.new.seen c.serve_once.new.seen c.in-Some-serve_once.ensures.serves)
