-- What it does after another peek it does after the first one, too.
use Rattle.std.proofs.Common.{subst}
use Rattle.feed_core.specs.Seen.{SeenState}
use Rattle.feed_cell.specs.TaskLooks.{Serves}
use Rattle.feed_cell.proofs.Tasks.Known.{known_kept}
use Rattle.feed_cell.proofs.Tasks.Passes.{may_look_again, serves_too}
use Rattle.feed_cell.proofs.cell.task.looks.serve_soon.Goals as goal

pub peek-word-requires-clause-can : goal.peek-word-requires-clause-can
peek-word-requires-clause-can g c = may_look_again g.B.Listener.told g.B.Listener.replied c.args.party.now.seat.me c.loop-pauses.party.seat.me c.loop-pauses.invariant.0

pub serve_once-requires-in-loop-pauses-clause-known : goal.serve_once-requires-in-loop-pauses-clause-known
serve_once-requires-in-loop-pauses-clause-known g c = known_kept c.loop-pauses.known c.loop-pauses.party.seat.me.0 c.peek-word.new.party.seat.me.0 c.peek-word.ensures.counts.3 c.peek-word.ensures.counts.4 c.loop-pauses.invariant.3

pub returns-clause-known : goal.returns-clause-known
returns-clause-known g c = c.loop-pauses.invariant.3

pub returns-in-Some-serve_once-clause-serves : goal.returns-in-Some-serve_once-clause-serves
returns-in-Some-serve_once-clause-serves g c =
    subst (λ (s : SeenState). Serves g.B.Listener.told g.B.Listener.replied c.in-Some-serve_once.served c.args.party.now.seat.me c.serve_once-in-loop-pauses.new.party.seat.me s c.serve_once-in-loop-pauses.new.seen) c.loop-pauses.invariant.1
    (serves_too g.B.Listener.told g.B.Listener.replied c.args.party.now.seat.me c.loop-pauses.party.seat.me c.peek-word.new.party.seat.me c.serve_once-in-loop-pauses.new.party.seat.me c.peek-word.result c.loop-pauses.invariant.0 c.peek-word.ensures.looked c.peek-word.ensures.counts c.peek-word.ensures.keeps
    c.in-Some-serve_once.served c.loop-pauses.seen c.serve_once-in-loop-pauses.new.seen c.in-Some-serve_once.ensures.serves)
