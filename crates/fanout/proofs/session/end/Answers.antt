use Rattle.fanout.proofs.Left.{tells_all}
use Rattle.fanout.proofs.session.end.Goals as goal

pub returns-in-Ok : goal.returns-in-Ok
returns-in-Ok g c = record {
  told = tells_all g.B.Listener.told g.B.Listener.replied c.args.handed_in.submitters.items
      c.args.handed_in.subscriptions.items c.in-Ok.outcome c.in-Ok.ensures.outcome c.in-Ok.ensures.ok;
}
