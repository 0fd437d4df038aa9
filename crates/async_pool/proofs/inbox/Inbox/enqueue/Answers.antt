use Rattle.async_pool.proofs.Steps.{inbox_puts, inbox_learns}
use Rattle.async_pool.proofs.inbox.Inbox.enqueue.Goals as goal

pub push_as-requires-clause-rule : goal.push_as-requires-clause-rule
push_as-requires-clause-rule g c = (inbox_puts _ _ g.P.Rule.kept _ _ _ _, inbox_learns _ _ g.P.Rule.kept _ _)
