use Rattle.crossbeam_queue.specs.Passes.{view}
use Rattle.async_pool.proofs.Steps.{inbox_takes, inbox_learns, none_held}
use Rattle.async_pool.proofs.inbox.Inbox.take.Goals as goal

pub pop_as-requires-clause-rule : goal.pop_as-requires-clause-rule
pop_as-requires-clause-rule g c = (inbox_takes _ _ g.P.Rule.kept _ _, inbox_learns _ _ g.P.Rule.kept _ _)

pub returns-clause-empty : goal.returns-clause-empty
returns-clause-empty g c = none_held (g.P.Rule.fact (view c.args.pass.now)) _ _ c.pop_as.result c.pop_as.ensures.rule
