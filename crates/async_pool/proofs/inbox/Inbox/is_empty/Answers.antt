use Rattle.crossbeam_queue.specs.Passes.{view}
use Rattle.async_pool.proofs.Steps.{held_none, inbox_learns}
use Rattle.async_pool.proofs.inbox.Inbox.is_empty.Goals as goal

pub returns-clause-empty : goal.returns-clause-empty
returns-clause-empty g c is = held_none (g.P.Rule.fact (view c.args.pass.now)) (c.is_empty_as.ensures.rule is)

pub is_empty_as-requires-clause-rule : goal.is_empty_as-requires-clause-rule
is_empty_as-requires-clause-rule g c = inbox_learns _ _ g.P.Rule.kept _ _
