use Rattle.async_pool.proofs.inbox.Inbox.new.Goals as goal

pub ruled-requires-clause-rule : goal.ruled-requires-clause-rule
ruled-requires-clause-rule g c = c.requires
