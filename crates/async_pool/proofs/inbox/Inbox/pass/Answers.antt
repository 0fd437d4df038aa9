use Rattle.async_pool.proofs.inbox.Inbox.pass.Goals as goal

pub pass-requires : goal.pass-requires
pass-requires g c = g.P.Rule.kept.admits
