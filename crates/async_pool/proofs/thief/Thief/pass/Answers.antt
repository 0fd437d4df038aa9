use Rattle.async_pool.proofs.thief.Thief.pass.Goals as goal

pub pass-requires : goal.pass-requires
pass-requires g c = g.Q.Rule.kept.admits
