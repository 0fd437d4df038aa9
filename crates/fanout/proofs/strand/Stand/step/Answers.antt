use Rattle.fanout.proofs.Skips.{skips_unless}
use Rattle.fanout.proofs.strand.Stand.step.Goals as goal

pub returns-clause-skips : goal.returns-clause-skips
returns-clause-skips c = skips_unless c.takes.result _ _ c.deed-deed.ensures.skips c.takes.ensures
