use Rattle.std.proofs.Common.{[], refl, arith}
use Rattle.async_pool.specs.Source.{WereDrained}
use Rattle.async_pool.proofs.Sources.{drained_all, drained_next, drains_none}
use Rattle.async_pool.proofs.source.drain_each.Goals as goal

pub loop-source-init : goal.loop-source-init
loop-source-init g c = drains_none (WereDrained g.T.Source.was_drained []) c.args.left.now refl

pub loop-source-preserved : goal.loop-source-preserved
loop-source-preserved g c = drained_next g.T.Source.was_drained c.args.sources.now c.loop-source.source-index c.source-item.result _ _ _ c.loop-source-test.true c.source-item.is c.loop-source.invariant c.drain_into.ensures

pub returns : goal.returns
returns g c = drained_all g.T.Source.was_drained c.args.sources.now c.loop-source.source-index _ _ (omega arith) c.loop-source.invariant
