use Rattle.std.proofs.Common.{take}
use Rattle.async_pool.specs.Source.{Drains, WereDrained}
use Rattle.async_pool.proofs.source.drain_each.Given as goal

abbrev pub invariant-loop-source : goal.invariant-loop-source
invariant-loop-source g l = Drains (WereDrained g.T.Source.was_drained (take l.source-index l.sources)) l.initial.left l.left
