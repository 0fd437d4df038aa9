-- The events so far lead to the world.
use Rattle.std.proofs.Common.{take}
use Rattle.feed_core.specs.World.Runs.{nothing, Leads}
use Rattle.feed_core.proofs.world.runs.all_runs.Given as goal

abbrev pub invariant-loop-event : goal.invariant-loop-event
invariant-loop-event l = Leads nothing (take l.event-index l.events) l.world
