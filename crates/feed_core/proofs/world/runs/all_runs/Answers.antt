-- Each event is one more of the list.
use Rattle.std.proofs.Common.{take, get_or, sym, refl, subst}
use Rattle.std.proofs.lemmas.List.{take_more}
use Rattle.feed_core.specs.Prelude.{Overtake}
use Rattle.feed_core.specs.World.Types.{Make}
use Rattle.feed_core.specs.World.Runs.{nothing, Leads}
use Rattle.feed_core.proofs.Interleavings.Lawfulness.{lawful_in}
use Rattle.feed_core.proofs.Interleavings.Reaching.{applied, leads_kept, leads_more}
use Rattle.feed_core.proofs.world.runs.all_runs.Goals as goal

pub loop-event-preserved : goal.loop-event-preserved
loop-event-preserved c =
    let events = c.args.events.now in let i = c.loop-event.event-index in
    let one = applied (get_or events i (Make 0 Overtake)) c.loop-event.world c.apply.new.self c.apply.result c.apply.ensures.possible c.apply.ensures.done c.apply.ensures.unchanged in
    subst (λ some. Leads nothing some c.apply.new.self) (sym (take_more events i (Make 0 Overtake) c.loop-event-test.true))
    (leads_more nothing (take i events) (get_or events i (Make 0 Overtake)) c.loop-event.world c.apply.new.self c.loop-event.invariant one)

pub returns-clause-kept : goal.returns-clause-kept
returns-clause-kept c = leads_kept nothing (take c.loop-event.event-index c.args.events.now) c.loop-event.world refl c.loop-event.invariant

pub returns-clause-lawful : goal.returns-clause-lawful
returns-clause-lawful c = lawful_in c.loop-event.world.parts c.loop-event.world.cut
    (leads_kept nothing (take c.loop-event.event-index c.args.events.now) c.loop-event.world refl c.loop-event.invariant)
