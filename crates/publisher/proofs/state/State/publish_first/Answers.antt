use Rattle.std.proofs.Common.{◌++◌, ◌∙◌, take, ap}
use Rattle.history.specs.History.{Kept}
use Rattle.publisher_hub.specs.Hub.{hub_of}
use Rattle.publisher.specs.Content.{pages_of}
use Rattle.publisher.specs.State.{producer_end}
use Rattle.publisher.proofs.SoundStates.KeptStates.{state_stays, stays_looked}
use Rattle.publisher.proofs.SoundStates.BatchStates.{state_published}
use Rattle.publisher.proofs.state.State.publish_first.Goals as goal

pub invariant_of-self : goal.invariant_of-self
invariant_of-self g c =
    let old = hub_of producer_end c.self.inside.hub in
    let new = hub_of producer_end c.publish.new.self in
    state_stays old new _ c.self.invariant c.publish.ensures.sound (stays_looked old new c.in-Err.ensures.refusals.unchanged)

pub invariant_of-self-2 : goal.invariant_of-self-2
invariant_of-self-2 g c =
    let wrote = c.write_all.ensures.history in
    state_published c.self.inside.hub c.publish.new.self c.args.need c.args.own.now.source c.args.texts.now _ _ c.in-Ok.first _
    c.add.new.self.total c.add-2.new.self.total c.write_all.new.history c.self.invariant c.publish.ensures.sound c.in-Ok.ensures.ok
    c.in-Ok.ensures.counted c.add.ensures.total c.add-2.ensures.total
    (ap (λ (h : Kept). h.log) wrote ∙ (λ k. c.self.inside.history.log ++ pages_of (c.args.own.now.numbered k) (take c.in-Ok.first.many c.args.texts.now)))
    (ap (λ (h : Kept). h.made) wrote)
