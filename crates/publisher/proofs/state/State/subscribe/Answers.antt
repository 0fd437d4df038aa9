use Rattle.std.proofs.Common.{◌∙◌, ap, subst}
use Rattle.feed_cell.specs.Parties.{IsNewTaskIn, new_handle_in}
use Rattle.publisher_hub.specs.Hub.{hub_of}
use Rattle.publisher.specs.Census.{CensusState}
use Rattle.publisher.specs.State.{PublisherState, producer_end}
use Rattle.publisher.specs.Subscribing.{AddsNone, AdmitsOpen}
use Rattle.publisher.proofs.Subscribing.Subscribed.{subscribed_is}
use Rattle.publisher.proofs.state.State.subscribe.Goals as goal

pub admit-entry-requires-clause-ticket : goal.admit-entry-requires-clause-ticket
admit-entry-requires-clause-ticket g c = c.in-Ok.ensures.ticket

pub returns-in-Ok-new_with-clause-ok : goal.returns-in-Ok-new_with-clause-ok
returns-in-Ok-new_with-clause-ok g c =
    let table = c.in-Ok-new_with.producer.table in
    subscribed_is c.args.name c.args.on_full c.args.order _ _ _ _ _ c.reserve.new.self c.admit-entry.new.self _
    c.admit-entry.ensures.admits (c.in-Ok-new_with.ensures.handle
    ∙ ap (λ n. new_handle_in c.args.order n table) c.capacity.ensures
    ∙ ap (λ (s : PublisherState). new_handle_in c.args.order s.hub.capacity table) c.self-2.view_is)
    (subst (λ (s : PublisherState). IsNewTaskIn c.args.order table s.hub.capacity c.in-Ok-new_with.task)
    c.self-2.view_is (subst (λ n. IsNewTaskIn c.args.order table n c.in-Ok-new_with.task) c.capacity.ensures
    c.in-Ok-new_with.ensures.task))

pub returns-in-Ok-new_with-clause-admits : goal.returns-in-Ok-new_with-clause-admits
returns-in-Ok-new_with-clause-admits g c = (
  c.reserve.new.self.hub,
  (
    subst (λ (s : PublisherState). AddsNone (hub_of producer_end s.hub) (hub_of producer_end c.reserve.new.self.hub))
        c.self.view_is c.reserve.ensures.adds_none,
    (
      c.in-Ok-new_with.producer,
      (
        c.in-Ok.ticket,
        subst (λ (census : CensusState). AdmitsOpen c.args.name c.args.on_full c.in-Ok-new_with.producer c.in-Ok.ticket
            census.most c.admit-entry.result c.args.due.now.items c.admit-entry.new.due.items c.reserve.new.self.hub c.admit-entry.new.self.hub)
            (c.reserve.ensures.census ∙ c.make_room.ensures.same ∙ ap (λ (s : PublisherState). s.census) c.self.view_is)
            (subst (λ due. AdmitsOpen c.args.name c.args.on_full c.in-Ok-new_with.producer c.in-Ok.ticket
            c.reserve.new.self.census.most c.admit-entry.result due c.admit-entry.new.due.items c.reserve.new.self.hub c.admit-entry.new.self.hub)
            c.in-Ok.ensures.nothing_due c.admit-entry.ensures.admits),
      ),
    ),
  ),
)
