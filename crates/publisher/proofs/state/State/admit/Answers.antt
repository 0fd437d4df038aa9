use Rattle.std.proofs.Common.{ap, subst, sym, ◌∙◌}
use Rattle.publisher.specs.State.{PublisherState}
use Rattle.publisher.specs.Tickets.{IsTicketFor}
use Rattle.publisher.proofs.SoundStates.AdmittedStates.{admits_open, state_opened}
use Rattle.publisher.proofs.state.State.admit.Goals as goal

pub invariant_of-self : goal.invariant_of-self
invariant_of-self g c =
    let same = c.self-2.view_is ∙ c.take_vacant-place.ensures.same in
    let admits = admits_open c.args.name c.args.on_full c.args.producer c.args.ticket c.most_live-most.result c.put-entry.result
    c.args.due.now.items c.put-entry.new.due.items c.self-2.inside.hub c.put-entry.new.hub c.take_vacant-place.result
    (λ some. ap (λ (s : PublisherState). s.hub.ending) c.self-2.view_is ∙ c.take_vacant-place.ensures.unclosed some)
    c.put-entry.ensures.admits in
    state_opened c.args.name c.args.on_full c.args.producer c.args.ticket c.most_live-most.result c.put-entry.result
    c.args.due.now.items c.put-entry.new.due.items c.self-2.inside.hub c.put-entry.new.hub _
    c.places_with-self-inside.result c.self-2.invariant c.put-entry.ensures.sound
    (subst (λ (s : PublisherState). IsTicketFor s.hub c.args.ticket) (sym same) c.requires.ticket)
    c.requires.fresh.empty admits c.places_with-self-inside.ensures.within c.places_with-self-inside.ensures.last
