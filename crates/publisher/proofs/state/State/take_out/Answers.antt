use Rattle.std.proofs.Common.{◌≡◌, ◌∙◌, length, is_some, true, None, sym, ap, subst, refl, arith}
use Rattle.std.specs.Prelude.{IsSome}
use Rattle.std.proofs.lemmas.List.{length-replicate, with_items_is}
use Rattle.publisher_hub.specs.Hub.{HubState, hub_of}
use Rattle.publisher.specs.Finding.{AreFoundIn, ArePlaced, ends_of}
use Rattle.publisher.specs.Finishing.{AreAudited, HasRoomFor}
use Rattle.publisher.specs.State.{PublisherState, producer_end}
use Rattle.publisher.specs.Tickets.{AreSpent}
use Rattle.publisher.specs.Together.{Audits}
use Rattle.publisher.proofs.BothEnds.Placing.{none_placed}
use Rattle.publisher.proofs.BothEnds.TakenOut.{all_spent, are_closed_with, are_of_log, are_taken_out, audited, closed_by, closed_if_drained, is_counted, is_there, state_found}
use Rattle.publisher.proofs.state.State.take_out.Goals as goal

pub place_all-all-requires-clause-empty : goal.place_all-all-requires-clause-empty
place_all-all-requires-clause-empty g c κs within =
    none_placed c.self.inside.entries c.deref_mut.result.now (c.deref_mut.ensures.value ∙ c.in-Ok.ensures.owners)

pub invariant_of-self : goal.invariant_of-self
invariant_of-self g c =
    let t = c.put_together-together.ensures in
    rw (t.same.0, t.same.1, t.log, t.made) c.self.invariant

pub invariant_of-self-2 : goal.invariant_of-self-2
invariant_of-self-2 g c =
    let t = c.put_together-together.ensures in
    rw (t.same.0, t.same.1, t.log, t.made, c.compare_tickets.ensures.last)
    (state_found c.compare_tickets.new.hub c.find_all-gone.new.hub c.self.inside.counted c.deref_mut-2.result.now
    c.find_all-gone.new.founds.items c.find_all-gone.result (hub_of producer_end c.self.inside.hub) _
    c.self.invariant c.compare_tickets.ensures.hub c.find_all-gone.ensures)

pub invariant_of-self-then-gone-all : goal.invariant_of-self-then-gone-all
invariant_of-self-then-gone-all g c =
    let t = c.put_together-together.ensures in
    rw (t.same.0, t.same.1, t.log, t.made, c.compare_tickets.ensures.last)
    (state_found c.compare_tickets.new.hub c.find_all-gone.new.hub c.self.inside.counted c.deref_mut-2.result.now
    c.find_all-gone.new.founds.items c.find_all-gone.result (hub_of producer_end c.self.inside.hub) _
    c.self.invariant c.compare_tickets.ensures.hub c.find_all-gone.ensures)

pub returns-clause-ok : goal.returns-clause-ok
returns-clause-ok g c =
    let is = c.self.invariant in
    let finds = c.find_all-gone.ensures in
    let hub : HubState = hub_of producer_end c.self.inside.hub in
    let same : hub_of producer_end c.compare_tickets.new.hub ≡ hub = c.compare_tickets.ensures.hub in
    let there = is_there c.find_all-gone.result c.place_all-all.result _ c.if-gone-all.false in
    let founds = c.find_all-gone.new.founds.items in
    let found : AreFoundIn hub c.self.inside.counted founds = subst (λ h. AreFoundIn h c.self.inside.counted founds) same finds.found in
    let owners : c.deref_mut-2.result.now ≡ c.place_all-all.new.owners =
    c.deref_mut-2.ensures.value ∙ with_items_is c.in-Ok.field-0.owners c.place_all-all.new.owners
    (c.place_all-all.ensures.length ∙ c.deref_mut.ensures.len) in
    let placed : ArePlaced c.args.subscriptions.items c.deref_mut-2.result.now true =
    subst (λ all. ArePlaced c.args.subscriptions.items c.deref_mut-2.result.now all) there.1.0
    (subst (λ hs. ArePlaced c.args.subscriptions.items hs c.place_all-all.result) (sym owners) c.place_all-all.ensures.placed) in
    let long : length c.deref_mut-2.result.now ≡ length founds =
    ap length owners ∙ c.place_all-all.ensures.length
    ∙ ap length (c.deref_mut.ensures.value ∙ c.in-Ok.ensures.owners)
    ∙ length-replicate c.self.inside.entries None ∙ is.entries_are ∙ sym found.as_many in
    let t = c.put_together-together.result in
    let next : c.find_all-gone.new.hub.next ≡ hub.progress.next = ap (λ (h : HubState). h.progress.next) finds.rest
    ∙ ap (λ (h : HubState). h.progress.next) same in
    let dropping : c.find_all-gone.new.hub.dropping ≡ hub.progress.dropping =
    ap (λ (h : HubState). h.progress.dropping) finds.rest ∙ ap (λ (h : HubState). h.progress.dropping) same in
    let serial : c.next_serial.result ≡ c.find_all-gone.new.hub.next = c.next_serial.ensures.value
    ∙ ap (λ (s : PublisherState). s.hub.next) (c.self-2.view_is ∙ c.audit-missing.ensures.same) in
    let drained : c.is_some-2.result ≡ is_some c.self.inside.last =
    c.is_some-2.ensures ∙ ap (λ (s : PublisherState). is_some s.last)
    (c.self-2.view_is ∙ c.audit-missing.ensures.same) ∙ ap is_some c.compare_tickets.ensures.last in
    let closed : c.is_some.result ≡ is_some hub.progress.ending =
    c.is_some.ensures ∙ ap is_some (c.ending.ensures
    ∙ ap (λ (h : HubState). h.progress.ending) finds.rest ∙ ap (λ (h : HubState). h.progress.ending) same) in
    let none : IsSome c.self.inside.last → AreSpent c.self.inside.entries hub =
    λ some. subst (λ h. AreSpent c.self.inside.entries h) same (c.compare_tickets.ensures.none some) in
    let audits : Audits t.sources t.publications.amount t.drops.amount c.find_all-gone.new.hub.next
    c.find_all-gone.new.hub.dropping c.audit-missing.result =
    c.audit-missing.ensures.audits in
    let made = c.made.ensures ∙ ap (λ (s : PublisherState). s.census.made) (c.self-2.view_is ∙ c.audit-missing.ensures.same) in
    let reclaimed = c.reclaimed.ensures.value
    ∙ ap (λ (s : PublisherState). s.census.reclaimed) (c.self-2.view_is ∙ c.audit-missing.ensures.same) in
    let ends : c.count_ends.result ≡ ends_of founds = c.count_ends.ensures ∙ ap ends_of c.deref.ensures.value in
    let sum = is_counted c.count_ends.result c.unreclaimed.result c.self.inside.census.reclaimed c.self.inside.census.made
    there.1.1 c.unreclaimed.ensures in
    rw (← c.self.view_is) (record {
      found = found;
      ends = are_taken_out hub c.self.inside.counted _ founds is refl found c.args.subscriptions.items
          c.deref_mut-2.result.now c.next_serial.result c.self.inside.hub.dropping c.is_some-2.result (serial ∙ next)
          refl long placed finds.here finds.missing (finds.reclaimed there.0)
          (λ last k entry at. all_spent hub c.self.inside.entries c.self.inside.counted c.self.inside.last
          c.is_some-2.result is.tickets is.entries_are none drained last k entry at);
      published = serial ∙ next;
      made = made;
      reclaimed = reclaimed;
      counted = omega (arith, ends, sum, made, reclaimed);
      audited = subst (λ d. AreAudited c.args.submitters.items c.next_serial.result d c.audit-missing.result) dropping
          (audited c.args.submitters.items t.publications.amount t.drops.amount t.publications.parts t.drops.parts
          c.find_all-gone.new.hub.next c.find_all-gone.new.hub.dropping c.next_serial.result t.sources t.knows
          c.audit-missing.result c.put_together-together.ensures.together audits serial);
      known = closed_by c.args.submitters.items t.publications.amount t.drops.amount t.publications.parts
          t.drops.parts t.sources t.knows c.is_some.result c.put_together-together.ensures.together;
      closed = closed_if_drained hub c.self.inside.counted c.self.inside.last t.knows c.is_some.result
          c.is_some-2.result is.tickets drained closed;
      room = subst (λ n. HasRoomFor n c.in-Ok.field-0.room) (is.entries_are ∙ sym found.as_many) c.in-Ok.ensures.room;
      few = let few = is.sound.few_entries in let many = found.as_many in omega arith;
      log = c.self.inside.history.log;
      long = is.logged.long ∙ sym (serial ∙ next);
      sent = c.put_together-together.ensures.sent;
      content = are_of_log hub c.self.inside.counted _ founds is refl found;
      closed_with = are_closed_with hub c.self.inside.counted _ founds is refl found;
    })
