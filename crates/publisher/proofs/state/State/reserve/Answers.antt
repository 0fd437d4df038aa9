use Rattle.std.proofs.Common.{ap, subst, ◌∙◌}
use Rattle.std.proofs.lemmas.Result.{err_from_is_err_and}
use Rattle.publisher_hub.specs.Hub.{hub_of}
use Rattle.publisher_hub.specs.Subscribing.{CanAdmit}
use Rattle.publisher.proofs.Tickets.Admitted.{same_count, ticket_for_one}
use Rattle.publisher.proofs.Subscribing.FreeNames.{refused_adds_none, seen_adds_none, ticket_adds_none}
use Rattle.publisher.proofs.SoundStates.GrownStates.{on_ok_all, opened_after, state_ticketed}
use Rattle.publisher.proofs.SoundStates.KeptStates.{state_stays, stays_refused, stays_seen}
use Rattle.publisher.proofs.Subscribing.Refused.{due_refused, due_unticketed, ticket_refused}
use Rattle.publisher.proofs.state.State.reserve.Goals as goal
use Rattle.publisher.specs.State.{PublisherState, producer_end}
use Rattle.publisher.specs.Subscribing.{AddsNone, IsDueAfter}

pub invariant_of-self : goal.invariant_of-self
invariant_of-self g c =
    let old = hub_of producer_end c.self.inside.hub in
    let new = hub_of producer_end c.may_subscribe.new.self in
    state_stays old new _ c.self.invariant c.may_subscribe.ensures.sound
    (stays_refused c.args.name _ c.args.due.now.items c.may_subscribe.new.due.items c.self.inside.hub
    c.may_subscribe.new.self c.in_err-may_subscribe.field-0.0 c.in_err-may_subscribe.ensures.refusals)

pub invariant_of-self-2 : goal.invariant_of-self-2
invariant_of-self-2 g c =
    let old = hub_of producer_end c.self.inside.hub in
    let middle = hub_of producer_end c.may_subscribe.new.self in
    let seen = c.in_ok-may_subscribe.ensures.seen in
    let is = state_stays old middle _ c.self.invariant c.may_subscribe.ensures.sound (stays_seen old middle seen.rest seen.kept) in
    let adds = c.add_ticket.ensures in
    state_ticketed c.may_subscribe.new.self c.add_ticket.new.self _ is adds.sound adds.rest
    (λ none. opened_after c.add_ticket.result c.may_subscribe.new.self c.add_ticket.new.self (adds.ok none)
    adds.unchanged (is.opened none))
    (same_count c.add_ticket.result c.may_subscribe.new.self c.add_ticket.new.self adds.closed adds.ok adds.unchanged
    is.tickets.0 is.tickets.1.opening)

pub returns : goal.returns
returns g c =
    let adds = c.add_ticket.ensures in
    record {
      can = on_ok_all c.add_ticket.result (subst (λ n. CanAdmit producer_end c.args.name n c.add_ticket.new.self c.may_subscribe.new.due)
          (c.most_live.ensures.value ∙ ap (λ (s : PublisherState). s.census.most) c.self.view_is)
          (adds.keeps c.args.name _ c.may_subscribe.new.due c.in_ok-may_subscribe.ensures.can));
      ticket = ticket_for_one c.add_ticket.result c.may_subscribe.new.self c.add_ticket.new.self adds.closed adds.ok;
      refusals = ticket_refused c.add_ticket.result c.may_subscribe.new.self.opening adds.refusals;
      adds_none = subst (λ (s : PublisherState). AddsNone (hub_of producer_end s.hub)
          (hub_of producer_end c.add_ticket.new.self)) c.self.view_is
          (ticket_adds_none c.self.inside.hub c.may_subscribe.new.self c.add_ticket.new.self adds.rest
          (seen_adds_none c.self.inside.hub c.may_subscribe.new.self c.in_ok-may_subscribe.ensures.seen));
      due = due_unticketed c.args.name c.args.self.now.census.most c.add_ticket.result c.may_subscribe.new.self.opening c.args.due.now.items
          c.may_subscribe.new.due.items _ _ adds.refusals c.in_ok-may_subscribe.ensures.nothing_due;
      nothing_due = on_ok_all c.add_ticket.result c.in_ok-may_subscribe.ensures.nothing_due;
      census = ap (λ (s : PublisherState). s.census) c.self.view_is;
    }

pub returns-in_err-may_subscribe-clause-adds_none : goal.returns-in_err-may_subscribe-clause-adds_none
returns-in_err-may_subscribe-clause-adds_none g c =
    subst (λ (s : PublisherState). AddsNone (hub_of producer_end s.hub) (hub_of producer_end c.may_subscribe.new.self)) c.self.view_is
    (refused_adds_none c.args.name _ c.args.due.now.items c.may_subscribe.new.due.items c.self.inside.hub
    c.may_subscribe.new.self c.in_err-may_subscribe.field-0.0 c.in_err-may_subscribe.ensures.refusals)

pub returns-in_err-may_subscribe-clause-due : goal.returns-in_err-may_subscribe-clause-due
returns-in_err-may_subscribe-clause-due g c =
    let failed = err_from_is_err_and c.from_residual.result c.from_residual.ensures.1 in
    rw (failed.1, failed.2)
    (subst (λ (s : PublisherState). IsDueAfter c.args.name s.census.most c.in_err-may_subscribe.field-0.0 c.args.due.now.items
    c.may_subscribe.new.due.items s.hub c.may_subscribe.new.self) c.self.view_is
    (subst (λ n. IsDueAfter c.args.name n c.in_err-may_subscribe.field-0.0 c.args.due.now.items
    c.may_subscribe.new.due.items c.self.inside.hub c.may_subscribe.new.self) c.most_live.ensures.value
    (due_refused c.args.name _ c.in_err-may_subscribe.field-0.0 c.args.due.now.items c.may_subscribe.new.due.items
    c.self.inside.hub c.may_subscribe.new.self c.in_err-may_subscribe.ensures.refusals)))
