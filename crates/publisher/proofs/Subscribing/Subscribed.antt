-- What a subscribing gives.
use Rattle.std.proofs.Common.{◌≡◌, inl, inr, ℕ, Option, None, Some, List, length, refl, sym, ap, subst, ◌∙◌}
use Rattle.std.specs.Prelude.{slice_get}
use Rattle.std.proofs.lemmas.List.{length-map}
use Rattle.std.proofs.lemmas.Option.{slice_get_within}
use Rattle.close_count.specs.declared.ticket.Ticket.{Ticket}
use Rattle.feed_cell.specs.Offering.{DoesCall}
use Rattle.feed_cell.specs.Parties.{IsNewTaskIn, ProducerState, TaskState, new_handle_in}
use Rattle.flow_rules.specs.declared.ending.Ending.{Ending}
use Rattle.flow_rules.specs.declared.error_order.ErrorOrder.{ErrorOrder}
use Rattle.publisher_hub.specs.Entry.{entry_of}
use Rattle.publisher_hub.specs.Hub.{HubState}
use Rattle.publisher_hub.specs.Subscribing.{ClosesNew, first_entry_with}
use Rattle.publisher_hub.specs.declared.policy.OnFull.{OnFull}
use Rattle.publisher_hub.specs.declared.work.Work.{Work}
use Rattle.publisher.specs.State.{PublisherState, producer_end}
use Rattle.publisher.specs.Subscribing.{AdmitsOpen, IsSubscription}
use Rattle.publisher.specs.declared.state.subscribe.Subscribed.{Subscribed}
use Rattle.publisher_hub.proofs.AnswerLists.Updates.{get_there}
use Rattle.publisher.proofs.BothEnds.LongerLists.{get_last}

-- a close leaves a producer's end that of its subscription
same_subscription : (ending : Option Ending) (feed after : ProducerState) (start : Option TaskState)
    → ClosesNew producer_end DoesCall ending feed start after → after.table ≡ feed.table
same_subscription None feed after start closes = ap (λ (p : ProducerState). p.table) closes.1
same_subscription (Some ending) feed after start closes = closes.1.table

-- where it stands, by its number
stands_as : {B : Type 0} (name : List ℕ) (on_full : OnFull) (order : ErrorOrder) (producer after : ProducerState) (ticket : Option Ticket)
    (next : ℕ) (old new : PublisherState) (subscribed : Subscribed B)
    → slice_get new.hub.entries.items subscribed.owner.entry ≡ Some (first_entry_with name on_full next after ticket)
    → after.table ≡ producer.table → new.hub.capacity ≡ old.hub.capacity
    → subscribed.owner.handle ≡ new_handle_in order old.hub.capacity producer.table
    → IsNewTaskIn order producer.table old.hub.capacity subscribed.task
    → IsSubscription name on_full order subscribed new
stands_as name on_full order producer after ticket next old new subscribed stands table capacity handle task = record {
  entry = first_entry_with name on_full next after ticket;
  producer = after;
  stands = stands;
  named = refl;
  says = refl;
  there = refl;
  handle_is = handle ∙ ap (λ n. new_handle_in order n producer.table) (sym capacity)
      ∙ ap (λ t. new_handle_in order new.hub.capacity t) (sym table);
  task_is = subst (λ t. IsNewTaskIn order t new.hub.capacity subscribed.task) (sym table)
      (subst (λ n. IsNewTaskIn order producer.table n subscribed.task) (sym capacity) task);
}

pub subscribed_is : {B : Type 0} (name : List ℕ) (on_full : OnFull) (order : ErrorOrder) (producer : ProducerState)
    (ticket : Option Ticket) (most : ℕ) (due_before due_after : List (Work TaskState)) (old new : PublisherState) (subscribed : Subscribed B)
    → AdmitsOpen name on_full producer ticket most subscribed.owner.entry due_before due_after old.hub new.hub
    → subscribed.owner.handle ≡ new_handle_in order old.hub.capacity producer.table
    → IsNewTaskIn order producer.table old.hub.capacity subscribed.task
    → IsSubscription name on_full order subscribed new
subscribed_is name on_full order producer ticket most due_before due_after old new subscribed (inl admits) handle task =
    let first = first_entry_with name on_full old.hub.next admits.after ticket in
    let long : length admits.middle.entries.items ≡ length old.hub.entries.items =
    sym (length-map admits.middle.entries.items (entry_of producer_end)) ∙ admits.seen.kept.as_long
    ∙ length-map old.hub.entries.items (entry_of producer_end) in
    let number : subscribed.owner.entry ≡ length admits.middle.entries.items = admits.is_next ∙ sym long in
    stands_as name on_full order producer admits.after ticket old.hub.next old new subscribed
    (ap (slice_get new.hub.entries.items) number
    ∙ ap (λ items. slice_get items (length admits.middle.entries.items)) admits.entries ∙ get_last admits.middle.entries.items first)
    (same_subscription old.hub.ending producer admits.after admits.start admits.closes)
    (ap (λ (h : HubState). h.progress.capacity) admits.rest) handle task
subscribed_is name on_full order producer ticket most due_before due_after old new subscribed (inr takes) handle task =
    let it = takes.1 in
    stands_as name on_full order producer it.after ticket old.hub.next old new subscribed
    (ap (λ items. slice_get items subscribed.owner.entry) it.entries
    ∙ get_there it.middle.entries.items subscribed.owner.entry (first_entry_with name on_full old.hub.next it.after ticket)
    (slice_get_within it.middle.entries.items subscribed.owner.entry it.vacant.0 it.vacant.1.0))
    (same_subscription old.hub.ending producer it.after it.start it.closes)
    (ap (λ (h : HubState). h.progress.capacity) it.rest) handle task
