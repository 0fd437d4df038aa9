-- What a subscribing gives, and what a refused one leaves.
use Rattle.std.specs.Prelude.{◌≡◌, ◌⊎◌, ℕ, Option, None, Some, List, length, slice_get}
use Rattle.close_count.specs.declared.ticket.Ticket.{Ticket}
use Rattle.feed_cell.specs.Offering.{DoesCall}
use Rattle.feed_cell.specs.Parties.{IsNewTaskIn, ProducerState, TaskState, new_handle_in}
use Rattle.flow_rules.specs.declared.error_order.ErrorOrder.{ErrorOrder}
use Rattle.publisher_hub.specs.Entry.{EntryState}
use Rattle.flow_rules.specs.declared.refusal.Refusal.{Refusal}
use Rattle.publisher_hub.specs.Hub.{HubState, hub_of}
use Rattle.publisher_hub.specs.Names.{IsSubscribed}
use Rattle.publisher_hub.specs.Subscribing.{AdmitsWith, Refuses}
use Rattle.publisher_hub.specs.Vacant.{TakesPlace}
use Rattle.publisher_hub.specs.declared.entry.Entry.{Entry}
use Rattle.publisher_hub.specs.declared.hub.Hub.{Hub}
use Rattle.publisher_hub.specs.declared.policy.OnFull.{OnFull}
use Rattle.publisher_hub.specs.declared.work.Work.{Work}
use Rattle.publisher.specs.State.{PublisherState, producer_end}
use Rattle.publisher.specs.declared.state.subscribe.Subscribed.{Subscribed}

-- a new subscription: it stands in the Hub, under its name, and says this of its full buffer; its handle did nothing
-- yet, and its task was never run, both with this order of errors; and all three are of one subscription
pub record IsSubscription {B : Type 0} (name : List ℕ) (on_full : OnFull) (order : ErrorOrder)
    (subscribed : Subscribed B) (new : PublisherState) : Type 0 where
  pub entry : Entry ProducerState
  pub producer : ProducerState
  pub stands : slice_get new.hub.entries.items subscribed.owner.entry ≡ Some entry
  pub named : entry.name ≡ name
  pub says : entry.on_full ≡ on_full
  pub there : entry.feed ≡ Some producer
  pub handle_is : subscribed.owner.handle ≡ new_handle_in order new.hub.capacity producer.table
  pub task_is : IsNewTaskIn order producer.table new.hub.capacity subscribed.task

-- no name was taken that was free
abbrev pub TakesNoName : List EntryState → List EntryState → Type 0
TakesNoName old new = (name : List ℕ) → IsSubscribed name new → IsSubscribed name old

-- what a refused subscribing leaves: there is no subscription more, and none under a name that was free; and nothing
-- was published or closed, and no source handed out
pub record AddsNone (old new : HubState) : Type 0 where
  pub as_many : length new.entries ≡ length old.entries
  pub names : TakesNoName old.entries new.entries
  pub progress : new.progress ≡ old.progress
  pub sources : new.sources ≡ old.sources

-- what is due after a refused subscribing: the task that tells the live subscription of this name of it, if that
-- starts one; otherwise nothing more
abbrev pub IsDueAfter : List ℕ → ℕ → Refusal → List (Work TaskState) → List (Work TaskState)
    → Hub ProducerState → Hub ProducerState → Type 0
IsDueAfter name most Refusal.Duplicate before after old new =
    Refuses producer_end DoesCall name most Refusal.Duplicate before after old new
IsDueAfter name most _ before after old new = after ≡ before

-- a subscription was added to a Hub under this number: after all others, or in this place, if that is the number of one
-- that was reclaimed
abbrev pub AdmitsOne : Option ℕ → List ℕ → OnFull → ProducerState → Option Ticket → ℕ → ℕ
    → List (Work TaskState) → List (Work TaskState) → Hub ProducerState → Hub ProducerState → Type 0
AdmitsOne place name on_full feed ticket most number before after old new =
    AdmitsWith producer_end DoesCall name on_full feed ticket most number before after old new
    ⊎ ((place ≡ Some number)
    × TakesPlace producer_end DoesCall number name on_full feed ticket most before after old new)

-- the same, where it gets the number of one that was reclaimed only as long as the publisher is open
abbrev pub AdmitsOpen : List ℕ → OnFull → ProducerState → Option Ticket → ℕ → ℕ
    → List (Work TaskState) → List (Work TaskState) → Hub ProducerState → Hub ProducerState → Type 0
AdmitsOpen name on_full feed ticket most number before after old new =
    AdmitsWith producer_end DoesCall name on_full feed ticket most number before after old new
    ⊎ ((old.ending ≡ None)
    × TakesPlace producer_end DoesCall number name on_full feed ticket most before after old new)

-- a subscription was added to a Hub in which its name was free and fewer than this many were live, under this number;
-- if the publisher is closed, the task that tells it so is due
abbrev pub AdmitsNew : List ℕ → OnFull → ℕ → ℕ → List (Work TaskState) → List (Work TaskState)
    → Hub ProducerState → Hub ProducerState → Type 0
AdmitsNew name on_full most number before after old new =
    (middle : Hub ProducerState) × (AddsNone (hub_of producer_end old) (hub_of producer_end middle)
    × ((feed : ProducerState) × ((ticket : Option Ticket)
    × AdmitsOpen name on_full feed ticket most number before after middle new)))
