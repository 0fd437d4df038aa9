-- What the owners of submitters and subscriptions see of them.
use Rattle.std.specs.Prelude.{◌≡◌, ⊤, ℕ, ℤ, true, false, Option, Some, List}
use Rattle.feed_cell.specs.Parties.{HandleState, handle_after_request}
use Rattle.flow_rules.specs.declared.ending.Ending.{Ending}
use Rattle.flow_rules.specs.declared.error_order.ErrorOrder.{ErrorOrder}
use Rattle.flow_rules.specs.declared.refusal.Refusal.{Refusal}
use Rattle.flow_rules.specs.declared.refusal.Refusal.TheVariants.{Closed, Duplicate, Exhausted, LineTooLong, NoMemory, TooMany}
use Rattle.publisher_hub.specs.declared.hub.publish.Unpublished.{Unpublished}
use Rattle.publisher_hub.specs.declared.hub.publish.Unpublished.TheVariants.{NoRoom, Refused}
use Rattle.publisher.specs.Note.{known_by}
use Rattle.publisher_hub.specs.declared.policy.Need.{Need}

-- a subscription: its number, how many subscriptions were made before it, and its handle
pub record SubscriptionState : Type 0 where
  pub entry : ℕ
  pub made_before : ℕ
  pub handle : HandleState

-- a controller of a subscription: its number, and how many subscriptions were made before it. What was requested stands
-- behind a lock
pub record ControllerState : Type 0 where
  pub entry : ℕ
  pub made_before : ℕ

-- the controller of this subscription
abbrev pub controller_of : SubscriptionState → ControllerState
controller_of subscription = record { entry = subscription.entry; made_before = subscription.made_before }

-- a handle with which nothing was done yet
abbrev pub IsUnused : HandleState → Type 0
IsUnused handle = (handle.asked ≡ 0) × ((handle.cancelled ≡ false) × (handle.argument ≡ false))

-- a request of this number, of a handle: after a cancel it does nothing (Reactive Streams 1.0, 3.6 and 3.8)
pub record Requests (n : ℤ) (old new : HandleState) : Type 0 where
  pub requested : old.cancelled ≡ false
      → new ≡ record (handle_after_request n old) { ready = new.ready; started = new.started }
  pub ignored : old.cancelled ≡ true → new ≡ record old { ready = new.ready }

-- a cancel of a handle: only the first does anything (Reactive Streams 1.0, 3.5 and 3.7)
pub record Cancels (old new : HandleState) : Type 0 where
  pub cancelled : new ≡ record old { cancelled = true; ready = new.ready; started = new.started }

-- a publisher: the name of its closing, of which its notes are; how many workers it has; the capacity of each of its
-- buffers; and in which order a closing error and the items are told
pub record PublisherView : Type 0 where
  pub closing : ℕ
  pub workers : ℕ
  pub capacity : ℕ
  pub order : ErrorOrder

-- a submitter: its number; of which publisher's closing its note is, and what it was told of that; how many items it
-- published, and which, in order; and how many of its offers found a buffer full
pub record SubmitterState : Type 0 where
  pub source : ℕ
  pub closing : ℕ
  pub known : Option Ending
  pub published : ℕ
  pub sent : List (List ℕ)
  pub dropping : ℕ

-- a submitter after this refusal
abbrev pub after_refusal : Refusal → SubmitterState → SubmitterState
after_refusal refusal submitter = record submitter { known = known_by refusal submitter.known }

-- one of the refusals of a publication; after that of a closed publisher the submitter knows of that ending
abbrev pub RefusesPublication : Refusal → Option Ending → Type 0
RefusesPublication (Closed ending) known = known ≡ Some ending
RefusesPublication NoMemory known = ⊤
RefusesPublication LineTooLong known = ⊤
RefusesPublication Exhausted known = ⊤
RefusesPublication _ known = ⊥

-- one of the refusals of a subscribing
abbrev pub RefusesSubscribing : Refusal → Type 0
RefusesSubscribing Duplicate = ⊤
RefusesSubscribing TooMany = ⊤
RefusesSubscribing NoMemory = ⊤
RefusesSubscribing Exhausted = ⊤
RefusesSubscribing _ = ⊥

-- why the Hub refuses a publication
abbrev pub IsHubRefusal : Refusal → Type 0
IsHubRefusal (Closed ending) = ⊤
IsHubRefusal NoMemory = ⊤
IsHubRefusal Exhausted = ⊤
IsHubRefusal _ = ⊥

abbrev pub IsHubReason : Unpublished → Type 0
IsHubReason (Refused refusal) = IsHubRefusal refusal
IsHubReason NoRoom = ⊤

-- why a text was not published, and whose room is needed
pub record NotPublishedState : Type 0 where
  pub reason : Unpublished
  pub need : Need
