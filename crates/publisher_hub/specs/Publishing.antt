-- What the calls do that publish an item, and why they are refused.
use Rattle.std.specs.Prelude.{◌≡◌, ◌⊎◌, ℕ, zero, suc, ◌+◌, ◌<◌, ℤ, pos, negsuc, Bool, true, Option, None, Some, List, [], ◌++◌, Vec, length, map, slice_get}
use Rattle.std.specs.declared.alloc.Global.{Global}
use Rattle.flow_rules.specs.Call.{Call}
use Rattle.flow_rules.specs.Feed.{End}
use Rattle.flow_rules.specs.declared.feed.put.Put.{Put}
use Rattle.flow_rules.specs.declared.feed.standing.Standing.{Standing}
use Rattle.flow_rules.specs.declared.item.Item.{Item}
use Rattle.flow_rules.specs.declared.item.TheConstants.{MOST_PUBLICATIONS}
use Rattle.flow_rules.specs.declared.refusal.Refusal.{Refusal}
use Rattle.publisher_hub.specs.Gathering.{AreRevisited, AreShares, GathersAgain, CanGather, Second, dropped, lags, lags_again, missed, stands, started, started_again}
use Rattle.publisher_hub.specs.Hub.{Progress, hub_of}
use Rattle.publisher_hub.specs.Lists.{Each, EachBy, greatest}
use Rattle.publisher_hub.specs.Looking.{IsLookedAt, Prepares, PreparesAll, PreparesInPart, full_needed}
use Rattle.publisher_hub.specs.Offering.{PutsTo, PutsAgain, ReachesAll}
use Rattle.publisher_hub.specs.Policy.{LosesNothing}
use Rattle.publisher_hub.specs.Batch.{PublishesBatch}
use Rattle.publisher_hub.specs.declared.entry.Entry.{Entry}
use Rattle.publisher_hub.specs.declared.hub.gathering.Gathering.{Gathering}
use Rattle.publisher_hub.specs.declared.hub.Hub.{Hub}
use Rattle.publisher_hub.specs.declared.hub.publish.Publication.{Publication}
use Rattle.publisher_hub.specs.declared.hub.publish.Unpublished.{Unpublished}
use Rattle.publisher_hub.specs.declared.hub.publish.Unpublished.TheVariants.{NoRoom, Refused}
use Rattle.publisher_hub.specs.declared.policy.Need.{Need}
use Rattle.publisher_hub.specs.declared.policy.Need.TheVariants.{All}
use Rattle.publisher_hub.specs.declared.work.Work.{Work}

-- why no item is taken any more: the Hub was closed, or the last possible publication was made
abbrev pub IsRefused : Progress → Option Refusal → Type 0
IsRefused progress None = (progress.ending ≡ None) × (progress.next ≡ MOST_PUBLICATIONS → ⊥)
IsRefused progress (Some (Refusal.Closed ending)) = progress.ending ≡ Some ending
IsRefused progress (Some Refusal.Exhausted) =
    (progress.ending ≡ None) × (progress.next ≡ MOST_PUBLICATIONS)
IsRefused progress (Some _) = ⊥

-- how many offers were dropped anywhere, after another offer after which this many drops stand
abbrev pub dropping_after : ℕ → ℕ → ℕ
dropping_after zero dropping = dropping
dropping_after (suc drops) dropping = dropping + 1

-- a text that this many subscriptions lost counts as lost once, if any did
abbrev pub loss_of : ℕ → ℕ
loss_of zero = 0
loss_of (suc dropped) = 1

-- before any publication
abbrev pub nothing_published : Publication
nothing_published = record { many = 0; lost = 0; dropped = 0; lag = 0 }

-- what two publications did, one after the other
abbrev pub both : Publication → Publication → Publication
both first later = record {
  many = first.many + later.many;
  lost = first.lost + later.lost;
  dropped = later.dropped;
  lag = later.lag;
}

-- texts go at once, as a batch, if there are several and each needs room at all subscriptions; else the first goes alone
abbrev pub GoAtOnce : Need → List (List ℕ) → Type 0
GoAtOnce need texts = (need ≡ All) × (1 < length texts)

-- the answer to an offer: the greatest lag, or minus the number of drops
abbrev pub offer_answer : ℕ → ℕ → ℤ
offer_answer zero lag = pos lag
offer_answer (suc drops) lag = negsuc drops

-- a publication of this item has all that it needs
pub record CanPublish {F T : Type 0} (item : Item) (hub : Hub F) (due : Vec (Work T) Global)
    : Type 0 where
  pub room : CanGather (length hub.live.items) hub.gathering due
  pub shares : AreShares item hub.gathering.shares.items
  pub missed : hub.gathering.missed.items ≡ []
  pub lag : hub.gathering.lag ≡ 0

module _ {F T : Type 0} (meaning : F → End) (does : F → Call T → F → Type 0) where
  -- the first of these texts was published alone by this source, with this answer: each subscription was looked at and
  -- made ready; each that goes on and whose room is needed had room; and then each was offered the item, which those
  -- lost that had no room
  pub record PublishesOne (need : Need) (source : ℕ) (texts : List (List ℕ)) (old new : Hub F)
      (due_old due_new : List (Work T)) (publication : Publication) : Type 0 where
    pub item : Item
    pub from : item.source ≡ source
    pub words : slice_get texts 0 ≡ Some item.text
    pub glances : List (Option Standing)
    pub puts : List (Option (Put T))
    pub middle : List (Entry F)
    pub looked : EachBy (Prepares meaning does old.next) glances old.entries.items middle
    pub room : full_needed need old.capacity old.entries.items glances ≡ []
    pub each_put : EachBy (PutsTo meaning does item) puts middle new.entries.items
    pub reaches : ReachesAll item (hub_of meaning old) (hub_of meaning new)
    pub waiters : Each LosesNothing (hub_of meaning old).entries (hub_of meaning new).entries
    pub no_drop : need ≡ All → missed puts ≡ []
    pub counted : new.dropping ≡ dropping_after (length (missed puts)) old.dropping
    pub due : due_new ≡ due_old ++ started puts
    pub many : publication.many ≡ 1
    pub greatest_lag : publication.lag ≡ greatest (lags puts)
    pub dropped : publication.dropped ≡ length (missed puts)
    pub lost : publication.lost ≡ loss_of publication.dropped

  -- the first of these texts were published by this source, with this answer
  abbrev pub PublishesTexts : Need → ℕ → List (List ℕ) → Hub F → Hub F → List (Work T)
      → List (Work T) → Publication → Type 0
  PublishesTexts need source texts old new due_old due_new publication =
      ((GoAtOnce need texts → ⊥)
      × PublishesOne need source texts old new due_old due_new publication)
      ⊎ (GoAtOnce need texts
      × PublishesBatch meaning does source texts old new due_old due_new publication)

  -- the second pass: the handler is asked about those that missed the item; without a handler their drops stand
  pub record PassesAgain (item : Item) (declines : Bool)
      (puts : List (Option (Put T))) (seconds : List (Second T))
      (xs ys : List (Entry F)) (gathering gathering_new : Gathering)
      (due_old due_new : Vec (Work T) Global) : Type 0 where
    pub again : EachBy (PutsAgain meaning does item) seconds xs ys
    pub revisited : AreRevisited (missed puts) seconds
    pub declined : declines ≡ true → seconds ≡ map stands puts
    pub gathers : GathersAgain item seconds gathering gathering_new due_old due_new

  -- an item of this source and text was offered, with this answer: each subscription was looked at and made ready; then
  -- each that goes on was offered the item; and then the handler was asked about those that missed it, and they were
  -- offered it once more if its answer was to try again
  pub record OffersItem (source : ℕ) (text : List ℕ) (declines : Bool) (old new : Hub F)
      (due_old due_new : List (Work T)) (answer : ℤ) : Type 0 where
    pub item : Item
    pub from : item.source ≡ source
    pub words : item.text ≡ text
    pub glances : List (Option Standing)
    pub puts : List (Option (Put T))
    pub seconds : List (Second T)
    pub ready : List (Entry F)
    pub middle : List (Entry F)
    pub looked : EachBy (Prepares meaning does old.next) glances old.entries.items ready
    pub each_put : EachBy (PutsTo meaning does item) puts ready middle
    pub again : EachBy (PutsAgain meaning does item) seconds middle new.entries.items
    pub revisited : AreRevisited (missed puts) seconds
    pub declined : declines ≡ true → seconds ≡ map stands puts
    pub reaches : ReachesAll item (hub_of meaning old) (hub_of meaning new)
    pub counted : new.dropping ≡ dropping_after (length (dropped seconds)) old.dropping
    pub due : due_new ≡ due_old ++ started puts ++ started_again seconds
    pub answers : answer
        ≡ offer_answer (length (dropped seconds)) (greatest (lags puts ++ lags_again seconds))

  -- why an item was not offered: memory was refused, and some subscriptions may have been looked at; or all were looked
  -- at, and the publisher takes no items
  abbrev pub WhyNotOffered : Hub F → Hub F → Refusal → Type 0
  WhyNotOffered old new Refusal.NoMemory = PreparesInPart meaning does old new
  WhyNotOffered old new refusal = IsRefused (hub_of meaning old).progress (Some refusal)
      × ((glances : List (Option Standing)) × PreparesAll meaning does glances old new)

  -- an item was not offered: nothing has changed but by looks
  pub record RefusesOffer (old new : Hub F) (refusal : Refusal) : Type 0 where
    pub unchanged : IsLookedAt (hub_of meaning old) (hub_of meaning new)
    pub why : WhyNotOffered old new refusal

  -- why no text was published: as an item is not offered; or a buffer was full whose room is needed
  abbrev pub WhyUnpublished : Need → Hub F → Hub F → Unpublished → Type 0
  WhyUnpublished need old new (Refused refusal) = WhyNotOffered old new refusal
  WhyUnpublished need old new NoRoom = IsRefused (hub_of meaning old).progress None
      × ((glances : List (Option Standing)) × (PreparesAll meaning does glances old new
      × (0 < length (full_needed need old.capacity old.entries.items glances))))

  -- no text was published: nothing has changed but by looks
  pub record RefusesTexts (need : Need) (old new : Hub F) (unpublished : Unpublished)
      : Type 0 where
    pub unchanged : IsLookedAt (hub_of meaning old) (hub_of meaning new)
    pub why : WhyUnpublished need old new unpublished
