-- What stands behind a publisher's lock.
use Rattle.std.specs.Prelude.{◌≡◌, ℕ, ◌+◌, ◌≤◌, Option, None, Some, IsSome, List, length}
use Rattle.close_count.specs.declared.spent.Spent.{Spent}
use Rattle.feed_cell.specs.Parties.{ProducerState}
use Rattle.feed_core.specs.LaneCalls.{IsCapacity}
use Rattle.flow_rules.specs.Feed.{End}
use Rattle.publisher_hub.specs.Hub.{HubState}
use Rattle.publisher_hub.specs.Sound.{IsSound}
use Rattle.publisher_hub.specs.declared.hub.Hub.{Hub}
use Rattle.history.specs.declared.rule.Entry.{Entry}
use Rattle.publisher.specs.Census.{CensusState}
use Rattle.publisher.specs.Content.{IsLogged}
use Rattle.publisher.specs.Tickets.{AreOfOneCount}
use Rattle.publisher.specs.declared.state.waiters.Waiters.{Waiters}
pub use Rattle.publisher.specs.declared.state.TheConstants.{PARTS}

-- what the publisher knows of a subscription, by its producer's end
abbrev pub producer_end : ProducerState → End
producer_end producer = producer.end

-- the subscriptions that have a number; how many of these were there before the close, once the publisher is closed;
-- what is left of the last ticket of the count, once that was spent; how many there ever were; and who waits
pub record PublisherState : Type 0 where
  pub hub : Hub ProducerState
  pub counted : Option ℕ
  pub last : Option Spent
  pub census : CensusState
  pub waiters : Waiters

-- the totals of both ledgers; the parts and amounts of the shares that no submitter has; how many submitters were made,
-- and how many subscriptions have a number, and had one before the close; what is left of the last ticket of the count,
-- once that was spent; and what was published, and how many sources its history has
pub record Sums : Type 0 where
  pub published : ℕ
  pub dropping : ℕ
  pub parts : ℕ
  pub amount : ℕ
  pub drop_parts : ℕ
  pub drop_amount : ℕ
  pub sources : ℕ
  pub entries : ℕ
  pub counted : Option ℕ
  pub last : Option Spent
  pub log : List Entry
  pub made : ℕ

-- how many subscriptions had a number before the close is known once the publisher is closed
pub record IsCountedAtClose (hub : HubState) (counted : Option ℕ) : Type 0 where
  pub unclosed : hub.progress.ending ≡ None → counted ≡ None
  pub closed : IsSome hub.progress.ending
      → (many : ℕ) × ((counted ≡ Some many) × (many ≤ length hub.entries))

-- whenever the lock is free: the Hub is sound, and holds the opening ticket until it is closed; the totals are its
-- numbers; each submitter has one part of each ledger, and the rest has no amount; each subscription from before the
-- close has its ticket until it has ended; and the history is that of the Hub's publications
pub record IsState (hub : HubState) (sums : Sums) : Type 0 where
  pub sound : IsSound hub
  pub sized : IsCapacity hub.progress.capacity
  pub opened : hub.progress.ending ≡ None → IsSome hub.opening
  pub published_is : sums.published ≡ hub.progress.next
  pub dropping_is : sums.dropping ≡ hub.progress.dropping
  pub parts_are : sums.parts + sums.sources ≡ PARTS
  pub none_published : sums.amount ≡ 0
  pub drop_parts_are : sums.drop_parts + sums.sources ≡ PARTS
  pub none_dropped : sums.drop_amount ≡ 0
  pub sources_are : sums.sources ≡ hub.sources
  pub entries_are : sums.entries ≡ length hub.entries
  pub counted_is : IsCountedAtClose hub sums.counted
  pub tickets : AreOfOneCount hub sums.counted sums.last
  pub logged : IsLogged hub sums.log sums.made
