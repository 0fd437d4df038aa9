-- What becomes of a Hub when the producer's end of a subscription that has ended is taken out.
use Rattle.std.specs.Prelude.{◌≡◌, ℕ, true, false, Option, None, Some, List, slice_get, slice_set}
use Rattle.close_count.specs.declared.ticket.Ticket.{Ticket}
use Rattle.flow_rules.specs.Call.{Call}
use Rattle.flow_rules.specs.Feed.{End}
use Rattle.flow_rules.specs.declared.feed.standing.Standing.{Standing}
use Rattle.publisher_hub.specs.Adding.{live_of}
use Rattle.publisher_hub.specs.Entry.{EntryState}
use Rattle.publisher_hub.specs.Hub.{OnlySubscriptionsChange, hub_of}
use Rattle.publisher_hub.specs.Looking.{Stands}
use Rattle.publisher_hub.specs.Taking.{entry_without_feed}
use Rattle.publisher_hub.specs.declared.entry.Entry.{Entry}
use Rattle.publisher_hub.specs.declared.hub.Hub.{Hub}

module _ {F T : Type 0} (meaning : F → End) (does : F → Call T → F → Type 0) where
  -- a look at a subscription, retired or not, showed its end; then its producer's end and its ticket were taken out
  pub record TakesBoth (next : ℕ) (standing : Standing) (feed : F) (ticket : Option Ticket)
      (old new : Entry F) : Type 0 where
    pub before : F
    pub was : old.feed ≡ Some before
    pub stands : Stands meaning does standing before feed
    pub ended : standing.ended ≡ true
    pub ticket_is : ticket ≡ old.ticket
    pub now : new ≡ entry_without_feed next old

  -- a look at a subscription, retired or not, showed that it goes on, and nothing changed but by the look
  pub record GoesOn (standing : Standing) (old new : Entry F) : Type 0 where
    pub before : F
    pub after : F
    pub was : old.feed ≡ Some before
    pub stands : Stands meaning does standing before after
    pub goes_on : standing.ended ≡ false
    pub now : new ≡ record old { feed = Some after }

  -- a subscription lost its producer's end and its ticket if a look showed that it has ended; a subscription whose end
  -- was taken out before is left alone
  abbrev pub TakesEnded : ℕ → Option Standing → Option (F × Option Ticket) → Entry F → Entry F
      → Type 0
  TakesEnded next (Some standing) (Some (feed, ticket)) old new =
      TakesBoth next standing feed ticket old new
  TakesEnded next (Some standing) None old new = GoesOn standing old new
  TakesEnded next None (Some taken) old new = ⊥
  TakesEnded next None None old new = (old.feed ≡ None) × (new ≡ old)

  -- the numbers of those that may be live after that, of these before: if a producer's end came out, those of the
  -- retired ones are left out
  abbrev pub live_after : Option (F × Option Ticket) → List EntryState → List ℕ → List ℕ
  live_after None entries live = live
  live_after (Some taken) entries live = live_of entries live

  -- this became of the subscription of this number, and nothing else of the Hub changed but the numbers of those that
  -- may be live
  pub record TakesEndedAt (number : ℕ) (taken : Option (F × Option Ticket)) (old new : Hub F)
      : Type 0 where
    pub rest : OnlySubscriptionsChange (hub_of meaning old) (hub_of meaning new)
    pub live : new.live.items ≡ live_after taken (hub_of meaning new).entries old.live.items
    pub none : slice_get old.entries.items number ≡ None
        → (taken ≡ None) × (new.entries.items ≡ old.entries.items)
    pub there : (before : Entry F) → slice_get old.entries.items number ≡ Some before
        → (glance : Option Standing) × (after : Entry F)
        × (TakesEnded old.next glance taken before after
        × (new.entries.items ≡ slice_set old.entries.items number after))
