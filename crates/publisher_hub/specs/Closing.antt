-- What a close does to each subscription of a Hub, and to the Hub.
use Rattle.std.specs.Prelude.{◌≡◌, ◌⊎◌, ℕ, true, Option, None, Some, List, [], ◌++◌}
use Rattle.flow_rules.specs.Call.{Call}
use Rattle.flow_rules.specs.Feed as Feed
use Rattle.flow_rules.specs.Feed.{End}
use Rattle.flow_rules.specs.declared.ending.Ending.{Ending}
use Rattle.flow_rules.specs.declared.feed.standing.Standing.{Standing}
use Rattle.publisher_hub.specs.Becoming.{Becomes, Called}
use Rattle.publisher_hub.specs.Entry.{EntryState}
use Rattle.publisher_hub.specs.Hub.{HubState, Progress, hub_of}
use Rattle.publisher_hub.specs.Lists.{Each, EachBy, gather}
use Rattle.publisher_hub.specs.Looking.{IsLookedAt, Prepares, StaysRetired}
use Rattle.publisher_hub.specs.Gathering.{work_of}
use Rattle.publisher_hub.specs.declared.entry.AtClose.{AtClose}
use Rattle.publisher_hub.specs.declared.entry.Entry.{Entry}
use Rattle.publisher_hub.specs.declared.hub.Hub.{Hub}
use Rattle.publisher_hub.specs.declared.work.Work.{Work}

-- the producer's end of a live subscription was closed
abbrev pub WasClosed : Ending → EntryState → EntryState → Type 0
WasClosed ending old new =
    Becomes (λ e f. f ≡ record e { closing = Some ending; ready = f.ready }) old new

-- what a close leaves of a subscription
abbrev pub IsClosedBy : Ending → EntryState → EntryState → Type 0
IsClosedBy ending old new = StaysRetired old new ⊎ WasClosed ending old new

-- how far the publications have come, with this ending
abbrev pub progress_closed : Ending → Progress → Progress
progress_closed ending progress = record progress { ending = Some ending }

-- a Hub without an ending was closed: each live subscription was closed, and the opening ticket is taken out
pub record IsClosed (ending : Ending) (old new : HubState) : Type 0 where
  pub unclosed : old.progress.ending ≡ None
  pub rest : new ≡ record old {
    progress = progress_closed ending old.progress;
    opening = None;
    entries = new.entries;
  }
  pub entries : Each (IsClosedBy ending) old.entries new.entries

-- a Hub without an ending was looked at, and then closed
pub record IsClosedLooking (ending : Ending) (old new : HubState) : Type 0 where
  pub middle : HubState
  pub looked : IsLookedAt old middle
  pub closed : IsClosed ending middle new

-- the task that a close of a subscription started
abbrev pub started_by_end : {T : Type 0} → ℕ → AtClose T → List (Work T)
started_by_end number AtClose.Retired = []
started_by_end number (AtClose.Ended start) = work_of number start

-- the tasks that the closes of a round started, in the order of the numbers
abbrev pub started_by_ends : {T : Type 0} → List (AtClose T) → List (Work T)
started_by_ends answers = gather started_by_end 0 answers

module _ {F T : Type 0} (meaning : F → End) (does : F → Call T → F → Type 0) where
  -- the producer's end of a live subscription was closed once, which answered this task
  abbrev pub Closed : Ending → Option T → Entry F → Entry F → Type 0
  Closed ending start old new =
      Called meaning does (λ e f. Feed.Ends e ending start f) (Call.Ends ending start)
      (λ after. record old { feed = Some after }) old new

  -- what a close did at any subscription: a retired one is left alone
  abbrev pub Closes : Ending → AtClose T → Entry F → Entry F → Type 0
  Closes ending AtClose.Retired old new = (old.retired ≡ true) × (new ≡ old)
  Closes ending (AtClose.Ended start) old new = Closed ending start old new

  -- each live subscription was closed once, and the tasks that this started are due, in the order of the numbers
  pub record ClosesLive (ending : Ending) (xs ys : List (Entry F))
      (due_before due_after : List (Work T)) : Type 0 where
    pub answers : List (AtClose T)
    pub each : EachBy (Closes ending) answers xs ys
    pub due : due_after ≡ due_before ++ started_by_ends answers

  -- the first close of a Hub: all live subscriptions were looked at and made ready, which left the middle list; then
  -- each that goes on was closed; the ending is set and the opening ticket taken out, and nothing else changed
  pub record ClosesAll (ending : Ending) (due_before due_after : List (Work T)) (old new : Hub F)
      : Type 0 where
    pub middle : List (Entry F)
    pub glances : List (Option Standing)
    pub prepared : EachBy (Prepares meaning does old.next) glances old.entries.items middle
    pub closes : ClosesLive ending middle new.entries.items due_before due_after
    pub rest : hub_of meaning new ≡ record (hub_of meaning old) {
      progress = progress_closed ending (hub_of meaning old).progress;
      opening = None;
      entries = (hub_of meaning new).entries;
    }
