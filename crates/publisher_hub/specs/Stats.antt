-- How the live subscriptions of a Hub stand, as a round of looks lists them.
use Rattle.std.specs.Prelude.{◌≡◌, ℕ, ◌+◌, ◌≤◌, true, false, Option, Some, List, [], ◌∷◌, ◌++◌, length, slice_get}
use Rattle.flow_rules.specs.Call.{Call}
use Rattle.flow_rules.specs.Feed.{End, held_count}
use Rattle.flow_rules.specs.declared.feed.standing.Standing.{Standing}
use Rattle.publisher_hub.specs.Entry.{EntryState, entry_of, until_of}
use Rattle.publisher_hub.specs.Hub.{Progress}
use Rattle.publisher_hub.specs.Lists.{EachBy, gather}
use Rattle.publisher_hub.specs.Looking.{Glances, LooksAtAll}
use Rattle.publisher_hub.specs.Steps.{IsHere}
use Rattle.publisher_hub.specs.declared.entry.Entry.{Entry}
use Rattle.publisher_hub.specs.declared.hub.Hub.{Hub}
use Rattle.publisher_hub.specs.declared.hub.stats.Figures.{Figures}

-- what a subscription accepted and dropped is, in number, what was published while it took part; and its producer's end
-- is there as long as it isn't retired
pub record IsTallied (next : ℕ) (entry : EntryState) : Type 0 where
  pub here : IsHere entry
  pub count : (e : End) → entry.feed ≡ Some e
      → entry.since + (length e.accepted + entry.dropped) ≡ until_of next entry

-- that holds of each of these
abbrev pub AreTallied : ℕ → List EntryState → Type 0
AreTallied next entries = (k : ℕ) (entry : EntryState) → slice_get entries k ≡ Some entry
    → IsTallied next entry

-- these are the figures of a subscription
pub record AreFigures (entry : EntryState) (figures : Figures) : Type 0 where
  pub end : End
  pub here : entry.feed ≡ Some end
  pub name : figures.name ≡ entry.name
  pub on_full : figures.on_full ≡ entry.on_full
  pub lag : figures.lag ≡ held_count end
  pub accepted : figures.accepted ≡ length end.accepted
  pub dropped : figures.dropped ≡ entry.dropped

-- what is listed of a subscription: nothing if it is retired, and else its figures
pub record IsListed (entry : EntryState) (list : List Figures) : Type 0 where
  pub retired : entry.retired ≡ true → list ≡ []
  pub live : entry.retired ≡ false
      → (figures : Figures) × ((list ≡ figures ∷ []) × AreFigures entry figures)

-- these figures are within what publications have come to
pub record IsBounded (progress : Progress) (figures : Figures) : Type 0 where
  pub fits : figures.lag ≤ progress.capacity
  pub waiting : figures.lag ≤ figures.accepted
  pub shared : figures.accepted + figures.dropped ≤ progress.next

-- what is listed of a subscription, whichever number it has
abbrev pub listed_by : ℕ → List Figures → List Figures
listed_by number list = list

module _ {F T : Type 0} (meaning : F → End) (does : F → Call T → F → Type 0) where
  -- this is listed of a subscription as it is then
  abbrev pub Lists : List Figures → Entry F → Entry F → Type 0
  Lists list old new = IsListed (entry_of meaning new) list

  -- a subscription was looked at, and listed as it is then
  pub record Surveys (next : ℕ) (before after : List Figures) (old new : Entry F) : Type 0 where
    pub glance : Option Standing
    pub list : List Figures
    pub looked : Glances meaning does next glance old new
    pub listed : Lists list old new
    pub gains : after ≡ before ++ list

  -- all live subscriptions of these were looked at, and listed in order as they are then
  pub record SurveysRound (next : ℕ) (figures : List Figures) (old new : List (Entry F))
      : Type 0 where
    pub glances : List (Option Standing)
    pub lists : List (List Figures)
    pub looked : EachBy (Glances meaning does next) glances old new
    pub listed : EachBy Lists lists old new
    pub all : figures ≡ gather listed_by 0 lists

  -- all live subscriptions of a Hub were looked at, those that had ended were retired, the others were listed in order as
  -- they are then, and nothing else changed
  pub record SurveysAll (figures : List Figures) (old new : Hub F) : Type 0 where
    pub glances : List (Option Standing)
    pub lists : List (List Figures)
    pub looks : LooksAtAll meaning does glances old new
    pub listed : EachBy Lists lists old.entries.items new.entries.items
    pub all : figures ≡ gather listed_by 0 lists
