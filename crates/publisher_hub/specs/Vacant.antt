-- How a subscription is put into a Hub that was looked at: after all others, or in the place of one whose producer's
-- end and ticket were taken out.
use Rattle.std.specs.Prelude.{◌≡◌, ◌⊎◌, ℕ, ◌<◌, Option, None, Some, List, [], ◌∷◌, ◌++◌, length, insert, slice_get, slice_set}
use Rattle.close_count.specs.declared.ticket.Ticket.{Ticket}
use Rattle.flow_rules.specs.Call.{Call}
use Rattle.flow_rules.specs.Feed.{End}
use Rattle.publisher_hub.specs.Gathering.{work_of}
use Rattle.publisher_hub.specs.Hub.{OnlySubscriptionsChange, hub_of}
use Rattle.publisher_hub.specs.Sound.{MOST_ENTRIES}
use Rattle.publisher_hub.specs.Subscribing.{AdmitsWith, ClosesNew, IsPrepared, IsUnnamed, first_entry_with}
use Rattle.publisher_hub.specs.declared.entry.Entry.{Entry}
use Rattle.publisher_hub.specs.declared.hub.Hub.{Hub}
use Rattle.publisher_hub.specs.declared.policy.OnFull.{OnFull}
use Rattle.publisher_hub.specs.declared.work.Work.{Work}

-- there is a subscription of this number, and its producer's end and its ticket were taken out
abbrev pub IsVacant : {F : Type 0} → ℕ → List (Entry F) → Type 0
IsVacant {F} place entries = (entry : Entry F) × ((slice_get entries place ≡ Some entry)
    × ((entry.feed ≡ None) × (entry.ticket ≡ None)))

module _ {F T : Type 0} (meaning : F → End) (does : F → Call T → F → Type 0) where
  -- a subscription was added after all others, and closed at once if its Hub was; nothing else changed
  pub record Appends (name : List ℕ) (on_full : OnFull) (feed : F) (ticket : Option Ticket)
      (number : ℕ) (due_before due_after : List (Work T)) (old new : Hub F) : Type 0 where
    pub is_next : number ≡ length old.entries.items
    pub start : Option T
    pub after : F
    pub closes : ClosesNew meaning does old.ending feed start after
    pub due : due_after ≡ due_before ++ work_of number start
    pub entries : new.entries.items
        ≡ old.entries.items ++ first_entry_with name on_full old.next after ticket ∷ []
    pub live : new.live.items ≡ old.live.items ++ number ∷ []
    pub rest : new ≡ record old { entries = new.entries; live = new.live }

  -- a subscription was put into this vacant place, and closed at once if its Hub was; its number stands somewhere among
  -- those that may be live, and nothing else changed
  pub record PutsAt (place : ℕ) (name : List ℕ) (on_full : OnFull) (feed : F)
      (ticket : Option Ticket) (due_before due_after : List (Work T)) (old new : Hub F) : Type 0 where
    pub start : Option T
    pub after : F
    pub closes : ClosesNew meaning does old.ending feed start after
    pub due : due_after ≡ due_before ++ work_of place start
    pub entries : new.entries.items
        ≡ slice_set old.entries.items place (first_entry_with name on_full old.next after ticket)
    pub rank : ℕ
    pub live : new.live.items ≡ insert old.live.items rank place
    pub rest : new ≡ record old { entries = new.entries; live = new.live }

  -- a subscription got this vacant place of a Hub that had been looked at, and in which fewer than this many were live;
  -- its number stands among those that may be live, and nothing else changed. In a sound Hub these rise, which says
  -- where it stands
  pub record TakesPlace (place : ℕ) (name : List ℕ) (on_full : OnFull) (feed : F)
      (ticket : Option Ticket) (most : ℕ) (due_before due_after : List (Work T)) (old new : Hub F)
      : Type 0 where
    pub middle : Hub F
    pub seen : IsPrepared meaning does old middle
    pub unnamed : IsUnnamed name (hub_of meaning middle).entries
    pub few_live : length middle.live.items < most
    pub few_entries : length middle.entries.items < MOST_ENTRIES
    pub vacant : IsVacant place middle.entries.items
    pub start : Option T
    pub after : F
    pub closes : ClosesNew meaning does old.ending feed start after
    pub due : due_after ≡ due_before ++ work_of place start
    pub entries : new.entries.items
        ≡ slice_set middle.entries.items place (first_entry_with name on_full old.next after ticket)
    pub rank : ℕ
    pub live : new.live.items ≡ insert middle.live.items rank place
    pub rest : OnlySubscriptionsChange (hub_of meaning old) (hub_of meaning new)

  -- a subscription got this place, if that was vacant, and its number is that of the place; else it was added after all
  -- others
  abbrev pub AdmitsAt : ℕ → List ℕ → OnFull → F → Option Ticket → ℕ → ℕ → List (Work T)
      → List (Work T) → Hub F → Hub F → Type 0
  AdmitsAt place name on_full feed ticket most number due_before due_after old new =
      ((number ≡ place) × TakesPlace place name on_full feed ticket most due_before due_after old new)
      ⊎ ((IsVacant place old.entries.items → ⊥)
      × AdmitsWith meaning does name on_full feed ticket most number due_before due_after old new)
