-- A subscription that is put into a Hub that was looked at.
use Rattle.std.proofs.Common.{◌≡◌, ℕ, ◌<◌, Option, None, Some, List, ◌∷◌, ◌++◌, [], length, refl, ap, sym, subst, ◌∙◌, set, arith}
use Rattle.std.specs.Prelude.{slice_get, Vec}
use Rattle.std.specs.declared.alloc.Global.{Global}
use Rattle.std.proofs.lemmas.Option.{slice_get_within}
use Rattle.close_count.specs.declared.ticket.Ticket.{Ticket}
use Rattle.flow_rules.specs.Call.{Call}
use Rattle.flow_rules.specs.Feed.{End}
use Rattle.flow_rules.specs.declared.ending.Ending.{Ending}
use Rattle.flow_rules.specs.declared.feed.standing.Standing.{Standing}
use Rattle.publisher_hub.specs.Adding.{IsFresh}
use Rattle.publisher_hub.specs.Gathering.{work_of}
use Rattle.publisher_hub.specs.Looking.{Prepares}
use Rattle.publisher_hub.specs.Sound.{MOST_ENTRIES}
use Rattle.publisher_hub.specs.Subscribing.{AdmitsWith, CanAdmit, ClosesNew, IsPrepared, first_entry_with}
use Rattle.publisher_hub.specs.Vacant.{Appends, IsVacant, PutsAt, TakesPlace}
use Rattle.publisher_hub.specs.declared.entry.Entry.{Entry}
use Rattle.publisher_hub.specs.declared.hub.Hub.{Hub}
use Rattle.publisher_hub.specs.declared.policy.OnFull.{OnFull}
use Rattle.publisher_hub.specs.declared.work.Work.{Work}
use Rattle.publisher_hub.proofs.AnswerLists.Places.{answered_at, there}
use Rattle.publisher_hub.proofs.Subscribed.Admission.{rest_seen, seen_ending, seen_next}

module _ {F T : Type 0} (meaning : F → End) (does : F → Call T → F → Type 0) where
  -- a new producer's end that was closed if its Hub was: it has accepted nothing
  pub closed_empty : (ending : Option Ending) (capacity : ℕ) (feed after : F) (start : Option T)
      → ClosesNew meaning does ending feed start after → IsFresh capacity (meaning feed)
      → ((meaning after).accepted ≡ []) × (((meaning after).capacity ≡ capacity)
      × ((told : Ending) → (meaning after).closing ≡ Some told → ending ≡ Some told))
  closed_empty None capacity feed after start closes fresh = (
    ap (λ f. (meaning f).accepted) closes.1 ∙ fresh.empty,
    (
      ap (λ f. (meaning f).capacity) closes.1 ∙ fresh.capacity_is,
      λ told at. let no : None ≡ Some told = sym (ap (λ f. (meaning f).closing) closes.1 ∙ fresh.unclosed) ∙ at in cc,
    ),
  )
  closed_empty (Some ending) capacity feed after start closes fresh =
      let now = closes.0.first fresh.unclosed in
      (ap (λ (e : End). e.accepted) now ∙ fresh.empty, (ap (λ (e : End). e.capacity) now ∙ fresh.capacity_is, λ told at. sym (ap (λ (e : End). e.closing) now) ∙ at))

  -- looks leave a vacant place vacant
  pub vacant_after : (place : ℕ) (old new : Hub F) → IsPrepared meaning does old new → IsVacant place old.entries.items
      → IsVacant place new.entries.items
  vacant_after place old new seen (entry, (at, (none, spent))) =
      let each = seen.prepared in
      let now = there new.entries.items place (let within = slice_get_within old.entries.items place entry at in let many = each.as_long in omega arith) in
      let glance = answered_at (Prepares meaning does old.next) seen.glances old.entries.items new.entries.items place entry each at in
      by now.0 now.1 glance.0 (each.each place glance.0 entry now.0 glance.1 at now.1) where
        by : (left : Entry F) → slice_get new.entries.items place ≡ Some left → (glance : Option Standing)
            → Prepares meaning does old.next glance entry left → IsVacant place new.entries.items
        by left is None stays =
            (left, (is, (ap (λ (e : Entry F). e.feed) stays.1 ∙ none, ap (λ (e : Entry F). e.ticket) stays.1 ∙ spent)))
        by left is (Some standing) sees = let never : None ≡ Some sees.sees.before = sym none ∙ sees.sees.was in cc

  -- a subscription that was added to a Hub that was looked at
  pub admitted_with : (name : List ℕ) (on_full : OnFull) (feed : F) (ticket : Option Ticket) (most number : ℕ) (due_before due_middle due_after : List (Work T)) (due : Vec (Work T) Global) (old middle new : Hub F)
      → IsPrepared meaning does old middle → CanAdmit meaning name most middle due → due_middle ≡ due_before
      → Appends meaning does name on_full feed ticket number due_middle due_after middle new
      → AdmitsWith meaning does name on_full feed ticket most number due_before due_after old new
  admitted_with name on_full feed ticket most number due_before due_middle due_after due old middle new seen can same adds =
      let as_long : length middle.entries.items ≡ length old.entries.items = seen.prepared.as_long in
      let few : length middle.entries.items < MOST_ENTRIES = can.place.few_entries in
      let next : number ≡ length middle.entries.items = adds.is_next in
      record {
        middle = middle;
        seen = seen;
        unnamed = can.unnamed;
        few_live = can.place.few_live;
        is_next = next ∙ as_long;
        few_entries = subst (λ n. n < MOST_ENTRIES) (sym next) few;
        start = adds.start;
        after = adds.after;
        closes = subst (λ (e : Option Ending). ClosesNew meaning does e feed adds.start adds.after) (seen_ending meaning does old middle seen) adds.closes;
        due = adds.due ∙ ap (λ (l : List (Work T)). l ++ work_of number adds.start) same;
        entries = adds.entries
            ∙ ap (λ n. middle.entries.items ++ first_entry_with name on_full n adds.after ticket ∷ []) (seen_next meaning does old middle seen);
        live = adds.live;
        rest = rest_seen meaning does old middle new seen adds.rest;
      }

  -- a subscription that was put into a vacant place of a Hub that was looked at
  pub took_place : (place : ℕ) (name : List ℕ) (on_full : OnFull) (feed : F) (ticket : Option Ticket) (most : ℕ) (due_before due_middle due_after : List (Work T)) (due : Vec (Work T) Global) (old middle new : Hub F)
      → IsPrepared meaning does old middle → CanAdmit meaning name most middle due → IsVacant place middle.entries.items
      → due_middle ≡ due_before
      → PutsAt meaning does place name on_full feed ticket due_middle due_after middle new
      → TakesPlace meaning does place name on_full feed ticket most due_before due_after old new
  took_place place name on_full feed ticket most due_before due_middle due_after due old middle new seen can vacant same puts = record {
    middle = middle;
    seen = seen;
    unnamed = can.unnamed;
    few_live = can.place.few_live;
    few_entries = can.place.few_entries;
    vacant = vacant;
    start = puts.start;
    after = puts.after;
    closes = subst (λ (e : Option Ending). ClosesNew meaning does e feed puts.start puts.after) (seen_ending meaning does old middle seen) puts.closes;
    due = puts.due ∙ ap (λ (l : List (Work T)). l ++ work_of place puts.start) same;
    entries = puts.entries
        ∙ ap (λ n. set middle.entries.items place (first_entry_with name on_full n puts.after ticket)) (seen_next meaning does old middle seen);
    rank = puts.rank;
    live = puts.live;
    rest = rest_seen meaning does old middle new seen puts.rest;
  }
