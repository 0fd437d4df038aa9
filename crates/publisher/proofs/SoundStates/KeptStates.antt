-- What stands behind a publisher's lock stays as it should, whatever is asked of its Hub.
use Rattle.std.proofs.Common.{◌≡◌, ◌⊎◌, inl, inr, ℕ, Option, List, length, map, sym, ap, subst, ◌∙◌, arith}
use Rattle.std.specs.Prelude.{IsSome}
use Rattle.std.proofs.lemmas.List.{map-set}
use Rattle.close_count.specs.Count.{CountId}
use Rattle.close_count.specs.declared.spent.Spent.{Spent}
use Rattle.flow_rules.specs.declared.feed.standing.Standing.{Standing}
use Rattle.flow_rules.specs.declared.refusal.Refusal.{Refusal}
use Rattle.feed_cell.specs.Parties.{ProducerState, TaskState}
use Rattle.feed_cell.specs.Offering.{DoesCall}
use Rattle.feed_core.specs.LaneCalls.{IsCapacity}
use Rattle.publisher_hub.specs.Entry.{entry_of}
use Rattle.publisher_hub.specs.Hub.{HubState, Progress, hub_of}
use Rattle.publisher_hub.specs.Lists.{Each}
use Rattle.publisher_hub.specs.Looking.{Glances, IsKept, IsLookedAt, LooksAtAll}
use Rattle.publisher_hub.specs.Sound.{IsSound}
use Rattle.publisher_hub.specs.Looking.{LooksAtOne}
use Rattle.publisher_hub.specs.Subscribing.{IsPrepared, IsPreparedInPart, Refuses, FindsNoPlace, DoublesAt, DoublesOne}
use Rattle.publisher_hub.specs.declared.hub.Hub.{Hub}
use Rattle.publisher_hub.specs.declared.work.Work.{Work}
use Rattle.publisher_hub.proofs.Subscribed.AfterLooks.{each_mapped, glance_kept}
use Rattle.publisher_hub.proofs.PartialRounds.Next.{get_mapped}
use Rattle.publisher_hub.proofs.Soundness.LookingAtOne.{one_is_looked_at}
use Rattle.publisher_hub.proofs.Soundness.Doubling.{was_doubled}
use Rattle.publisher.specs.State.{IsCountedAtClose, IsState, Sums, producer_end}
use Rattle.publisher.specs.Tickets.{IsOfCount}
use Rattle.publisher.proofs.SoundStates.Histories.{logged_still}
use Rattle.publisher.proofs.Tickets.Ticketed.{AllKeep, accepted_still, all_looked, all_then, all_tickets, of_count_still, one_told}

-- what a Hub's calls leave that neither publish nor add nor close
pub record Stays (v w : HubState) : Type 0 where
  pub progress : w.progress ≡ v.progress
  pub sources : w.sources ≡ v.sources
  pub opening : w.opening ≡ v.opening
  pub keep : AllKeep v.entries w.entries

pub stays_then : {v w u : HubState} → Stays v w → Stays w u → Stays v u
stays_then {v} {w} {u} one other = record {
  progress = other.progress ∙ one.progress;
  sources = other.sources ∙ one.sources;
  opening = other.opening ∙ one.opening;
  keep = all_then v.entries w.entries u.entries one.keep other.keep;
}

pub stays_by : (v w : HubState) → w ≡ record v { entries = w.entries } → AllKeep v.entries w.entries → Stays v w
stays_by v w rest keep = record {
  progress = ap (λ (h : HubState). h.progress) rest;
  sources = ap (λ (h : HubState). h.sources) rest;
  opening = ap (λ (h : HubState). h.opening) rest;
  keep = keep;
}

-- also if numbers were left out of those that may be live
pub stays_left : (v w : HubState) → w ≡ record v { entries = w.entries; live = w.live } → AllKeep v.entries w.entries → Stays v w
stays_left v w rest keep = record {
  progress = ap (λ (h : HubState). h.progress) rest;
  sources = ap (λ (h : HubState). h.sources) rest;
  opening = ap (λ (h : HubState). h.opening) rest;
  keep = keep;
}

pub stays_seen : (v w : HubState) → w ≡ record v { entries = w.entries; live = w.live }
    → Each (IsKept v.progress.next) v.entries w.entries → Stays v w
stays_seen v w rest kept = stays_left v w rest (all_looked v.progress.next v.entries w.entries kept)

pub stays_looked : (v w : HubState) → IsLookedAt v w → Stays v w
stays_looked v w looked = stays_by v w looked.rest (all_looked v.progress.next v.entries w.entries looked.entries)

pub stays_all_looked : (old new : Hub ProducerState) (glances : List (Option Standing))
    → LooksAtAll producer_end DoesCall glances old new → Stays (hub_of producer_end old) (hub_of producer_end new)
stays_all_looked old new glances looks = stays_looked (hub_of producer_end old) (hub_of producer_end new) (record {
  rest = looks.rest;
  entries = each_mapped producer_end (Glances producer_end DoesCall old.next) (IsKept old.next) glances
      old.entries.items new.entries.items (glance_kept producer_end DoesCall old.next) looks.entries;
})

pub tickets_stay : (count : CountId) (v w : HubState) (counted : Option ℕ) (last : Option Spent)
    → IsOfCount count v counted last → Stays v w → IsOfCount count w counted last
tickets_stay count v w counted last is stays =
    of_count_still count v w counted last is (λ opening held. is.opening opening (sym stays.opening ∙ held))
    (λ closed. subst IsSome (sym (ap (λ (p : Progress). p.ending) stays.progress)) closed)
    (λ _. ap (λ (p : Progress). p.next) stays.progress) (all_tickets v.entries w.entries stays.keep)

-- how many there were before the close is known still
pub counted_stays : (v w : HubState) (counted : Option ℕ) → IsCountedAtClose v counted
    → w.progress.ending ≡ v.progress.ending → length w.entries ≡ length v.entries → IsCountedAtClose w counted
counted_stays v w counted is ending long = record {
  unclosed = λ none. is.unclosed (sym ending ∙ none);
  closed = λ some. let was = is.closed (subst IsSome ending some) in (was.0, (was.1.0, let few = was.1.1 in omega arith));
}

-- so what stands behind the lock stays
pub state_stays : (v w : HubState) (sums : Sums) → IsState v sums → IsSound w → Stays v w → IsState w sums
state_stays v w sums is sound stays = record {
  sound = sound;
  sized = subst IsCapacity (sym (ap (λ (p : Progress). p.capacity) stays.progress)) is.sized;
  opened = λ none. subst IsSome (sym stays.opening) (is.opened (sym (ap (λ (p : Progress). p.ending) stays.progress) ∙ none));
  published_is = is.published_is ∙ sym (ap (λ (p : Progress). p.next) stays.progress);
  dropping_is = is.dropping_is ∙ sym (ap (λ (p : Progress). p.dropping) stays.progress);
  parts_are = is.parts_are;
  none_published = is.none_published;
  drop_parts_are = is.drop_parts_are;
  none_dropped = is.none_dropped;
  sources_are = is.sources_are ∙ sym stays.sources;
  entries_are = is.entries_are ∙ sym stays.keep.as_long;
  counted_is = counted_stays v w sums.counted is.counted_is (ap (λ (p : Progress). p.ending) stays.progress) stays.keep.as_long;
  tickets = (is.tickets.0, tickets_stay is.tickets.0 v w sums.counted sums.last is.tickets.1 stays);
  logged = logged_still v w sums.log sums.made is.logged (ap (λ (p : Progress). p.next) stays.progress) stays.sources
      (accepted_still v.entries w.entries stays.keep);
}

pub state_all_looked : (old new : Hub ProducerState) (glances : List (Option Standing)) (sums : Sums)
    → IsState (hub_of producer_end old) sums → IsSound (hub_of producer_end new)
    → LooksAtAll producer_end DoesCall glances old new → IsState (hub_of producer_end new) sums
state_all_looked old new glances sums is sound looks =
    state_stays (hub_of producer_end old) (hub_of producer_end new) sums is sound (stays_all_looked old new glances looks)

-- one of the subscriptions was told of a second subscribing
keep_told : (due_before due_after : List (Work TaskState)) (number : ℕ) (old new : Hub ProducerState)
    → DoublesAt producer_end DoesCall number due_before due_after old new
    → AllKeep (hub_of producer_end old).entries (hub_of producer_end new).entries
keep_told due_before due_after number old new tells = subst (λ entries. AllKeep (hub_of producer_end old).entries entries)
    (sym (ap (map (entry_of producer_end)) tells.entries ∙ map-set (entry_of producer_end) old.entries.items number tells.after))
    (one_told (hub_of producer_end old).entries number (entry_of producer_end tells.before)
    (entry_of producer_end tells.after) (get_mapped (entry_of producer_end) old.entries.items number tells.before tells.there)
    (was_doubled producer_end DoesCall tells.start tells.before tells.after tells.doubled))

-- a subscribing that is refused: a live subscription is told of it; or all were looked at, or some
module _ (name : List ℕ) (most : ℕ) (due_before due_after : List (Work TaskState)) (old new : Hub ProducerState) where
  abbrev IsDuplicate : Type 0
  IsDuplicate = (middle : Hub ProducerState)
      × (IsPrepared producer_end DoesCall old middle × DoublesOne producer_end DoesCall name due_before due_after middle new)

  abbrev pub IsLookedThrough : Type 0
  IsLookedThrough = IsDuplicate ⊎ (IsPreparedInPart producer_end DoesCall old new ⊎ IsPrepared producer_end DoesCall old new)

  no_place : (refusal : Refusal) → FindsNoPlace producer_end DoesCall name most refusal old new → IsLookedThrough
  no_place refusal finds = inr (inr finds.seen)

  in_part : IsPreparedInPart producer_end DoesCall old new ⊎ FindsNoPlace producer_end DoesCall name most Refusal.NoMemory old new → IsLookedThrough
  in_part (inl seen) = inr (inl seen)
  in_part (inr finds) = no_place Refusal.NoMemory finds

  pub looked_through : (refusal : Refusal) → Refuses producer_end DoesCall name most refusal due_before due_after old new → IsLookedThrough
  looked_through Refusal.Duplicate refuses = inl refuses
  looked_through Refusal.NoMemory refuses = in_part refuses.0
  looked_through Refusal.BadCapacity refuses = no_place Refusal.BadCapacity refuses.0
  looked_through (Refusal.Closed ending) refuses = no_place (Refusal.Closed ending) refuses.0
  looked_through Refusal.TooMany refuses = no_place Refusal.TooMany refuses.0
  looked_through Refusal.LineTooLong refuses = no_place Refusal.LineTooLong refuses.0
  looked_through Refusal.BadWorkers refuses = no_place Refusal.BadWorkers refuses.0
  looked_through (Refusal.StillHeld other) refuses = no_place (Refusal.StillHeld other) refuses.0
  looked_through (Refusal.Unsettled names) refuses = no_place (Refusal.Unsettled names) refuses.0
  looked_through Refusal.Unknown refuses = no_place Refusal.Unknown refuses.0
  looked_through Refusal.WouldWait refuses = no_place Refusal.WouldWait refuses.0
  looked_through Refusal.BadCommand refuses = no_place Refusal.BadCommand refuses.0
  looked_through Refusal.Exhausted refuses = no_place Refusal.Exhausted refuses.0

  stays_looked_through : IsLookedThrough → Stays (hub_of producer_end old) (hub_of producer_end new)
  stays_looked_through (inl told) =
      let middle = told.0 in
      let seen = told.1.0 in
      let tells = told.1.1 in
      stays_then (stays_seen (hub_of producer_end old) (hub_of producer_end middle) seen.rest seen.kept)
      (stays_by (hub_of producer_end middle) (hub_of producer_end new) tells.doubles.rest
      (keep_told due_before due_after tells.number middle new tells.doubles))
  stays_looked_through (inr (inl seen)) = stays_looked (hub_of producer_end old) (hub_of producer_end new)
      (record { rest = seen.rest; entries = seen.kept })
  stays_looked_through (inr (inr seen)) = stays_seen (hub_of producer_end old) (hub_of producer_end new) seen.rest seen.kept

  pub stays_refused : (refusal : Refusal) → Refuses producer_end DoesCall name most refusal due_before due_after old new
      → Stays (hub_of producer_end old) (hub_of producer_end new)
  stays_refused refusal refuses = stays_looked_through (looked_through refusal refuses)

pub state_looked_at_one : (old new : Hub ProducerState) (number : ℕ) (glance : Option Standing) (sums : Sums)
    → IsState (hub_of producer_end old) sums → IsSound (hub_of producer_end new)
    → LooksAtOne producer_end DoesCall number glance old new → IsState (hub_of producer_end new) sums
state_looked_at_one old new number glance sums is sound looks =
    state_stays (hub_of producer_end old) (hub_of producer_end new) sums is sound
    (stays_looked (hub_of producer_end old) (hub_of producer_end new)
    (one_is_looked_at producer_end DoesCall number glance old new is.sound looks))
