-- Whether a subscription may be added to a Hub that was looked at.
use Rattle.std.proofs.Common.{◌≡◌, ℕ, ◌<◌, ◌≤◌, true, false, Option, None, Some, Result, Ok, Err, IfErr, OnOk, List, length, map, refl, ap, sym, subst, ◌∙◌, inl, inr, arith}
use Rattle.std.specs.Prelude.{slice_get, Vec, vec_len}
use Rattle.std.proofs.lemmas.Option.{slice_get_within}
use Rattle.std.specs.Vec.{vec_capacity}
use Rattle.std.specs.declared.alloc.Global.{Global}
use Rattle.flow_rules.specs.Call.{Call}
use Rattle.flow_rules.specs.Feed.{End}
use Rattle.flow_rules.specs.declared.feed.standing.Standing.{Standing}
use Rattle.flow_rules.specs.declared.refusal.Refusal.{Refusal}
use Rattle.publisher_hub.specs.Adding.{AreAllLive, goes_on, live_of}
use Rattle.publisher_hub.specs.Entry.{EntryState, entry_of}
use Rattle.publisher_hub.specs.Hub.{HubState, hub_of}
use Rattle.publisher_hub.specs.Lists.{Each, EachBy}
use Rattle.publisher_hub.specs.Looking.{IsKept, IsLookedAt, Prepares}
use Rattle.publisher_hub.specs.Readiness.{AreReady}
use Rattle.publisher_hub.specs.Subscribing.{CanAdmit, HasNoPlace, HasPlace, IsLiveAt, IsNamed, IsNotNamed, IsPrepared, IsUnnamed, Refuses}
use Rattle.publisher_hub.specs.declared.entry.Entry.{Entry}
use Rattle.publisher_hub.specs.declared.hub.Hub.{Hub}
use Rattle.publisher_hub.specs.declared.work.Work.{Work}
use Rattle.publisher_hub.proofs.Soundness.LeavingOut.{filter_shorter}
use Rattle.publisher_hub.proofs.PartialRounds.Next.{get_before_map, get_mapped}
use Rattle.publisher_hub.proofs.PartialRounds.Progress.{same_some}
use Rattle.publisher_hub.proofs.AnswerLists.Places.{answered_at, there}

module _ {F T : Type 0} (meaning : F → End) (does : F → Call T → F → Type 0) where
  -- if no live number is that of a subscription with the name, none that isn't retired has it
  pub unnamed_of : (name : List ℕ) (hub : Hub F) → AreAllLive hub.live.items (hub_of meaning hub).entries
      → ((i number : ℕ) → slice_get hub.live.items i ≡ Some number → IsNotNamed name number hub.entries.items)
      → IsUnnamed name (hub_of meaning hub).entries
  unnamed_of name hub all none k entry at live named =
      let found = all.are.covers k entry at live in
      let raw = get_before_map (entry_of meaning) hub.entries.items k entry at in
      none found.0 k found.1 raw.0 raw.1.0 (ap (λ (e : EntryState). e.name) raw.1.1 ∙ named)

  -- a live number is that of a subscription that isn't retired
  pub live_at : (hub : Hub F) (i number : ℕ) → AreAllLive hub.live.items (hub_of meaning hub).entries
      → slice_get hub.live.items i ≡ Some number → IsLiveAt number hub.entries.items
  live_at hub i number all at =
      let found = all.only i number at in
      let raw = get_before_map (entry_of meaning) hub.entries.items number found.0 found.1.0 in
      (raw.0, (raw.1.0, ap (λ (e : EntryState). e.retired) raw.1.1 ∙ found.1.1))

  -- a place changes nothing of what was seen
  pub seen_with_place : (old middle new : Hub F) → IsPrepared meaning does old middle → new.entries.items ≡ middle.entries.items
      → new.live.items ≡ middle.live.items
      → hub_of meaning new ≡ hub_of meaning middle → IsPrepared meaning does old new
  seen_with_place old middle new seen entries live same = record {
    glances = seen.glances;
    prepared = subst (λ (l : List (Entry F)). EachBy (Prepares meaning does old.next) seen.glances old.entries.items l) (sym entries) seen.prepared;
    left = rw (live, entries) seen.left;
    kept = subst (λ (hub : HubState). Each (IsKept old.next) (hub_of meaning old).entries hub.entries) (sym same) seen.kept;
    all_live = rw (live, entries) seen.all_live;
    rest = same ∙ seen.rest ∙ rw (live, entries) refl;
  }

  -- a subscription that isn't retired after its look was not before, and has the same name
  lived_before : (next : ℕ) (glance : Option Standing) (x y : Entry F) → Prepares meaning does next glance x y → y.retired ≡ false
      → (x.retired ≡ false) × (y.name ≡ x.name)
  lived_before next None x y stays live = (ap (λ (e : Entry F). e.retired) (sym stays.1) ∙ live, ap (λ (e : Entry F). e.name) stays.1)
  lived_before next (Some standing) x y sees live = (sees.sees.live, by standing.ended refl) where
    by : (ended : Rattle.std.proofs.Common.Bool) → standing.ended ≡ ended → y.name ≡ x.name
    by true is = ap (λ (e : Entry F). e.name) (sees.ended is ∙ sees.sees.ended is)
    by false is = let stays = sees.stays is in ap (λ (e : Entry F). e.name) stays.1.1.now
        ∙ ap (λ (e : Entry F). e.name) (sees.sees.stays is)

  -- no live subscription has the name after looks if none had it before
  pub still_unnamed : (name : List ℕ) (old new : Hub F) → IsPrepared meaning does old new → IsUnnamed name (hub_of meaning old).entries
      → IsUnnamed name (hub_of meaning new).entries
  still_unnamed name old new seen none k entry at live named =
      let now = get_before_map (entry_of meaning) new.entries.items k entry at in
      let each = seen.prepared in
      let was =
      there old.entries.items k (let within = slice_get_within new.entries.items k now.0 now.1.0 in let many = each.as_long in omega arith) in
      let glance = answered_at (Prepares meaning does old.next) seen.glances old.entries.items new.entries.items k was.0 each was.1 in
      let lived =
      lived_before old.next glance.0 was.0 now.0 (each.each k glance.0 was.0 now.0 glance.1 was.1 now.1.0) (ap (λ (e : EntryState). e.retired) now.1.1 ∙ live) in
      none k (entry_of meaning was.0) (get_mapped (entry_of meaning) old.entries.items k was.0 was.1) lived.0 (sym lived.1 ∙ ap (λ (e : EntryState). e.name) now.1.1 ∙ named)

  -- a live subscription of the name is found only if one had it before
  pub found_none : (name : List ℕ) (old new : Hub F) (i number : ℕ) → IsPrepared meaning does old new
      → IsUnnamed name (hub_of meaning old).entries
      → slice_get new.live.items i ≡ Some number → IsNamed name number new.entries.items → ⊥
  found_none name old new i number seen none at named =
      let live = live_at new i number seen.all_live at in
      let same : live.0 ≡ named.0 = same_some (sym live.1.0 ∙ named.1.0) in
      still_unnamed name old new seen none number (entry_of meaning live.0) (get_mapped (entry_of meaning) new.entries.items number live.0 live.1.0) live.1.1
      (ap (λ (e : Entry F). e.name) same ∙ named.1.1)

  -- a place that was there is there still after looks
  pub still_place : (most : ℕ) (old new : Hub F) → IsPrepared meaning does old new → vec_capacity new.entries ≡ vec_capacity old.entries
      → vec_capacity new.live ≡ vec_capacity old.live
      → HasPlace most old → HasPlace most new
  still_place most old new seen entries live place =
      let entries_before : vec_len old.entries ≡ length old.entries.items = old.entries.ok.0 in
      let entries_after : vec_len new.entries ≡ length new.entries.items = new.entries.ok.0 in
      let live_before : vec_len old.live ≡ length old.live.items = old.live.ok.0 in
      let live_after : vec_len new.live ≡ length new.live.items = new.live.ok.0 in
      let shorter = filter_shorter (goes_on (hub_of meaning new).entries) old.live.items in
      let left : length new.live.items ≡ length (live_of (hub_of meaning new).entries old.live.items) = ap length seen.left in
      let as_long = seen.prepared.as_long in
      let entry_place = place.entry_place in
      let number_place = place.number_place in
      let few_live = place.few_live in
      let few_entries = place.few_entries in
      record { entry_place = omega arith; number_place = omega arith; few_live = omega arith; few_entries = omega arith }

  -- how far the publications have come, and the ending, are as they were
  pub seen_next : (old new : Hub F) → IsPrepared meaning does old new → new.next ≡ old.next
  seen_next old new seen = ap (λ (hub : HubState). hub.progress.next) seen.rest

  pub seen_ending : (old new : Hub F) → IsPrepared meaning does old new → new.ending ≡ old.ending
  seen_ending old new seen = ap (λ (hub : HubState). hub.progress.ending) seen.rest

  -- what is left of a Hub that was looked at, if then only its subscriptions and the live numbers changed
  pub rest_seen : (old middle new : Hub F) → IsPrepared meaning does old middle → new ≡ record middle { entries = new.entries; live = new.live }
      → hub_of meaning new ≡ record (hub_of meaning old) { entries = (hub_of meaning new).entries; live = new.live.items }
  rest_seen old middle new seen rest = ap (λ (hub : Hub F). hub_of meaning hub) rest
      ∙ ap (λ (hub : HubState). record hub { entries = (hub_of meaning new).entries; live = new.live.items }) seen.rest

  -- a Hub that was looked at, and then left the numbers of the retired ones out
  pub seen_left : (old middle new : Hub F) (glances : List (Option Standing))
      → EachBy (Prepares meaning does old.next) glances old.entries.items middle.entries.items
      → IsLookedAt (hub_of meaning old) (hub_of meaning middle) → new ≡ record middle { live = new.live }
      → new.live.items ≡ live_of (hub_of meaning middle).entries middle.live.items
      → AreAllLive new.live.items (hub_of meaning middle).entries → IsPrepared meaning does old new
  seen_left old middle new glances prepared looked rest left are = subst (λ (hub : Hub F). IsPrepared meaning does old hub) (sym rest) (record {
    glances = glances;
    prepared = prepared;
    left = left ∙ ap (λ (hub : HubState). live_of (hub_of meaning middle).entries hub.live) looked.rest;
    kept = looked.entries;
    all_live = are;
    rest = ap (λ (hub : HubState). record hub { live = new.live.items }) looked.rest;
  })

  -- with a place, a subscription of a name that no live subscription has may be added
  pub can_admit : (name : List ℕ) (most : ℕ) (result : Result Unit Refusal) (middle new : Hub F) (due : Vec (Work T) Global)
      → OnOk result (HasPlace most new) → vec_len due < vec_capacity due
      → AreReady (hub_of meaning middle).entries → IsUnnamed name (hub_of meaning middle).entries
      → hub_of meaning new ≡ hub_of meaning middle → OnOk result (CanAdmit meaning name most new due)
  can_admit name most (Ok x) middle new due place room ready unnamed same = record {
    due_place = room;
    place = place;
    ready = subst (λ (hub : HubState). AreReady hub.entries) (sym same) ready;
    unnamed = subst (λ (hub : HubState). IsUnnamed name hub.entries) (sym same) unnamed;
  }
  can_admit name most (Err e) middle new due place room ready unnamed same = _

-- what holds anyway holds on Ok
pub on_ok : {A E : Type 0} (r : Result A E) (P : Type 0) → P → OnOk r P
on_ok (Ok x) P p = p
on_ok (Err e) P p = _

-- if no place is found, a subscribing is refused
pub refused_place : {F T : Type 0} (meaning : F → End) (does : F → Call T → F → Type 0) (name : List ℕ) (most : ℕ) (result : Result Unit Refusal) (due_before due_after : List (Work T)) (old new : Hub F)
    → IsPrepared meaning does old new → IsUnnamed name (hub_of meaning new).entries → due_after ≡ due_before
    → IfErr result (λ refusal. HasNoPlace most refusal new)
    → IfErr result (λ refusal. Refuses meaning does name most refusal due_before due_after old new)
refused_place meaning does name most (Ok x) due_before due_after old new seen unnamed due why = _
refused_place meaning does name most (Err Refusal.TooMany) due_before due_after old new seen unnamed due why =
    (record { seen = seen; unnamed = unnamed; why = why }, due)
refused_place meaning does name most (Err Refusal.Exhausted) due_before due_after old new seen unnamed due why =
    (record { seen = seen; unnamed = unnamed; why = why }, due)
refused_place meaning does name most (Err Refusal.NoMemory) due_before due_after old new seen unnamed due why =
    (inr (record { seen = seen; unnamed = unnamed; why = why }), due)
refused_place meaning does name most (Err _) due_before due_after old new seen unnamed due why = absurd why
