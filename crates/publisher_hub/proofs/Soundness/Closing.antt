-- A sound Hub that is closed stays sound.
use Rattle.std.proofs.Common.{◌≡◌, ℕ, ◌≤◌, None, Some, option_map, List, map, refl, ap, sym, subst, ◌∙◌, inl, inr}
use Rattle.std.specs.Prelude.{slice_get}
use Rattle.std.proofs.lemmas.List.{length-map}
use Rattle.flow_rules.specs.Call.{Call}
use Rattle.flow_rules.specs.Feed.{End}
use Rattle.flow_rules.specs.declared.ending.Ending.{Ending}
use Rattle.flow_rules.specs.declared.item.Item.{Item}
use Rattle.publisher_hub.specs.Closing.{Closes, IsClosed, IsClosedBy, WasClosed, progress_closed}
use Rattle.publisher_hub.specs.Entry.{EntryState, entry_of}
use Rattle.publisher_hub.specs.Hub.{HubState, Progress}
use Rattle.publisher_hub.specs.Lists.{Each, EachBy}
use Rattle.publisher_hub.specs.Sound.{IsCounted, IsEntry, IsOrdered, IsPublished, IsSound, MOST_ENTRIES}
use Rattle.publisher_hub.specs.declared.entry.AtClose.{AtClose}
use Rattle.publisher_hub.specs.declared.entry.Entry.{Entry}
use Rattle.publisher_hub.proofs.PartialRounds.Next.{get_before_map}
use Rattle.publisher_hub.proofs.Soundness.Looking.{same_end, unclosed_by, until_next}
use Rattle.publisher_hub.proofs.AnswerLists.Places.{answered_at, stood_at}
use Rattle.publisher_hub.proofs.Soundness.SameLists.{KeepsLists, RetiresNoLess, agreed_same, live_same}

-- an item that a subscription accepted was published as before
published_still : (p : Progress) (ending : Ending) (entry : EntryState) (x : Item) → IsPublished p entry x
    → IsPublished (progress_closed ending p) entry x
published_still p ending entry x is = record { since = is.since; until = is.until; seq = is.seq; source = is.source }

-- a subscription that a close left alone is counted as before
counted_alone : (p : Progress) (ending : Ending) (entry : EntryState) (e : End) → p.ending ≡ None → IsCounted p entry e
    → IsCounted (progress_closed ending p) entry e
counted_alone p ending entry e unclosed is = record {
  capacity = is.capacity;
  ordered = is.ordered;
  items = λ i x at. published_still p ending entry x (is.items i x at);
  count = is.count;
  until = is.until;
  gone = is.gone;
  closed = is.closed;
  closed_as = λ other at. let no : Some other ≡ None = sym at ∙ unclosed_by p entry e is unclosed in cc;
}

-- a subscription that was closed is counted as before: it takes part up to the next serial number
counted_closed : (p : Progress) (ending : Ending) (old new : EntryState) → (was : WasClosed ending old new) → IsCounted p old was.before
    → IsCounted (progress_closed ending p) (record old { feed = Some was.after }) was.after
counted_closed p ending old new was is =
    let accepted : was.after.accepted ≡ was.before.accepted = ap (λ (end : End). end.accepted) was.became in
    record {
      capacity = ap (λ (end : End). end.capacity) was.became ∙ is.capacity;
      ordered = subst (λ (items : List Item). IsOrdered items) (sym accepted) is.ordered;
      items = λ i x at.
          let stood = is.items i x (subst (λ (items : List Item). slice_get items i ≡ Some x) accepted at) in
          record { since = stood.since; until = stood.until; seq = stood.seq; source = stood.source };
      count = rw accepted is.count;
      until = is.until;
      gone = λ retired. let e = sym was.live ∙ retired in cc;
      closed = λ some. until_next p.next old was.live;
      closed_as = λ other at. sym (ap (λ (end : End). end.closing) was.became) ∙ at;
    }

-- a subscription of a sound Hub stays such a subscription if it is closed
entry_closed : (p : Progress) (ending : Ending) (old new : EntryState) → p.ending ≡ None → IsClosedBy ending old new → IsEntry p old
    → IsEntry (progress_closed ending p) new
entry_closed p ending old new unclosed (inl stays) is = subst (λ (entry : EntryState). IsEntry (progress_closed ending p) entry) (sym stays.same) (record {
  here = is.here;
  counted = λ e was. counted_alone p ending old e unclosed (is.counted e was);
  drops = is.drops;
})
entry_closed p ending old new unclosed (inr was) is = subst (λ (entry : EntryState). IsEntry (progress_closed ending p) entry) (sym was.now) (record {
  here = λ live. cc;
  counted = λ f at. subst (λ (end : End). IsCounted (progress_closed ending p) (record old { feed = Some was.after }) end) (same_end at)
      (counted_closed p ending old new was (is.counted was.before was.was));
  drops = is.drops;
})

-- a close changes no list
keeps_lists : (ending : Ending) → KeepsLists (IsClosedBy ending)
keeps_lists ending old new f (inl stays) at = (f, sym (ap (λ (entry : EntryState). entry.feed) stays.same) ∙ at, refl)
keeps_lists ending old new f (inr was) at =
    (was.before, was.was, ap (λ (end : End). end.accepted) (same_end (sym at ∙ ap (λ (entry : EntryState). entry.feed) was.now)) ∙ ap (λ (end : End). end.accepted) was.became)

-- a close makes none live
retires_no_less : (ending : Ending) → RetiresNoLess (IsClosedBy ending)
retires_no_less ending old new (inl stays) live = ap (λ (entry : EntryState). entry.retired) (sym stays.same) ∙ live
retires_no_less ending old new (inr was) live = was.live

-- a sound Hub that is closed stays sound
pub sound_closed : (ending : Ending) (old new : HubState) → IsSound old → IsClosed ending old new → IsSound new
sound_closed ending old new sound closed =
    let p = old.progress in
    let ys = new.entries in
    subst (λ (hub : HubState). IsSound hub) (sym closed.rest) (record {
      entries = λ k entry at. let stood = stood_at (IsClosedBy ending) old.entries ys k entry closed.entries at in
          entry_closed p ending stood.entry entry closed.unclosed stood.became (sound.entries k stood.entry stood.at);
      agreed = agreed_same (IsClosedBy ending) old.entries ys closed.entries (keeps_lists ending) sound.agreed;
      live = live_same (IsClosedBy ending) old.entries ys closed.entries (retires_no_less ending) old.live sound.live;
      few_live = sound.few_live;
      few_entries = subst (λ many. many ≤ MOST_ENTRIES) (sym closed.entries.as_long) sound.few_entries;
      few_items = sound.few_items;
      few_drops = sound.few_drops;
      sources = sound.sources;
      all_sources = sound.all_sources;
      few_counts = sound.few_counts;
    })

-- no producer's end of a Hub without an ending was closed
pub none_closed : (hub : HubState) → IsSound hub → hub.progress.ending ≡ None → (k : ℕ) (entry : EntryState) (e : End)
    → slice_get hub.entries k ≡ Some entry → entry.feed ≡ Some e → e.closing ≡ None
none_closed hub sound none k entry e at was = unclosed_by hub.progress entry e ((sound.entries k entry at).counted e was) none

module _ {F T : Type 0} (meaning : F → End) (does : F → Call T → F → Type 0) (ending : Ending) where
  -- what a close did to a subscription whose end wasn't closed before
  closed_by : (answer : AtClose T) (x y : Entry F) → ((e : End) → option_map meaning x.feed ≡ Some e → e.closing ≡ None)
      → Closes meaning does ending answer x y
      → IsClosedBy ending (entry_of meaning x) (entry_of meaning y)
  closed_by AtClose.Retired x y unclosed stays =
      inl (record { retired = stays.0; same = ap (λ (entry : Entry F). entry_of meaning entry) stays.1 })
  closed_by (AtClose.Ended start) x y unclosed closed =
      let was : option_map meaning x.feed ≡ Some (meaning closed.before) = ap (λ feed. option_map meaning feed) closed.was in
      inr (record {
        before = meaning closed.before;
        after = meaning closed.after;
        live = closed.live;
        was = was;
        became = closed.means.first (unclosed (meaning closed.before) was);
        now = ap (λ (entry : Entry F). entry_of meaning entry) closed.now;
      })

  -- what a round of closes did to all
  pub all_closed_by : (answers : List (AtClose T)) (xs ys : List (Entry F))
      → ((k : ℕ) (entry : EntryState) (e : End) → slice_get (map (entry_of meaning) xs) k ≡ Some entry → entry.feed ≡ Some e → e.closing ≡ None)
      → EachBy (Closes meaning does ending) answers xs ys → Each (IsClosedBy ending) (map (entry_of meaning) xs) (map (entry_of meaning) ys)
  all_closed_by answers xs ys unclosed each = record {
    as_long = length-map ys (entry_of meaning) ∙ each.as_long ∙ sym (length-map xs (entry_of meaning));
    each = λ k x y at at'.
        let old = get_before_map (entry_of meaning) xs k x at in
        let new = get_before_map (entry_of meaning) ys k y at' in
        let answer = answered_at (Closes meaning does ending) answers xs ys k old.0 each old.1.0 in
        subst (λ (entry : EntryState). IsClosedBy ending entry y) old.1.1 (subst (λ (entry : EntryState). IsClosedBy ending (entry_of meaning old.0) entry) new.1.1
        (closed_by answer.0 old.0 new.0 (λ e was. unclosed k (entry_of meaning old.0) e (at ∙ ap Some (sym old.1.1)) was)
        (each.each k answer.0 old.0 new.0 answer.1 old.1.0 new.1.0)));
  }
