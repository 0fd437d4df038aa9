-- A sound Hub stays sound if a subscription is doubled.
use Rattle.std.proofs.Common.{◌≡◌, ◌⊎◌, ℕ, zero, suc, ◌<◌, ◌≤◌, Option, Some, option_map, List, [], ◌∷◌, length, map, get_or, set, refl, ap, sym, subst, ◌∙◌, inl, inr, arith}
use Rattle.std.specs.Prelude.{slice_get}
use Rattle.std.proofs.lemmas.List.{length-set}
use Rattle.std.proofs.lemmas.Option.{slice_get-get_or, slice_get_within}
use Rattle.flow_rules.specs.Call.{Call}
use Rattle.flow_rules.specs.Feed.{End}
use Rattle.flow_rules.specs.declared.item.Item.{Item}
use Rattle.publisher_hub.specs.Entry.{EntryState, entry_of}
use Rattle.publisher_hub.specs.Hub.{HubState, Progress, hub_of}
use Rattle.publisher_hub.specs.Lists.{Each}
use Rattle.publisher_hub.specs.Sound.{IsCounted, IsEntry, IsOrdered, IsSound, MOST_ENTRIES}
use Rattle.publisher_hub.specs.Subscribing.{Doubled, WasDoubled}
use Rattle.publisher_hub.specs.declared.entry.Entry.{Entry}
use Rattle.publisher_hub.specs.declared.hub.Hub.{Hub}
use Rattle.publisher_hub.proofs.AnswerLists.Updates.{get_elsewhere, get_there}
use Rattle.publisher_hub.proofs.PartialRounds.Next.{get_mapped}
use Rattle.publisher_hub.proofs.Soundness.Looking.{same_end}
use Rattle.publisher_hub.proofs.PartialRounds.Progress.{same_some}
use Rattle.publisher_hub.proofs.AnswerLists.Places.{stood_at}
use Rattle.publisher_hub.proofs.Soundness.SameLists.{KeepsLists, RetiresNoLess, agreed_same, live_same}

-- a subscription is as it was, or was doubled
abbrev MayBeDoubled : EntryState → EntryState → Type 0
MayBeDoubled old new = (new ≡ old) ⊎ WasDoubled old new

-- a subscription that was doubled is counted as before
counted_doubled : (p : Progress) (old new : EntryState) (was : WasDoubled old new) → IsCounted p old was.before → IsCounted p (record old { feed = Some was.after }) was.after
counted_doubled p old new was is =
    let accepted : was.after.accepted ≡ was.before.accepted = ap (λ (end : End). end.accepted) was.became in
    let closing : was.after.closing ≡ was.before.closing = ap (λ (end : End). end.closing) was.became in
    record {
      capacity = ap (λ (end : End). end.capacity) was.became ∙ is.capacity;
      ordered = subst (λ (items : List Item). IsOrdered items) (sym accepted) is.ordered;
      items = λ i x at.
          let stood = is.items i x (subst (λ (items : List Item). slice_get items i ≡ Some x) accepted at) in
          record { since = stood.since; until = stood.until; seq = stood.seq; source = stood.source };
      count = rw accepted is.count;
      until = is.until;
      gone = λ retired. let e = sym was.live ∙ retired in cc;
      closed = λ some. is.closed (subst (λ c. Rattle.std.specs.Prelude.IsSome c) closing some);
      closed_as = λ ending at. is.closed_as ending (sym closing ∙ at);
    }

entry_doubled : (p : Progress) (old new : EntryState) → MayBeDoubled old new → IsEntry p old → IsEntry p new
entry_doubled p old new (inl same) is = subst (λ (entry : EntryState). IsEntry p entry) (sym same) is
entry_doubled p old new (inr was) is = subst (λ (entry : EntryState). IsEntry p entry) (sym was.now) (record {
  here = λ live. cc;
  counted = λ f at. subst (λ (end : End). IsCounted p (record old { feed = Some was.after }) end) (same_end at) (counted_doubled p old new was (is.counted was.before was.was));
  drops = is.drops;
})

keeps_lists : KeepsLists MayBeDoubled
keeps_lists old new f (inl same) at = (f, sym (ap (λ (entry : EntryState). entry.feed) same) ∙ at, refl)
keeps_lists old new f (inr was) at =
    (was.before, was.was, ap (λ (end : End). end.accepted) (same_end (sym at ∙ ap (λ (entry : EntryState). entry.feed) was.now)) ∙ ap (λ (end : End). end.accepted) was.became)

retires_no_less : RetiresNoLess MayBeDoubled
retires_no_less old new (inl same) live = ap (λ (entry : EntryState). entry.retired) (sym same) ∙ live
retires_no_less old new (inr was) live = was.live

-- a place was set
each_doubled : (xs : List EntryState) (k : ℕ) (x y : EntryState) → slice_get xs k ≡ Some x → WasDoubled x y
    → Each MayBeDoubled xs (set xs k y)
each_doubled xs k x y at doubled = record {
  as_long = length-set xs k y;
  each = λ i old new before after. by i old new before after (same_or_not i k);
} where
  same_or_not : (i k : ℕ) → (k ≡ i) ⊎ (k ≡ i → ⊥)
  same_or_not zero zero = inl refl
  same_or_not zero (suc k) = inr (λ e. cc)
  same_or_not (suc i) zero = inr (λ e. cc)
  same_or_not (suc i) (suc k) = next (same_or_not i k) where
    next : (k ≡ i) ⊎ (k ≡ i → ⊥) → (suc k ≡ suc i) ⊎ (suc k ≡ suc i → ⊥)
    next (inl same) = inl (ap suc same)
    next (inr other) = inr (λ same. other (omega arith))

  by : (i : ℕ) (old new : EntryState) → slice_get xs i ≡ Some old → slice_get (set xs k y) i ≡ Some new → (k ≡ i) ⊎ (k ≡ i → ⊥)
      → MayBeDoubled old new
  by i old new before after (inl same) =
      let was : x ≡ old = same_some (sym at ∙ subst (λ j. slice_get xs j ≡ Some old) (sym same) before) in
      let within : k < length xs = slice_get_within xs k x at in
      let now : y ≡ new = same_some (sym (get_there xs k y within) ∙ subst (λ j. slice_get (set xs k y) j ≡ Some new) (sym same) after) in
      inr (subst (λ (entry : EntryState). WasDoubled old entry) now (subst (λ (entry : EntryState). WasDoubled entry y) was doubled))
  by i old new before after (inr other) = inl (same_some (sym after ∙ get_elsewhere xs k i y other ∙ before))

-- a sound Hub stays sound if a subscription is doubled
pub sound_doubled : (hub : HubState) (k : ℕ) (x y : EntryState) → slice_get hub.entries k ≡ Some x → WasDoubled x y → IsSound hub → IsSound (record hub { entries = set hub.entries k y })
sound_doubled hub k x y at doubled sound =
    let each = each_doubled hub.entries k x y at doubled in
    let ys = set hub.entries k y in
    record {
      entries = λ i entry at'. let stood = stood_at MayBeDoubled hub.entries ys i entry each at' in
          entry_doubled hub.progress stood.entry entry stood.became (sound.entries i stood.entry stood.at);
      agreed = agreed_same MayBeDoubled hub.entries ys each keeps_lists sound.agreed;
      live = live_same MayBeDoubled hub.entries ys each retires_no_less hub.live sound.live;
      few_live = sound.few_live;
      few_entries = subst (λ many. many ≤ MOST_ENTRIES) (sym each.as_long) sound.few_entries;
      few_items = sound.few_items;
      few_drops = sound.few_drops;
      sources = sound.sources;
      all_sources = sound.all_sources;
      few_counts = sound.few_counts;
    }

-- what is read at a place stands there, if anything does
pub read_at : {X : Type 0} (xs : List X) (k : ℕ) (x y : X) → slice_get xs k ≡ Some y → x ≡ get_or xs k x → slice_get xs k ≡ Some x
read_at xs k x y at value = slice_get-get_or xs k x (slice_get_within xs k y at) ∙ ap Some (sym value)

-- setting a place commutes with a map
pub map_set : {A B : Type 0} (f : A → B) (xs : List A) (k : ℕ) (x : A) → map f (set xs k x) ≡ set (map f xs) k (f x)
map_set f [] k x = refl
map_set f (first ∷ xs) zero x = refl
map_set f (first ∷ xs) (suc k) x = ap (λ ys. f first ∷ ys) (map_set f xs k x)

module _ {F T : Type 0} (meaning : F → End) (does : F → Call T → F → Type 0) where
  -- what a producer's end that was doubled means
  pub was_doubled : (start : Option T) (old new : Entry F) → Doubled meaning does start old new
      → WasDoubled (entry_of meaning old) (entry_of meaning new)
  was_doubled start old new doubled = record {
    before = meaning doubled.before;
    after = meaning doubled.after;
    live = doubled.live;
    was = ap (λ feed. option_map meaning feed) doubled.was;
    became = doubled.means.rest;
    now = ap (λ (entry : Entry F). entry_of meaning entry) doubled.now;
  }

  -- a sound Hub stays sound if one of its subscriptions is doubled
  pub sound_doubles : (hub : Hub F) (ys : List (Entry F)) (k : ℕ) (start : Option T) (old new : Entry F) → IsSound (hub_of meaning hub)
      → slice_get hub.entries.items k ≡ Some old → Doubled meaning does start old new
      → ys ≡ set hub.entries.items k new → IsSound (record (hub_of meaning hub) { entries = map (entry_of meaning) ys })
  sound_doubles hub ys k start old new sound at doubled now =
      subst (λ (entries : List EntryState). IsSound (record (hub_of meaning hub) { entries = entries })) (sym (ap (λ l. map (entry_of meaning) l) now ∙ map_set (entry_of meaning) hub.entries.items k new))
      (sound_doubled (hub_of meaning hub) k (entry_of meaning old) (entry_of meaning new) (get_mapped (entry_of meaning) hub.entries.items k old at) (was_doubled start old new doubled) sound)
