-- A sound Hub that a subscription is added to stays sound.
use Rattle.std.proofs.Common.{◌≡◌, ◌⊎◌, ℕ, zero, suc, ◌<◌, false, Option, None, Some, List, [], ◌∷◌, ◌++◌, length, map, refl, ap, sym, subst, ◌∙◌, inl, inr, arith}
use Rattle.std.specs.Prelude.{slice_get}
use Rattle.std.proofs.lemmas.List.{length-append, length-map, map-append}
use Rattle.std.proofs.lemmas.Option.{slice_get_within}
use Rattle.close_count.specs.declared.ticket.Ticket.{Ticket}
use Rattle.flow_rules.specs.Feed.{End}
use Rattle.flow_rules.specs.declared.ending.Ending.{Ending}
use Rattle.flow_rules.specs.declared.item.Item.{Item}
use Rattle.publisher_hub.specs.Adding.{hub_with, new_entry}
use Rattle.publisher_hub.specs.Entry.{EntryState, entry_of}
use Rattle.publisher_hub.specs.Hub.{HubState, Progress, hub_of}
use Rattle.publisher_hub.specs.Sound.{AreLive, IsAccepted, IsCounted, IsEntry, IsSound, MOST_ENTRIES, MOST_LIVE}
use Rattle.publisher_hub.specs.Subscribing.{HasPlace, first_entry_with}
use Rattle.publisher_hub.specs.declared.entry.Entry.{Entry}
use Rattle.publisher_hub.specs.declared.hub.Hub.{Hub}
use Rattle.publisher_hub.specs.declared.policy.OnFull.{OnFull}
use Rattle.publisher_hub.proofs.AnswerLists.Updates.{get_grown}
use Rattle.publisher_hub.proofs.Soundness.Looking.{same_end}

-- nothing stands in an empty list
pub none_in : {X : Type 0} (xs : List X) (i : ℕ) (x : X) → xs ≡ [] → slice_get xs i ≡ Some x → ⊥
none_in xs i x empty at = let e : slice_get [] i ≡ Some x = subst (λ l. slice_get l i ≡ Some x) empty at in cc

-- what stands at the end of a list with another element
pub get_last : {X : Type 0} (xs : List X) (x : X) → slice_get (xs ++ x ∷ []) (length xs) ≡ Some x
get_last [] x = refl
get_last (first ∷ xs) x = get_last xs x

-- what stood in a list stands there still
pub get_first : {X : Type 0} (xs : List X) (x y : X) (i : ℕ) → slice_get xs i ≡ Some y → slice_get (xs ++ x ∷ []) i ≡ Some y
get_first [] x y i at = cc
get_first (first ∷ xs) x y zero at = at
get_first (first ∷ xs) x y (suc i) at = get_first xs x y i at

-- a new subscription has accepted and dropped nothing since it was subscribed
pub entry_added : (p : Progress) (name : List ℕ) (on_full : OnFull) (e : End) (ticket : Option Ticket) → e.accepted ≡ [] → e.capacity ≡ p.capacity
    → ((ending : Ending) → e.closing ≡ Some ending → p.ending ≡ Some ending) → IsEntry p (new_entry p name on_full e ticket)
entry_added p name on_full e ticket empty capacity closed_as = record {
  here = λ _. cc;
  counted = λ f at. subst (λ (end : End). IsCounted p (new_entry p name on_full e ticket) end) (same_end at) (record {
    capacity = capacity;
    ordered = λ i j x y at at' before. absurd (none_in e.accepted i x empty at);
    items = λ i x at. absurd (none_in e.accepted i x empty at);
    count = let none : length e.accepted ≡ 0 = ap length empty in omega arith;
    until = omega arith;
    gone = λ retired. cc;
    closed = λ _. refl;
    closed_as = closed_as;
  });
  drops = omega arith;
}

-- what is accepted with a new subscription was accepted before
pub accepted_before : (entries : List EntryState) (entry : EntryState) (e : End) (x : Item) → entry.feed ≡ Some e → e.accepted ≡ []
    → IsAccepted (entries ++ entry ∷ []) x → IsAccepted entries x
accepted_before entries entry e x feed empty is = by (get_grown entries entry is.number is.entry is.stands) where
  by : (slice_get entries is.number ≡ Some is.entry) ⊎ ((is.number ≡ length entries) × (entry ≡ is.entry)) → IsAccepted entries x
  by (inl before) =
      record { number = is.number; place = is.place; entry = is.entry; feed = is.feed; stands = before; end_of = is.end_of; item = is.item }
  by (inr now) =
      let same : e ≡ is.feed = same_end (sym feed ∙ subst (λ (l : EntryState). l.feed ≡ Some is.feed) (sym now.1) is.end_of) in
      absurd (none_in is.feed.accepted is.place x (subst (λ (end : End). end.accepted ≡ []) same empty) is.item)

-- with its number those that may be live are covered
live_added : (live : List ℕ) (entries : List EntryState) (entry : EntryState) → AreLive live entries
    → AreLive (live ++ length entries ∷ []) (entries ++ entry ∷ [])
live_added live entries entry are = record {
  numbers = record {
    rising = λ i j n m at at' before. rises i j n m before (get_grown live (length entries) i n at) (get_grown live (length entries) j m at');
    within = λ i n at. inside i n (get_grown live (length entries) i n at);
  };
  covers = λ k l at lives. found k l lives (get_grown entries entry k l at);
} where
  rises : (i j n m : ℕ) → i < j → (slice_get live i ≡ Some n) ⊎ ((i ≡ length live) × (length entries ≡ n))
      → (slice_get live j ≡ Some m) ⊎ ((j ≡ length live) × (length entries ≡ m)) → n < m
  rises i j n m before (inl at) (inl at') = are.numbers.rising i j n m at at' before
  rises i j n m before (inl at) (inr last) = let within = are.numbers.within i n at in let e = last.1 in omega arith
  rises i j n m before (inr last) (inl at') = let within = slice_get_within live j m at' in let e = last.0 in absurd (omega arith)
  rises i j n m before (inr last) (inr last') = let e = last.0 in let e' = last'.0 in absurd (omega arith)

  inside : (i n : ℕ) → (slice_get live i ≡ Some n) ⊎ ((i ≡ length live) × (length entries ≡ n)) → n < length (entries ++ entry ∷ [])
  inside i n (inl at) = let within = are.numbers.within i n at in let many = length-append entries (entry ∷ []) in omega arith
  inside i n (inr last) = let e = last.1 in let many = length-append entries (entry ∷ []) in omega arith

  found : (k : ℕ) (l : EntryState) → l.retired ≡ false → (slice_get entries k ≡ Some l) ⊎ ((k ≡ length entries) × (entry ≡ l))
      → (i : ℕ) × (slice_get (live ++ length entries ∷ []) i ≡ Some k)
  found k l lives (inl at) = let before = are.covers k l at lives in (before.0, get_first live (length entries) k before.0 before.1)
  found k l lives (inr last) = (length live, get_last live (length entries) ∙ ap Some (sym last.0))

-- a sound Hub that a subscription is added to stays sound
pub sound_added : (hub : HubState) (name : List ℕ) (on_full : OnFull) (e : End) (ticket : Option Ticket) → e.accepted ≡ [] → e.capacity ≡ hub.progress.capacity
    → ((ending : Ending) → e.closing ≡ Some ending → hub.progress.ending ≡ Some ending)
    → length hub.live < MOST_LIVE → length hub.entries < MOST_ENTRIES → IsSound hub
    → IsSound (hub_with (new_entry hub.progress name on_full e ticket) hub)
sound_added hub name on_full e ticket empty capacity closed_as few_live few_entries sound =
    let entry : EntryState = new_entry hub.progress name on_full e ticket in
    let many_live = length-append hub.live (length hub.entries ∷ []) in
    let many_entries = length-append hub.entries (entry ∷ []) in
    record {
      entries = λ k l at. by k l (get_grown hub.entries entry k l at);
      agreed = λ x y a b same. sound.agreed x y (accepted_before hub.entries entry e x refl empty a) (accepted_before hub.entries entry e y refl empty b) same;
      live = live_added hub.live hub.entries entry sound.live;
      few_live = omega arith;
      few_entries = omega arith;
      few_items = sound.few_items;
      few_drops = sound.few_drops;
      sources = sound.sources;
      all_sources = sound.all_sources;
      few_counts = sound.few_counts;
    } where
      by : (k : ℕ) (l : EntryState)
          → (slice_get hub.entries k ≡ Some l) ⊎ ((k ≡ length hub.entries) × (new_entry hub.progress name on_full e ticket ≡ l))
          → IsEntry hub.progress l
      by k l (inl before) = sound.entries k l before
      by k l (inr now) = subst (λ (entry : EntryState). IsEntry hub.progress entry) now.1 (entry_added hub.progress name on_full e ticket empty capacity closed_as)

-- the same of what is stored
pub sound_grown : {F : Type 0} (meaning : F → End) (hub : Hub F) (entries : List (Entry F)) (live : List ℕ) (name : List ℕ) (on_full : OnFull) (feed : F) (ticket : Option Ticket) → (meaning feed).accepted ≡ []
    → (meaning feed).capacity ≡ hub.capacity → ((ending : Ending) → (meaning feed).closing ≡ Some ending → hub.ending ≡ Some ending) → HasPlace MOST_LIVE hub
    → entries ≡ hub.entries.items ++ first_entry_with name on_full hub.next feed ticket ∷ []
    → live ≡ hub.live.items ++ length hub.entries.items ∷ [] → IsSound (hub_of meaning hub)
    → IsSound (record (hub_of meaning hub) { entries = map (entry_of meaning) entries; live = live })
sound_grown {F} meaning hub entries live name on_full feed ticket empty capacity closed_as place entries_are live_is sound =
    let many : length (map (entry_of meaning) hub.entries.items) ≡ length hub.entries.items =
    length-map hub.entries.items (entry_of meaning) in
    let few_entries = place.few_entries in
    let added = sound_added (hub_of meaning hub) name on_full (meaning feed) ticket empty capacity closed_as place.few_live (omega arith) sound in
    let mapped : map (entry_of meaning) entries ≡ map (entry_of meaning) hub.entries.items ++ new_entry (hub_of meaning hub).progress name on_full (meaning feed) ticket ∷ [] =
    ap (λ (l : List (Entry F)). map (entry_of meaning) l) entries_are
    ∙ map-append (entry_of meaning) hub.entries.items (first_entry_with name on_full hub.next feed ticket ∷ []) in
    let numbered : live ≡ hub.live.items ++ length (map (entry_of meaning) hub.entries.items) ∷ [] =
    live_is ∙ ap (λ n. hub.live.items ++ n ∷ []) (sym many) in
    subst (λ (l : List ℕ). IsSound (record (hub_of meaning hub) { entries = map (entry_of meaning) entries; live = l })) (sym numbered)
    (subst (λ (l : List EntryState). IsSound (record (hub_of meaning hub) { entries = l; live = hub.live.items ++ length (map (entry_of meaning) hub.entries.items) ∷ [] })) (sym mapped) added)
