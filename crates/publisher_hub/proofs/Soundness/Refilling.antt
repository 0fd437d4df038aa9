-- A sound Hub stays sound if a subscription is put into the place of one whose producer's end was taken out.
use Rattle.std.proofs.Common.{◌≡◌, ◌⊎◌, ℕ, zero, suc, ◌<◌, ◌≤◌, false, Option, None, Some, option_map, List, [], ◌∷◌, length, map, set, insert, refl, ap, sym, subst, ◌∙◌, inl, inr, arith}
use Rattle.std.specs.Prelude.{IsSome, slice_get}
use Rattle.std.proofs.lemmas.List.{length-set, map-set}
use Rattle.std.proofs.lemmas.List.Edits.{length-insert}
use Rattle.std.proofs.lemmas.Option.{slice_get_within}
use Rattle.close_count.specs.declared.ticket.Ticket.{Ticket}
use Rattle.flow_rules.specs.Feed.{End}
use Rattle.flow_rules.specs.declared.ending.Ending.{Ending}
use Rattle.flow_rules.specs.declared.item.Item.{Item}
use Rattle.publisher_hub.specs.Adding.{AreAllLive, new_entry}
use Rattle.publisher_hub.specs.Entry.{EntryState, entry_of}
use Rattle.publisher_hub.specs.Hub.{HubState, hub_of}
use Rattle.publisher_hub.specs.Sound.{AreLive, IsAccepted, IsEntry, IsSound, MOST_ENTRIES, MOST_LIVE}
use Rattle.publisher_hub.specs.Subscribing.{HasPlace, first_entry_with}
use Rattle.publisher_hub.specs.Vacant.{IsVacant}
use Rattle.publisher_hub.specs.declared.entry.Entry.{Entry}
use Rattle.publisher_hub.specs.declared.hub.Hub.{Hub}
use Rattle.publisher_hub.specs.declared.policy.OnFull.{OnFull}
use Rattle.publisher_hub.proofs.PartialRounds.Next.{get_mapped}
use Rattle.publisher_hub.proofs.PartialRounds.Progress.{same_some}
use Rattle.publisher_hub.proofs.Soundness.Adding.{entry_added, none_in}
use Rattle.publisher_hub.proofs.Soundness.Looking.{same_end}
use Rattle.publisher_hub.proofs.Soundness.Replacing.{set_or_stood}

-- where something stands in a list that an element was put into: before that, there, or after that
abbrev WhereIn : List ℕ → ℕ → ℕ → ℕ → ℕ → Type 0
WhereIn xs rank x i y = ((i < rank) × (slice_get xs i ≡ Some y))
    ⊎ (((i ≡ rank) × (x ≡ y)) ⊎ ((j : ℕ) × ((i ≡ suc j) × ((rank ≤ j) × (slice_get xs j ≡ Some y)))))

get_inserted : (xs : List ℕ) (rank x i y : ℕ) → rank ≤ length xs → slice_get (insert xs rank x) i ≡ Some y → WhereIn xs rank x i y
get_inserted xs zero x zero y within at = inr (inl (refl, same_some at))
get_inserted xs zero x (suc i) y within at = inr (inr (i, (refl, (omega arith, at))))
get_inserted [] (suc rank) x i y within at = absurd (omega arith)
get_inserted (first ∷ xs) (suc rank) x zero y within at = inl (omega arith, at)
get_inserted (first ∷ xs) (suc rank) x (suc i) y within at = by (get_inserted xs rank x i y (omega arith) at) where
  by : WhereIn xs rank x i y → WhereIn (first ∷ xs) (suc rank) x (suc i) y
  by (inl before) = let low = before.0 in inl (omega arith, before.1)
  by (inr (inl this)) = inr (inl (ap suc this.0, this.1))
  by (inr (inr (j, (is, (after, stands))))) = inr (inr (suc j, (ap suc is, (omega arith, stands))))

-- what was put in stands there, and what stood in the list stands there still
inserted : (xs : List ℕ) (rank x : ℕ) → rank ≤ length xs → slice_get (insert xs rank x) rank ≡ Some x
inserted xs zero x within = refl
inserted [] (suc rank) x within = absurd (omega arith)
inserted (first ∷ xs) (suc rank) x within = inserted xs rank x (omega arith)

stands_still : (xs : List ℕ) (rank x i y : ℕ) → rank ≤ length xs → slice_get xs i ≡ Some y → (j : ℕ) × (slice_get (insert xs rank x) j ≡ Some y)
stands_still xs zero x i y within at = (suc i, at)
stands_still [] (suc rank) x i y within at = cc
stands_still (first ∷ xs) (suc rank) x zero y within at = (zero, at)
stands_still (first ∷ xs) (suc rank) x (suc i) y within at = let now = stands_still xs rank x i y (omega arith) at in (suc now.0, now.1)

-- a number that isn't among rising ones, put behind those that are smaller: they rise
module _ (live : List ℕ) (rank place : ℕ) (entries : List EntryState) (new : EntryState) (are : AreLive live entries) (within : rank ≤ length live) (there : place < length entries)
    (below : (i n : ℕ) → slice_get live i ≡ Some n → i < rank → n < place)
    (above : (i n : ℕ) → slice_get live i ≡ Some n → rank ≤ i → place < n) where
  rises : (i j n m : ℕ) → i < j → WhereIn live rank place i n → WhereIn live rank place j m → n < m
  rises i j n m before (inl (low, at)) (inl (low', at')) = are.numbers.rising i j n m at at' before
  rises i j n m before (inl (low, at)) (inr (inl (is, same))) = let lower = below i n at low in omega arith
  rises i j n m before (inl (low, at)) (inr (inr (k, (is, (after, at'))))) = are.numbers.rising i k n m at at' (omega arith)
  rises i j n m before (inr (inl (is, same))) (inl (low, at')) = absurd (omega arith)
  rises i j n m before (inr (inl (is, same))) (inr (inl (is', same'))) = absurd (omega arith)
  rises i j n m before (inr (inl (is, same))) (inr (inr (k, (is', (after, at'))))) = let higher = above k m at' after in omega arith
  rises i j n m before (inr (inr (k, (is, (after, at))))) (inl (low, at')) = absurd (omega arith)
  rises i j n m before (inr (inr (k, (is, (after, at))))) (inr (inl (is', same))) = absurd (omega arith)
  rises i j n m before (inr (inr (k, (is, (after, at))))) (inr (inr (k', (is', (after', at'))))) =
      are.numbers.rising k k' n m at at' (omega arith)

  inside : (i n : ℕ) → WhereIn live rank place i n → n < length entries
  inside i n (inl (low, at)) = are.numbers.within i n at
  inside i n (inr (inl (is, same))) = omega arith
  inside i n (inr (inr (k, (is, (after, at))))) = are.numbers.within k n at

  found : (k : ℕ) (entry : EntryState) → entry.retired ≡ false → ((place ≡ k) × (new ≡ entry)) ⊎ (slice_get entries k ≡ Some entry)
      → (i : ℕ) × (slice_get (insert live rank place) i ≡ Some k)
  found k entry lives (inl (is, same)) = (rank, inserted live rank place within ∙ ap Some is)
  found k entry lives (inr at) = let before = are.covers k entry at lives in stands_still live rank place before.0 k within before.1

  live_refilled : AreLive (insert live rank place) (set entries place new)
  live_refilled = record {
    numbers = record {
      rising = λ i j n m at at' before. rises i j n m before (get_inserted live rank place i n within at) (get_inserted live rank place j m within at');
      within = λ i n at. subst (λ many. n < many) (sym (length-set entries place new)) (inside i n (get_inserted live rank place i n within at));
    };
    covers = λ k entry at lives. found k entry lives (set_or_stood entries place new k entry at);
  }

-- what is accepted with a new subscription in that place was accepted before
accepted_without : (entries : List EntryState) (place : ℕ) (entry : EntryState) (e : End) (x : Item) → entry.feed ≡ Some e → e.accepted ≡ []
    → IsAccepted (set entries place entry) x → IsAccepted entries x
accepted_without entries place entry e x feed empty is = by (set_or_stood entries place entry is.number is.entry is.stands) where
  by : ((place ≡ is.number) × (entry ≡ is.entry)) ⊎ (slice_get entries is.number ≡ Some is.entry) → IsAccepted entries x
  by (inl now) =
      let same : e ≡ is.feed = same_end (sym feed ∙ subst (λ (l : EntryState). l.feed ≡ Some is.feed) (sym now.1) is.end_of) in
      absurd (none_in is.feed.accepted is.place x (subst (λ (end : End). end.accepted ≡ []) same empty) is.item)
  by (inr before) =
      record { number = is.number; place = is.place; entry = is.entry; feed = is.feed; stands = before; end_of = is.end_of; item = is.item }

-- the number of a subscription without its producer's end is not that of a live one
not_live : (hub : HubState) (place : ℕ) (old : EntryState) → IsSound hub → AreAllLive hub.live hub.entries
    → slice_get hub.entries place ≡ Some old → old.feed ≡ None → (i : ℕ) → slice_get hub.live i ≡ Some place → ⊥
not_live hub place old sound all stood none i at =
    let lives = all.only i place at in
    let same : old ≡ lives.0 = same_some (sym stood ∙ lives.1.0) in
    let here : IsSome old.feed = (sound.entries place old stood).here (ap (λ (e : EntryState). e.retired) same ∙ lives.1.1) in
    let never : IsSome {T = End} None = subst (λ feed. IsSome feed) none here in cc

-- a sound Hub stays sound
sound_put : (hub : HubState) (place rank : ℕ) (old : EntryState) (name : List ℕ) (on_full : OnFull) (e : End) (ticket : Option Ticket)
    → IsSound hub → AreAllLive hub.live hub.entries → slice_get hub.entries place ≡ Some old → old.feed ≡ None
    → e.accepted ≡ [] → e.capacity ≡ hub.progress.capacity → ((ending : Ending) → e.closing ≡ Some ending → hub.progress.ending ≡ Some ending) → length hub.live < MOST_LIVE
    → rank ≤ length hub.live
    → ((i n : ℕ) → slice_get hub.live i ≡ Some n → i < rank → n < place)
    → ((i n : ℕ) → slice_get hub.live i ≡ Some n → rank ≤ i → place ≤ n)
    → IsSound (record hub { entries = set hub.entries place (new_entry hub.progress name on_full e ticket); live = insert hub.live rank place })
sound_put hub place rank old name on_full e ticket sound all stood none empty capacity closed_as few within below above =
    let entry : EntryState = new_entry hub.progress name on_full e ticket in
    let many_live = length-insert hub.live rank place within in
    record {
      entries = λ k l at. by k l (set_or_stood hub.entries place entry k l at);
      agreed = λ x y a b same. sound.agreed x y (accepted_without hub.entries place entry e x refl empty a) (accepted_without hub.entries place entry e y refl empty b) same;
      live = live_refilled hub.live rank place hub.entries entry sound.live within (slice_get_within hub.entries place old stood) below beyond;
      few_live = omega arith;
      few_entries = subst (λ many. many ≤ MOST_ENTRIES) (sym (length-set hub.entries place entry)) sound.few_entries;
      few_items = sound.few_items;
      few_drops = sound.few_drops;
      sources = sound.sources;
      all_sources = sound.all_sources;
      few_counts = sound.few_counts;
    } where
      by : (k : ℕ) (l : EntryState)
          → ((place ≡ k) × (new_entry hub.progress name on_full e ticket ≡ l)) ⊎ (slice_get hub.entries k ≡ Some l)
          → IsEntry hub.progress l
      by k l (inl now) = subst (λ (entry : EntryState). IsEntry hub.progress entry) now.1 (entry_added hub.progress name on_full e ticket empty capacity closed_as)
      by k l (inr before) = sound.entries k l before

      other : (i n : ℕ) → slice_get hub.live i ≡ Some n → place ≡ n → ⊥
      other i n at same = not_live hub place old sound all stood none i (subst (λ m. slice_get hub.live i ≡ Some m) (sym same) at)

      beyond : (i n : ℕ) → slice_get hub.live i ≡ Some n → rank ≤ i → place < n
      beyond i n at after = let no_less = above i n at after in let differs = other i n at in omega arith

-- the same of what is stored
pub sound_refilled : {F : Type 0} (meaning : F → End) (hub : Hub F) (place rank : ℕ) (name : List ℕ) (on_full : OnFull) (feed : F) (ticket : Option Ticket) (entry : Entry F) (live : List ℕ)
    → IsSound (hub_of meaning hub) → AreAllLive hub.live.items (hub_of meaning hub).entries → IsVacant place hub.entries.items
    → (meaning feed).accepted ≡ [] → (meaning feed).capacity ≡ hub.capacity → ((ending : Ending) → (meaning feed).closing ≡ Some ending → hub.ending ≡ Some ending)
    → HasPlace MOST_LIVE hub → entry ≡ first_entry_with name on_full hub.next feed ticket → rank ≤ length hub.live.items
    → ((i n : ℕ) → slice_get hub.live.items i ≡ Some n → i < rank → n < place)
    → ((i n : ℕ) → slice_get hub.live.items i ≡ Some n → rank ≤ i → place ≤ n)
    → live ≡ insert hub.live.items rank place
    → IsSound (record (hub_of meaning hub) { entries = map (entry_of meaning) (set hub.entries.items place entry); live = live })
sound_refilled {F} meaning hub place rank name on_full feed ticket entry live sound all (old, (stood, (none, spent))) empty capacity closed_as has_place is within below above live_is =
    let put = sound_put (hub_of meaning hub) place rank (entry_of meaning old) name on_full (meaning feed) ticket sound all (get_mapped (entry_of meaning) hub.entries.items place old stood)
    (ap (λ feed. option_map meaning feed) none) empty capacity closed_as has_place.few_live within below above in
    let mapped : map (entry_of meaning) (set hub.entries.items place entry) ≡ set (hub_of meaning hub).entries place (entry_of meaning (first_entry_with name on_full hub.next feed ticket)) =
    ap (λ (l : Entry F). map (entry_of meaning) (set hub.entries.items place l)) is
    ∙ map-set (entry_of meaning) hub.entries.items place (first_entry_with name on_full hub.next feed ticket) in
    subst (λ (l : List ℕ). IsSound (record (hub_of meaning hub) { entries = map (entry_of meaning) (set hub.entries.items place entry); live = l })) (sym live_is)
    (subst (λ (l : List EntryState). IsSound (record (hub_of meaning hub) { entries = l; live = insert hub.live.items rank place })) (sym mapped) put)
