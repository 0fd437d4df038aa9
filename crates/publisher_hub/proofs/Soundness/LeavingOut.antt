-- A sound Hub stays sound if the numbers of retired subscriptions are left out of those that may be live.
use Rattle.std.proofs.Common.{◌≡◌, ℕ, zero, suc, ◌<◌, ◌≤◌, Bool, true, false, not, cond, Option, None, Some, List, [], ◌∷◌, length, filter, refl, ap, sym, subst, ◌∙◌, arith}
use Rattle.std.specs.Prelude.{slice_get}
use Rattle.std.proofs.lemmas.List.Filters.{length-filter_both}
use Rattle.publisher_hub.specs.Adding.{AreAllLive, goes_on, live_of}
use Rattle.publisher_hub.specs.Entry.{EntryState}
use Rattle.publisher_hub.specs.Hub.{HubState}
use Rattle.publisher_hub.specs.Sound.{AreLive, IsSound}

-- numbers rise
abbrev IsRising : List ℕ → Type 0
IsRising ns = (i j n m : ℕ) → slice_get ns i ≡ Some n → slice_get ns j ≡ Some m → i < j → n < m

-- what stands in a filtered list stood in the list, and passed
pub filtered_from : (p : ℕ → Bool) (ns : List ℕ) (i n : ℕ) → slice_get (filter p ns) i ≡ Some n
    → (j : ℕ) × ((slice_get ns j ≡ Some n) × (p n ≡ true))
filtered_from p [] i n at = cc
filtered_from p (m ∷ ns) i n at = by (p m) refl at (λ i' at'. filtered_from p ns i' n at') where
  first : (k : ℕ) → p m ≡ true → slice_get (m ∷ filter p ns) k ≡ Some n
      → ((i' : ℕ) → slice_get (filter p ns) i' ≡ Some n → (j : ℕ) × ((slice_get ns j ≡ Some n) × (p n ≡ true)))
      → (j : ℕ) × ((slice_get (m ∷ ns) j ≡ Some n) × (p n ≡ true))
  first zero passes at later = let same : m ≡ n = cc in (0, (at, subst (λ x. p x ≡ true) same passes))
  first (suc k) passes at later = let found = later k at in (suc found.0, found.1)

  by : (b : Bool) → p m ≡ b → slice_get (cond b (m ∷ filter p ns) (filter p ns)) i ≡ Some n
      → ((i' : ℕ) → slice_get (filter p ns) i' ≡ Some n → (j : ℕ) × ((slice_get ns j ≡ Some n) × (p n ≡ true)))
      → (j : ℕ) × ((slice_get (m ∷ ns) j ≡ Some n) × (p n ≡ true))
  by true passes at later = first i passes at later
  by false fails at later = let found = later i at in (suc found.0, found.1)

-- what stood in a list and passes stands in the filtered list
pub filtered_to : (p : ℕ → Bool) (ns : List ℕ) (j n : ℕ) → slice_get ns j ≡ Some n → p n ≡ true
    → (i : ℕ) × (slice_get (filter p ns) i ≡ Some n)
filtered_to p [] j n at passes = cc
filtered_to p (m ∷ ns) zero n at passes =
    let same : m ≡ n = cc in
    let is : p m ≡ true = subst (λ x. p x ≡ true) (sym same) passes in
    (0, ap (λ b. slice_get (cond b (m ∷ filter p ns) (filter p ns)) 0) is ∙ ap Some same)
filtered_to p (m ∷ ns) (suc j) n at passes = by (p m) (filtered_to p ns j n at passes) where
  by : (b : Bool) → (i : ℕ) × (slice_get (filter p ns) i ≡ Some n)
      → (i : ℕ) × (slice_get (cond b (m ∷ filter p ns) (filter p ns)) i ≡ Some n)
  by true found = (suc found.0, found.1)
  by false found = found

-- a filtered list rises if the list does
rising_filter : (p : ℕ → Bool) (ns : List ℕ) → IsRising ns → IsRising (filter p ns)
rising_filter p [] rises = λ i j n m at at' before. cc
rising_filter p (first ∷ ns) rises =
    by (p first) (rising_filter p ns (λ i j n m at at' before. rises (suc i) (suc j) n m at at' (omega arith))) where
      here : (i j n m : ℕ) → IsRising (filter p ns) → slice_get (first ∷ filter p ns) i ≡ Some n → slice_get (first ∷ filter p ns) j ≡ Some m
          → i < j → n < m
      here zero zero n m later at at' before = absurd (omega arith)
      here zero (suc j) n m later at at' before =
          let found = filtered_from p ns j m at' in
          rises 0 (suc found.0) n m at found.1.0 (omega arith)
      here (suc i) zero n m later at at' before = absurd (omega arith)
      here (suc i) (suc j) n m later at at' before = later i j n m at at' (omega arith)

      by : (b : Bool) → IsRising (filter p ns) → IsRising (cond b (first ∷ filter p ns) (filter p ns))
      by true later = λ i j n m at at' before. here i j n m later at at' before
      by false later = later

-- a filtered list is no longer than the list
pub filter_shorter : (p : ℕ → Bool) (ns : List ℕ) → length (filter p ns) ≤ length ns
filter_shorter p ns = let both = length-filter_both p (λ n. not (p n)) (λ n. refl) ns in omega arith

-- a subscription that goes on is there, and isn't retired
pub going_on : (entries : List EntryState) (n : ℕ) → goes_on entries n ≡ true
    → (entry : EntryState) × ((slice_get entries n ≡ Some entry) × (entry.retired ≡ false))
going_on entries n goes = by (slice_get entries n) refl goes where
  live : (entry : EntryState) (retired : Bool) → entry.retired ≡ retired → slice_get entries n ≡ Some entry → goes_on entries n ≡ true
      → (entry : EntryState) × ((slice_get entries n ≡ Some entry) × (entry.retired ≡ false))
  live entry true is at goes = let e : false ≡ true = sym (rw (at, is) refl) ∙ goes in cc
  live entry false is at goes = (entry, (at, is))

  by : (at : Option EntryState) → slice_get entries n ≡ at → goes_on entries n ≡ true
      → (entry : EntryState) × ((slice_get entries n ≡ Some entry) × (entry.retired ≡ false))
  by None at goes = let e : false ≡ true = sym (rw at refl) ∙ goes in cc
  by (Some entry) at goes = live entry entry.retired refl at goes

-- a subscription that is there and isn't retired goes on
pub goes_on_there : (entries : List EntryState) (n : ℕ) (entry : EntryState) → slice_get entries n ≡ Some entry → entry.retired ≡ false
    → goes_on entries n ≡ true
goes_on_there entries n entry at live = rw (at, live) refl

-- what is left are the numbers of all that aren't retired, and of no others
pub all_live_left : (live : List ℕ) (entries : List EntryState) → AreLive live entries → AreAllLive (live_of entries live) entries
all_live_left live entries are = record {
  are = record {
    numbers = record {
      rising = rising_filter (goes_on entries) live are.numbers.rising;
      within = λ i n at. let found = filtered_from (goes_on entries) live i n at in are.numbers.within found.0 n found.1.0;
    };
    covers = λ k entry at lives.
        let found = are.covers k entry at lives in
        filtered_to (goes_on entries) live found.0 k found.1 (goes_on_there entries k entry at lives);
  };
  only = λ i n at. let found = filtered_from (goes_on entries) live i n at in going_on entries n found.1.1;
}

-- a sound Hub stays sound if they are left out
pub sound_left : (hub : HubState) → IsSound hub → IsSound (record hub { live = live_of hub.entries hub.live })
sound_left hub sound =
    let left = all_live_left hub.live hub.entries sound.live in
    let shorter = filter_shorter (goes_on hub.entries) hub.live in
    let few_live = sound.few_live in
    record {
      entries = sound.entries;
      agreed = sound.agreed;
      live = left.are;
      few_live = omega arith;
      few_entries = sound.few_entries;
      few_items = sound.few_items;
      few_drops = sound.few_drops;
      sources = sound.sources;
      all_sources = sound.all_sources;
      few_counts = sound.few_counts;
    }
