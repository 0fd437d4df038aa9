-- How many subscriptions of a publisher are live, by the numbers that it keeps of them.
use Rattle.std.proofs.Common.{◌≡◌, ℕ, zero, suc, ◌+◌, ◌<◌, Bool, true, false, not, if◌then◌else◌, Some, List, [], ◌∷◌, length, map, refl, sym, ap, ◌∙◌, arith}
use Rattle.std.specs.Prelude.{slice_get, count_by}
use Rattle.std.proofs.lemmas.List.Sums.{sum_by-cons}
use Rattle.feed_core.specs.Feed.{end_of}
use Rattle.publisher_hub.specs.Adding.{AreAllLive}
use Rattle.publisher_hub.specs.Entry.{EntryState, entry_of}
use Rattle.publisher_hub.specs.Hub.{hub_of}
use Rattle.publisher_hub.specs.declared.entry.Entry.{Entry}
use Rattle.publisher_hub.specs.declared.hub.Hub.{Hub}
use Rattle.publisher_hub.proofs.PartialRounds.Next.{get_mapped, get_before_map}
use Rattle.publisher_hub.proofs.PartialRounds.Progress.{same_some}
use Rattle.lines_demo.specs.Prelude.{DeskState}
use Rattle.lines_demo.specs.Script.Session.{subscription_of}
use Rattle.lines_demo.specs.Script.Waking.{is_live}

-- something stands at this place, and passes the test
pub record Passes {A : Type 0} (test : A → Bool) (xs : List A) (place : ℕ) : Type 0 where
  pub one : A
  pub stands : slice_get xs place ≡ Some one
  pub passes : test one ≡ true

-- the numbers, from this one on, of the places that pass the test, rising
pub record ArePlaces {A : Type 0} (test : A → Bool) (first : ℕ) (xs : List A) (numbers : List ℕ) : Type 0 where
  pub rising : (i j n m : ℕ) → slice_get numbers i ≡ Some n → slice_get numbers j ≡ Some m → i < j → n < m
  pub only : (i n : ℕ) → slice_get numbers i ≡ Some n → (place : ℕ) × ((n ≡ first + place) × Passes test xs place)
  pub all : (place : ℕ) → Passes test xs place → (i : ℕ) × (slice_get numbers i ≡ Some (first + place))

-- the later places, if the first does not pass
places_without : {A : Type 0} (test : A → Bool) (first : ℕ) (x : A) (xs : List A) (numbers : List ℕ) → test x ≡ false
    → ArePlaces test first (x ∷ xs) numbers → ArePlaces test (first + 1) xs numbers
places_without {A} test first x xs numbers fails are = record {
  rising = are.rising;
  only = λ i n at. let found = are.only i n at in later n found.0 found.1.0 found.1.1;
  all = λ place passes.
      let found = are.all (suc place) (record { one = passes.one; stands = passes.stands; passes = passes.passes }) in
      (found.0, found.1 ∙ ap Some (omega arith));
} where
  later : (n place : ℕ) → n ≡ first + place → Passes test (x ∷ xs) place → (k : ℕ) × ((n ≡ first + 1 + k) × Passes test xs k)
  later n zero is passes =
      let same : x ≡ passes.one = same_some passes.stands in
      let e : false ≡ true = sym fails ∙ ap test same ∙ passes.passes in
      cc
  later n (suc k) is passes = (k, (omega arith, record { one = passes.one; stands = passes.stands; passes = passes.passes }))

-- the first number is that of the first place, if that passes
first_number : {A : Type 0} (test : A → Bool) (first : ℕ) (x : A) (xs : List A) (n : ℕ) (numbers : List ℕ) → test x ≡ true
    → ArePlaces test first (x ∷ xs) (n ∷ numbers) → n ≡ first
first_number test first x xs n numbers holds are =
    let found = are.all 0 (record { one = x; stands = refl; passes = holds }) in
    let back = are.only 0 n refl in
    let above : n ≡ first + back.0 = back.1.0 in
    by found.0 found.1 where
      by : (i : ℕ) → slice_get (n ∷ numbers) i ≡ Some (first + 0) → n ≡ first
      by zero at = let e : n ≡ first + 0 = same_some at in omega arith
      by (suc i) at =
          let less : n < first + 0 = are.rising 0 (suc i) n (first + 0) refl at (omega arith) in
          let back = are.only 0 n refl in
          let above : n ≡ first + back.0 = back.1.0 in
          absurd (omega arith)

-- the later places, if the first passes
places_after : {A : Type 0} (test : A → Bool) (first : ℕ) (x : A) (xs : List A) (n : ℕ) (numbers : List ℕ) → test x ≡ true
    → ArePlaces test first (x ∷ xs) (n ∷ numbers) → ArePlaces test (first + 1) xs numbers
places_after test first x xs n numbers holds are = record {
  rising = λ i j a b at at' before. are.rising (suc i) (suc j) a b at at' (omega arith);
  only = λ i m at. let found = are.only (suc i) m at in
      later m found.0 (are.rising 0 (suc i) n m refl at (omega arith)) found.1.0 found.1.1;
  all = λ place passes.
      let found = are.all (suc place) (record { one = passes.one; stands = passes.stands; passes = passes.passes }) in
      there place found.0 found.1;
} where
  is_first : n ≡ first
  is_first = first_number test first x xs n numbers holds are

  later : (m place : ℕ) → n < m → m ≡ first + place → Passes test (x ∷ xs) place → (k : ℕ) × ((m ≡ first + 1 + k) × Passes test xs k)
  later m zero above is passes = let e = is_first in absurd (omega arith)
  later m (suc k) above is passes = (k, (omega arith, record { one = passes.one; stands = passes.stands; passes = passes.passes }))

  there : (place i : ℕ) → slice_get (n ∷ numbers) i ≡ Some (first + suc place) → (j : ℕ) × (slice_get numbers j ≡ Some (first + 1 + place))
  there place zero at = let same : n ≡ first + suc place = same_some at in let e = is_first in absurd (omega arith)
  there place (suc j) at = (j, at ∙ ap Some (omega arith))

-- there are as many such numbers as places that pass
pub many_places : {A : Type 0} (test : A → Bool) (first : ℕ) (xs : List A) (numbers : List ℕ) → ArePlaces test first xs numbers
    → length numbers ≡ count_by test xs
many_places test first [] [] are = refl
many_places test first [] (n ∷ numbers) are = let found = are.only 0 n refl in let at = found.1.1.stands in cc
many_places test first (x ∷ xs) numbers are = by (test x) refl numbers are (λ others. many_places test (first + 1) xs others) where
  count : (holds : Bool) → test x ≡ holds → count_by test (x ∷ xs) ≡ (if holds then 1 else 0) + count_by test xs
  count holds e = sum_by-cons (λ t. if test t then 1 else 0) x xs ∙ ap (λ b. (if b then 1 else 0) + count_by test xs) e

  by : (holds : Bool) → test x ≡ holds → (numbers : List ℕ) → ArePlaces test first (x ∷ xs) numbers
      → ((others : List ℕ) → ArePlaces test (first + 1) xs others → length others ≡ count_by test xs)
      → length numbers ≡ count_by test (x ∷ xs)
  by false e numbers are later =
      let rest = later numbers (places_without test first x xs numbers e are) in
      let one = count false e in
      omega (arith, rest, one)
  by true e [] are later = let found = are.all 0 (record { one = x; stands = refl; passes = e }) in let at = found.1 in cc
  by true e (n ∷ numbers) are later =
      let rest = later numbers (places_after test first x xs n numbers e are) in
      let one = count true e in
      omega (arith, rest, one)

-- what a test says is not so is not so
not_true : (b : Bool) → not b ≡ false → b ≡ true
not_true true e = refl
not_true false e = cc

-- if a publisher has looked at all its subscriptions, those that are live are those whose numbers it keeps
pub live_count : (hub : Hub DeskState)
    → ((k : ℕ) (entry : Entry DeskState) → slice_get hub.entries.items k ≡ Some entry → entry.retired ≡ not (is_live (subscription_of entry)))
    → AreAllLive hub.live.items (hub_of end_of hub).entries → length hub.live.items ≡ count_by is_live (map subscription_of hub.entries.items)
live_count hub retired all = many_places is_live 0 (map subscription_of hub.entries.items) hub.live.items (record {
  rising = all.are.numbers.rising;
  only = λ i n at. let found = all.only i n at in live_at n found.0 found.1.0 found.1.1;
  all = λ place passes. let found = listed place passes in (found.0, found.1 ∙ ap Some (omega arith));
}) where
  live_at : (n : ℕ) (state : EntryState) → slice_get (map (entry_of end_of) hub.entries.items) n ≡ Some state → state.retired ≡ false
      → (place : ℕ) × ((n ≡ 0 + place) × Passes is_live (map subscription_of hub.entries.items) place)
  live_at n state at lives =
      let found = get_before_map (entry_of end_of) hub.entries.items n state at in
      let raw = found.0 in
      let same : raw.retired ≡ false = ap (λ (e : EntryState). e.retired) found.1.1 ∙ lives in (
        n,
        (
          omega arith,
          record {
            one = subscription_of raw;
            stands = get_mapped subscription_of hub.entries.items n raw found.1.0;
            passes = not_true (is_live (subscription_of raw)) (sym (retired n raw found.1.0) ∙ same);
          },
        ),
      )

  listed : (place : ℕ) → Passes is_live (map subscription_of hub.entries.items) place → (i : ℕ) × (slice_get hub.live.items i ≡ Some place)
  listed place passes =
      let found = get_before_map subscription_of hub.entries.items place passes.one passes.stands in
      let raw = found.0 in
      let live : is_live (subscription_of raw) ≡ true = ap is_live found.1.1 ∙ passes.passes in
      all.are.covers place (entry_of end_of raw) (get_mapped (entry_of end_of) hub.entries.items place raw found.1.0) (retired place raw found.1.0 ∙ ap not live)
