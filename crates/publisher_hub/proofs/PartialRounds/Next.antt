-- A step of a round over the live subscriptions: which subscription is next, and what is known of it.
use Rattle.std.proofs.Common.{◌≡◌, ℕ, ◌<◌, zero, suc, true, false, Bool, Some, List, [], ◌∷◌, length, map, refl, ap, sym, subst, ◌∙◌, arith, slice_index_or}
use Rattle.std.specs.Prelude.{slice_get}
use Rattle.std.proofs.lemmas.List.{length-map}
use Rattle.std.proofs.lemmas.Option.{slice_get-get_or, slice_get_within}
use Rattle.flow_rules.specs.Feed.{End}
use Rattle.publisher_hub.specs.Entry.{EntryState, entry_of}
use Rattle.publisher_hub.specs.Lists.{EachBy}
use Rattle.publisher_hub.specs.Sound.{AreLive, AreNumbers}
use Rattle.publisher_hub.specs.declared.entry.Entry.{Entry}
use Rattle.publisher_hub.proofs.PartialRounds.Progress.{IsAmong, Upto, next_is_other, upto_each}

-- the next number
pub number_at : (live : List ℕ) (n : ℕ) → n < length live → slice_get live n ≡ Some (slice_index_or live n 0)
number_at live n within = slice_get-get_or live n 0 within

-- what stands at a place of a list that was mapped
pub get_mapped : {A B : Type 0} (f : A → B) (xs : List A) (k : ℕ) (x : A) → slice_get xs k ≡ Some x → slice_get (map f xs) k ≡ Some (f x)
get_mapped f [] k x at = cc
get_mapped f (first ∷ xs) zero x at = cc
get_mapped f (first ∷ xs) (suc k) x at = get_mapped f xs k x at

-- what stands at a place of a mapped list was mapped from what stands there
pub get_before_map : {A B : Type 0} (f : A → B) (xs : List A) (k : ℕ) (y : B) → slice_get (map f xs) k ≡ Some y
    → (x : A) × ((slice_get xs k ≡ Some x) × (f x ≡ y))
get_before_map f [] k y at = cc
get_before_map f (first ∷ xs) zero y at = (first, (refl, cc))
get_before_map f (first ∷ xs) (suc k) y at = get_before_map f xs k y at

-- the numbers of those that may be live are those of these entries
pub numbers_of : {F : Type 0} (meaning : F → End) (live : List ℕ) (xs : List (Entry F)) → AreLive live (map (entry_of meaning) xs)
    → AreNumbers live (length xs)
numbers_of meaning live xs are = subst (λ many. AreNumbers live many) (length-map xs (entry_of meaning)) are.numbers

-- a subscription whose number isn't among those that may be live is retired
pub others_retired : {F : Type 0} (meaning : F → End) (live : List ℕ) (xs : List (Entry F)) (k : ℕ) (x : Entry F)
    → AreLive live (map (entry_of meaning) xs) → slice_get xs k ≡ Some x
    → (IsAmong live (length live) k → ⊥) → x.retired ≡ true
others_retired meaning live xs k x are at other = by x.retired refl where
  by : (retired : Bool) → x.retired ≡ retired → retired ≡ true
  by true e = refl
  by false e = let found = are.covers k (entry_of meaning x) (get_mapped (entry_of meaning) xs k x at) e in
      absurd (other (found.0, (slice_get_within live found.0 k found.1, found.1)))

module _ {B F : Type 0} (R : B → Entry F → Entry F → Type 0) (quiet : B) (live : List ℕ) (n : ℕ) (answers : List B) (xs ys : List (Entry F))
    (numbers : AreNumbers live (length xs)) (within : n < length live) (upto : Upto R quiet live n answers xs ys) where
  -- the next number is that of an entry
  pub number_within : slice_index_or live n 0 < length ys
  number_within = let is = numbers.within n (slice_index_or live n 0) (number_at live n within) in let long = upto.as_long in omega arith

  -- the next subscription is as it was
  pub next_stood : (d : Entry F) → slice_get xs (slice_index_or live n 0) ≡ Some (slice_index_or ys (slice_index_or live n 0) d)
  next_stood d =
      sym (upto.rest (slice_index_or live n 0) (next_is_other live (length xs) n (slice_index_or live n 0) numbers (number_at live n within)))
      ∙ slice_get-get_or ys (slice_index_or live n 0) d number_within

-- the number that was read at a place of a list
pub number_read : (numbers now : List ℕ) (place k : ℕ) → now ≡ numbers → place < length numbers → k ≡ slice_index_or now place k
    → slice_get numbers place ≡ Some k
number_read numbers now place k same within read = slice_get-get_or numbers place k within
    ∙ ap Some (sym (read ∙ ap (λ ns. slice_index_or ns place k) same))

module _ {B F : Type 0} (R : B → Entry F → Entry F → Type 0) (quiet : B) (numbers : List ℕ) (n k : ℕ) (answers : List B) (xs ys : List (Entry F))
    (are : AreNumbers numbers (length xs)) (at : slice_get numbers n ≡ Some k) (upto : Upto R quiet numbers n answers xs ys) where
  -- the same, by the number
  pub within_now : k < length ys
  within_now = let is = are.within n k at in let long = upto.as_long in omega arith

  pub stood_at_number : (d : Entry F) → slice_get xs k ≡ Some (slice_index_or ys k d)
  stood_at_number d = sym (upto.rest k (next_is_other numbers (length xs) n k are at)) ∙ slice_get-get_or ys k d within_now

module _ {F : Type 0} (meaning : F → End) (live : List ℕ) (xs : List (Entry F)) (are : AreLive live (map (entry_of meaning) xs)) (n : ℕ) where
  -- the next number is that of a subscription
  pub number_inside : n < length live → slice_index_or live n 0 < length xs
  number_inside within = (numbers_of meaning live xs are).within n (slice_index_or live n 0) (number_at live n within)

  module _ {B : Type 0} (R : B → Entry F → Entry F → Type 0) (quiet : B) (answers : List B) (ys : List (Entry F)) (upto : Upto R quiet live n answers xs ys) where
    -- the next subscription is as it was
    pub stood_next : n < length live → (d : Entry F)
        → slice_get xs (slice_index_or live n 0) ≡ Some (slice_index_or ys (slice_index_or live n 0) d)
    stood_next within d = next_stood R quiet live n answers xs ys (numbers_of meaning live xs are) within upto d

    -- its number is that of a subscription still
    pub number_there : n < length live → slice_index_or live n 0 < length ys
    number_there within = number_within R quiet live n answers xs ys (numbers_of meaning live xs are) within upto

    -- what holds of each subscription before the round holds of the next subscription
    pub stands_as : (P : EntryState → Type 0)
        → ((k : ℕ) (entry : EntryState) → slice_get (map (entry_of meaning) xs) k ≡ Some entry → P entry)
        → n < length live → (d : Entry F) → P (entry_of meaning (slice_index_or ys (slice_index_or live n 0) d))
    stands_as P all within d =
        all (slice_index_or live n 0) _ (get_mapped (entry_of meaning) xs (slice_index_or live n 0) _ (stood_next within d))

    -- at the end the round has been to each subscription, if a retired one is left alone
    pub whole_round : ((x : Entry F) → x.retired ≡ true → R quiet x x) → n ≡ length live → EachBy R answers xs ys
    whole_round retired_alone done = upto_each R quiet live n answers xs ys
        (λ k x at other. retired_alone x (others_retired meaning live xs k x are at (subst (λ m. IsAmong live m k → ⊥) done other))) upto
