-- The elements at a place of two lists, and what is stored of a subscription at a place.
use Rattle.std.proofs.Common.{◌≡◌, ℕ, ◌<◌, ◌≤◌, zero, suc, None, Some, List, [], ◌∷◌, length, map, get_or, refl, arith}
use Rattle.std.specs.Prelude.{slice_get}
use Rattle.std.proofs.lemmas.Option.{slice_get-get_or, slice_get-map, slice_get_past, slice_get_read, slice_get_within}
use Rattle.flow_rules.specs.Feed.{End}
use Rattle.publisher_hub.specs.Entry.{EntryState, entry_of}
use Rattle.publisher_hub.specs.Lists.{Each, EachBy}
use Rattle.publisher_hub.specs.declared.entry.Entry.{Entry}

-- what stood at a place at which this stands now
pub record StoodAt (R : EntryState → EntryState → Type 0) (xs : List EntryState) (k : ℕ) (y : EntryState) : Type 0 where
  pub entry : EntryState
  pub at : slice_get xs k ≡ Some entry
  pub became : R entry y

pub stood_at : (R : EntryState → EntryState → Type 0) (xs ys : List EntryState) (k : ℕ) (y : EntryState) → Each R xs ys
    → slice_get ys k ≡ Some y → StoodAt R xs k y
stood_at R xs ys k y each at =
    let within : k < length ys = slice_get_within ys k y at in
    let as_long : length ys ≡ length xs = each.as_long in
    let there : slice_get xs k ≡ Some (get_or xs k y) = slice_get-get_or xs k y (omega arith) in
    record { entry = get_or xs k y; at = there; became = each.each k (get_or xs k y) y there at }

-- something stands at each place of a list
pub there : {X : Type 0} (xs : List X) (k : ℕ) → k < length xs → (x : X) × (slice_get xs k ≡ Some x)
there [] k within = let low : k < 0 = within in absurd (omega arith)
there (x ∷ xs) zero within = (x, refl)
there (x ∷ xs) (suc k) within = there xs k (omega arith)

-- the answer of a place at which something stood
pub answered_at : {B A : Type 0} (R : B → A → A → Type 0) (answers : List B) (xs ys : List A) (k : ℕ) (x : A) → EachBy R answers xs ys
    → slice_get xs k ≡ Some x
    → (answer : B) × (slice_get answers k ≡ Some answer)
answered_at R answers xs ys k x each at =
    there answers k (let within = slice_get_within xs k x at in let many = each.answered in omega arith)

-- what stood at a place at which this stands now, and the answer of that place
pub record StoodBy {B A : Type 0} (R : B → A → A → Type 0) (answers : List B) (xs : List A) (k : ℕ) (y : A) : Type 0 where
  pub entry : A
  pub answer : B
  pub at : slice_get xs k ≡ Some entry
  pub said : slice_get answers k ≡ Some answer
  pub became : R answer entry y

pub stood_by : {B A : Type 0} (R : B → A → A → Type 0) (answers : List B) (xs ys : List A) (k : ℕ) (y : A) → EachBy R answers xs ys
    → slice_get ys k ≡ Some y → StoodBy R answers xs k y
stood_by R answers xs ys k y each at =
    let within : k < length ys = slice_get_within ys k y at in
    let long = each.as_long in
    let answered = each.answered in
    let old = there xs k (omega arith) in
    let answer = there answers k (omega arith) in
    record { entry = old.0; answer = answer.0; at = old.1; said = answer.1; became = each.each k answer.0 old.0 y answer.1 old.1 at }

-- what is stored of the subscription that a look-up found
pub stored_there : {F : Type 0} (meaning : F → End) (entries : List (Entry F)) (number : ℕ) (it : Entry F) → number < length entries
    → it ≡ get_or entries number it → slice_get (map (entry_of meaning) entries) number ≡ Some (entry_of meaning it)
stored_there meaning entries number it within at =
    rw (slice_get-map (entry_of meaning) entries number, slice_get_read entries _ number it refl within at) refl

-- nothing is stored at a number that a look-up didn't find
pub stored_nowhere : {F : Type 0} (meaning : F → End) (entries : List (Entry F)) (number : ℕ) → length entries ≤ number
    → slice_get (map (entry_of meaning) entries) number ≡ None
stored_nowhere meaning entries number above =
    rw (slice_get-map (entry_of meaning) entries number, slice_get_past entries number above) refl
