-- Lists whose elements stand in a relation place by place, and what a list of answers gathers.
use Rattle.std.specs.Prelude.{◌≡◌, ℕ, suc, max, fold, Some, List, [], ◌∷◌, ◌++◌, length, slice_get}

-- two lists have the same length, and this holds of the elements at each place
pub record Each {A : Type 0} (R : A → A → Type 0) (xs ys : List A) : Type 0 where
  pub as_long : length ys ≡ length xs
  pub each : (k : ℕ) (x y : A) → slice_get xs k ≡ Some x → slice_get ys k ≡ Some y → R x y

-- two lists have the same length, each place gave an answer, and this holds of that and the elements there
pub record EachBy {B A : Type 0} (R : B → A → A → Type 0) (answers : List B) (xs ys : List A)
    : Type 0 where
  pub answered : length answers ≡ length xs
  pub as_long : length ys ≡ length xs
  pub each : (k : ℕ) (answer : B) (x y : A) → slice_get answers k ≡ Some answer
      → slice_get xs k ≡ Some x → slice_get ys k ≡ Some y → R answer x y

-- what the answers gather, each with its place, from this place on
unfoldable pub gather : {B C : Type 0} → (ℕ → B → List C) → ℕ → List B → List C
gather each place [] = []
gather each place (answer ∷ answers) = each place answer ++ gather each (suc place) answers

-- the greatest of some numbers, or 0
abbrev pub greatest : List ℕ → ℕ
greatest ns = fold max 0 ns
