-- What is said of the sources of jobs: `empty` that one held no job at one moment, `drained` that these jobs were taken
-- there, until it held none.
use Rattle.std.specs.Prelude.{◌≡◌, ◌≤◌, ◌⊎◌, ℕ, List, [], ◌∷◌, ◌++◌, Option, Some, slice_get, vec_len}
use Rattle.std.specs.Global.{Vec}
use Rattle.std.specs.Vec.{vec_capacity}

-- Behind the jobs of the list stand those that were taken: all, or as many as there was room for.
pub record Drains {J : Type 0} (all : List J → Type 0) (old new : Vec J) : Type 0 where
  pub taken : List J
  pub order : new.items ≡ old.items ++ taken
  pub all_there : (vec_capacity new ≤ vec_len new) ⊎ all taken
  pub room : vec_capacity new ≡ vec_capacity old

-- the jobs are those of the first source, and then those of the others
abbrev pub WereDrained : {J T : Type 0} → (T → List J → Type 0) → List T → List J → Type 0
WereDrained drained [] taken = taken ≡ []
WereDrained {J} drained (source ∷ sources) taken = (first : List J) × (others : List J) × (taken ≡ first ++ others) × drained source first
    × WereDrained drained sources others

-- each was empty at one moment, but for the one that was left out
abbrev pub WereEmpty : {T : Type 0} → (T → Type 0) → List T → Option ℕ → Type 0
WereEmpty {T} empty sources left_out = (place : ℕ) (source : T) → slice_get sources place ≡ Some source → (left_out ≡ Some place)
    ⊎ empty source
