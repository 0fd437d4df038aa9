-- What reaches a writer.
use mathlib.Core.List.{IsPrefix}
use Rattle.std.specs.Prelude.{◌≡◌, ℕ, Bool, true, Option, List, [], ◌∷◌, ◌++◌}
use Rattle.std.specs.Io.KnownBytes.{Appends}

-- a line of this text
abbrev pub line_of : List ℕ → List ℕ
line_of text = text ++ 10 ∷ []

-- these bytes were appended, or, where the call failed, a prefix of them
pub record Writes (is_done : Bool) (old new : Option (List ℕ)) (bytes : List ℕ) : Type 0 where
  pub written : List ℕ
  pub appended : Appends old new written
  pub prefix : IsPrefix written bytes
  pub whole : is_done ≡ true → written ≡ bytes
