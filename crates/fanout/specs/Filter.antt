-- Which lines a filter lets through, and what is written of several.
use Rattle.std.specs.Prelude.{ℕ, Bool, not, List, [], ◌∷◌, ◌++◌, MatchBool, is_some, if◌then◌else◌}
use Rattle.std.specs.List.{list_all}
use Rattle.memchr.specs.Find.{OccursAt, first_of, matches}
use Rattle.fanout.specs.declared.filter.Rule.{Rule}

-- a word stands somewhere in these bytes
abbrev pub Has : List ℕ → List ℕ → Type 0
Has bytes word = (place : ℕ) × OccursAt bytes word place

-- a rule lets a line through whose first piece is this
abbrev pub Admits : List ℕ → Rule → Type 0
Admits first rule = MatchBool rule.is_wanted (Has first rule.word.items) (¬ Has first rule.word.items)

-- the same as tests
abbrev pub has_word : List ℕ → List ℕ → Bool
has_word bytes word = is_some (first_of (matches bytes word 0))

abbrev pub admits : List ℕ → Rule → Bool
admits first rule = if rule.is_wanted then has_word first rule.word.items else not (has_word first rule.word.items)

abbrev pub passes : List Rule → List ℕ → Bool
passes rules first = list_all (admits first) rules

-- those of some lines that pass, one behind the other
abbrev pub kept : List Rule → List (List ℕ) → List ℕ
kept rules [] = []
kept rules (line ∷ lines) = (if passes rules line then line else []) ++ kept rules lines
