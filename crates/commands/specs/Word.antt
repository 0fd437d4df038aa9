-- How bytes are cut into words, which are separated by exactly one space, and what a word may be.
use Rattle.std.specs.Prelude.{ℕ, ◌==◌, Bool, if◌then◌else◌, Option, Some, None, List, [], ◌∷◌}
use Rattle.std.specs.List.{before_first, after_first}
use Rattle.std.specs.Cmp.Lexicographic.{pointwise}
use Rattle.flow_rules.specs.Name.{is_name}

-- a space
abbrev pub is_space : ℕ → Bool
is_space byte = byte == 32

-- whether the bytes are this word
abbrev pub is_word : List ℕ → List ℕ → Bool
is_word bytes word = pointwise ◌==◌ bytes word

-- what stands before the first space, or all
abbrev pub first_word : List ℕ → List ℕ
first_word bytes = before_first is_space bytes

-- what stands after the first space, or nothing
abbrev pub after_space : List ℕ → List ℕ
after_space bytes = after_first is_space bytes

-- a name, if the bytes are one
abbrev pub spelled_name : List ℕ → Option (List ℕ)
spelled_name bytes = if is_name bytes then Some bytes else None

-- a text of at least one byte
abbrev pub spelled_text : List ℕ → Option (List ℕ)
spelled_text [] = None
spelled_text (byte ∷ text) = Some (byte ∷ text)
