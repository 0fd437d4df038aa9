-- How bytes are cut into lines.
use Rattle.std.specs.Prelude.{ℕ, ◌-◌, ◌==◌, Bool, if◌then◌else◌, List, [], ◌∷◌, length, take, slice_index}

-- a line feed
abbrev pub is_line_feed : ℕ → Bool
is_line_feed byte = byte == 10

-- the lines, with this byte before the first of the first one
abbrev pub with_first_byte : ℕ → List (List ℕ) → List (List ℕ)
with_first_byte byte [] = (byte ∷ []) ∷ []
with_first_byte byte (line ∷ lines) = (byte ∷ line) ∷ lines

-- the lines of these bytes: each ends with a line feed, which the last one may lack
abbrev pub lines_of : List ℕ → List (List ℕ)
lines_of [] = []
lines_of (byte ∷ rest) =
    if is_line_feed byte then [] ∷ lines_of rest else with_first_byte byte (lines_of rest)

-- whether the last byte is a carriage return
abbrev pub ends_with_return : List ℕ → Bool
ends_with_return line = slice_index line (length line - 1) == 13

-- the line without the carriage return that may end it
abbrev pub without_return : List ℕ → List ℕ
without_return line = if ends_with_return line then take (length line - 1) line else line
