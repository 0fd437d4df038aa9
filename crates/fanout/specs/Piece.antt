-- A text as what it has of its source's lines: whole lines, or a piece of one. A text that begins with a line feed and has more
-- bytes is marked, and that line feed is none of the source's bytes.
use Rattle.std.specs.Prelude.{◌≡◌, ◌≢◌, ℕ, ◌+◌, ◌-◌, ◌<◌, ◌≤◌, ◌==◌, ◌&&◌, ◌||◌, Bool, nat_lt, not, true, false, List, [], ◌∷◌, length, drop, slice_index, if◌then◌else◌}
use Rattle.std.specs.List.{onto_first}

-- a line feed begins these bytes, and they have more
abbrev pub begins_with_feed : List ℕ → Bool
begins_with_feed bytes = nat_lt 1 (length bytes) && slice_index bytes 0 == 10

-- the source's bytes that a text has
abbrev pub piece_bytes : List ℕ → List ℕ
piece_bytes text = if begins_with_feed text then drop 1 text else text

-- whether a line begins with a text. One in the middle of a line is marked, and its bytes have a line feed only at their end
abbrev pub is_first : List ℕ → Bool
is_first text = not (begins_with_feed text) || begins_with_feed (drop 1 text)

-- whether a line ends with these bytes
abbrev pub ends_line : List ℕ → Bool
ends_line bytes = nat_lt 0 (length bytes) && slice_index bytes (length bytes - 1) == 10

-- whether a text with these bytes is marked, in the middle of a line or not
abbrev pub is_marked : Bool → List ℕ → Bool
is_marked in_line bytes = in_line || begins_with_feed bytes

-- the most bytes that a text has, marked or not
abbrev pub most_of : Bool → ℕ
most_of true = 4095
most_of false = 4096

-- the text with these bytes, marked or not
abbrev pub text_of : Bool → List ℕ → List ℕ
text_of true bytes = 10 ∷ bytes
text_of false bytes = bytes

-- no line ends in these bytes
abbrev pub HasNoLineFeed : List ℕ → Type 0
HasNoLineFeed bytes = (i : ℕ) → i < length bytes → slice_index bytes i ≢ 10

-- the first n of these bytes are one text's: in the middle of a line what is left of it, else the most whole lines for which
-- there is room; or as many bytes of a line as there is room for
pub record IsPieceOf (in_line : Bool) (bytes : List ℕ) (most n : ℕ) : Type 0 where
  pub some : 0 < n
  pub few : n ≤ most
  pub within : n ≤ length bytes
  pub full : slice_index bytes (n - 1) ≢ 10 → n ≡ most
  pub whole : slice_index bytes (n - 1) ≢ 10 → (i : ℕ) → i < n → slice_index bytes i ≢ 10
  pub one : in_line ≡ true → (i : ℕ) → i + 1 < n → slice_index bytes i ≢ 10
  pub longest : in_line ≡ false → (i : ℕ) → n ≤ i → i < most → i < length bytes → slice_index bytes i ≢ 10

-- these bytes as lines, each with its line feed; the last may have none
abbrev pub lines_of : List ℕ → List (List ℕ)
lines_of [] = []
lines_of (b ∷ bs) = if b == 10 then (b ∷ []) ∷ lines_of bs else onto_first b (lines_of bs)

-- how many lines begin in a text
abbrev pub lines_begun : List ℕ → ℕ
lines_begun text = if is_first text then length (lines_of (piece_bytes text)) else 0
