-- What a name is.
use Rattle.std.specs.Prelude.{◌≡◌, ℕ, ◌-◌, ◌<◌, ◌≤◌, Bool, true, false, ◌&&◌, ◌||◌, ◌==◌, nat_le, List, [], ◌∷◌, ◌++◌, length, drop, replicate}
use Rattle.flow_rules.specs.declared.name.not_a_name.NotAName.{NotAName}
use Rattle.std.specs.List.{list_all}

-- an ASCII digit, upper-case letter, lower-case letter, `-` or `_`
abbrev pub is_name_byte : ℕ → Bool
is_name_byte b = (nat_le 48 b && nat_le b 57) || (nat_le 65 b && nat_le b 90) || (nat_le 97 b && nat_le b 122) || b == 45 || b == 95

-- 1 to 32 ASCII letters, digits, `-` and `_`
abbrev pub is_name : List ℕ → Bool
is_name bytes = nat_le 1 (length bytes) && nat_le (length bytes) 32 && list_all is_name_byte bytes

-- these bytes are no name for this reason: there is none, there are more than 32, or the one at this place may not stand in a name, and is the
-- first such byte
abbrev pub IsNoName : List ℕ → NotAName → Type 0
IsNoName bytes NotAName.Empty = bytes ≡ []
IsNoName bytes NotAName.TooLong = 32 < length bytes
IsNoName bytes (NotAName.BadByte at) = (before : List ℕ) × (byte : ℕ) × (after : List ℕ) × (bytes ≡ before ++ byte ∷ after)
    × (length before ≡ at)
    × (list_all is_name_byte before ≡ true) × (is_name_byte byte ≡ false)

-- the bytes, and zeros up to 32
abbrev pub padded : List ℕ → List ℕ
padded name = name ++ replicate (32 - length name) 0

-- 32 bytes, of which those from len on are zero
pub record IsPadded (bytes : List ℕ) (len : ℕ) : Type 0 where
  pub whole : length bytes ≡ 32
  pub within : len ≤ 32
  pub zeros : drop len bytes ≡ replicate (32 - len) 0
