-- The numbers of a command: 1 to 19 digits, in `request` with a `-` before them or without.
use Rattle.std.specs.Prelude.{ℕ, ◌+◌, ◌-◌, ◌*◌, ◌≤◌, ◌==◌, ℤ, pos, neg_ℤ, Bool, ◌&&◌, if◌then◌else◌, nat_le, Option, Some, None, option_map, List, [], ◌∷◌, length, fold}
use Rattle.std.specs.List.{list_all}
use Rattle.flow_rules.specs.declared.demand.TheConstants.{UNBOUNDED}
use Rattle.commands.specs.declared.number.TheConstants.{MOST_DIGITS}

-- the largest code of an error
abbrev pub LARGEST_CODE : ℕ
LARGEST_CODE = 4294967295

-- an ASCII digit
abbrev pub is_digit : ℕ → Bool
is_digit byte = nat_le 48 byte && nat_le byte 57

-- an ASCII digit, as a fact
abbrev pub IsDigit : ℕ → Type 0
IsDigit byte = (48 ≤ byte) × (byte ≤ 57)

-- the number with one more digit
abbrev pub with_digit : ℕ → ℕ → ℕ
with_digit value byte = 10 * value + (byte - 48)

-- the number that the digits spell
abbrev pub value_of_digits : List ℕ → ℕ
value_of_digits digits = fold with_digit 0 digits

-- 1 to 19 digits
abbrev pub is_number : List ℕ → Bool
is_number bytes =
    nat_le 1 (length bytes) && nat_le (length bytes) MOST_DIGITS && list_all is_digit bytes

-- the number that the bytes spell, if they are 1 to 19 digits
unfoldable pub spelled_digits : List ℕ → Option ℕ
spelled_digits bytes = if is_number bytes then Some (value_of_digits bytes) else None

-- the number, if it is at most this one
abbrev pub at_most : ℕ → Option ℕ → Option ℕ
at_most most None = None
at_most most (Some number) = if nat_le number most then Some number else None

-- the number that the bytes spell, up to 2^63-1
unfoldable pub spelled_number : List ℕ → Option ℕ
spelled_number bytes = at_most UNBOUNDED (spelled_digits bytes)

-- the code of an error that the bytes spell, up to 2^32-1
unfoldable pub spelled_code : List ℕ → Option ℕ
spelled_code bytes = at_most LARGEST_CODE (spelled_digits bytes)

-- minus the number that the bytes spell, down to -2^63
abbrev pub spelled_negative : List ℕ → Option ℤ
spelled_negative digits =
    option_map (λ number. neg_ℤ (pos number)) (at_most (UNBOUNDED + 1) (spelled_digits digits))

-- the number that the bytes spell with a `-` (ASCII 45) before it or without, from -2^63 to 2^63-1
unfoldable pub spelled_signed : List ℕ → Option ℤ
spelled_signed [] = None
spelled_signed (byte ∷ bytes) =
    if byte == 45 then spelled_negative bytes else option_map pos (spelled_number (byte ∷ bytes))
