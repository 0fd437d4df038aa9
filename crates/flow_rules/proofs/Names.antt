-- A name is ASCII, and so it is a text.
use Rattle.std.proofs.Common.{◌≡◌, ℕ, ◌<◌, ◌&&◌, nat_le, true, List, [], ◌∷◌, length, arith, zero, suc}
use Rattle.std.proofs.lemmas.Bool.{and_parts}
use Rattle.std.proofs.lemmas.Bool.Decides.{nat_tests}
use Rattle.std.proofs.lemmas.Str.{IsUtf8-from_ascii}
use Rattle.std.specs.List.{list_all}
use Rattle.std.specs.Str.{IsAscii, IsUtf8}
use Rattle.flow_rules.specs.Name.{is_name, is_name_byte}

-- a byte of a name is ASCII
byte_is_ascii : (b : ℕ) → is_name_byte b ≡ true → b < 128
byte_is_ascii b h = grind (arith, nat_tests)

-- bytes that may stand in a name are ASCII
all_ascii : (bytes : List ℕ) → list_all is_name_byte bytes ≡ true → IsAscii bytes
all_ascii [] h i = omega arith
all_ascii (b ∷ bytes) h zero = byte_is_ascii b (and_parts _ _ h).0
all_ascii (b ∷ bytes) h (suc i) = all_ascii bytes (and_parts _ _ h).1 i

-- a name is a text
pub name_is_utf8 : (bytes : List ℕ) → is_name bytes ≡ true → IsUtf8 bytes
name_is_utf8 bytes h =
    let allowed = and_parts (nat_le 1 (length bytes) && nat_le (length bytes) 32) (list_all is_name_byte bytes) h in
    IsUtf8-from_ascii bytes (all_ascii bytes allowed.1)
