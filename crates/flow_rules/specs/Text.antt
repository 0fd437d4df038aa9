-- Where the bytes of a text lie.
use Rattle.std.specs.Prelude.{ℕ, ◌<◌, ◌≤◌, List, length}
use Rattle.flow_rules.specs.declared.text.TheConstants.Text.{LONGEST, LONGEST_INSIDE, LONGEST_IN_BLOCK}
use Rattle.flow_rules.specs.declared.text.Bytes.{Bytes}
use Rattle.flow_rules.specs.declared.text.Bytes.TheVariants.{Inside, InBlock, Apart}

-- the bytes of a text, wherever they lie
abbrev pub bytes_of : Bytes → List ℕ
bytes_of (Inside short) = short
bytes_of (InBlock short) = short.value
bytes_of (Apart bytes) = bytes.value.items

-- as many bytes as belong there: those of a longer text lie elsewhere
abbrev pub Fits : Bytes → Type 0
Fits (Inside short) = length short ≤ LONGEST_INSIDE
Fits (InBlock short) =
    (LONGEST_INSIDE < length short.value) × (length short.value ≤ LONGEST_IN_BLOCK)
Fits (Apart bytes) =
    (LONGEST_IN_BLOCK < length bytes.value.items) × (length bytes.value.items ≤ LONGEST)
