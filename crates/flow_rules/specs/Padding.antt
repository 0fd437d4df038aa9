-- A name's fields follow from its bytes.
use Rattle.std.specs.Prelude.{◌≡◌, ◌-◌, ◌++◌, ℕ, List, length, take, replicate}
use Rattle.std.proofs.Common.{ap, arith}
use Rattle.std.proofs.lemmas.List.{take-append-drop, length-take-le}
use Rattle.flow_rules.specs.Name.{IsPadded, padded}
use Rattle.flow_rules.specs.declared.name.Name.TheInside.{Inside}

-- the bytes of a name, padded again, are its fields
pub padded_take : (n : Inside) → IsPadded n.bytes n.len
    → (record { bytes = padded (take n.len n.bytes); len = length (take n.len n.bytes) }) ≡ n
padded_take n kept =
    let as_long : length (take n.len n.bytes) ≡ n.len = length-take-le n.len n.bytes (omega arith) in
    let whole : take n.len n.bytes ++ replicate (32 - n.len) 0 ≡ n.bytes = rw (← kept.zeros) (take-append-drop n.len n.bytes) in
    let build : List ℕ → Inside = λ bytes. record { bytes = bytes; len = n.len } in
    rw as_long (ap build whole)
