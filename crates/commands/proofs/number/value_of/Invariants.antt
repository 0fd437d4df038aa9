use Rattle.std.proofs.Common.{◌≡◌, ◌^◌, ◌<◌, take}
use Rattle.commands.specs.Number.{value_of_digits}
use Rattle.commands.proofs.number.value_of.Given as goal

-- the value is that of the digits so far, and has no more digits than those
abbrev pub invariant-loop-digit : goal.invariant-loop-digit
invariant-loop-digit l = (l.value ≡ value_of_digits (take l.digit-index l.digits)) × (l.value < 10 ^ l.digit-index)
