use Rattle.std.proofs.Common.{◌≡◌, map, take}
use Rattle.core_tests.specs.Letters.{signal_of_letter}
use Rattle.core_tests.proofs.letters.signals.Given as goal

-- the signals of the letters so far were written
abbrev pub invariant-loop-letter : goal.invariant-loop-letter
invariant-loop-letter l = l.signals.items ≡ map signal_of_letter (take l.letter-index l.letters)
