use Rattle.std.proofs.Common.{◌≡◌, ◌++◌, ℕ, List}
use Rattle.std.specs.Io.KnownBytes.{Appends}
use Rattle.commands.proofs.writing.write_whole.Given as goal

-- some of the bytes were written, and the rest is left
abbrev pub invariant-loop : goal.invariant-loop
invariant-loop g l =
    (written : List ℕ) × Appends (g.W.Write.contents l.initial.writer) (g.W.Write.contents l.writer) written
    × (l.bytes ≡ written ++ l.rest)
