use Rattle.std.proofs.Common.{◌≡◌, ◌≤◌, take}
use Rattle.publisher.specs.Finding.{ends_of}
use Rattle.publisher.proofs.finishing.find.count_ends.Given as goal

abbrev pub invariant-loop-found : goal.invariant-loop-found
invariant-loop-found g l = (l.ends ≡ ends_of (take l.found-index l.founds)) × (l.ends ≤ l.found-index)
