-- Each piece leaves fewer bytes.
use Rattle.std.proofs.Common.{length}
use Rattle.bus_example.proofs.recipes.submit_long.Given as goal

abbrev pub decreases-loop-rest : goal.decreases-loop-rest
decreases-loop-rest g l = length l.rest
