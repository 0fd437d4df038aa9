use Rattle.std.proofs.Common.{length}
use Rattle.lines_demo.proofs.threads.explaining.explain_input.Given as goal

-- each line leaves fewer bytes
abbrev pub decreases-loop-rest : goal.decreases-loop-rest
decreases-loop-rest g l = length l.rest
