use Rattle.std.proofs.Common.{length}
use Rattle.lines_demo.proofs.Inputs.Lines.{Spells}
use Rattle.lines_demo.proofs.threads.input.parse_publications.Given as goal

-- the publications of the lines so far were read
abbrev pub invariant-loop-rest : goal.invariant-loop-rest
invariant-loop-rest l = Spells l.bytes l.publications.items l.rest

abbrev pub decreases-loop-rest : goal.decreases-loop-rest
decreases-loop-rest l = length l.rest
