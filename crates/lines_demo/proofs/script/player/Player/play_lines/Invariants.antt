use Rattle.std.proofs.Common.{length}
use Rattle.lines_demo.proofs.Scripts.Results.{Progress}
use Rattle.lines_demo.proofs.Scripts.Lines.{bytes_result}
use Rattle.lines_demo.proofs.script.player.Player.play_lines.Given as goal

-- the lines so far were played, and those of the bytes that are left follow
abbrev pub invariant-loop-rest : goal.invariant-loop-rest
invariant-loop-rest g l =
    Progress (bytes_result l.bytes l.initial.self.session) (bytes_result l.rest l.self.session) (g.W.Write.contents l.initial.writer) (g.W.Write.contents l.writer)

abbrev pub decreases-loop-rest : goal.decreases-loop-rest
decreases-loop-rest g l = length l.rest
