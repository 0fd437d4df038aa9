use Rattle.lines_demo.specs.Script.Running.{most_turns}
use Rattle.lines_demo.proofs.Scripts.Turns.{Running}
use Rattle.lines_demo.proofs.script.player.Player.play_turns.Given as goal

abbrev pub invariant-loop-self : goal.invariant-loop-self
invariant-loop-self g l = Running l.initial.self.session l.self.session (g.W.Write.contents l.initial.writer) (g.W.Write.contents l.writer)

-- each turn leaves fewer
abbrev pub decreases-loop-self : goal.decreases-loop-self
decreases-loop-self g l = most_turns l.self.session
