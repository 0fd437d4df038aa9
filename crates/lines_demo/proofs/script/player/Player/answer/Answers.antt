use Rattle.lines_demo.proofs.script.player.Player.answer.Goals as goal

pub returns-clause-line : goal.returns-clause-line
returns-clause-line g c = c.write_line.ensures
