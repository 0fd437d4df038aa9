use Rattle.lines_demo.proofs.Scripts.Turns.{turn_answers, turn_prints}
use Rattle.lines_demo.proofs.script.player.Player.play_turn.Goals as goal

pub returns-clause-turn : goal.returns-clause-turn
returns-clause-turn g c = turn_answers _ _ _ _ _ _ _ _ c.turn-name.ensures.turn (rw c.as_slice.ensures at c.write_turn.ensures)

pub returns-clause-prints : goal.returns-clause-prints
returns-clause-prints g c = turn_prints _ _ _ _ _ _ _ _ c.turn-name.ensures.turn (rw c.as_slice.ensures at c.write_turn.ensures)
