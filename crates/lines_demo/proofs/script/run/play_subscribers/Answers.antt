use Rattle.lines_demo.proofs.Inputs.Reading.{reading_stopped}
use Rattle.lines_demo.proofs.script.run.play_subscribers.Goals as goal

pub returns-in_default-clause-plays : goal.returns-in_default-clause-plays
returns-in_default-clause-plays g c = reading_stopped _ _ _ _ tt

pub returns-clause-plays : goal.returns-clause-plays
returns-clause-plays g c = rw c.in-Ok.ensures.whole at c.play_script.ensures.plays
