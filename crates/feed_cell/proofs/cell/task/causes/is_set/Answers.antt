use Rattle.feed_cell.proofs.Words.ControlBits.{flagged}
use Rattle.feed_cell.proofs.cell.task.causes.is_set.Goals as goal

pub returns : goal.returns
returns c flag is = flagged c.args.word c.args.bit flag is
