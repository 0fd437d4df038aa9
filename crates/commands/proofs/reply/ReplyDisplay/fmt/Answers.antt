use Rattle.commands.proofs.reply.ReplyDisplay.fmt.Goals as goal

pub returns-in-Submitted-clause-writes : goal.returns-in-Submitted-clause-writes
returns-in-Submitted-clause-writes g c = rw c.in-Submitted.is c.write-in-Submitted.ensures.writes
