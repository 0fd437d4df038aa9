use Rattle.commands.proofs.line.split_line.Goals as goal

pub returns-clause-line : goal.returns-clause-line
returns-clause-line c = c.split_at_byte.ensures.before

pub returns-clause-rest : goal.returns-clause-rest
returns-clause-rest c = c.split_at_byte.ensures.after
