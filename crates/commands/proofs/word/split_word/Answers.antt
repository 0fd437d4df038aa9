use Rattle.commands.proofs.word.split_word.Goals as goal

pub returns-clause-word : goal.returns-clause-word
returns-clause-word c = c.split_at_byte.ensures.before

pub returns-clause-rest : goal.returns-clause-rest
returns-clause-rest c = c.split_at_byte.ensures.after
