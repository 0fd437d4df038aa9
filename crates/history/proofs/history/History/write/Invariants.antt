use Rattle.history.proofs.history.History.write.Given as goal

abbrev pub ghosts-write_said : goal.ghosts-write_said
ghosts-write_said g a = record { text = a.text.value }
