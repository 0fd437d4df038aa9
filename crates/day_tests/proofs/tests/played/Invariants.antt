use Rattle.day_tests.proofs.tests.played.Given as goal

abbrev pub ghosts-play : goal.ghosts-play
ghosts-play g a = record { publications = a.blanks.publications.name; drops = a.blanks.drops.name; history = a.blanks.history }
