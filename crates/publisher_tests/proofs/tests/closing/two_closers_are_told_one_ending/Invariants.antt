use Rattle.publisher_tests.proofs.tests.closing.two_closers_are_told_one_ending.Given as goal

abbrev pub ghosts-close_twice : goal.ghosts-close_twice
ghosts-close_twice g a = record { publications = a.blanks.publications.name; drops = a.blanks.drops.name; history = a.blanks.history }
