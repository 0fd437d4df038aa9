use Rattle.publisher_tests.proofs.tests.failing.a_handler_hears_once_of_each_of_many.Given as goal

abbrev pub ghosts-hear : goal.ghosts-hear
ghosts-hear g a = record { publications = a.blanks.publications.name; drops = a.blanks.drops.name; history = a.blanks.history }
