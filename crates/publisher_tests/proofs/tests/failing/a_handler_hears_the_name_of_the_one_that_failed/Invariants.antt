use Rattle.publisher_tests.proofs.tests.failing.a_handler_hears_the_name_of_the_one_that_failed.Given as goal

abbrev pub ghosts-hear_beside_others : goal.ghosts-hear_beside_others
ghosts-hear_beside_others g a = record { publications = a.blanks.publications.name; drops = a.blanks.drops.name; history = a.blanks.history }
