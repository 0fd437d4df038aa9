use Rattle.publisher_tests.proofs.tests.failing.a_handler_hears_after_the_end_while_the_lock_is_free.Given as goal

abbrev pub ghosts-look_while_it_hears : goal.ghosts-look_while_it_hears
ghosts-look_while_it_hears g a = record { publications = a.blanks.publications.name; drops = a.blanks.drops.name; history = a.blanks.history }
