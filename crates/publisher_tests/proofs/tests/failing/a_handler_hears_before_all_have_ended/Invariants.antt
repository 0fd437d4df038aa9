use Rattle.publisher_tests.proofs.tests.failing.a_handler_hears_before_all_have_ended.Given as goal

abbrev pub ghosts-hears_before_the_drain : goal.ghosts-hears_before_the_drain
ghosts-hears_before_the_drain g a = record { publications = a.blanks.publications.name; drops = a.blanks.drops.name; history = a.blanks.history }
