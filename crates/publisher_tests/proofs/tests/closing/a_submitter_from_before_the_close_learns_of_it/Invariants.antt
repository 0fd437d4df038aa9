use Rattle.publisher_tests.proofs.tests.closing.a_submitter_from_before_the_close_learns_of_it.Given as goal

abbrev pub ghosts-submit_after_the_close : goal.ghosts-submit_after_the_close
ghosts-submit_after_the_close g a = record { publications = a.blanks.publications.name; drops = a.blanks.drops.name; history = a.blanks.history }
