use Rattle.inbox_tests.proofs.tests.waiting.each_of_several_threads_takes_all.Given as goal

abbrev pub ghosts-take_together : goal.ghosts-take_together
ghosts-take_together g a = record { publications = a.blanks.publications.name; drops = a.blanks.drops.name; history = a.blanks.history }
