use Rattle.publisher_tests.proofs.tests.anew.two_hundred_may_be_live.Given as goal

abbrev pub ghosts-fill : goal.ghosts-fill
ghosts-fill g a = record { publications = a.blanks.publications.name; drops = a.blanks.drops.name; history = a.blanks.history }
