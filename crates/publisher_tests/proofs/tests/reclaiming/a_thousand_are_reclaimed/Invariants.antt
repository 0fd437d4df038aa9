use Rattle.publisher_tests.proofs.tests.reclaiming.a_thousand_are_reclaimed.Given as goal

abbrev pub ghosts-come_and_go : goal.ghosts-come_and_go
ghosts-come_and_go g a = record { publications = a.blanks.publications.name; drops = a.blanks.drops.name; history = a.blanks.history }
