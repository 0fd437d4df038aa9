use Rattle.publisher_tests.proofs.tests.coming.thousands_come_and_go.Given as goal

abbrev pub ghosts-come_and_go : goal.ghosts-come_and_go
ghosts-come_and_go g a = record { publications = a.blanks.publications.name; drops = a.blanks.drops.name; history = a.blanks.history }
