use Rattle.inbox_tests.proofs.tests.ends.an_end_finds_its_place_though_all_are_taken.Given as goal

abbrev pub ghosts-take_beside : goal.ghosts-take_beside
ghosts-take_beside g a = record { publications = a.blanks.publications.name; drops = a.blanks.drops.name; history = a.blanks.history }
