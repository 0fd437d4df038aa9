use Rattle.inbox_tests.proofs.tests.ends.an_inbox_is_told_of_an_error_and_of_its_cancel.Given as goal

abbrev pub ghosts-take_after_ends : goal.ghosts-take_after_ends
ghosts-take_after_ends g a = record { publications = a.blanks.publications.name; drops = a.blanks.drops.name; history = a.blanks.history }
