use Rattle.inbox_tests.proofs.tests.closures.a_closure_is_called_with_each_item.Given as goal

abbrev pub ghosts-end_of : goal.ghosts-end_of
ghosts-end_of g a = record { publications = a.blanks.publications.name; drops = a.blanks.drops.name; history = a.blanks.history }
