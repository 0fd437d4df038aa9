use Rattle.publisher_tests.proofs.tests.anew.as_many_as_any_publisher_may_have_are_not_refused.Given as goal

abbrev pub ghosts-is_refused : goal.ghosts-is_refused
ghosts-is_refused g a = record { publications = a.blanks.publications.name; drops = a.blanks.drops.name; history = a.blanks.history }
