use Rattle.publisher_tests.proofs.tests.anew.more_than_any_publisher_may_have_are_refused.Given as goal

abbrev pub ghosts-is_refused : goal.ghosts-is_refused
ghosts-is_refused g a = record { publications = a.blanks.publications.name; drops = a.blanks.drops.name; history = a.blanks.history }
