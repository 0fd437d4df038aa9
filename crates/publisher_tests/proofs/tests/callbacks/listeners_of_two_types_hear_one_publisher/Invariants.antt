use Rattle.publisher_tests.proofs.tests.callbacks.listeners_of_two_types_hear_one_publisher.Given as goal

abbrev pub ghosts-mix : goal.ghosts-mix
ghosts-mix g a = record { publications = a.blanks.publications.name; drops = a.blanks.drops.name; history = a.blanks.history }
