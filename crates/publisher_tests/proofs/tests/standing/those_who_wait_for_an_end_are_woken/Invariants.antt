use Rattle.publisher_tests.proofs.tests.standing.those_who_wait_for_an_end_are_woken.Given as goal

abbrev pub ghosts-wait_for_ends : goal.ghosts-wait_for_ends
ghosts-wait_for_ends g a = record { publications = a.blanks.publications.name; drops = a.blanks.drops.name; history = a.blanks.history }
