use Rattle.controller_tests.proofs.tests.waiting.one_cancels_while_two_wait.Given as goal

abbrev pub ghosts-cancel_for_two_on_a_stand : goal.ghosts-cancel_for_two_on_a_stand
ghosts-cancel_for_two_on_a_stand g a = record { publications = a.blanks.publications.name; drops = a.blanks.drops.name; history = a.blanks.history }
