use Rattle.controller_tests.proofs.tests.requesting.requests_of_two_controllers_add_up.Given as goal

abbrev pub ghosts-request_on_a_stand : goal.ghosts-request_on_a_stand
ghosts-request_on_a_stand g a = record { publications = a.blanks.publications.name; drops = a.blanks.drops.name; history = a.blanks.history }
