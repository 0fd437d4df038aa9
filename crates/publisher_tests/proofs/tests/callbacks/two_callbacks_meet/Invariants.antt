use Rattle.publisher_tests.proofs.tests.callbacks.two_callbacks_meet.Given as goal

abbrev pub ghosts-meet : goal.ghosts-meet
ghosts-meet g a = record { publications = a.blanks.publications.name; drops = a.blanks.drops.name; history = a.blanks.history }
