use Rattle.publisher_tests.proofs.tests.callbacks.a_handler_finds_room_that_is_made_meanwhile.Given as goal

abbrev pub ghosts-offer_twice : goal.ghosts-offer_twice
ghosts-offer_twice g a = record { publications = a.blanks.publications.name; drops = a.blanks.drops.name; history = a.blanks.history }
