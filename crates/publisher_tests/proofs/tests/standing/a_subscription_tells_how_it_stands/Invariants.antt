use Rattle.publisher_tests.proofs.tests.standing.a_subscription_tells_how_it_stands.Given as goal

abbrev pub ghosts-look_three_times : goal.ghosts-look_three_times
ghosts-look_three_times g a = record { publications = a.blanks.publications.name; drops = a.blanks.drops.name; history = a.blanks.history }
