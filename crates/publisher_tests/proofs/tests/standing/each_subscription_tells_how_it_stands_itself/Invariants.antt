use Rattle.publisher_tests.proofs.tests.standing.each_subscription_tells_how_it_stands_itself.Given as goal

abbrev pub ghosts-look_at_two : goal.ghosts-look_at_two
ghosts-look_at_two g a = record { publications = a.blanks.publications.name; drops = a.blanks.drops.name; history = a.blanks.history }
