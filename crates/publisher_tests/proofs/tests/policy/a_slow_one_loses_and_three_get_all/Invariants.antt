use Rattle.publisher_tests.proofs.tests.policy.a_slow_one_loses_and_three_get_all.Given as goal

abbrev pub ghosts-four : goal.ghosts-four
ghosts-four g a = record { publications = a.blanks.publications.name; drops = a.blanks.drops.name; history = a.blanks.history }
