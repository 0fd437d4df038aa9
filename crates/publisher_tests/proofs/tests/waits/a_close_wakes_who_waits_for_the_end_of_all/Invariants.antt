use Rattle.publisher_tests.proofs.tests.waits.a_close_wakes_who_waits_for_the_end_of_all.Given as goal

abbrev pub ghosts-drain_without_turns : goal.ghosts-drain_without_turns
ghosts-drain_without_turns g a = record { publications = a.blanks.publications.name; drops = a.blanks.drops.name; history = a.blanks.history }
