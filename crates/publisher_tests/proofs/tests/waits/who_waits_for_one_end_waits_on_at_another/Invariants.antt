use Rattle.publisher_tests.proofs.tests.waits.who_waits_for_one_end_waits_on_at_another.Given as goal

abbrev pub ghosts-wait_beside_a_cancel : goal.ghosts-wait_beside_a_cancel
ghosts-wait_beside_a_cancel g a = record { publications = a.blanks.publications.name; drops = a.blanks.drops.name; history = a.blanks.history }
