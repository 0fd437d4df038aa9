use Rattle.publisher_tests.proofs.tests.batches.a_call_wakes_several.Given as goal

abbrev pub ghosts-wake_several : goal.ghosts-wake_several
ghosts-wake_several g a = record { publications = a.blanks.publications.name; drops = a.blanks.drops.name; history = a.blanks.history }
