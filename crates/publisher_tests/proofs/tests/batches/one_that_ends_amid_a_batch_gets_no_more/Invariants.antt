use Rattle.publisher_tests.proofs.tests.batches.one_that_ends_amid_a_batch_gets_no_more.Given as goal

abbrev pub ghosts-end_amid_a_batch : goal.ghosts-end_amid_a_batch
ghosts-end_amid_a_batch g a = record { publications = a.blanks.publications.name; drops = a.blanks.drops.name; history = a.blanks.history }
