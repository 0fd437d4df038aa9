use Rattle.publisher_tests.proofs.tests.submitters.one_submitter_more_than_there_may_be_is_refused.Given as goal

abbrev pub ghosts-refuse_one_more : goal.ghosts-refuse_one_more
ghosts-refuse_one_more g a = record { publications = a.blanks.publications.name; drops = a.blanks.drops.name; history = a.blanks.history }
