use Rattle.publisher_tests.proofs.tests.batches.several_texts_are_published_by_one_call.Given as goal

abbrev pub ghosts-publish_and_read : goal.ghosts-publish_and_read
ghosts-publish_and_read g a = record { publications = a.blanks.publications.name; drops = a.blanks.drops.name; history = a.blanks.history }
