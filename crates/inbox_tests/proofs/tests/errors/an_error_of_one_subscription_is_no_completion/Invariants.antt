use Rattle.inbox_tests.proofs.tests.errors.an_error_of_one_subscription_is_no_completion.Given as goal

abbrev pub ghosts-find_errors : goal.ghosts-find_errors
ghosts-find_errors g a = record { publications = a.blanks.publications.name; drops = a.blanks.drops.name; history = a.blanks.history }
