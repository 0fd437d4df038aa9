use Rattle.publisher_tests.proofs.tests.callbacks.each_call_returns_while_a_callback_runs.Given as goal

abbrev pub ghosts-call_all : goal.ghosts-call_all
ghosts-call_all g a = record { publications = a.blanks.publications.name; drops = a.blanks.drops.name; history = a.blanks.history }
