use Rattle.inbox_tests.proofs.tests.trying.a_thread_takes_what_is_there.Given as goal

abbrev pub ghosts-try_on_a_stand : goal.ghosts-try_on_a_stand
ghosts-try_on_a_stand g a = record { publications = a.blanks.publications.name; drops = a.blanks.drops.name; history = a.blanks.history }
