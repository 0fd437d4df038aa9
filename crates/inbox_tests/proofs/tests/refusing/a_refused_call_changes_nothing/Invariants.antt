use Rattle.inbox_tests.proofs.tests.refusing.a_refused_call_changes_nothing.Given as goal

abbrev pub ghosts-cancel_on_a_stand : goal.ghosts-cancel_on_a_stand
ghosts-cancel_on_a_stand g a = record { publications = a.blanks.publications.name; drops = a.blanks.drops.name; history = a.blanks.history }
