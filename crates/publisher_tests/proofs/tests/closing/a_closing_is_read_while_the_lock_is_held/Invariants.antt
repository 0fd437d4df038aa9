use Rattle.publisher_tests.proofs.tests.closing.a_closing_is_read_while_the_lock_is_held.Given as goal

abbrev pub ghosts-ask_while_held : goal.ghosts-ask_while_held
ghosts-ask_while_held g a = record { publications = a.blanks.publications.name; drops = a.blanks.drops.name; history = a.blanks.history }
