use Rattle.inbox_tests.proofs.tests.pulling.a_thread_takes_each_item_in_its_order.Given as goal

abbrev pub ghosts-take_while_sent : goal.ghosts-take_while_sent
ghosts-take_while_sent g a = record { publications = a.blanks.publications.name; drops = a.blanks.drops.name; history = a.blanks.history }
