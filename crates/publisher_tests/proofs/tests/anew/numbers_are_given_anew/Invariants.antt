use Rattle.publisher_tests.proofs.tests.anew.numbers_are_given_anew.Given as goal

abbrev pub ghosts-give_anew : goal.ghosts-give_anew
ghosts-give_anew g a = record { publications = a.blanks.publications.name; drops = a.blanks.drops.name; history = a.blanks.history }
