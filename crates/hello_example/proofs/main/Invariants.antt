-- The two ledgers of the publisher are those of its blanks.
use Rattle.hello_example.proofs.main.Given as goal

abbrev pub ghosts-hello : goal.ghosts-hello
ghosts-hello g a = record { publications = a.blanks.publications.name; drops = a.blanks.drops.name; history = a.blanks.history }
