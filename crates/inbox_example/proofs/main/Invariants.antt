-- The two ledgers of the publisher are those of its blanks.
use Rattle.inbox_example.proofs.main.Given as goal

abbrev pub ghosts-run : goal.ghosts-run
ghosts-run g a = record { publications = a.blanks.publications.name; drops = a.blanks.drops.name; history = a.blanks.history }
