-- The two ledgers of the publisher are those of its blanks.
use Rattle.bus_example.proofs.main.Given as goal

abbrev pub ghosts-run_bus : goal.ghosts-run_bus
ghosts-run_bus g a = record { publications = a.blanks.publications.name; drops = a.blanks.drops.name; history = a.blanks.history }
