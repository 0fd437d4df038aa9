-- The two ledgers of the publisher are those of its blanks.
use Rattle.console.proofs.open.Given as goal

abbrev pub ghosts-run_session : goal.ghosts-run_session
ghosts-run_session g a = record { publications = a.blanks.publications.name; drops = a.blanks.drops.name; history = a.blanks.history }
