use Rattle.deliveries_bench.proofs.fast_run.Given as goal

abbrev pub ghosts-measure_fast : goal.ghosts-measure_fast
ghosts-measure_fast g a = record { publications = a.blanks.publications.name; drops = a.blanks.drops.name; history = a.blanks.history }
