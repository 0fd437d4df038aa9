use Rattle.deliveries_bench.proofs.slow_run.Given as goal

abbrev pub ghosts-measure_slow : goal.ghosts-measure_slow
ghosts-measure_slow g a = record { publications = a.blanks.publications.name; drops = a.blanks.drops.name; history = a.blanks.history }
