use Rattle.deliveries_bench.proofs.left_run.Given as goal

abbrev pub ghosts-measure_left : goal.ghosts-measure_left
ghosts-measure_left g a = record { publications = a.blanks.publications.name; drops = a.blanks.drops.name; history = a.blanks.history }
