use Rattle.deliveries_bench.proofs.alone_run.Given as goal

abbrev pub ghosts-measure_alone : goal.ghosts-measure_alone
ghosts-measure_alone g a = record { publications = a.blanks.publications.name; drops = a.blanks.drops.name; history = a.blanks.history }
