use Rattle.lines_demo.proofs.threads.run.run_lines.Given as goal

abbrev pub ghosts-report_lines : goal.ghosts-report_lines
ghosts-report_lines g a = record { publications = a.blanks.publications.name; drops = a.blanks.drops.name; history = a.blanks.history }
