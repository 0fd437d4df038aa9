use Rattle.std.proofs.Common.{◌≡◌, ◌≤◌, length, take}
use Rattle.lines_demo.specs.Threads.Input.{sources_of}
use Rattle.lines_demo.specs.declared.threads.input.TheConstants.{MOST_SOURCES}
use Rattle.lines_demo.proofs.threads.input.collect_sources.Given as goal

-- the sources of the publications so far
abbrev pub invariant-loop-publication : goal.invariant-loop-publication
invariant-loop-publication l = (l.sources.items ≡ sources_of (take l.publication-index l.publications)) × (length l.sources.items ≤ MOST_SOURCES)
