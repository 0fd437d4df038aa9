use Rattle.std.proofs.Common.{◌≡◌, ◌<◌, ◌≤◌, ◌+◌, ap, refl, inr, take, length, arith, rules}
use Rattle.lines_demo.specs.Threads.Input.{sources_of, with_source}
use Rattle.lines_demo.specs.declared.threads.input.TheConstants.{MOST_SOURCES}
use Rattle.lines_demo.proofs.Inputs.Sources.{sources_more, sources_fewer}
use Rattle.lines_demo.proofs.threads.input.collect_sources.Goals as goal

pub returns-then-len-gt-MOST_SOURCES-clause-refusals : goal.returns-then-len-gt-MOST_SOURCES-clause-refusals
returns-then-len-gt-MOST_SOURCES-clause-refusals c =
    let i = c.loop-publication.publication-index in
    let ps = c.args.publications.now in
    let added : c.add_source.new.sources.items ≡ with_source c.publication-item.result.source c.loop-publication.sources.items = search rules in
    let so_far : c.add_source.new.sources.items ≡ sources_of (take (i + 1) ps) = sources_more ps i c.publication-item.result c.loop-publication.sources.items c.add_source.new.sources.items c.loop-publication-test.true c.publication-item.is c.loop-publication.invariant.0 added in
    let many : MOST_SOURCES < length c.add_source.new.sources.items = search rules in
    let fewer : length (sources_of (take (i + 1) ps)) ≤ length (sources_of ps) = sources_fewer ps (i + 1) in
    let same : length c.add_source.new.sources.items ≡ length (sources_of (take (i + 1) ps)) = ap length so_far in
    inr (refl, omega arith)

pub loop-publication-preserved : goal.loop-publication-preserved
loop-publication-preserved c =
    let added : c.add_source.new.sources.items ≡ with_source c.publication-item.result.source c.loop-publication.sources.items = search rules in
    (sources_more c.args.publications.now c.loop-publication.publication-index c.publication-item.result c.loop-publication.sources.items c.add_source.new.sources.items c.loop-publication-test.true c.publication-item.is c.loop-publication.invariant.0 added, omega arith)
