use Rattle.lines_demo.proofs.Reports.Sources.{begin_more, no_lines_more}
use Rattle.lines_demo.proofs.threads.reporter.Reporter.new.Goals as goal

pub loop-source-preserved : goal.loop-source-preserved
loop-source-preserved c =
    let new = c.in_ok-new.field-0 in
    rw c.in_ok-push.ensures.items (
      begin_more c.args.subscriber.now.name c.loop-source.lines.items new c.args.sources.now c.loop-source.source-index c.loop-source-test.true
          c.in_ok-new.ensures.beginning c.loop-source.invariant.0,
      no_lines_more 0 c.loop-source.lines.items new c.in_ok-new.ensures.empty c.loop-source.invariant.1,
    )
