use Rattle.std.proofs.Common.{◌+◌, sym, ap, refl}
use Rattle.std.proofs.lemmas.List.{take_all}
use Rattle.std.proofs.lemmas.Result.{err_from_is_err_and}
use Rattle.std.proofs.KnownBytes.{Appends-nil}
use Rattle.flow_rules.specs.Signals.{items_of}
use Rattle.commands.proofs.Writers.{writes_all, writes_less, writes_after, writes_done}
use Rattle.lines_demo.proofs.Reports.Sources.{kept_lines, kept_lines_are, kept_lines_more, kept_lines_rest}
use Rattle.lines_demo.proofs.threads.reporter.Reporter.write_lines.Goals as goal

pub loop-source-init : goal.loop-source-init
loop-source-init g c = rw (c.deref-source-items.ensures.value, sym c.self.view_is) (Appends-nil _, (c.self.invariant.0, refl))

pub returns-in_err-write_whole : goal.returns-in_err-write_whole
returns-in_err-write_whole g c =
    let failed = err_from_is_err_and c.from_residual.result c.from_residual.ensures.1 in
    let upto = writes_after _ _ _ _ _ _ c.loop-source.invariant.0 c.in_err-write_whole.ensures in
    let kept = c.deref-source-items.result.now in
    let more = kept_lines_more kept c.loop-source.source-index c.source-item.result c.loop-source-test.true c.source-item.is in
    let all = kept_lines_are 0 kept (items_of c.args.self.now.signals) c.loop-source.invariant.1.0 in
    rw (failed.1, sym c.loop-source.invariant.1.1, sym all, kept_lines_rest kept (c.loop-source.source-index + 1), more, sym c.as_slice.ensures.value)
    (writes_less _ _ _ _ upto)

pub loop-source-preserved : goal.loop-source-preserved
loop-source-preserved g c =
    let more = kept_lines_more c.deref-source-items.result.now c.loop-source.source-index c.source-item.result c.loop-source-test.true c.source-item.is in (
      rw (more, sym c.as_slice.ensures.value) (writes_done _ _ _ (writes_after _ _ _ _ _ _ c.loop-source.invariant.0 c.in_ok-write_whole.ensures)),
      c.loop-source.invariant.1,
    )

pub returns : goal.returns
returns g c =
    let kept = c.deref-source-items.result.now in
    let all = kept_lines_are 0 kept (items_of c.args.self.now.signals) c.loop-source.invariant.1.0 in
    rw (sym c.loop-source.invariant.1.1, sym all, sym (ap kept_lines (take_all c.loop-source.source-index kept c.loop-source-test.false)))
    (writes_all _ _ _ c.loop-source.invariant.0)
