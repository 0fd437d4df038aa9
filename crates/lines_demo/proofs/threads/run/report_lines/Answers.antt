use Rattle.std.proofs.Common.{sym, subst, ap, ◌∙◌, if◌then◌else◌}
use Rattle.commands.proofs.Writers.{writes_done}
use Rattle.lines_demo.specs.Threads.Report.{ReporterState}
use Rattle.lines_demo.specs.Threads.Run.{Leaves}
use Rattle.lines_demo.proofs.threads.run.report_lines.Goals as goal

pub returns-then-branch : goal.returns-then-branch
returns-then-branch g c =
    let all = sym c.in_ok-write_report.ensures.complete ∙ c.if-branch.true in
    record {
      outcome = c.in_ok-outcome.outcome;
      left = subst (λ many. Leaves {B = ReporterState} (λ reporter. reporter.signals) (λ reporter. reporter.replies) c.args.input.now many c.in_ok-outcome.outcome) c.in-Ok.ensures.as_many c.in_ok-outcome.ensures;
      written = writes_done _ _ _ c.in_ok-write_report.ensures.written;
      answers = sym (ap (λ is. if is then 0 else 3) all);
    }

pub returns : goal.returns
returns g c =
    let not_all = sym c.in_ok-write_report.ensures.complete ∙ c.if-branch.false in
    record {
      outcome = c.in_ok-outcome.outcome;
      left = subst (λ many. Leaves {B = ReporterState} (λ reporter. reporter.signals) (λ reporter. reporter.replies) c.args.input.now many c.in_ok-outcome.outcome) c.in-Ok.ensures.as_many c.in_ok-outcome.ensures;
      written = writes_done _ _ _ c.in_ok-write_report.ensures.written;
      answers = sym (ap (λ is. if is then 0 else 3) not_all);
    }
