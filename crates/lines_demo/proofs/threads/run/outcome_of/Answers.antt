use Rattle.std.proofs.Common.{sym, ◌∙◌}
use Rattle.std.proofs.lemmas.Bool.{true≢false}
use Rattle.lines_demo.proofs.Runs.Leaving.{left_of_unsettled}
use Rattle.lines_demo.proofs.threads.run.outcome_of.Goals as goal
use Rattle.lines_demo.proofs.threads.run.outcome_of.Goals.{in-Unsettled, in_default}

pub returns-then-matches : goal.returns-then-matches
returns-then-matches g c = elim c.match-matches.branch [
  | in-Unsettled w ↦ rw (c.in-Err.is, sym c.into_parts-refusal.ensures) (left_of_unsettled c.into_parts-refusal.result w.in-Unsettled.field-0 w.in-Unsettled.is)
  | in_default w ↦ absurd (true≢false (sym c.if-matches.true ∙ w.matches-is))
]
