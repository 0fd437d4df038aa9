use Rattle.std.proofs.Common.{ap, length, ◌∙◌, ◌+◌}
use Rattle.std.proofs.Math.Nat.{zero-add}
use Rattle.std.proofs.lemmas.Result.{IfOk-weaker}
use Rattle.lines_demo.proofs.Runs.Leaving.{all_is_there, left_by_a_run}
use Rattle.lines_demo.proofs.threads.run.publish_lines.Goals as goal

pub returns-in-Ok-published : goal.returns-in-Ok-published
returns-in-Ok-published g c =
    let submitters = c.in-Ok-published.submitters.items in
    let subscriptions = c.publish_to-published.new.subscriptions.items in
    let finished = c.finish.ensures in
    IfOk-weaker c.outcome_of.result _ _
    (λ outcome left. left_by_a_run _ _ c.args.input.now (length c.args.subscribers.items) submitters subscriptions c.finish.result outcome
    c.in-Ok-published.ensures.published (c.in-Ok-published.ensures.subscribed ∙ ap (λ s. length s + length c.args.subscribers.items) c.new-subscriptions.ensures.items ∙ zero-add _)
    finished.outcome finished.handed
    (all_is_there submitters subscriptions c.finish.result outcome finished.ok finished.unsettled left))
    c.outcome_of.ensures
