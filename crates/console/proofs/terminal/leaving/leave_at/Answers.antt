-- A subscription that may not leave stands where it was.
use Rattle.std.proofs.Common.{ap, ◌∙◌}
use Rattle.std.specs.Prelude.{insert}
use Rattle.console.proofs.PutBack.{put_back}
use Rattle.console.proofs.terminal.leaving.leave_at.Goals as goal

pub returns-in-Ok-insert-clause-stays : goal.returns-in-Ok-insert-clause-stays
returns-in-Ok-insert-clause-stays g c =
    let taken = c.remove-name.result in
    c.in-Ok-insert.ensures.items
    ∙ ap (λ parts. insert c.remove-name.new.self.items c.args.place (record taken { subscription = parts.1 })) c.into_parts-refusal.ensures
    ∙ ap (λ s. insert c.remove-name.new.self.items c.args.place (record taken { subscription = s })) c.in-Err.ensures.unchanged
    ∙ ap (λ left. insert left c.args.place taken) c.remove-name.ensures.items ∙ put_back c.args.named.now.items c.args.place taken c.requires c.remove-name.ensures.value
