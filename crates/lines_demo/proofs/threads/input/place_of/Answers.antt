use Rattle.std.proofs.Common.{◌∙◌, ap, length, nat_le}
use Rattle.std.specs.Prelude.{unwrap_or}
use Rattle.commands.proofs.Places.{unwrap_or_position}
use Rattle.lines_demo.proofs.threads.input.place_of.Goals as goal

pub returns-clause-place : goal.returns-clause-place
returns-clause-place c =
    let all = length c.args.sources.now in
    c.unwrap_or.ensures ∙ ap (λ place. unwrap_or place all) c.first_not_below.ensures ∙ unwrap_or_position (λ other. nat_le c.args.source other) c.args.sources.now
