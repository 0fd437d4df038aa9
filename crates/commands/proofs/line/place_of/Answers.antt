use Rattle.std.proofs.Common.{◌∙◌, ◌==◌, ap, length}
use Rattle.std.specs.Prelude.{unwrap_or}
use Rattle.commands.proofs.Places.{unwrap_or_position}
use Rattle.commands.proofs.line.place_of.Goals as goal

pub returns-clause-place : goal.returns-clause-place
returns-clause-place c =
    let all = length c.args.bytes.now in
    c.unwrap_or.ensures ∙ ap (λ place. unwrap_or place all) c.position_of.ensures ∙ unwrap_or_position (λ byte. byte == c.args.wanted) c.args.bytes.now
