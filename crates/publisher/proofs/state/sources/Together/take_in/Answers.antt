use Rattle.std.proofs.Common.{◌+◌, ap, ◌∙◌}
use Rattle.publisher.proofs.state.sources.Together.take_in.Goals as goal

pub returns-clause-publications : goal.returns-clause-publications
returns-clause-publications g c = c.merge.ensures.amount

pub returns-clause-parts : goal.returns-clause-parts
returns-clause-parts g c = c.merge.ensures.parts ∙ ap (λ n. c.args.self.now.publications.parts + n) c.args.own.one
