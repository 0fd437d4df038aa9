use Rattle.std.proofs.Common.{subst, arith}
use Rattle.publisher.specs.Together.{FindsMissing}
use Rattle.publisher.proofs.Shares.TogetherSums.{marks_all}
use Rattle.publisher.proofs.state.State.audit.Goals as goal

pub source_name-requires : goal.source_name-requires
source_name-requires g c = let less = c.in-Some.ensures.0 in let few = c.self.invariant.sound.sources in let same =
    c.self.invariant.sources_are in omega arith

pub compare-requires-clause-whole : goal.compare-requires-clause-whole
compare-requires-clause-whole g c =
    let all = marks_all c.args.together.sources c.self.inside.sources
    (subst (FindsMissing c.args.together.sources c.self.inside.sources) c.in_default.is c.first_missing.ensures) in
    let marked = c.requires.parts in
    omega arith

pub compare-requires-2-clause-whole : goal.compare-requires-2-clause-whole
compare-requires-2-clause-whole g c =
    let all = marks_all c.args.together.sources c.self.inside.sources
    (subst (FindsMissing c.args.together.sources c.self.inside.sources) c.in_default.is c.first_missing.ensures) in
    let marked = c.requires.drop_parts in
    omega arith

pub returns-in-Some-clause-audits : goal.returns-in-Some-clause-audits
returns-in-Some-clause-audits g c = (c.in-Some.source, (c.source_name.ensures, c.in-Some.ensures.1))
