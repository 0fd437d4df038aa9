-- What is found of one subscription: both ends, or its name, or that it was reclaimed.
use Rattle.std.proofs.Common.{true≢false, ap, refl, sym, ◌∙◌}
use Rattle.publisher_hub.specs.Facts.{facts_of}
use Rattle.publisher_hub.specs.declared.hub.Facts.{Facts}
use Rattle.publisher.proofs.BothEnds.FindingRounds.{finds_both, finds_gone, finds_missing, finds_reclaimed, read_of}
use Rattle.publisher.proofs.finishing.find.find_one.Goals as goal

pub returns-then-has_feed-clause-finds : goal.returns-then-has_feed-clause-finds
returns-then-has_feed-clause-finds g c = finds_missing c.args.counted c.args.number c.args.owner c.args.hub.now
    c.requires.there c.in_default.not-Some c.unwrap-facts.result.name (c.has_feed.ensures.0 c.if-has_feed.true)
    (λ entry stands. ap (λ (f : Facts). f.name) (read_of facts_of c.args.hub.now c.args.number entry c.facts.result
    c.unwrap-facts.result c.unwrap-facts.ensures c.facts.ensures stands))

pub returns-else-has_feed-clause-finds : goal.returns-else-has_feed-clause-finds
returns-else-has_feed-clause-finds g c = finds_gone c.args.counted c.args.number c.args.owner c.args.hub.now
    c.requires.there c.in_default.not-Some (λ some. absurd (true≢false (sym (c.has_feed.ensures.1 some) ∙ c.if-has_feed.false)))

pub returns-in-Some-take_feed-clause-finds : goal.returns-in-Some-take_feed-clause-finds
returns-in-Some-take_feed-clause-finds g c =
    finds_both c.args.counted c.args.number c.args.owner c.args.hub.now c.take_feed.new.self c.requires.there
    c.in-Some.owner _ c.in-Some.is c.in-Some-take_feed.ensures.takes refl c.is_late.ensures
    (λ entry stands. read_of facts_of c.args.hub.now c.args.number entry c.facts.result c.unwrap-facts.result
    c.unwrap-facts.ensures c.facts.ensures stands)

pub returns-in-None-clause-finds : goal.returns-in-None-clause-finds
returns-in-None-clause-finds g c = finds_reclaimed c.args.counted c.args.number c.args.owner c.args.hub.now
    c.take_feed.new.self c.requires.there c.in-None.ensures.takes
