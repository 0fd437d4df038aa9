-- What is left are shares.
use Rattle.std.proofs.Common.{Some, refl, subst}
use Rattle.flow_rules.specs.declared.item.Item.{Item}
use Rattle.publisher_hub.specs.Offering.{PutsAgain}
use Rattle.publisher_hub.proofs.hub.offer.retry_if_wanted.Goals as goal

pub returns-clause-shares : goal.returns-clause-shares
returns-clause-shares g c = c.take_share-share.ensures.rest c.args.item.now c.requires.shares

pub put_again-requires-clause-take : goal.put_again-requires-clause-take
put_again-requires-clause-take g c = c.requires.can.take

pub put_again-requires-clause-few : goal.put_again-requires-clause-few
put_again-requires-clause-few g c = c.requires.can.few

pub returns-then-not-on_drop-clause-missed : goal.returns-then-not-on_drop-clause-missed
returns-then-not-on_drop-clause-missed g c = refl

pub returns-then-not-on_drop-clause-shares : goal.returns-then-not-on_drop-clause-shares
returns-then-not-on_drop-clause-shares g c = c.requires.shares

pub returns-clause-puts : goal.returns-clause-puts
returns-clause-puts g c =
    subst (λ (share : Item). PutsAgain g.F.Feed.meaning g.F.Feed.does share (Some c.put_again.result) c.args.entry.now c.put_again.new.self)
    (c.take_share-share.ensures.share c.args.item.now c.requires.shares) c.put_again.ensures.again

pub returns-clause-missed : goal.returns-clause-missed
returns-clause-missed g c = c.take_share-share.ensures.missed

pub returns-clause-lag : goal.returns-clause-lag
returns-clause-lag g c = c.take_share-share.ensures.lag

pub returns-clause-drops : goal.returns-clause-drops
returns-clause-drops g c = c.take_share-share.ensures.drops
