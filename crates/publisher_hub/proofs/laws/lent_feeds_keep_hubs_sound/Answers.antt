-- What was lent keeps a Hub sound.
use Rattle.publisher_hub.proofs.Soundness.Lending.{sound_with_feed}
use Rattle.publisher_hub.proofs.laws.lent_feeds_keep_hubs_sound.Goals as goal

pub returns : goal.returns
returns g c = λ number before after at becomes. sound_with_feed g.F.Feed.meaning c.args.hub.now number before after c.requires at becomes
