-- If room for the tasks is refused, nothing has changed.
use Rattle.std.proofs.Common.{refl}
use Rattle.publisher_hub.specs.Hub.{hub_of}
use Rattle.publisher_hub.proofs.Subscribed.AfterLooks.{each_untouched}
use Rattle.publisher_hub.proofs.hub.Hub.prepare_batch.Goals as goal

pub returns-in_err-reserve_due-clause-looked : goal.returns-in_err-reserve_due-clause-looked
returns-in_err-reserve_due-clause-looked g c = record {
  rest = refl;
  entries = each_untouched c.args.self.now.next (hub_of g.F.Feed.meaning c.args.self.now).entries (λ k entry at. (c.requires.sound.entries k entry at).here);
}
