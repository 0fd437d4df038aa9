-- A sound Hub stays sound if the numbers of retired subscriptions are left out.
use Rattle.std.proofs.Common.{map}
use Rattle.publisher_hub.specs.Entry.{entry_of}
use Rattle.publisher_hub.specs.Hub.{hub_of}
use Rattle.publisher_hub.proofs.Soundness.LeavingOut.{all_live_left, sound_left}
use Rattle.publisher_hub.proofs.hub.Hub.leave_out_retired.Goals as goal

pub returns-clause-all_live : goal.returns-clause-all_live
returns-clause-all_live g c =
    rw (c.leave_out.ensures.left, c.deref.ensures.value) (all_live_left c.args.self.now.live.items (map (entry_of g.F.Feed.meaning) c.args.self.now.entries.items) c.requires.sound.live)

pub returns-clause-sound : goal.returns-clause-sound
returns-clause-sound g c =
    rw (c.leave_out.ensures.left, c.deref.ensures.value) (sound_left (hub_of g.F.Feed.meaning c.args.self.now) c.requires.sound)
