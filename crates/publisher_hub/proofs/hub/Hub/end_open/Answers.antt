-- A close keeps a Hub sound.
use Rattle.std.proofs.Common.{◌≡◌, None, refl}
use Rattle.publisher_hub.specs.Closing.{IsClosed}
use Rattle.publisher_hub.specs.Hub.{hub_of}
use Rattle.publisher_hub.proofs.Soundness.Closing.{all_closed_by, none_closed, sound_closed}
use Rattle.publisher_hub.proofs.Subscribed.Readiness.{not_looked_at, on_err}
use Rattle.publisher_hub.proofs.hub.Hub.end_open.Goals as goal

pub returns-in_err-reserve_due-clause-looked : goal.returns-in_err-reserve_due-clause-looked
returns-in_err-reserve_due-clause-looked g c =
    on_err c.from_residual.result _ (not_looked_at (hub_of g.F.Feed.meaning c.args.self.now) c.requires.sound)

closed : (g : _) (c : goal.After-set_ending g) → IsClosed c.args.ending (hub_of g.F.Feed.meaning c.prepare_live.new.self)
    (hub_of g.F.Feed.meaning c.set_ending.new.self)
closed g c =
    let kept : c.prepare_live.new.self.ending ≡ None = rw c.prepare_live.ensures.rest c.requires.unclosed in
    let closes = c.end_live.ensures.closes in
    record {
      unclosed = kept;
      rest = rw (c.set_ending.ensures.rest, c.end_live.ensures.rest) refl;
      entries = rw c.set_ending.ensures.rest (all_closed_by g.F.Feed.meaning g.F.Feed.does c.args.ending closes.answers c.prepare_live.new.self.entries.items c.end_live.new.self.entries.items
          (none_closed (hub_of g.F.Feed.meaning c.prepare_live.new.self) c.prepare_live.ensures.sound kept) closes.each);
    }

pub returns-clause-means : goal.returns-clause-means
returns-clause-means g c =
    record { middle = hub_of g.F.Feed.meaning c.prepare_live.new.self; looked = c.prepare_live.ensures.looked; closed = closed g c }

pub returns-clause-sound : goal.returns-clause-sound
returns-clause-sound g c =
    sound_closed c.args.ending (hub_of g.F.Feed.meaning c.prepare_live.new.self) _ c.prepare_live.ensures.sound (closed g c)

pub returns-clause-closes : goal.returns-clause-closes
returns-clause-closes g c =
    let looks = c.in_ok-prepare_live.ensures.ok in (
      rw (c.set_ending.ensures.opening, c.end_live.ensures.rest, c.prepare_live.ensures.rest) refl,
      record {
        middle = c.prepare_live.new.self.entries.items;
        glances = looks.0;
        prepared = looks.1.0;
        closes = rw (c.set_ending.ensures.rest, ← c.reserve_due.ensures.items) c.end_live.ensures.closes;
        rest = rw (c.set_ending.ensures.rest, c.end_live.ensures.rest, c.prepare_live.ensures.rest) refl;
      },
    )
