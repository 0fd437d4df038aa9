-- What a look showed of room was counted.
use Rattle.std.proofs.Common.{refl}
use Rattle.publisher_hub.proofs.hub.room.Room.count.Goals as goal

pub returns : goal.returns
returns c = record {
  has = c.shows_room-has.result;
  full = c.shows_room-has.ensures.full;
  not_full = c.shows_room-has.ensures.not_full;
  everywhere = refl;
  for_waiters = refl;
  least = c.least_with-self.ensures;
}
