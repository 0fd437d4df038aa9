use Rattle.std.proofs.Common.{rules, refl}
use Rattle.feed_cell.proofs.cell.producer.steps.find_room.Goals as goal

pub returns-then-head-ge-MARK : goal.returns-then-head-ge-MARK
returns-then-head-ge-MARK g c = let finds = c.look_for_room-head.ensures.finds in record { finds = (finds.0, (c.look_for_room-head.result, finds.1, search rules)) }

pub returns-then-held-party : goal.returns-then-held-party
returns-then-held-party g c = let finds = c.look_for_room-head.ensures.finds in record { finds = (finds.0, (c.look_for_room-head.result, finds.1, (search rules, search rules))) }

pub returns : goal.returns
returns g c = let finds = c.look_for_room-head.ensures.finds in record { finds = (finds.0, (c.look_for_room-head.result, finds.1, (search rules, search rules, refl))) }
