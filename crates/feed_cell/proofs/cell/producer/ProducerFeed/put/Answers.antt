use Rattle.std.proofs.Common.{◌+◌, is_some, rules, subst}
use Rattle.flow_rules.specs.Feed.{End, LookedIfOpen, TakesItem}
use Rattle.feed_cell.proofs.Producers.Calls.{accepted}
use Rattle.feed_cell.specs.Offering.{Finds}
use Rattle.feed_cell.specs.Parties.{ProducerState, known_end}
use Rattle.feed_cell.specs.declared.cell.producer.steps.Found.{Found}
use Rattle.feed_cell.proofs.cell.producer.ProducerFeed.put.Goals as goal

pub returns-clause-means : goal.returns-clause-means
returns-clause-means g c =
    let s = c.self.inside in
    let me = s.party.seat.me in
    let found = subst (λ (f : Found). Finds s.tail f me c.find_room.new.party.seat.me) c.in-Room.is c.find_room.ensures.finds.1 in
    subst (λ (p : ProducerState). (m : End) × LookedIfOpen p.end m × TakesItem m c.args.item (c.in-Room.held + 1) c.start.result (known_end c.signal_more-task.new.party.seat.me.0 (is_some c.start.new.spare))) c.self.view_is
    (accepted s.tail found.0 c.in-Room.held me c.find_room.new.party.seat.me c.place.new.party.seat.me c.signal_more-task.new.party.seat.me c.args.item c.start.result c.signal_more-task.result (is_some s.spare) (is_some c.start.new.spare)
    found.1 found.2 (search rules) (search rules) (search rules) c.place.ensures.put.1 c.signal_more-task.ensures.sent.1 (search rules))
