use Rattle.std.proofs.Common.{◌≡◌, ℕ, ◌+◌, length, is_some, rules, subst, sym}
use Rattle.flow_rules.specs.Feed.{End, LookedIfOpen, TakesItems}
use Rattle.feed_cell.proofs.Producers.Calls.{accepted_all}
use Rattle.feed_cell.specs.Offering.{Finds}
use Rattle.feed_cell.specs.Parties.{ProducerState, known_end}
use Rattle.feed_cell.specs.declared.cell.producer.steps.Found.{Found}
use Rattle.feed_cell.proofs.cell.producer.ProducerFeed.put_all.Goals as goal

pub returns-clause-means : goal.returns-clause-means
returns-clause-means g c =
    let s = c.self.inside in
    let me = s.party.seat.me in
    let found = subst (λ (f : Found). Finds s.tail f me c.find_room.new.party.seat.me) c.in-Room.is c.find_room.ensures.finds.1 in
    let many : c.len-many.result ≡ length c.args.items.items = search rules in
    subst (λ (p : ProducerState). (m : End) × LookedIfOpen p.end m × TakesItems m c.args.items.items (c.in-Room.held + c.len-many.result) c.start.result (known_end c.signal_more-seat.new.party.seat.me.0 (is_some c.start.new.spare))) c.self.view_is
    (subst (λ (n : ℕ). (m : End) × LookedIfOpen (known_end me.0 (is_some s.spare)) m × TakesItems m c.args.items.items (c.in-Room.held + n) c.start.result (known_end c.signal_more-seat.new.party.seat.me.0 (is_some c.start.new.spare))) (sym many)
    (accepted_all s.tail found.0 c.in-Room.held me c.find_room.new.party.seat.me c.place_all.new.party.seat.me c.signal_more-seat.new.party.seat.me c.args.items.items c.start.result c.signal_more-seat.result (is_some s.spare) (is_some c.start.new.spare)
    found.1 found.2 (search rules) (search rules) (search rules) c.place_all.ensures.put.1 c.signal_more-seat.ensures.sent.1 (search rules)))
