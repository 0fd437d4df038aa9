-- A put of several items that is accepted, and that each keeps the Flow rules.
use Rattle.std.proofs.Common.{◌≡◌, ◌+◌, ◌-◌, ◌<◌, ◌≤◌, length, ◌∷◌, ◌++◌, [], None, List, ap, sym, subst, ◌∙◌, append_assoc, length-append, arith, rules}
use Rattle.flow_rules.specs.Amount.{amount_of}
use Rattle.feed_core.specs.Prelude.{Item, items_of}
use Rattle.feed_core.specs.Buffer.{BufferState}
use Rattle.feed_core.specs.Desk.{DeskState, AcceptsItems}
use Rattle.feed_core.specs.Lane.{LaneState, IsFlow}
use Rattle.feed_core.specs.Sound.{lane_of}
use Rattle.feed_core.proofs.Lanes.FlowRules.{flow_kept}
use Rattle.feed_core.proofs.Lanes.ProducerEnds.{accepted_puts_all}
use Rattle.feed_core.proofs.Lanes.Sound.{sound_lane_with_items}
use Rattle.feed_core.proofs.desk.call.DeskFeed.put_all.Goals as goal

pub returns-then-is_closed-clause-exact : goal.returns-then-is_closed-clause-exact
returns-then-is_closed-clause-exact g c = record {
  answers = search rules;
  flow = subst (λ (desk : DeskState). IsFlow desk.lane) c.self.view_is (flow_kept c.self.invariant.0.in_order.sound);
}

pub returns-then-stands-clause-exact : goal.returns-then-stands-clause-exact
returns-then-stands-clause-exact g c = record { answers = search rules; flow = flow_kept c.self.invariant.0.in_order.sound }

pub returns-clause-exact : goal.returns-clause-exact
returns-clause-exact g c =
    let s = c.self.inside in
    let told = g.B.Listener.told s.subscriber in
    let lane : LaneState = lane_of told s.held.items s.given s.asked s.causes s.how in
    let old : DeskState = record { lane = lane; capacity = s.capacity; started = s.started; is_steady = g.B.Listener.is_steady s.subscriber; looks = amount_of s.looks; requested = s.requested; asked_badly = s.asked_badly; is_cancelled = s.cancelled; replied = g.B.Listener.replied s.subscriber } in
    let after : LaneState = lane_of told c.put_all.new.self.items s.given s.asked s.causes s.how in
    let new : DeskState = record old { lane = after; started = c.signal-start.new.started; looks = amount_of c.see_standing-stands.new.looks } in
    let sound = c.self.invariant.0.in_order.sound in
    let unended : lane.how ≡ None = search rules in
    let unclosed : lane.causes.closing ≡ None = search rules in
    let grown : lane.accepted ++ c.args.items.items ≡ after.accepted =
    append_assoc (items_of told) s.held.items c.args.items.items ∙ ap (λ (held : List Item). items_of told ++ held) (sym (ap (λ (buffer : BufferState). buffer.items) c.put_all.ensures)) in
    let longer : length after.accepted ≡ length lane.accepted + length c.args.items.items = sym (ap length grown) ∙ length-append lane.accepted c.args.items.items in
    let taken = sound.counts.taken in
    let counted : length lane.accepted ≡ s.accepted = c.self.invariant.0.counted in
    let fits : length lane.accepted ≤ s.given + s.capacity = c.self.invariant.0.in_order.fits in
    let room : length lane.accepted - s.given + length c.args.items.items ≤ s.capacity = subst (λ (desk : DeskState). length desk.lane.accepted - desk.lane.given + length c.args.items.items ≤ desk.capacity) (sym c.self.view_is) c.requires.room in
    let held : c.see_standing-stands.result.held ≡ length lane.accepted - s.given = omega (arith, c.see_standing-stands.ensures.held) in
    let many : c.len-many.result ≡ length c.args.items.items = search rules in
    record {
      answers = subst (λ (desk : DeskState). AcceptsItems desk new c.args.items.items (c.see_standing-stands.result.held + c.len-many.result) c.signal-start.result) c.self.view_is (record {
        open_before = (unended, unclosed);
        room_before = room;
        taken = λ k. record old { lane = record lane { accepted = sym grown k }; started = c.signal-start.ensures.started k; looks = c.see_standing-stands.ensures.counted k };
        lag_after = omega arith;
        lag_fits = omega arith;
        starts = (λ some. (c.signal-start.ensures.rested.0 some, unended), λ rests. c.signal-start.ensures.rested.1 rests.0);
      });
      flow = subst (λ (accepted : List Item). IsFlow (record lane { accepted = accepted })) grown (flow_kept (sound_lane_with_items lane c.args.items.items sound unended));
    }

pub returns-clause-means : goal.returns-clause-means
returns-clause-means g c =
    let taken = subst (λ (desk : DeskState). desk.lane.given ≤ length desk.lane.accepted) c.self.view_is c.self.invariant.0.in_order.sound.counts.taken in
    accepted_puts_all c.args.self.now _ c.args.items.items _ c.signal-start.result taken (returns-clause-exact g c).answers
