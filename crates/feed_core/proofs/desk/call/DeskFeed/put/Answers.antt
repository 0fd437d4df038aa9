-- A put that is accepted, and that each put keeps the Flow rules.
use Rattle.std.proofs.Common.{◌≡◌, ◌+◌, ◌-◌, ◌<◌, ◌≤◌, length, ◌∷◌, ◌++◌, [], None, List, ap, sym, subst, ◌∙◌, append_assoc, length-append, arith, rules}
use Rattle.flow_rules.specs.Amount.{amount_of}
use Rattle.feed_core.specs.Prelude.{Item, items_of}
use Rattle.feed_core.specs.Buffer.{BufferState}
use Rattle.feed_core.specs.Desk.{DeskState, AcceptsItem}
use Rattle.feed_core.specs.Lane.{LaneState, IsFlow}
use Rattle.feed_core.specs.Sound.{lane_of}
use Rattle.feed_core.proofs.Lanes.FlowRules.{flow_kept}
use Rattle.feed_core.proofs.Lanes.ProducerEnds.{accepted_puts}
use Rattle.feed_core.proofs.Lanes.Sound.{sound_lane_with_item}
use Rattle.feed_core.proofs.desk.call.DeskFeed.put.Goals as goal

pub returns-then-is_some-clause-exact : goal.returns-then-is_some-clause-exact
returns-then-is_some-clause-exact g c = record {
  answers = search rules;
  flow = subst (λ (desk : DeskState). IsFlow desk.lane) c.self.view_is (flow_kept c.self.invariant.0.in_order.sound);
}

pub returns-then-standing-clause-exact : goal.returns-then-standing-clause-exact
returns-then-standing-clause-exact g c = record { answers = search rules; flow = flow_kept c.self.invariant.0.in_order.sound }

pub returns-then-standing-self-clause-exact : goal.returns-then-standing-self-clause-exact
returns-then-standing-self-clause-exact g c = record { answers = search rules; flow = flow_kept c.self.invariant.0.in_order.sound }

pub returns-clause-exact : goal.returns-clause-exact
returns-clause-exact g c =
    let s = c.self.inside in
    let told = g.B.Listener.told s.subscriber in
    let lane : LaneState = lane_of told s.held.items s.given s.asked s.causes s.how in
    let old : DeskState = record { lane = lane; capacity = s.capacity; started = s.started; is_steady = g.B.Listener.is_steady s.subscriber; looks = amount_of s.looks; requested = s.requested; asked_badly = s.asked_badly; is_cancelled = s.cancelled; replied = g.B.Listener.replied s.subscriber } in
    let after : LaneState = lane_of told c.put.new.self.items s.given s.asked s.causes s.how in
    let new : DeskState = record old { lane = after; started = c.signal.new.started; looks = amount_of c.see_standing-standing.new.looks } in
    let sound = c.self.invariant.0.in_order.sound in
    let unended : lane.how ≡ None = search rules in
    let unclosed : lane.causes.closing ≡ None = search rules in
    let grown : lane.accepted ++ (c.args.item ∷ []) ≡ after.accepted =
    append_assoc (items_of told) s.held.items (c.args.item ∷ []) ∙ ap (λ (held : List Item). items_of told ++ held) (sym (ap (λ (buffer : BufferState). buffer.items) c.put.ensures)) in
    let longer : length after.accepted ≡ length lane.accepted + 1 = sym (ap length grown) ∙ length-append lane.accepted (c.args.item ∷ []) in
    let taken = sound.counts.taken in
    let counted : length lane.accepted ≡ s.accepted = c.self.invariant.0.counted in
    let fits : length lane.accepted ≤ s.given + s.capacity = c.self.invariant.0.in_order.fits in
    let room : length lane.accepted - s.given < s.capacity = search rules in
    let held : c.see_standing-standing.result.held ≡ length lane.accepted - s.given = omega (arith, c.see_standing-standing.ensures.held) in
    record {
      answers = subst (λ (desk : DeskState). AcceptsItem desk new c.args.item (c.see_standing-standing.result.held + 1) c.signal.result) c.self.view_is (record {
        open_before = (unended, unclosed);
        room_before = room;
        taken = λ k. record old { lane = record lane { accepted = sym grown k }; started = c.signal.ensures.started k; looks = c.see_standing-standing.ensures.counted k };
        lag_after = omega arith;
        lag_fits = omega arith;
        starts = (λ some. (c.signal.ensures.rested.0 some, unended), λ rests. c.signal.ensures.rested.1 rests.0);
      });
      flow = subst (λ (accepted : List Item). IsFlow (record lane { accepted = accepted })) grown (flow_kept (sound_lane_with_item lane c.args.item sound unended));
    }

pub returns-clause-means : goal.returns-clause-means
returns-clause-means g c =
    let taken = subst (λ (desk : DeskState). desk.lane.given ≤ length desk.lane.accepted) c.self.view_is c.self.invariant.0.in_order.sound.counts.taken in
    accepted_puts c.args.self.now _ c.args.item _ c.signal.result taken (returns-clause-exact g c).answers
