-- A request keeps what a Desk keeps, and so the Flow rules.
use Rattle.std.proofs.Common.{◌≡◌, false, sym, subst, ap, ◌∙◌}
use Rattle.std.proofs.Math.Facts.{to_z-of_z}
use Rattle.flow_rules.specs.Amount.{amount_of}
use Rattle.feed_core.specs.Desk.{DeskState, desk_with_request}
use Rattle.feed_core.specs.Lane.{LaneState, IsFlow}
use Rattle.feed_core.specs.LaneCalls.{lane_with_request}
use Rattle.feed_core.specs.Sound.{lane_of}
use Rattle.feed_core.proofs.Lanes.Accounts.{accounts_requested}
use Rattle.feed_core.proofs.Lanes.FlowRules.{flow_kept}
use Rattle.feed_core.proofs.Lanes.ObeyedAnswers.{sound_asking}
use Rattle.feed_core.proofs.desk.Desk.request.Given.{Over}
use Rattle.feed_core.proofs.desk.Desk.request.Goals as goal

pub returns-then-self-clause-flow : goal.returns-then-self-clause-flow
returns-then-self-clause-flow g c = subst (λ (desk : DeskState). IsFlow desk.lane) c.self.view_is (flow_kept c.self.invariant.0.in_order.sound)

-- what it was before
abbrev desk_inside : (g : Over) (c : goal.After-signal g) → DeskState
desk_inside g c =
    let s = c.self.inside in record {
      lane = lane_of (g.B.Listener.told s.subscriber) s.held.items s.given s.asked s.causes s.how;
      capacity = s.capacity;
      started = s.started;
      is_steady = g.B.Listener.is_steady s.subscriber;
      looks = amount_of s.looks;
      requested = s.requested;
      asked_badly = s.asked_badly;
      is_cancelled = s.cancelled;
      replied = g.B.Listener.replied s.subscriber;
    }

pub invariant_of-self : goal.invariant_of-self
invariant_of-self g c =
    let s = c.self.inside in
    let lane : LaneState = lane_of (g.B.Listener.told s.subscriber) s.held.items s.given s.asked s.causes s.how in
    let runs = c.signal.ensures.started in
    let kept = c.self.invariant.0 in (
      record {
        in_order = record {
          sound = sound_asking _ lane _ _ kept.in_order.sound c.ask.ensures.grows c.ask.ensures.asks;
          holds = kept.in_order.holds;
          fits = kept.in_order.fits;
          rests = λ e. cc;
        };
        counted = kept.counted;
        roomy = kept.roomy;
        greeted = kept.greeted;
      },
      accounts_requested _ (desk_inside g c) _ _ _ _ c.self.invariant.1 c.ask.ensures.asks c.note.ensures.notes,
    )

pub returns-clause-requested : goal.returns-clause-requested
returns-clause-requested g c =
    let s = c.self.inside in
    let lane : LaneState = lane_of (g.B.Listener.told s.subscriber) s.held.items s.given s.asked s.causes s.how in
    let old : DeskState = record (desk_inside g c) { is_cancelled = false } in
    let number = to_z-of_z c.ranges.n in
    let same : record lane { asked = c.ask.new.asked; causes = c.ask.new.causes } ≡ lane_with_request c.args.n lane =
    sym (c.ask.ensures.asks lane) ∙ ap (λ n. lane_with_request n lane) number in
    let noted : record old { requested = c.note.new.requested; asked_badly = c.note.new.asked_badly } ≡ desk_with_request c.args.n old =
    sym (c.note.ensures.notes old) ∙ ap (λ n. desk_with_request n old) number in
    let uncancelled : s.cancelled ≡ false = c.if-self.false in
    rw (← c.self.view_is, uncancelled) (λ k. record (noted k) { lane = same k; started = c.signal.ensures.started k })

pub returns-clause-flow : goal.returns-clause-flow
returns-clause-flow g c =
    let s = c.self.inside in
    let lane : LaneState = lane_of (g.B.Listener.told s.subscriber) s.held.items s.given s.asked s.causes s.how in
    flow_kept (sound_asking _ lane _ _ c.self.invariant.0.in_order.sound c.ask.ensures.grows c.ask.ensures.asks)
