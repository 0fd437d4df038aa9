-- The item that was taken moves from the held ones to the told ones, and its answer is obeyed; or it goes back if
-- its callback was refused memory.
use Rattle.std.proofs.Common.{◌≡◌, ◌<◌, ◌≤◌, ◌∷◌, length, ap, sym, ◌∙◌, subst, refl, arith, rules}
use Rattle.feed_core.specs.Prelude.{Item}
use Rattle.feed_core.specs.Buffer.{BufferState}
use Rattle.feed_core.specs.Cause.{stops}
use Rattle.feed_core.specs.Desk.{DeskState}
use Rattle.feed_core.specs.Seen.{SeenState}
use Rattle.feed_core.specs.Sound.{is_begun}
use Rattle.feed_core.specs.Steps.{IsMidTurn, MovesNext}
use Rattle.feed_core.proofs.Lanes.Accounts.{accounts_answered, accounts_refused}
use Rattle.feed_core.proofs.Desks.Steps.{accepted_kept, in_order_given, is_begun_append, still_greeted}
use Rattle.feed_core.proofs.Turns.Looks.{looks_given, looks_lost}
use Rattle.feed_core.proofs.Lanes.ObeyedAnswers.{in_order_obeying}
use Rattle.feed_core.proofs.desk.Desk.take.Goals as goal

pub invariant_of-self : goal.invariant_of-self
invariant_of-self g c =
    let mid = subst (λ (desk : DeskState). IsMidTurn desk) (sym c.self.view_is) c.requires.mid_turn in
    let requested = subst (λ (desk : DeskState). desk.lane.given < desk.lane.asked) (sym c.self.view_is) c.requires.requested in
    let moves : MovesNext _ _ c.self.inside.held.items c.take-item.new.self.items c.args.seen.now.signals c.tell_next.new.seen.signals =
    record { item = c.take-item.result; waited = c.take-item.ensures.first; told_after = c.in-Ok.ensures.told; seen_after = ap (λ (seen : SeenState). seen.signals) c.in-Ok.ensures.seen } in
    let begun = ap is_begun moves.told_after ∙ is_begun_append _ _ mid.begun in (
      record {
        in_order = in_order_obeying (in_order_given c.self.invariant.0.in_order mid.owed.1 mid.owed.0 mid.begun moves requested) mid.owed.1 mid.owed.0 begun c.in-Ok.answer c.obey.ensures.grows c.obey.ensures.obeys;
        counted = ap length (accepted_kept c.self.invariant.0.in_order mid.owed.1 mid.owed.0 mid.begun moves) ∙ c.self.invariant.0.counted;
        roomy = subst (λ room. c.self.inside.capacity ≤ room) (sym c.take-item.ensures.room) c.self.invariant.0.roomy;
        greeted = still_greeted _ _ _ _ c.self.invariant.0.greeted mid.begun moves.told_after;
      },
      accounts_answered c.self.invariant.1 mid.owed.1 c.in-Ok.answer c.obey.ensures.obeys c.in-Ok.ensures.replied begun (c.self.invariant.1.greeted mid.owed.1 mid.begun),
    )

pub invariant_of-self-in-Err : goal.invariant_of-self-in-Err
invariant_of-self-in-Err g c =
    let mid = subst (λ (desk : DeskState). IsMidTurn desk) (sym c.self.view_is) c.requires.mid_turn in
    let enough = c.self.invariant.1.called in
    (search rules, accounts_refused c.self.invariant.1 mid.owed.1 c.in-Err.ensures.refused (omega (arith, enough)) refl c.end_as.ensures.causes c.end_as.ensures.ended)

pub returns-in-Ok-clause-looks : goal.returns-in-Ok-clause-looks
returns-in-Ok-clause-looks g c =
    let mid = subst (λ (desk : DeskState). IsMidTurn desk) (sym c.self.view_is) c.requires.mid_turn in
    let unstopped = ap (λ (desk : DeskState). stops desk.lane.causes) c.self.view_is ∙ c.requires.unstopped in
    let requested = subst (λ (desk : DeskState). desk.lane.given < desk.lane.asked) (sym c.self.view_is) c.requires.requested in
    let moves : MovesNext _ _ c.self.inside.held.items c.take-item.new.self.items c.args.seen.now.signals c.tell_next.new.seen.signals =
    record { item = c.take-item.result; waited = c.take-item.ensures.first; told_after = c.in-Ok.ensures.told; seen_after = ap (λ (seen : SeenState). seen.signals) c.in-Ok.ensures.seen } in
    rw (← c.self.view_is) (looks_given c.self.invariant.0.in_order c.self.invariant.1 mid.owed.1 mid.owed.0 mid.begun c.in-Ok.answer c.in-Ok.ensures.replied moves unstopped requested c.obey.ensures.grows c.obey.ensures.obeys c.tell_next.ensures.steady c.in-Ok.ensures.goes_on)

pub returns-in-Err-clause-looks : goal.returns-in-Err-clause-looks
returns-in-Err-clause-looks g c =
    let mid = subst (λ (desk : DeskState). IsMidTurn desk) (sym c.self.view_is) c.requires.mid_turn in
    let unstopped = ap (λ (desk : DeskState). stops desk.lane.causes) c.self.view_is ∙ c.requires.unstopped in
    let waits = subst (λ (desk : DeskState). desk.lane.given < length desk.lane.accepted) (sym c.self.view_is) c.requires.waits in
    let requested = subst (λ (desk : DeskState). desk.lane.given < desk.lane.asked) (sym c.self.view_is) c.requires.requested in
    let back : c.put_back.new.self.items ≡ c.self.inside.held.items =
    ap (λ (buffer : BufferState). buffer.items) c.put_back.ensures ∙ ap (λ (item : Item). item ∷ c.take-item.new.self.items) c.in-Err.ensures.back ∙ sym c.take-item.ensures.first in
    rw (← c.self.view_is, c.end_as.ensures.causes, c.end_as.ensures.ended, c.end_as.ensures.value)
    (looks_lost c.self.invariant.0.in_order c.self.invariant.1 mid.owed.1 mid.owed.0 mid.begun c.in-Err.ensures.refused c.in-Err.ensures.untold back (ap (λ (seen : SeenState). seen.signals) c.in-Err.ensures.unseen) unstopped waits requested c.tell_next.ensures.steady)
