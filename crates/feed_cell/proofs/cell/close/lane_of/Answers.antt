-- The lane of a subscriber that is at home has what lies beside it.
use Rattle.std.proofs.Common.{◌≡◌, ◌%◌, ◌<◌, ◌≤◌, ℕ, Bool, Some, inl, inr, ap, ap₂, sym, subst, ◌∙◌, arith}
use borrow.Author.Tests.{ltb-false, ltb-true}
use Rattle.feed_core.specs.Prelude.{total_after}
use Rattle.feed_core.specs.declared.lane.Lane.{Lane}
use Rattle.feed_cell.specs.Control.{MARK}
use Rattle.feed_cell.specs.Left.{OnGuest}
use Rattle.feed_cell.specs.TaskAnswers.{IsNoted}
use Rattle.feed_cell.specs.declared.cell.Held.{Held}
use Rattle.feed_cell.specs.declared.cell.Lodger.{Lodger}
use Rattle.feed_cell.proofs.cell.close.lane_of.Goals as goal
use Rattle.feed_cell.proofs.cell.close.lane_of.Goals.{then-head-lt-MARK, else-head-lt-MARK}

on_guest : {B : Type 0} (held : Held B) (guest : Lodger B) (P : Lodger B → Type 0) → held ≡ Held.Guest guest → P guest → OnGuest held P
on_guest held guest P is holds = subst (λ h. OnGuest h P) (sym is) holds

pub returns-after-head-lt-MARK-clause-there : goal.returns-after-head-lt-MARK-clause-there
returns-after-head-lt-MARK-clause-there g c home =
    let running = c.if-head-lt-MARK.result in
    let whole : c.into_inner-subscriber.result ≡ c.in-Guest.guest = c.into_inner-subscriber.ensures ∙ c.guest.view_is in
    let own : c.into_inner-subscriber.result.own ≡ c.in-Guest.guest.own = ap (λ (l : Lodger g.row.B.Denot). l.own) whole in
    let total : c.min.result ≡ total_after (c.args.asked % MARK) c.in-Guest.guest.own = omega arith in
    let lane : Lodger g.row.B.Denot → ℕ → Lane g.row.B.Denot = λ l asked. record { subscriber = Some l.subscriber; accepted = c.args.tail; given = c.args.head % MARK; asked = asked; requested = c.args.asked % MARK; cancelled = c.is_cancelled-cancelled.result; ending = l.how; order = Some l.answers.order; running = running } in
    on_guest c.args.last c.in-Guest.guest _ c.in-Guest.is (
      running,
      λ off. elim c.if-head-lt-MARK.branch [ then-head-lt-MARK w ↦ inr (ltb-false c.args.asked MARK (sym w.result-is ∙ off)) | else-head-lt-MARK w ↦ inl w.if-head-lt-MARK.false ],
      λ on. elim c.if-head-lt-MARK.branch [ then-head-lt-MARK w ↦ (w.if-head-lt-MARK.true, ltb-true c.args.asked MARK (sym w.result-is ∙ on)) | else-head-lt-MARK w ↦ absurd (let below : c.args.head < MARK = ltb-true c.args.head MARK (sym w.result-is ∙ on) in let above : MARK ≤ c.args.head = w.if-head-lt-MARK.false in omega arith) ],
      ap₂ lane whole total ∙ ap (λ (b : Bool). record { subscriber = Some c.in-Guest.guest.subscriber; accepted = c.args.tail; given = c.args.head % MARK; asked = total_after (c.args.asked % MARK) c.in-Guest.guest.own; requested = c.args.asked % MARK; cancelled = b; ending = c.in-Guest.guest.how; order = Some c.in-Guest.guest.answers.order; running = running }) c.is_cancelled-cancelled.ensures,
    )

pub returns-after-head-lt-MARK-clause-noted : goal.returns-after-head-lt-MARK-clause-noted
returns-after-head-lt-MARK-clause-noted g c home = on_guest c.args.last c.in-Guest.guest _ c.in-Guest.is (subst (IsNoted g.B.Listener.replied) c.guest.view_is c.guest.invariant)
