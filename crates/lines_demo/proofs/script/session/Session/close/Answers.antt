use Rattle.std.proofs.Common.{◌≡◌, true, None, ◌++◌, length, sym, ap, ◌∙◌}
use Rattle.std.specs.Prelude.{is_some}
use Rattle.std.proofs.lemmas.Result.{err_from_is_err_and}
use Rattle.feed_core.specs.Feed.{DoesCall, end_of}
use Rattle.publisher_hub.specs.Closing.{ClosesAll}
use Rattle.lines_demo.specs.Prelude.{Refusal}
use Rattle.lines_demo.specs.Script.Obeying.{closing_result}
use Rattle.lines_demo.specs.Script.Session.{numbers_of}
use Rattle.lines_demo.specs.Script.State.{SessionState}
use Rattle.commands.specs.declared.reply.Reply.TheVariants.{Done}
use Rattle.lines_demo.proofs.Sessions.Answered.{IsAnswered}
use Rattle.lines_demo.proofs.HubCalls.Closes.{closed, closed_room}
use Rattle.lines_demo.proofs.HubCalls.Looks.{may_prepare_all_same}
use Rattle.lines_demo.proofs.Sessions.Inside.{state_inside}
use Rattle.lines_demo.proofs.Sessions.Looked.{IsSameSession, session_looked}
use Rattle.lines_demo.proofs.Scripts.Replying.{closing_again, closing_no_memory}
use Rattle.lines_demo.proofs.Sessions.States.{no_value}
use Rattle.lines_demo.proofs.script.session.Session.close.Given.{Over}
use Rattle.lines_demo.proofs.script.session.Session.close.Goals as goal
use Rattle.lines_demo.proofs.script.session.Session.close.Goals.{After-from_residual, In_ok-end}

pub returns-then-is_some : goal.returns-then-is_some
returns-then-is_some g c = rw (← c.self.view_is) (closing_again c.args.ending (state_inside c.self.inside) (ap is_some (sym c.ending.ensures) ∙ sym c.is_some.ensures ∙ c.if-is_some.true))

-- memory was refused after some looks
looked : (g : Over) (c : After-from_residual g)
    → IsSameSession c.self.inside.hub c.end.new.self (length c.self.inside.stock.items) c.self.inside.woken c.self.inside.beginning
looked g c =
    let old = c.self.inside.hub in
    let is = c.self.invariant.2 in
    session_looked old c.end.new.self (length c.self.inside.stock.items) c.self.inside.woken c.self.inside.beginning is c.in_err-end.ensures.sound
    (ap (λ h. h.progress) c.in_err-end.ensures.looked.rest) (may_prepare_all_same old.next old.entries.items c.end.new.self.entries.items is.publisher.entries c.in_err-end.ensures.exact)

pub invariant_of-self : goal.invariant_of-self
invariant_of-self g c = (c.self.invariant.0, c.self.invariant.1, (looked g (goal.at.invariant_of-self g c).After-from_residual).session, c.in_err-end.ensures.due ∙ c.self.invariant.3)

pub returns-in_err-end : goal.returns-in_err-end
returns-in_err-end g c =
    let failed = err_from_is_err_and c.from_residual.result c.from_residual.ensures.1 in
    let why : c.in_err-end.field-0.0 ≡ Refusal.NoMemory = (let same = c.in_err-end.ensures.refusals in cc) in
    rw (← c.self.view_is, failed.1, failed.2, why, (looked g (goal.at.returns-in_err-end g c).After-from_residual).state) (
    closing_no_memory c.args.ending (state_inside c.self.inside) (sym (c.is_some.ensures ∙ ap is_some c.ending.ensures) ∙ c.if-is_some.false))

begun : (g : Over) (c : In_ok-end g) → c.self.inside.beginning.is_over ≡ true
begun g c = ap (λ (s : SessionState). s.beginning.is_over) c.self.view_is ∙ c.requires.begun

-- it wasn't closed before
unclosed : (g : Over) (c : In_ok-end g) → c.self.inside.hub.ending ≡ None
unclosed g c = no_value c.self.inside.hub.ending (sym (c.is_some.ensures ∙ ap is_some c.ending.ensures) ∙ c.if-is_some.false)

-- and is now
closes : (g : Over) (c : In_ok-end g)
    → ClosesAll end_of DoesCall c.args.ending c.self.inside.due.items c.end.new.due.items c.self.inside.hub c.end.new.self
closes g c = (c.in_ok-end.ensures.first (unclosed g c)).1

-- what that leaves
done : (g : Over) (c : In_ok-end g)
    → IsAnswered (λ refusals. closing_result c.args.ending (state_inside c.self.inside) refusals) Done c.end.new.self (length c.self.inside.stock.items) (c.self.inside.woken ++ numbers_of c.end.new.due.items) c.self.inside.beginning
done g c = closed c.self.inside c.end.new.self c.args.ending c.end.new.due.items c.self.invariant.2 c.self.invariant.3 (unclosed g c) c.in_ok-end.ensures.sound (closes g c) (begun g c)

pub push_all-requires : goal.push_all-requires
push_all-requires g c =
    let now = (goal.at.push_all-requires g c).In_ok-end in
    record { room = closed_room c.self.inside c.end.new.self c.args.ending c.end.new.due.items c.self.invariant.2 c.self.invariant.3 (unclosed g now) c.in_ok-end.ensures.sound (closes g now) (begun g now) }

pub invariant_of-self-2 : goal.invariant_of-self-2
invariant_of-self-2 g c = rw c.push_all.ensures.woken (c.self.invariant.0, c.self.invariant.1, (done g (goal.at.invariant_of-self-2 g c).In_ok-end).session, c.push_all.ensures.nothing_due)

pub returns : goal.returns
returns g c = rw (← c.self.view_is, c.push_all.ensures.woken) (done g (goal.at.returns g c).In_ok-end).replies
