use Rattle.std.proofs.Common.{rules, ◌≡◌, ◌<◌, ◌^◌, [], true, length, arith, ◌∙◌, sym, ap, subst, to_z, w64}
use Rattle.std.proofs.lemmas.Int.{to_z_pos}
use Rattle.std.proofs.lemmas.Result.{err_from_is_err_and}
use Rattle.feed_core.specs.Feed.{DoesCall, end_of}
use Rattle.publisher_hub.specs.Publishing.{RefusesTexts}
use Rattle.publisher_hub.specs.declared.policy.Need.TheVariants as Need
use Rattle.lines_demo.specs.Prelude.{Refusal}
use Rattle.lines_demo.specs.Script.Publishing.{submit_refusal, submitted_reply}
use Rattle.lines_demo.specs.Script.State.{SessionState}
use Rattle.lines_demo.proofs.HubCalls.Submits.{HubSubmitted, SubmitRefused, hub_submitted, submit_refused, submit_waits}
use Rattle.lines_demo.proofs.Sessions.Looked.{session_looked}
use Rattle.lines_demo.proofs.HubCalls.RepliedTexts.{replies_no_text}
use Rattle.lines_demo.proofs.Sessions.Offers.{lag_small, not_submitted_replies, published_room, published_session, submitted_replies}
use Rattle.lines_demo.proofs.script.session.Session.submit.Given.{Over}
use Rattle.lines_demo.proofs.script.session.Session.submit.Goals as goal
use Rattle.lines_demo.proofs.script.session.Session.submit.Goals.{After-push_all, In-Err-Refused, In-Err-NoRoom}

pub returns-in_err-text : goal.returns-in_err-text
returns-in_err-text g c =
    let failed = err_from_is_err_and c.from_residual.result c.from_residual.ensures.1 in
    rw (failed.1, failed.2) (replies_no_text submit_refusal submitted_reply c.args.self.now c.args.text.now c.in_err-text.field-0.0 c.in_err-text.ensures)

pub push_all-requires : goal.push_all-requires
push_all-requires g c =
    let old = c.self.inside.hub in
    let new = c.publish.new.self in
    let is = c.self.invariant.2 in
    let all = hub_submitted c.in_ok-text.text old new c.self.inside.due.items c.publish.new.due.items c.in-Ok.publication is.publisher c.self.invariant.3 c.in-Ok.ensures.sound c.in-Ok.ensures.ok in
    record { room = published_room old new (length c.self.inside.stock.items) c.self.inside.woken c.self.inside.beginning is c.in_ok-text.text c.publish.new.due.items all.published }

-- what was submitted
submitted : (g : Over) (c : After-push_all g)
    → HubSubmitted c.in_ok-text.text c.self.inside.hub c.publish.new.self c.publish.new.due.items c.in-Ok.publication.lag
submitted g c =
    hub_submitted c.in_ok-text.text c.self.inside.hub c.publish.new.self c.self.inside.due.items c.publish.new.due.items c.in-Ok.publication c.self.invariant.2.publisher c.self.invariant.3 c.in-Ok.ensures.sound c.in-Ok.ensures.ok

-- its lag is small
small : (g : Over) (c : After-push_all g) → c.in-Ok.publication.lag < 2 ^ 63
small g c =
    let few = lag_small c.self.inside.hub c.publish.new.self (length c.self.inside.stock.items) c.self.inside.woken c.self.inside.beginning c.self.invariant.2 c.in_ok-text.text c.publish.new.due.items c.in-Ok.publication.lag (submitted g c) in
    omega arith

pub overflow_cast-result : goal.overflow_cast-result
overflow_cast-result g c = let few = small g (goal.at.overflow_cast-result g c).After-push_all in search rules

pub invariant_of-self : goal.invariant_of-self
invariant_of-self g c =
    let begun : c.self.inside.beginning.is_over ≡ true = ap (λ (s : SessionState). s.beginning.is_over) c.self.view_is ∙ c.requires.begun in
    rw c.push_all.ensures.woken (
      c.self.invariant.0,
      c.self.invariant.1,
      published_session c.self.inside.hub c.publish.new.self (length c.self.inside.stock.items) c.self.inside.woken c.self.inside.beginning c.self.invariant.2 c.in_ok-text.text c.publish.new.due.items (submitted g (goal.at.invariant_of-self g c).After-push_all).published begun,
      c.push_all.ensures.nothing_due,
    )

pub returns-in-Ok : goal.returns-in-Ok
returns-in-Ok g c =
    submitted_replies c.self.inside.hub c.publish.new.self (length c.self.inside.stock.items) c.self.inside.woken c.self.inside.beginning c.self.invariant.2 c.args.text.now c.in_ok-text.text c.publish.new.due.items c.in-Ok.publication.lag
    c.in_ok-text.ensures (submitted g (goal.at.returns-in-Ok g c).After-push_all) c.args.self.now c.self.view_is c.push_all.new.self c.push_all.ensures.woken (to_z w64 c.in-Ok.publication.lag) (to_z_pos w64 c.in-Ok.publication.lag (small g (goal.at.returns-in-Ok g c).After-push_all))

-- it was refused
refused : (g : Over) (c : In-Err-Refused g) → SubmitRefused c.self.inside.hub c.publish.new.self c.in-Err-Refused.refusal
refused g c =
    submit_refused c.self.inside.hub c.publish.new.self c.in-Err-Refused.refusal c.self.invariant.2.publisher
    (subst (λ why. RefusesTexts end_of DoesCall Need.All c.self.inside.hub c.publish.new.self why) c.in-Err-Refused.field-0-is c.in-Err-Refused.ensures.refusals)

pub invariant_of-self-in-Err-Refused : goal.invariant_of-self-in-Err-Refused
invariant_of-self-in-Err-Refused g c =
    let against = refused g (goal.at.invariant_of-self-in-Err-Refused g c).In-Err-Refused in
    let same = session_looked c.self.inside.hub c.publish.new.self (length c.self.inside.stock.items) c.self.inside.woken c.self.inside.beginning c.self.invariant.2 c.in-Err-Refused.ensures.sound against.far against.sees in
    let nothing : c.publish.new.due.items ≡ c.self.inside.due.items = c.in-Err-Refused.ensures.nothing_due in
    (c.self.invariant.0, c.self.invariant.1, same.session, subst (λ items. items ≡ []) (sym nothing) c.self.invariant.3)

pub returns-in-Err-Refused : goal.returns-in-Err-Refused
returns-in-Err-Refused g c =
    not_submitted_replies c.self.inside.hub c.publish.new.self (length c.self.inside.stock.items) c.self.inside.woken c.self.inside.beginning c.self.invariant.2 c.args.text.now c.in_ok-text.text c.in-Err-Refused.refusal
    c.in_ok-text.ensures c.in-Err-Refused.ensures.sound (refused g (goal.at.returns-in-Err-Refused g c).In-Err-Refused) c.args.self.now c.self.view_is

-- it would wait
waits : (g : Over) (c : In-Err-NoRoom g) → SubmitRefused c.self.inside.hub c.publish.new.self Refusal.WouldWait
waits g c =
    submit_waits c.self.inside.hub c.publish.new.self c.self.invariant.2.publisher
    (subst (λ why. RefusesTexts end_of DoesCall Need.All c.self.inside.hub c.publish.new.self why) c.in-Err-NoRoom.field-0-is c.in-Err-NoRoom.ensures.refusals)

pub invariant_of-self-in-Err-NoRoom : goal.invariant_of-self-in-Err-NoRoom
invariant_of-self-in-Err-NoRoom g c =
    let against = waits g (goal.at.invariant_of-self-in-Err-NoRoom g c).In-Err-NoRoom in
    let same = session_looked c.self.inside.hub c.publish.new.self (length c.self.inside.stock.items) c.self.inside.woken c.self.inside.beginning c.self.invariant.2 c.in-Err-NoRoom.ensures.sound against.far against.sees in
    let nothing : c.publish.new.due.items ≡ c.self.inside.due.items = c.in-Err-NoRoom.ensures.nothing_due in
    (c.self.invariant.0, c.self.invariant.1, same.session, subst (λ items. items ≡ []) (sym nothing) c.self.invariant.3)

pub returns : goal.returns
returns g c =
    not_submitted_replies c.self.inside.hub c.publish.new.self (length c.self.inside.stock.items) c.self.inside.woken c.self.inside.beginning c.self.invariant.2 c.args.text.now c.in_ok-text.text Refusal.WouldWait
    c.in_ok-text.ensures c.in-Err-NoRoom.ensures.sound (waits g (goal.at.returns g c).In-Err-NoRoom) c.args.self.now c.self.view_is
