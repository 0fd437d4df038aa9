use Rattle.std.proofs.Common.{rules, to_z, of_z, w64, ◌≡◌, [], true, length, ◌∙◌, sym, ap, subst}
use Rattle.std.proofs.lemmas.Result.{err_from_is_err_and}
use Rattle.lines_demo.specs.Script.State.{SessionState}
use Rattle.lines_demo.proofs.HubCalls.Offers.{HubOffered, OfferRefused, hub_offered, offer_refused}
use Rattle.lines_demo.proofs.Sessions.Looked.{session_looked}
use Rattle.lines_demo.proofs.Sessions.Offers.{published_room, published_session, text_offered, text_refused}
use Rattle.lines_demo.proofs.script.session.Session.offer_text.Given.{Over}
use Rattle.lines_demo.proofs.script.session.Session.offer_text.Goals as goal

-- the text was refused
refused : (g : Over) (c : goal.After-from_residual g) → OfferRefused c.self.inside.hub c.offer.new.self c.in_err-answer.field-0.0
refused g c = offer_refused c.self.inside.hub c.offer.new.self c.in_err-answer.field-0.0 c.self.invariant.2.publisher c.in_err-answer.ensures.refusals

pub invariant_of-self : goal.invariant_of-self
invariant_of-self g c =
    let against = refused g c in
    let same = session_looked c.self.inside.hub c.offer.new.self (length c.self.inside.stock.items) c.self.inside.woken c.self.inside.beginning c.self.invariant.2 c.in_err-answer.ensures.sound against.far against.sees in
    let nothing : c.offer.new.due.items ≡ c.self.inside.due.items = c.in_err-answer.ensures.nothing_due in
    (c.self.invariant.0, c.self.invariant.1, same.session, subst (λ items. items ≡ []) (sym nothing) c.self.invariant.3)

pub returns-in_err-answer-clause-refusals : goal.returns-in_err-answer-clause-refusals
returns-in_err-answer-clause-refusals g c =
    let failed = err_from_is_err_and c.from_residual.result c.from_residual.ensures.1 in
    rw (← c.self.view_is, failed.1, failed.2)
    (text_refused c.self.inside.hub c.offer.new.self (length c.self.inside.stock.items) c.self.inside.woken c.self.inside.beginning c.self.invariant.2 c.in_err-answer.field-0.0 c.in_err-answer.ensures.sound (refused g c))

pub push_all-requires : goal.push_all-requires
push_all-requires g c =
    let old = c.self.inside.hub in
    let is = c.self.invariant.2 in
    let all = hub_offered c.args.text _ old c.offer.new.self c.self.inside.due.items c.offer.new.due.items c.in_ok-answer.answer is.publisher c.self.invariant.3 c.in_ok-answer.ensures.sound c.in_ok-answer.ensures.ok in
    record { room = published_room old c.offer.new.self (length c.self.inside.stock.items) c.self.inside.woken c.self.inside.beginning is c.args.text c.offer.new.due.items all.published }

-- the text was offered
offered : (g : Over) (c : goal.After-push_all g)
    → HubOffered c.args.text c.self.inside.hub c.offer.new.self c.offer.new.due.items c.in_ok-answer.answer
offered g c =
    hub_offered c.args.text _ c.self.inside.hub c.offer.new.self c.self.inside.due.items c.offer.new.due.items c.in_ok-answer.answer c.self.invariant.2.publisher c.self.invariant.3
    c.in_ok-answer.ensures.sound c.in_ok-answer.ensures.ok

pub invariant_of-self-2 : goal.invariant_of-self-2
invariant_of-self-2 g c =
    let begun : c.self.inside.beginning.is_over ≡ true = ap (λ (s : SessionState). s.beginning.is_over) c.self.view_is ∙ c.requires.begun in
    rw c.push_all.ensures.woken (
      c.self.invariant.0,
      c.self.invariant.1,
      published_session c.self.inside.hub c.offer.new.self (length c.self.inside.stock.items) c.self.inside.woken c.self.inside.beginning c.self.invariant.2 c.args.text c.offer.new.due.items (offered g c).published begun,
      c.push_all.ensures.nothing_due,
    )

pub returns-clause-ok : goal.returns-clause-ok
returns-clause-ok g c =
    let fits = c.offer.type_inv in
    let was = c.in_ok-answer.was in
    let same : to_z w64 (of_z w64 c.in_ok-answer.answer) ≡ c.in_ok-answer.answer = search rules in
    rw (← c.self.view_is, c.push_all.ensures.woken, same)
    (text_offered c.self.inside.hub c.offer.new.self (length c.self.inside.stock.items) c.self.inside.woken c.self.inside.beginning c.self.invariant.2 c.args.text c.offer.new.due.items c.in_ok-answer.answer (offered g c))
