use Rattle.std.proofs.Common.{rules, to_z, of_z, w64, ◌≡◌}
use Rattle.std.proofs.lemmas.Result.{err_from_is_err_and}
use Rattle.lines_demo.specs.Script.Publishing.{offered_reply, publication_refusal}
use Rattle.lines_demo.proofs.HubCalls.RepliedTexts.{replies_no_text, replies_offered, replies_refused}
use Rattle.lines_demo.proofs.script.session.Session.offer.Goals as goal

pub returns-in_err-text : goal.returns-in_err-text
returns-in_err-text g c =
    let failed = err_from_is_err_and c.from_residual.result c.from_residual.ensures.1 in
    rw (failed.1, failed.2) (replies_no_text publication_refusal offered_reply c.args.self.now c.args.text.now c.in_err-text.field-0.0 c.in_err-text.ensures)

pub returns-in_err-answer : goal.returns-in_err-answer
returns-in_err-answer g c =
    let failed = err_from_is_err_and c.from_residual-in_err-answer.result c.from_residual-in_err-answer.ensures.1 in
    rw (failed.1, failed.2) (replies_refused offered_reply c.args.self.now c.offer_text.new.self c.args.text.now c.in_ok-text.text c.in_err-answer.field-0.0 c.in_ok-text.ensures c.in_err-answer.ensures.refusals)

pub returns : goal.returns
returns g c =
    let fits = c.offer_text.type_inv in
    let was = c.in_ok-answer.was in
    let same : to_z w64 (of_z w64 c.in_ok-answer.answer) ≡ c.in_ok-answer.answer = search rules in
    rw same (replies_offered c.args.self.now c.offer_text.new.self c.args.text.now c.in_ok-text.text c.in_ok-answer.answer c.in_ok-text.ensures c.in_ok-answer.ensures.ok)
