-- A new subscription has requested as many items as it is asked to.
use Rattle.std.proofs.Common.{◌≡◌, ap, ◌∙◌, arith, rules}
use Rattle.lines_demo.specs.Prelude.{desk_after_demand, desk_after_request}
use Rattle.lines_demo.specs.Script.Subscribing.{desk_at_start}
use Rattle.lines_demo.proofs.Scripts.SmallNumbers.{small_signed}
use Rattle.lines_demo.proofs.Sessions.Admissions.{requests_demand}
use Rattle.lines_demo.proofs.script.session.subscribing.new_desk.Goals as goal
use Rattle.lines_demo.proofs.script.session.subscribing.new_desk.Goals.{then-number-gt0, else-number-gt0}

pub returns-after-number-gt0-clause-ok : goal.returns-after-number-gt0-clause-ok
returns-after-number-gt0-clause-ok g c =
    let new : c.in-Ok.desk ≡ desk_at_start c.args.order c.args.capacity = search rules in
    let bound = c.requires.bounded in
    elim c.if-number-gt0.branch [
      | then-number-gt0 w ↦
          let some = w.if-number-gt0.true in
          w.desk-is ∙ w.request.ensures.requested ∙ (λ i. desk_after_request (small_signed c.args.number (omega arith) i) (new i)) ∙ requests_demand c.args.order c.args.number c.args.capacity (omega arith)
      | else-number-gt0 w ↦
          let none : 0 ≡ c.args.number = omega (arith, w.if-number-gt0.false) in
          w.desk-is ∙ new ∙ ap (λ n. desk_after_demand n (desk_at_start c.args.order c.args.capacity)) none
    ]
