use Rattle.std.proofs.Common.{◌≡◌, ◌<◌, Err, ap, length, inl, inr, refl, subst, arith}
use Rattle.std.proofs.lemmas.Result.{err_from_is_err_and}
use Rattle.lines_demo.specs.Prelude.{Refusal}
use Rattle.lines_demo.proofs.Scripts.Replying.{above_0, cap_done, cap_late, cap_no_memory, cap_zero}
use Rattle.flow_rules.specs.Capacity.{IsCapacityOf}
use Rattle.lines_demo.proofs.Sessions.Between.{session_resized, state_resized}
use Rattle.lines_demo.proofs.Sessions.Inside.{state_inside}
use Rattle.lines_demo.proofs.script.session.Session.set_capacity.Goals as goal

pub returns-then-self : goal.returns-then-self
returns-then-self g c = rw (← c.self.view_is) (cap_late (state_inside c.self.inside) c.args.asked c.if-self.true)

pub returns-in_err-enforced : goal.returns-in_err-enforced
returns-in_err-enforced g c =
    let failed = err_from_is_err_and c.from_residual.result c.from_residual.ensures.1 in
    let zero : c.args.asked ≡ 0 = c.in_err-enforced.ensures.refused.0 refl in
    rw (← c.self.view_is, failed.1, failed.2) (cap_zero (state_inside c.self.inside) c.args.asked c.if-self.false zero)

pub returns-in_err-self-inside : goal.returns-in_err-self-inside
returns-in_err-self-inside g c =
    let failed = err_from_is_err_and c.from_residual-in_err-self-inside.result c.from_residual-in_err-self-inside.ensures.1 in
    let some : 0 < c.args.asked = above_0 c.args.asked (λ none. let odd = c.in_ok-enforced.ensures.refused.1 none in cc) in
    let why : c.in_err-self-inside.field-0.0 ≡ Refusal.NoMemory = elim c.in_err-self-inside.ensures.refusals [
      | inl bad ↦ (let zero = c.in_err-self-inside.ensures.bad_capacity.0 (ap Err bad) in absurd (omega arith))
      | inr memory ↦ memory
    ] in
    rw (← c.self.view_is, failed.1, failed.2, why) (cap_no_memory (state_inside c.self.inside) c.args.asked c.if-self.false some)

pub invariant_of-self : goal.invariant_of-self
invariant_of-self g c =
    let some : 0 < c.args.asked = above_0 c.args.asked (λ none. let odd = c.in_ok-enforced.ensures.refused.1 none in cc) in
    let least = subst (IsCapacityOf c.args.asked) c.in_ok-enforced.ensures.value c.in_ok-enforced.ensures.least in
    (c.self.invariant.0, c.self.invariant.1, session_resized c.self.inside.hub c.in_ok-self-inside.field-0 (length c.self.inside.stock.items) c.args.asked c.self.inside.woken c.self.inside.beginning c.self.invariant.2 c.if-self.false c.in_ok-self-inside.ensures.ok c.in_ok-self-inside.ensures.sound some least, c.self.invariant.3)

pub returns : goal.returns
returns g c =
    let some : 0 < c.args.asked = above_0 c.args.asked (λ none. let odd = c.in_ok-enforced.ensures.refused.1 none in cc) in
    let resized = state_resized c.self.inside.hub c.in_ok-self-inside.field-0 (length c.self.inside.stock.items) c.args.asked c.self.inside.woken c.self.inside.beginning c.self.invariant.2 c.if-self.false c.in_ok-self-inside.ensures.ok in
    rw (← c.self.view_is, c.in_ok-enforced.ensures.value, resized) (cap_done (state_inside c.self.inside) c.args.asked c.if-self.false some)
