-- onSubscribe is told if nothing was told yet, and its answer is obeyed.
use Rattle.std.proofs.Common.{◌≡◌, [], ◌∷◌, ◌++◌, length, true, ap, sym, ◌∙◌, subst}
use Rattle.feed_core.specs.Prelude.{Subscribed}
use Rattle.feed_core.specs.Accounts.{IsAccounted}
use Rattle.feed_core.specs.Desk.{DeskState, Owes}
use Rattle.feed_core.specs.Lane.{IsFlow}
use Rattle.feed_core.specs.Seen.{SeenState}
use Rattle.feed_core.specs.Sound.{is_begun}
use Rattle.feed_core.proofs.Lanes.FlowRules.{flow_kept}
use Rattle.feed_core.proofs.Turns.Greetings.{accounts_greeted, greets_begun, greets_told, greets_refused, in_order_greeted, greeted_items, untold}
use Rattle.feed_core.proofs.Lanes.ObeyedAnswers.{in_order_obeying}
use Rattle.feed_core.proofs.desk.Desk.greet.Goals as goal

pub returns-then-self-clause-greets : goal.returns-then-self-clause-greets
returns-then-self-clause-greets g c =
    let begun = subst (λ (desk : DeskState). is_begun desk.lane.told ≡ true) c.self.view_is (sym c.self.invariant.0.greeted ∙ c.if-self.true) in
    greets_begun c.args.self.now _ c.requires.owed begun (subst (λ (desk : DeskState). IsFlow desk.lane) c.self.view_is (flow_kept c.self.invariant.0.in_order.sound)) (subst IsAccounted c.self.view_is c.self.invariant.1)

pub invariant_of-self : goal.invariant_of-self
invariant_of-self g c =
    let owed = subst (λ (desk : DeskState). Owes desk) (sym c.self.view_is) c.requires.owed in
    let nothing = untold _ (sym c.self.invariant.0.greeted ∙ c.if-self.false) in
    let grows = c.in-Ok.ensures.told in
    let begun = ap is_begun (grows ∙ ap (λ told. told ++ Subscribed ∷ []) nothing) in (
      record {
        in_order = in_order_obeying (in_order_greeted c.self.invariant.0.in_order owed.1 owed.0 nothing grows) owed.1 owed.0 begun c.in-Ok.answer c.obey.ensures.grows c.obey.ensures.obeys;
        counted = ap length (greeted_items c.self.invariant.0.in_order owed.1 owed.0 nothing grows) ∙ c.self.invariant.0.counted;
        roomy = c.self.invariant.0.roomy;
        greeted = sym begun;
      },
      accounts_greeted c.self.invariant.0.in_order owed.1 owed.0 nothing c.self.invariant.1 c.in-Ok.answer c.in-Ok.ensures.replied grows c.obey.ensures.obeys,
    )

pub returns-in-Ok-clause-greets : goal.returns-in-Ok-clause-greets
returns-in-Ok-clause-greets g c =
    let owed = subst (λ (desk : DeskState). Owes desk) (sym c.self.view_is) c.requires.owed in
    let nothing = untold _ (sym c.self.invariant.0.greeted ∙ c.if-self.false) in
    rw (← c.self.view_is) (greets_told c.self.invariant.0.in_order owed.1 owed.0 nothing c.self.invariant.1 c.in-Ok.answer c.in-Ok.ensures.replied c.in-Ok.ensures.told (ap (λ (seen : SeenState). seen.signals) c.in-Ok.ensures.seen) c.obey.ensures.grows c.obey.ensures.obeys c.tell_subscribed.ensures.steady c.in-Ok.ensures.goes_on)

pub returns-in-Err-clause-greets : goal.returns-in-Err-clause-greets
returns-in-Err-clause-greets g c =
    let owed = subst (λ (desk : DeskState). Owes desk) (sym c.self.view_is) c.requires.owed in
    let nothing = untold _ (sym c.self.invariant.0.greeted ∙ c.if-self.false) in
    rw (← c.self.view_is, c.end_as.ensures.causes, c.end_as.ensures.ended, c.end_as.ensures.value)
    (greets_refused c.self.invariant.0.in_order owed.1 owed.0 nothing c.self.invariant.1 c.in-Err.ensures.refused c.in-Err.ensures.untold (ap (λ (seen : SeenState). seen.signals) c.in-Err.ensures.unseen) c.tell_subscribed.ensures.steady)
