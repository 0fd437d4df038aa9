use Rattle.std.proofs.Common.{◌≡◌, ◌∙◌, ◌<◌, List, [], length, refl, subst, rules}
use Rattle.std.proofs.lemmas.List.{length-set}
use Rattle.publisher.specs.Handles.{SubscriptionState}
use Rattle.publisher.proofs.BothEnds.Placing.{IsPlacing, placing_all, placing_more, placing_none}
use Rattle.publisher.proofs.finishing.find.place_all.Goals as goal

pub loop-subscription-init : goal.loop-subscription-init
loop-subscription-init g c = (placing_none c.args.subscriptions.items c.args.owners.now c.requires.empty, refl)

pub loop-subscription-preserved : goal.loop-subscription-preserved
loop-subscription-preserved g c =
    let s = c.in-Some.subscription in
    let placing = subst (λ (rest : List SubscriptionState). IsPlacing c.args.subscriptions.items rest
    c.loop-subscription.owners c.loop-subscription.all) c.in-Some.ensures.items c.loop-subscription.invariant.0 in
    rw (c.place-all.ensures.set, c.into_owner.ensures) (
      placing_more c.args.subscriptions.items c.pop.new.self.items s c.loop-subscription.owners
          c.loop-subscription.all c.place-all.result placing
          (λ e. subst (λ (owner : SubscriptionState). owner.entry < length c.loop-subscription.owners) c.into_owner.ensures
          (c.place-all.ensures.there e)),
      length-set c.loop-subscription.owners s.entry _ ∙ c.loop-subscription.invariant.1,
    )

pub returns-clause-placed : goal.returns-clause-placed
returns-clause-placed g c =
    let empty : c.loop-subscription.subscriptions.items ≡ [] = search rules in
    placing_all c.args.subscriptions.items c.loop-subscription.owners c.loop-subscription.all
    (subst (λ (rest : List SubscriptionState). IsPlacing c.args.subscriptions.items rest
    c.loop-subscription.owners c.loop-subscription.all) empty c.loop-subscription.invariant.0)
