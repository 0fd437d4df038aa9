-- A subscription that has ended is reclaimed, and one that goes on by a look is refused.
use Rattle.std.proofs.Common.{◌≡◌, ◌+◌, refl, true, false, Option, Some, ap, subst, sym, ◌∙◌}
use Rattle.feed_cell.specs.Parties.{ProducerState}
use Rattle.publisher.specs.Handles.{SubscriptionState}
use Rattle.publisher.specs.Reclaiming.{Knows, Reclaims, RefusesReclaim, ShowsEnd, TakesEnd}
use Rattle.publisher.specs.State.{PublisherState}
use Rattle.publisher.specs.Tickets.{IsLate}
use Rattle.publisher.specs.declared.finishing.find.Taken.{Taken}
use Rattle.publisher.proofs.SoundStates.ReclaimedStates.{reclaims_of, refuses_held, refuses_later, refuses_living, shows_end, state_viewed}
use Rattle.publisher.proofs.state.State.reclaim.Goals as goal

pub returns-then-not-has_ended-clause-refused : goal.returns-then-not-has_ended-clause-refused
returns-then-not-has_ended-clause-refused g c =
    let look = c.has_ended-has_ended in
    subst (λ n. RefusesReclaim n c.unsettled.result c.args.self.now look.new.self)
    (ap (λ (owner : SubscriptionState). owner.entry) c.owner.view_is)
    (refuses_living c.owner.inside.entry c.in-Some.facts.name c.args.self.now look.new.self c.unsettled.result c.unsettled.ensures
    (shows_end c.owner.inside.entry look.result false c.args.self.now look.new.self c.if-not-has_ended.true
    look.ensures.looks look.ensures.rest))

pub returns-then-is_held-clause-refused : goal.returns-then-is_held-clause-refused
returns-then-is_held-clause-refused g c =
    let look = c.has_ended-has_ended in
    refuses_held _ c.in-Some.facts.name c.args.self.now look.new.self
    (subst (λ n. ShowsEnd n true c.args.self.now look.new.self)
    (ap (λ (owner : SubscriptionState). owner.entry) c.owner.view_is)
    (shows_end c.owner.inside.entry look.result true c.args.self.now look.new.self c.if-not-has_ended.false
    look.ensures.looks look.ensures.rest))

pub returns-in-Some-take_end-clause-ok : goal.returns-in-Some-take_end-clause-ok
returns-in-Some-take_end-clause-ok g c =
    let look = c.has_ended-has_ended in
    let entry = ap (λ (owner : SubscriptionState). owner.entry) c.owner.view_is in
    let counted = ap (λ (s : PublisherState). s.counted) c.self.view_is in
    let late = c.is_late-late.result in
    let is_late = subst (λ n. (late ≡ true → IsLate look.new.self.counted n) × (IsLate look.new.self.counted n → late ≡ true)) entry
    (subst (λ k. (late ≡ true → IsLate k c.owner.inside.entry) × (IsLate k c.owner.inside.entry → late ≡ true)) counted
    c.is_late-late.ensures) in
    let taken = subst (λ p. TakesEnd c.owner.inside.entry p look.new.self c.take_end.new.self) c.in-Some-take_end.is
    c.take_end.ensures.takes in
    let both : Taken g.row.B.Denot = record { facts = c.in-Some.facts; late = late; producer = c.in-Some-take_end.producer; owner = c.args.owner } in
    subst (λ (s : PublisherState). Reclaims c.args.owner both c.args.self.now
    (record s { census = c.reclaim.new.self })) (sym c.self-2.view_is)
    (reclaims_of c.args.owner both look.new.self c.take_end.new.self _ (state_viewed _ look.new.self _ c.self.view_is c.self.invariant)
    counted (subst (λ n. Knows look.new.self n c.in-Some.facts) entry c.in-Some.ensures.known) is_late
    (subst (λ n. TakesEnd n (Some c.in-Some-take_end.producer) look.new.self c.take_end.new.self) entry taken) refl
    c.args.self.now c.reclaim.new.self
    (subst (λ n. ShowsEnd n true c.args.self.now look.new.self) entry
    (shows_end c.owner.inside.entry look.result true c.args.self.now look.new.self c.if-not-has_ended.false
    look.ensures.looks look.ensures.rest))
    c.take_end.ensures.census (c.reclaim.ensures ∙ ap (λ (s : PublisherState). record s.census { reclaimed = s.census.reclaimed + 1 })
    c.self-2.view_is))

pub returns-in-None-take_end-clause-refused : goal.returns-in-None-take_end-clause-refused
returns-in-None-take_end-clause-refused g c =
    let look = c.has_ended-has_ended in
    subst (λ n. RefusesReclaim n c.unsettled-in-None-take_end.result c.args.self.now c.take_end.new.self)
    (ap (λ (owner : SubscriptionState). owner.entry) c.owner.view_is)
    (refuses_later c.owner.inside.entry c.in-Some.facts.name c.args.self.now c.take_end.new.self
    c.unsettled-in-None-take_end.result c.unsettled-in-None-take_end.ensures (
      look.new.self,
      (
        shows_end c.owner.inside.entry look.result true c.args.self.now look.new.self c.if-not-has_ended.false
            look.ensures.looks look.ensures.rest,
        subst (λ (p : Option ProducerState). TakesEnd c.owner.inside.entry p look.new.self c.take_end.new.self)
            c.in-None-take_end.is c.take_end.ensures.takes,
      ),
    ) (c.take_end.ensures.census ∙ ap (λ (s : PublisherState). s.census) look.ensures.rest))
