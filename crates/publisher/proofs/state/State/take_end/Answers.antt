-- A subscription that has ended is taken out, and its ticket is spent.
use Rattle.std.proofs.Common.{Some, is_some, refl, sym, ap, ◌∙◌}
use Rattle.publisher_hub.specs.Hub.{HubState}
use Rattle.publisher.proofs.SoundStates.ReclaimedStates.{none_spent, spent_of, state_ended, state_ended_spent, takes_end}
use Rattle.publisher.proofs.state.State.take_end.Goals as goal
use Rattle.publisher.proofs.state.State.take_end.Goals.{in-Some, in_default}

pub invariant_of-self : goal.invariant_of-self
invariant_of-self g c = state_ended c.self.inside.hub c.take_ended.new.self c.args.entry c.take_ended.result
    c.take_ended.ensures.takes _ c.self.invariant c.take_ended.ensures.sound

pub invariant_of-self-in-Some : goal.invariant_of-self-in-Some
invariant_of-self-in-Some g c = rw c.keep_last.ensures
    (state_ended_spent c.self.inside.hub c.take_ended.new.self c.args.entry c.take_ended.result
    c.take_ended.ensures.takes _ c.in_ok-producer.producer c.in-Some.ticket c.spend.result
    c.is_some-is_closed.result c.self.invariant c.take_ended.ensures.sound
    (c.in_ok-producer.was ∙ ap (λ t. Some (c.in_ok-producer.producer, t)) c.in-Some.is) c.spend.ensures.count
    (λ closed. sym (c.is_some-is_closed.ensures ∙ ap is_some c.ending.ensures) ∙ closed))

pub invariant_of-self-in_default : goal.invariant_of-self-in_default
invariant_of-self-in_default g c = state_ended c.self.inside.hub c.take_ended.new.self c.args.entry
    c.take_ended.result c.take_ended.ensures.takes _ c.self.invariant c.take_ended.ensures.sound

pub returns-clause-takes : goal.returns-clause-takes
returns-clause-takes g c = elim c.match-ticket.branch [
  | in-Some w ↦ rw (← c.self.view_is, w.self-is)
      (takes_end c.args.entry c.in_ok-producer.producer c.in_ok-producer.ticket c.take_ended.result _ _
      c.take_ended.ensures.takes c.in_ok-producer.was
      (spent_of c.in_ok-producer.ticket w.in-Some.ticket w.spend.result w.is_some-is_closed.result _ _ w.in-Some.is w.spend.ensures.count
      (w.is_some-is_closed.ensures ∙ ap is_some
      (w.ending.ensures ∙ ap (λ (h : HubState). h.progress.ending) c.take_ended.ensures.takes.rest)) w.keep_last.ensures) refl)
  | in_default w ↦ rw (← c.self.view_is, w.self-is)
      (takes_end c.args.entry c.in_ok-producer.producer c.in_ok-producer.ticket c.take_ended.result _ _
      c.take_ended.ensures.takes c.in_ok-producer.was
      (none_spent c.in_ok-producer.ticket _ _ w.in_default.not-Some refl) refl)
]
