use Rattle.std.proofs.Common.{ap, length, sym, ◌∙◌}
use Rattle.history.specs.History.{Kept, Written}
use Rattle.publisher_hub.specs.Hub.{hub_of}
use Rattle.publisher.proofs.SoundStates.GrownStates.{state_with_source}
use Rattle.publisher.proofs.state.State.next_source.Goals as goal
use Rattle.publisher.specs.State.{producer_end}

pub invariant_of-self-2 : goal.invariant_of-self-2
invariant_of-self-2 g c = state_with_source (hub_of producer_end c.self.inside.hub)
    (hub_of producer_end c.next_source.new.self) _ c.in_ok-source.source c.split_off.new.self.parts
    c.split_off.new.self.amount c.split_off-2.new.self.parts c.split_off-2.new.self.amount
    c.make_source.new.self c.self.invariant c.next_source.ensures.sound (ap (hub_of producer_end) c.in_ok-source.ensures.counted)
    c.in_ok-source.ensures.next c.split_off.ensures.parts_left c.split_off.ensures.amount_left
    c.split_off-2.ensures.parts_left c.split_off-2.ensures.amount_left
    (ap (λ (h : Kept). h.log) c.make_source.ensures.made) (ap (λ (h : Kept). h.made) c.make_source.ensures.made)

pub invariant_of-self : goal.invariant_of-self
invariant_of-self g c = rw c.in_err-source.ensures.unchanged c.self.invariant

pub invariant_of-result : goal.invariant_of-result
invariant_of-result g c = record {
  few = c.in_ok-source.ensures.below;
  one = c.split_off.ensures.parts;
  one_of_drops =
      c.split_off-2.ensures.parts;
  numbered = ap (λ (p : Written). p.source) c.make_source.ensures.pass ∙ c.self.invariant.logged.made_are
      ∙ sym c.in_ok-source.ensures.next;
  many = ap (λ (p : Written). length p.sent) c.make_source.ensures.pass ∙ sym c.split_off.ensures.amount;
}
