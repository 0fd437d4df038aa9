use Rattle.std.proofs.Common.{◌≡◌, None, Some, is_some, refl, subst, sym, ap, ◌∙◌}
use Rattle.feed_cell.specs.Offering.{DoesCall}
use Rattle.publisher_hub.specs.Tickets.{RetiresIfEndedAt}
use Rattle.publisher.proofs.Tickets.Ticketed.{last_stays}
use Rattle.publisher.proofs.SoundStates.AskedStates.{state_asked, state_spent}
use Rattle.publisher.proofs.state.State.let_go.Goals as goal
use Rattle.publisher.specs.State.{producer_end}

pub invariant_of-self : goal.invariant_of-self
invariant_of-self g c = rw c.keep_last.ensures
    (state_spent c.self.inside.hub c.ended.new.self c.into_entry-entry.result c.ended.result c.ended.ensures.looks _
    c.in-Some.ticket c.spend.result c.is_some-is_closed.result c.self.invariant c.ended.ensures.sound c.in-Some.is c.spend.ensures.count
    (λ closed. sym (c.is_some-is_closed.ensures ∙ ap is_some c.ending.ensures) ∙ closed))

pub invariant_of-self-in_default : goal.invariant_of-self-in_default
invariant_of-self-in_default g c = state_asked c.self.inside.hub c.ended.new.self c.into_entry-entry.result c.ended.result
    c.ended.ensures.looks _ c.self.invariant c.ended.ensures.sound

pub returns-in-Some : goal.returns-in-Some
returns-in-Some g c = rw (← c.self.view_is) (record {
  ticket = c.ended.result;
  asks = subst (λ n. RetiresIfEndedAt producer_end DoesCall n c.ended.result c.self.inside.hub c.ended.new.self)
      c.into_entry-entry.ensures c.ended.ensures.looks;
  none = λ none. let no : None ≡ Some c.in-Some.ticket = sym none ∙ c.in-Some.is in cc;
  stays = λ some. rw c.keep_last.ensures (last_stays c.spend.result c.is_some-is_closed.result c.self.inside.last some);
  counted = refl;
})
