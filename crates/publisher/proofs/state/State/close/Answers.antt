use Rattle.std.proofs.Common.{◌≡◌, Option, None, Some, refl, sym, ap, subst, ◌∙◌}
use Rattle.std.specs.Prelude.{IsSome}
use Rattle.std.specs.Option.{unwrap_or}
use Rattle.flow_rules.specs.declared.ending.Ending.{Ending}
use Rattle.feed_cell.specs.Parties.{ProducerState}
use Rattle.publisher_hub.specs.Hub.{hub_of, HubState}
use Rattle.publisher_hub.specs.Closing.{IsClosedLooking}
use Rattle.publisher_hub.specs.declared.hub.Hub.{Hub}
use Rattle.publisher.proofs.SoundStates.GrownStates.{state_closed_before, state_ended_spent}
use Rattle.publisher.proofs.SoundStates.KeptStates.{state_stays, stays_looked}
use Rattle.publisher.proofs.state.State.close.Goals as goal
use Rattle.publisher.proofs.state.State.close.Goals.{in-Some, in_default}
use Rattle.publisher.specs.State.{producer_end}

pub invariant_of-self : goal.invariant_of-self
invariant_of-self g c =
    let old = hub_of producer_end c.self.inside.hub in
    let new = hub_of producer_end c.end.new.self in
    state_stays old new _ c.self.invariant c.end.ensures.sound (stays_looked old new c.in_err-opening.ensures.looked)

pub invariant_of-self-2 : goal.invariant_of-self-2
invariant_of-self-2 g c =
    elim c.match-branch-2.branch [
      | in-Some w ↦ rw (w.self-inside-is, w.keep_last.ensures)
          (state_ended_spent c.self.inside.hub c.end.new.self c.args.ending _ c.self.invariant c.end.ensures.sound
          c.in_ok-opening.ensures.means (λ some. (c.end.ensures.later some).1.0)
          c.in_ok-opening.field-0 w.in-Some.opening w.spend.result (λ none. (c.in_ok-opening.ensures.first none).0)
          (λ some. (c.in_ok-opening.ensures.later some).0) w.in-Some.is w.spend.ensures.count)
      | in_default w ↦ rw w.self-inside-is (state_closed_before c.self.inside.hub c.end.new.self c.args.ending _
          c.self.invariant c.end.ensures.sound c.in_ok-opening.ensures.means (λ some. (c.end.ensures.later some).1.0)
          c.in_ok-opening.field-0 (λ none. (c.in_ok-opening.ensures.first none).0)
          (λ opening at. let no : None ≡ Some opening = sym w.in_default.is ∙ at in cc))
    ]

-- after a close the publisher is closed
closed_after : (old new : Hub ProducerState) (ending : Ending)
    → (old.ending ≡ None → IsClosedLooking ending (hub_of producer_end old) (hub_of producer_end new))
    → (IsSome old.ending → new ≡ old) → IsSome new.ending
closed_after old new ending first later = by old.ending refl where
  by : (was : Option Ending) → old.ending ≡ was → IsSome new.ending
  by None e = subst IsSome (sym (ap (λ (h : HubState). h.progress.ending) (first e).closed.rest)) refl
  by (Some known) e = let some : IsSome old.ending = rw e refl in subst (λ (h : Hub ProducerState). IsSome h.ending) (sym (later some)) some

-- the answer is the ending that the publisher has
answers : (ending found : Option Ending) (other how : Ending) → IsSome ending → found ≡ ending
    → how ≡ unwrap_or found other → ending ≡ Some how
answers None found other how some same is = cc
answers (Some known) found other how some same is = ap Some (sym (is ∙ ap (λ e. unwrap_or e other) same))

pub returns-clause-closed : goal.returns-clause-closed
returns-clause-closed g c =
    let closed = closed_after c.self.inside.hub c.end.new.self c.args.ending c.in_ok-opening.ensures.means
    (λ some. (c.end.ensures.later some).1.0) in
    let same : c.match-branch-2.self-inside.hub ≡ c.end.new.self = elim c.match-branch-2.branch [
      | in-Some w ↦ ap (λ s. s.hub) w.self-inside-is
      | in_default w ↦ ap (λ s. s.hub) w.self-inside-is
    ] in
    let some = subst (λ (h : Hub ProducerState). IsSome h.ending) (sym same) closed in
    answers c.match-branch-2.self-inside.hub.ending c.ending.result c.args.ending c.unwrap_or.result some
    c.ending.ensures c.unwrap_or.ensures
