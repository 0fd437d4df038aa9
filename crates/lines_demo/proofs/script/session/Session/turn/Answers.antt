use Rattle.std.proofs.Common.{◌≡◌, ◌∷◌, length, sym, ap, ◌∙◌}
use Rattle.std.specs.Prelude.{is_some, option_map}
use Rattle.feed_core.specs.Turn.{is_again}
use Rattle.publisher_hub.specs.declared.hub.Facts.{Facts}
use Rattle.lines_demo.proofs.Sessions.Inside.{state_inside, woken_with}
use Rattle.lines_demo.proofs.Sessions.Turns.{first_of, not_again, room_again}
use Rattle.lines_demo.proofs.Sessions.Turning.{HasTurned, first_known, first_turn, turned}
use Rattle.lines_demo.proofs.script.session.Session.turn.Given.{Over}
use Rattle.lines_demo.proofs.script.session.Session.turn.Goals as goal
use Rattle.lines_demo.proofs.script.session.Session.turn.Goals.{After-unwrap-entry, After-push_if, in-Again, in_default}

-- who was taken off was the first of the woken
first : (g : Over) (c : After-unwrap-entry g) → c.self.inside.woken ≡ c.unwrap-entry.result ∷ c.pop.new.self
first g c = first_of c.pop.result c.unwrap-entry.result c.self.inside.woken c.pop.new.self c.pop.ensures.first c.unwrap-entry.ensures

pub unwrap-name-requires : goal.unwrap-name-requires
unwrap-name-requires g c =
    ap is_some c.facts.ensures ∙ first_known c.self.inside c.self.invariant.2 c.unwrap-entry.result c.pop.new.self (first g (goal.at.unwrap-name-requires g c).After-unwrap-entry)

pub turn_at-outlook-requires : goal.turn_at-outlook-requires
turn_at-outlook-requires g c = record {
  owed = first_turn c.self.inside c.self.invariant.2 c.unwrap-entry.result c.pop.new.self (first g (goal.at.turn_at-outlook-requires g c).After-unwrap-entry);
}

pub push_if-requires : goal.push_if-requires
push_if-requires g c = record {
  room = λ started. room_again (state_inside c.self.inside) c.unwrap-entry.result c.pop.new.self c.self.invariant.2.reached (first g (goal.at.push_if-requires g c).After-unwrap-entry);
}

-- what the turn leaves
done : (g : Over) (c : After-push_if g)
    → HasTurned (state_inside c.self.inside) c.turn_at-outlook.new.hub (length c.self.inside.stock.items) (woken_with c.pop.new.self c.unwrap-entry.result c.match-matches.matches) c.self.inside.beginning
    c.unwrap-name.result.name c.turn_at-outlook.new.seen.signals c.turn_at-outlook.result
done g c =
    let again : c.match-matches.matches ≡ is_again c.turn_at-outlook.result = elim c.match-matches.branch [
      | in-Again m ↦ m.matches-is ∙ sym (ap is_again m.in-Again.is)
      | in_default m ↦ m.matches-is ∙ sym (not_again c.turn_at-outlook.result m.in_default.not-Again)
    ] in
    turned c.self.inside c.self.invariant.2 c.unwrap-entry.result c.pop.new.self (first g (goal.at.After-push_if g c).After-unwrap-entry) c.turn_at-outlook.new.hub c.turn_at-outlook.new.seen.signals c.turn_at-outlook.result
    c.unwrap-name.result.name c.match-matches.matches c.turn_at-outlook.ensures (ap (option_map (λ (facts : Facts). facts.name)) (sym c.facts.ensures ∙ c.unwrap-name.ensures)) again

pub invariant_of-self : goal.invariant_of-self
invariant_of-self g c = rw c.push_if.ensures (c.self.invariant.0, c.self.invariant.1, (done g (goal.at.invariant_of-self g c).After-push_if).session, c.self.invariant.3)

pub returns-clause-turn : goal.returns-clause-turn
returns-clause-turn g c = rw (← c.self.view_is, c.push_if.ensures) (done g (goal.at.returns-clause-turn g c).After-push_if).makes

pub returns-clause-fewer : goal.returns-clause-fewer
returns-clause-fewer g c = rw (← c.self.view_is, c.push_if.ensures) (done g (goal.at.returns-clause-fewer g c).After-push_if).fewer
