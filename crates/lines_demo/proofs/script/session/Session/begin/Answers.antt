use Rattle.std.proofs.Common.{◌≡◌, true, false, sym, ◌∙◌}
use Rattle.lines_demo.proofs.Sessions.Between.{session_begun, begun_by}
use Rattle.lines_demo.proofs.script.session.Session.begin.Goals as goal
use Rattle.lines_demo.proofs.script.session.Session.begin.Goals.{in-Cap, in-Cap-2, in_default}

pub invariant_of-self : goal.invariant_of-self
invariant_of-self g c = (c.self.invariant.0, c.self.invariant.1, session_begun _ _ _ _ c.self.invariant.2, c.self.invariant.3)

pub returns-then-not-matches : goal.returns-then-not-matches
returns-then-not-matches g c = rw (← c.self.view_is) (elim c.match-matches.branch [
  | in-Cap w ↦ (let never : true ≡ false = sym w.matches-is ∙ c.if-not-matches.true in cc)
  | in-Cap-2 w ↦ (let never : true ≡ false = sym w.matches-is ∙ c.if-not-matches.true in cc)
  | in_default w ↦ begun_by c.args.command.now _ w.in_default.not-Cap w.in_default.not-Late
])
