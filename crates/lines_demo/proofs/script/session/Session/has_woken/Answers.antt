use Rattle.std.proofs.Common.{subst}
use Rattle.lines_demo.specs.Script.Laws.{KeepsFlow, IsSettledSession, TellsAllBeforeErrors, SerialsRiseIn, AgreesOnItems, TellsInOneOrder, CountsPublications}
use Rattle.lines_demo.proofs.Scripts.Laws.{reached_flow, reached_settled, reached_waits, reached_rise, reached_agrees, reached_order, reached_counted}
use Rattle.lines_demo.proofs.script.session.Session.has_woken.Goals as goal

pub returns-clause-flow : goal.returns-clause-flow
returns-clause-flow g c = subst KeepsFlow c.self.view_is (reached_flow _ c.self.invariant.2.reached)

pub returns-clause-settled : goal.returns-clause-settled
returns-clause-settled g c = subst IsSettledSession c.self.view_is (reached_settled _ c.self.invariant.2.reached)

pub returns-clause-waited : goal.returns-clause-waited
returns-clause-waited g c = subst TellsAllBeforeErrors c.self.view_is (reached_waits _ c.self.invariant.2.reached)

pub returns-clause-rise : goal.returns-clause-rise
returns-clause-rise g c = subst SerialsRiseIn c.self.view_is (reached_rise _ c.self.invariant.2.reached)

pub returns-clause-agrees : goal.returns-clause-agrees
returns-clause-agrees g c = subst AgreesOnItems c.self.view_is (reached_agrees _ c.self.invariant.2.reached)

pub returns-clause-order : goal.returns-clause-order
returns-clause-order g c = subst TellsInOneOrder c.self.view_is (reached_order _ c.self.invariant.2.reached)

pub returns-clause-counted : goal.returns-clause-counted
returns-clause-counted g c = subst CountsPublications c.self.view_is (reached_counted _ c.self.invariant.2.reached)
