-- The event keeps what is kept, and that gives the law.
use Rattle.std.proofs.Common.{subst, Some}
use Rattle.feed_core.specs.World.Kept.{IsKeptIn}
use Rattle.feed_core.specs.World.Lawful.{IsLawfulIn}
use Rattle.feed_core.specs.World.Runs.{WorldState}
use Rattle.feed_core.proofs.Interleavings.Lawfulness.{lawful_in}
use Rattle.feed_core.proofs.Interleavings.Reaching.{parts_kept}
use Rattle.feed_core.proofs.world.World.apply.Goals as goal

pub returns-then-not-can-clause-lawful : goal.returns-then-not-can-clause-lawful
returns-then-not-can-clause-lawful c =
    subst (λ (w : WorldState). IsLawfulIn w.parts w.cut) c.self.view_is (lawful_in c.self.inside.made c.self.inside.cut c.self.invariant)

pub invariant_of-self : goal.invariant_of-self
invariant_of-self c =
    let before = subst (λ made. IsKeptIn made c.self.inside.cut) c.in-Some.is c.self.invariant in
    parts_kept c.args.event c.in-Some.parts c.advance.new.self c.self.inside.cut c.cut_after-self-inside.result before
    (c.can.ensures.0 c.if-not-can.false) c.advance.ensures c.cut_after-self-inside.ensures

pub returns-clause-lawful : goal.returns-clause-lawful
returns-clause-lawful c =
    let before = subst (λ made. IsKeptIn made c.self.inside.cut) c.in-Some.is c.self.invariant in
    lawful_in (Some c.advance.new.self) c.cut_after-self-inside.result
    (parts_kept c.args.event c.in-Some.parts c.advance.new.self c.self.inside.cut c.cut_after-self-inside.result before
    (c.can.ensures.0 c.if-not-can.false) c.advance.ensures c.cut_after-self-inside.ensures)
