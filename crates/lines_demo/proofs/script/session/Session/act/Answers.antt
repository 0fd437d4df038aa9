use Rattle.std.proofs.Common.{Some, length, sym, ap, subst, ◌∙◌}
use Rattle.lines_demo.specs.Script.Obeying.{act_result}
use Rattle.lines_demo.specs.Script.Playing.{IsLatest}
use Rattle.lines_demo.specs.Script.State.{SessionState}
use Rattle.commands.specs.declared.reply.Reply.TheVariants.{Done}
use Rattle.lines_demo.proofs.Sessions.Acting.{acted, acted_room, latest_there}
use Rattle.lines_demo.proofs.Sessions.Answered.{IsAnswered}
use Rattle.lines_demo.proofs.Sessions.Inside.{state_inside, woken_with}
use Rattle.lines_demo.proofs.Kept.LatestNames.{nobody_known}
use Rattle.lines_demo.proofs.Scripts.Replying.{act_unknown}
use Rattle.lines_demo.proofs.script.session.Session.act.Given.{Over}
use Rattle.lines_demo.proofs.script.session.Session.act.Goals as goal
use Rattle.lines_demo.proofs.script.session.Session.act.Goals.{In-Some, After-act_at-is_started}

pub returns-in_default : goal.returns-in_default
returns-in_default g c = act_unknown c.args.self.now c.args.name c.args.act (nobody_known c.args.name c.args.self.now.subscriptions (subst (IsLatest c.args.name c.args.self.now.subscriptions) c.in_default.is c.latest.ensures))

-- the latest of the name, as the fields have it
latest : (g : Over) (c : In-Some g) → IsLatest c.args.name (state_inside c.self.inside).subscriptions (Some c.in-Some.entry)
latest g c =
    subst (λ (state : SessionState). IsLatest c.args.name state.subscriptions (Some c.in-Some.entry)) (sym c.self.view_is)
    (subst (IsLatest c.args.name c.args.self.now.subscriptions) c.in-Some.is c.latest.ensures)

pub act_at-is_started-requires : goal.act_at-is_started-requires
act_at-is_started-requires g c = record {
  there = latest_there c.self.inside.hub c.args.name c.in-Some.entry c.self.invariant.2.publisher (latest g (goal.at.act_at-is_started-requires g c).In-Some);
}

-- what is left once it was done
done : (g : Over) (c : After-act_at-is_started g)
    → IsAnswered (λ refusals. act_result (state_inside c.self.inside) refusals c.args.name c.args.act) Done c.act_at-is_started.new.hub (length c.self.inside.stock.items)
    (woken_with c.self.inside.woken c.in-Some.entry c.act_at-is_started.result) c.self.inside.beginning
done g c =
    acted c.self.inside c.act_at-is_started.new.hub c.args.name c.args.act c.in-Some.entry c.act_at-is_started.result c.self.invariant.2 (ap (λ (s : SessionState). s.beginning.is_over) c.self.view_is ∙ c.requires.begun)
    (latest g (goal.at.After-act_at-is_started g c).In-Some) c.act_at-is_started.ensures

pub push_if-requires : goal.push_if-requires
push_if-requires g c = record {
  room =
      acted_room c.self.inside c.act_at-is_started.new.hub c.args.name c.args.act c.in-Some.entry c.act_at-is_started.result c.self.invariant.2 (ap (λ (s : SessionState). s.beginning.is_over) c.self.view_is ∙ c.requires.begun)
      (latest g (goal.at.push_if-requires g c).In-Some) c.act_at-is_started.ensures;
}

pub invariant_of-self : goal.invariant_of-self
invariant_of-self g c = rw c.push_if.ensures (c.self.invariant.0, c.self.invariant.1, (done g (goal.at.invariant_of-self g c).After-act_at-is_started).session, c.self.invariant.3)

pub returns : goal.returns
returns g c = rw (← c.self.view_is, c.push_if.ensures) (done g (goal.at.returns g c).After-act_at-is_started).replies
