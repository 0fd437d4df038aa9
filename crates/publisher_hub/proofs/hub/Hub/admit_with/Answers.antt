-- A subscription is added to a Hub that was looked at.
use Rattle.std.proofs.Common.{refl}
use Rattle.publisher_hub.proofs.Subscribed.Vacancies.{admitted_with}
use Rattle.publisher_hub.proofs.hub.Hub.admit_with.Goals as goal

pub returns-clause-ok : goal.returns-clause-ok
returns-clause-ok g c =
    admitted_with g.F.Feed.meaning g.F.Feed.does c.args.name c.args.on_full c.args.feed c.args.ticket c.args.most c.append.result
    c.args.due.now.items c.may_subscribe.new.due.items c.append.new.due.items c.may_subscribe.new.due
    c.args.self.now c.may_subscribe.new.self c.append.new.self
    c.in_ok-may_subscribe.ensures.seen c.in_ok-may_subscribe.ensures.can c.in_ok-may_subscribe.ensures.nothing_due c.append.ensures.appends

-- what is added is not refused
pub returns-clause-refusals : goal.returns-clause-refusals
returns-clause-refusals g c = tt

pub returns-clause-not_refused : goal.returns-clause-not_refused
returns-clause-not_refused g c can = refl
