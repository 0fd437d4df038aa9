use Rattle.std.proofs.Common.{ap, length}
use Rattle.publisher.proofs.LeftLanes.Answering.{says_of, says_ok, says_refusals}
use Rattle.publisher.proofs.LeftLanes.Concluding.{few_of_none, finishes_is, handed_is, nothing_is, outcome_is, reclaimed_is}
use Rattle.publisher.proofs.finishing.finish.Goals as goal

pub returns-in-Ok-clause-outcome : goal.returns-in-Ok-clause-outcome
returns-in-Ok-clause-outcome g c = let out = c.in-Ok.ensures.ok in
    outcome_is g.B.Listener.told g.B.Listener.replied c.args.submitters.items c.args.subscriptions.items c.in-Ok.books
    _ c.conclude.result out.ends out.counted out.audited c.conclude.ensures out.log out.long out.sent out.content _
    out.closed_with

pub returns-in-Ok-clause-handed : goal.returns-in-Ok-clause-handed
returns-in-Ok-clause-handed g c = let out = c.in-Ok.ensures.ok in
    handed_is g.B.Listener.told g.B.Listener.replied c.args.submitters.items c.args.subscriptions.items c.in-Ok.books
    _ c.conclude.result out.ends out.counted out.audited c.conclude.ensures

pub returns-in-Ok-clause-reclaimed : goal.returns-in-Ok-clause-reclaimed
returns-in-Ok-clause-reclaimed g c = let out = c.in-Ok.ensures.ok in
    reclaimed_is g.B.Listener.told g.B.Listener.replied c.args.submitters.items c.args.subscriptions.items
    c.in-Ok.books _ c.conclude.result out.ends out.counted out.audited c.conclude.ensures

pub returns-in-Ok-clause-ok : goal.returns-in-Ok-clause-ok
returns-in-Ok-clause-ok g c = let out = c.in-Ok.ensures.ok in
    says_ok c.args.submitters.items c.args.subscriptions.items c.conclude.result
    (finishes_is g.B.Listener.told g.B.Listener.replied c.args.submitters.items c.args.subscriptions.items
    c.in-Ok.books _ c.conclude.result out.ends out.counted out.audited c.conclude.ensures out.known out.closed)

pub returns-in-Ok-clause-no_memory : goal.returns-in-Ok-clause-no_memory
returns-in-Ok-clause-no_memory g c = let out = c.in-Ok.ensures.ok in
    says_of c.args.submitters.items c.args.subscriptions.items c.conclude.result
    (finishes_is g.B.Listener.told g.B.Listener.replied c.args.submitters.items c.args.subscriptions.items
    c.in-Ok.books _ c.conclude.result out.ends out.counted out.audited c.conclude.ensures out.known out.closed) _

pub returns-in-Ok-clause-held : goal.returns-in-Ok-clause-held
returns-in-Ok-clause-held g c name = let out = c.in-Ok.ensures.ok in
    says_of c.args.submitters.items c.args.subscriptions.items c.conclude.result
    (finishes_is g.B.Listener.told g.B.Listener.replied c.args.submitters.items c.args.subscriptions.items
    c.in-Ok.books _ c.conclude.result out.ends out.counted out.audited c.conclude.ensures out.known out.closed) _

pub returns-in-Ok-clause-unsettled : goal.returns-in-Ok-clause-unsettled
returns-in-Ok-clause-unsettled g c names = let out = c.in-Ok.ensures.ok in
    says_of c.args.submitters.items c.args.subscriptions.items c.conclude.result
    (finishes_is g.B.Listener.told g.B.Listener.replied c.args.submitters.items c.args.subscriptions.items
    c.in-Ok.books _ c.conclude.result out.ends out.counted out.audited c.conclude.ensures out.known out.closed) _

pub returns-in-Ok-clause-refusals : goal.returns-in-Ok-clause-refusals
returns-in-Ok-clause-refusals g c = let out = c.in-Ok.ensures.ok in
    says_refusals c.args.submitters.items c.args.subscriptions.items c.conclude.result
    (finishes_is g.B.Listener.told g.B.Listener.replied c.args.submitters.items c.args.subscriptions.items
    c.in-Ok.books _ c.conclude.result out.ends out.counted out.audited c.conclude.ensures out.known out.closed)

pub returns-clause-outcome : goal.returns-clause-outcome
returns-clause-outcome g c =
    let none = c.in-Err.ensures.nothing in
    let sent = c.in-Err.ensures.sent in
    nothing_is g.B.Listener.told g.B.Listener.replied c.args.submitters.items _
    (record { no_lanes = none.no_lanes; none_held = none.none_held; few_reclaimed = none.few_reclaimed })
    (record { log = sent.log; long = sent.long; sent = sent.sent })

pub returns-clause-reclaimed : goal.returns-clause-reclaimed
returns-clause-reclaimed g c =
    let none = c.in-Err.ensures.nothing in
    few_of_none _ _ _ _ (ap length none.no_lanes) (ap length none.none_held) none.few_reclaimed
