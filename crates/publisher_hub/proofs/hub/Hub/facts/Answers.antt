-- What the look-up shows decides.
use Rattle.std.proofs.Common.{refl}
use Rattle.publisher_hub.proofs.AnswerLists.Places.{stored_nowhere, stored_there}
use Rattle.publisher_hub.proofs.hub.Hub.facts.Goals as goal

pub returns-in-Some : goal.returns-in-Some
returns-in-Some g c =
    let lookup = c.in-Some.ensures.lookup in
    rw (← c.deref.ensures.value, stored_there g.F.Feed.meaning c.deref.result.now c.args.entry c.in-Some.it.now lookup.3.0 lookup.1) refl

pub returns-in-None : goal.returns-in-None
returns-in-None g c =
    rw (← c.deref.ensures.value, stored_nowhere g.F.Feed.meaning c.deref.result.now c.args.entry c.in-None.ensures.lookup.3) refl
