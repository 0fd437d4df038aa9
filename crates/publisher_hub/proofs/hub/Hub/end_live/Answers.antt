-- What the round says of the lists that it was given, it says of those of the Hub.
use Rattle.std.proofs.Common.{refl, ◌∙◌}
use Rattle.std.proofs.lemmas.List.{with_items_is}
use Rattle.publisher_hub.specs.Hub.{hub_of}
use Rattle.publisher_hub.proofs.Subscribed.Readiness.{ready_can_take}
use Rattle.publisher_hub.proofs.hub.Hub.end_live.Goals as goal

pub end_all-requires-clause-live : goal.end_all-requires-clause-live
end_all-requires-clause-live g c = rw (c.deref.ensures.value, c.deref_mut.ensures.value) c.requires.sound.live

pub end_all-requires-clause-take : goal.end_all-requires-clause-take
end_all-requires-clause-take g c =
    rw c.deref_mut.ensures.value (ready_can_take (hub_of g.F.Feed.meaning c.args.self.now).entries c.requires.ready)

pub returns-clause-closes : goal.returns-clause-closes
returns-clause-closes g c =
    let whole = with_items_is c.args.self.now.entries c.end_all.new.entries (c.end_all.auto.entries ∙ c.deref_mut.ensures.len) in
    let done = c.end_all.ensures in
    record { answers = done.0; each = rw (whole, ← c.deref_mut.ensures.value) done.1.0; due = done.1.1 }

pub returns-clause-rest : goal.returns-clause-rest
returns-clause-rest g c = refl
