-- What was looked at stays sound.
use Rattle.std.proofs.Common.{refl, ◌∙◌}
use Rattle.std.specs.Vec.{with_items}
use Rattle.std.proofs.lemmas.List.{with_items_is}
use Rattle.publisher_hub.specs.Hub.{hub_of}
use Rattle.publisher_hub.specs.Looking.{LooksAtAll}
use Rattle.publisher_hub.proofs.Soundness.LookingAtAll.{sound_looks}
use Rattle.publisher_hub.proofs.Subscribed.Readiness.{all_here}
use Rattle.publisher_hub.proofs.hub.Hub.look_at_all.Goals as goal

pub look_all-requires-clause-live : goal.look_all-requires-clause-live
look_all-requires-clause-live g c = rw (c.deref.ensures.value, c.deref_mut.ensures.value) c.requires.sound.live

pub look_all-requires-clause-here : goal.look_all-requires-clause-here
look_all-requires-clause-here g c = rw c.deref_mut.ensures.value (all_here (hub_of g.F.Feed.meaning c.args.self.now) c.requires.sound)

looks : (g : _) (c : goal.After-self-1 g) → LooksAtAll g.F.Feed.meaning g.F.Feed.does c.look_all.ensures.0 c.args.self.now (record c.args.self.now { entries = with_items c.args.self.now.entries c.look_all.new.entries })
looks g c =
    let items = with_items_is c.args.self.now.entries c.look_all.new.entries (c.look_all.auto.entries ∙ c.deref_mut.ensures.len) in
    record { rest = refl; entries = rw (items, ← c.deref_mut.ensures.value) c.look_all.ensures.1.0 }

pub returns-clause-looks : goal.returns-clause-looks
returns-clause-looks g c = (c.look_all.ensures.0, (looks g c, rw (← c.deref_mut.ensures.value) c.look_all.ensures.1.1))

pub returns-clause-sound : goal.returns-clause-sound
returns-clause-sound g c = sound_looks g.F.Feed.meaning g.F.Feed.does c.look_all.ensures.0 c.args.self.now _ c.requires.sound (looks g c)
