-- The live subscriptions of a Hub are prepared.
use Rattle.std.proofs.Common.{IfOk, List, OnErr, Option, refl, ◌∙◌}
use Rattle.std.specs.Vec.{with_items}
use Rattle.std.proofs.lemmas.List.{with_items_is}
use Rattle.flow_rules.specs.declared.feed.standing.Standing.{Standing}
use Rattle.publisher_hub.specs.Hub.{hub_of}
use Rattle.publisher_hub.specs.Lists.{Each, EachBy}
use Rattle.publisher_hub.specs.Looking.{MayPrepare, Prepares, ShowsRoom}
use Rattle.publisher_hub.proofs.Subscribed.AfterLooks.{round_kept}
use Rattle.publisher_hub.proofs.Soundness.Looking.{sound_looked_at}
use Rattle.publisher_hub.proofs.Subscribed.Readiness.{all_here, on_ok_ready}
use Rattle.publisher_hub.proofs.hub.Hub.prepare_live.Goals as goal

pub prepare_all-requires-clause-live : goal.prepare_all-requires-clause-live
prepare_all-requires-clause-live g c = rw (c.deref.ensures.value, c.deref_mut.ensures.value) c.requires.sound.live

pub prepare_all-requires-clause-here : goal.prepare_all-requires-clause-here
prepare_all-requires-clause-here g c = rw c.deref_mut.ensures.value (all_here (hub_of g.F.Feed.meaning c.args.self.now) c.requires.sound)

pub returns-clause-ok : goal.returns-clause-ok
returns-clause-ok g c =
    let hub = c.args.self.now in
    let whole = with_items_is hub.entries c.prepare_all.new.entries (c.prepare_all.auto.entries ∙ c.deref_mut.ensures.len) in
    let found : IfOk c.prepare_all.result (λ room. (glances : List (Option Standing))
    × (EachBy (Prepares g.F.Feed.meaning g.F.Feed.does hub.next) glances hub.entries.items (with_items hub.entries c.prepare_all.new.entries).items × ShowsRoom room hub.capacity hub.entries.items glances)) =
    rw (whole, ← c.deref_mut.ensures.value) c.prepare_all.ensures.ok in found

pub returns-clause-exact : goal.returns-clause-exact
returns-clause-exact g c =
    let hub = c.args.self.now in
    let whole = with_items_is hub.entries c.prepare_all.new.entries (c.prepare_all.auto.entries ∙ c.deref_mut.ensures.len) in
    let each : OnErr c.prepare_all.result (Each (MayPrepare g.F.Feed.meaning g.F.Feed.does hub.next) hub.entries.items (with_items hub.entries c.prepare_all.new.entries).items) =
    rw (whole, ← c.deref_mut.ensures.value) c.prepare_all.ensures.exact in each

pub returns-clause-rest : goal.returns-clause-rest
returns-clause-rest g c = refl

pub returns-clause-looked : goal.returns-clause-looked
returns-clause-looked g c =
    let whole = with_items_is c.args.self.now.entries c.prepare_all.new.entries (c.prepare_all.auto.entries ∙ c.deref_mut.ensures.len) in
    record {
      rest = refl;
      entries = rw whole (rw (← c.deref_mut.ensures.value) (round_kept g.F.Feed.meaning g.F.Feed.does c.args.self.now.next c.args.self.now.capacity c.deref_mut.result.now c.prepare_all.new.entries c.prepare_all.result
          (rw c.deref_mut.ensures.value (all_here (hub_of g.F.Feed.meaning c.args.self.now) c.requires.sound)) c.prepare_all.ensures.ok c.prepare_all.ensures.exact));
    }

pub returns-clause-sound : goal.returns-clause-sound
returns-clause-sound g c = sound_looked_at _ _ c.requires.sound (returns-clause-looked g c)

pub returns-clause-not_refused : goal.returns-clause-not_refused
returns-clause-not_refused g c ready = c.prepare_all.ensures.not_refused (rw c.deref_mut.ensures.value ready)

pub returns-clause-ready : goal.returns-clause-ready
returns-clause-ready g c =
    let whole = with_items_is c.args.self.now.entries c.prepare_all.new.entries (c.prepare_all.auto.entries ∙ c.deref_mut.ensures.len) in
    rw whole (on_ok_ready g.F.Feed.meaning g.F.Feed.does c.args.self.now.next c.args.self.now.capacity c.prepare_all.result c.deref_mut.result.now c.prepare_all.new.entries c.prepare_all.ensures.ok)
