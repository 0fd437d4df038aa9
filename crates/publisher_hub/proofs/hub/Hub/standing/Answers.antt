-- One subscription was looked at.
use Rattle.std.proofs.Common.{rules, ◌<◌, ◌≤◌, length, Some, ap, sym, ◌∙◌}
use Rattle.std.proofs.lemmas.Option.{slice_get-get_or}
use Rattle.std.specs.Vec.{with_item}
use Rattle.publisher_hub.specs.Entry.{entry_of}
use Rattle.publisher_hub.specs.Hub.{hub_of}
use Rattle.publisher_hub.proofs.PartialRounds.Next.{get_mapped}
use Rattle.publisher_hub.proofs.Soundness.LookingAtOne.{looks_nowhere, looks_there, sound_look}
use Rattle.publisher_hub.proofs.Subscribed.Readiness.{all_here}
use Rattle.publisher_hub.proofs.hub.Hub.standing.Goals as goal

pub look-requires : goal.look-requires
look-requires g c =
    let within : c.args.entry < length c.args.self.now.entries.items = search rules in
    let there =
    slice_get-get_or c.args.self.now.entries.items c.args.entry c.in-Some.entry.now within ∙ ap Some (sym c.in-Some.ensures.value) in
    let hub = hub_of g.F.Feed.meaning c.args.self.now in
    record { here = all_here hub c.requires.sound c.args.entry (entry_of g.F.Feed.meaning c.in-Some.entry.now) (get_mapped (entry_of g.F.Feed.meaning) c.args.self.now.entries.items c.args.entry c.in-Some.entry.now there) }

pub returns-in-Some-clause-looks : goal.returns-in-Some-clause-looks
returns-in-Some-clause-looks g c =
    let within : c.args.entry < length c.args.self.now.entries.items = search rules in
    let there =
    slice_get-get_or c.args.self.now.entries.items c.args.entry c.in-Some.entry.now within ∙ ap Some (sym c.in-Some.ensures.value) in
    looks_there g.F.Feed.meaning g.F.Feed.does c.args.entry c.look.result c.args.self.now c.in-Some.entry.now c.look.new.self there c.look.ensures

pub returns-in-Some-clause-sound : goal.returns-in-Some-clause-sound
returns-in-Some-clause-sound g c =
    let within : c.args.entry < length c.args.self.now.entries.items = search rules in
    let there =
    slice_get-get_or c.args.self.now.entries.items c.args.entry c.in-Some.entry.now within ∙ ap Some (sym c.in-Some.ensures.value) in
    sound_look g.F.Feed.meaning g.F.Feed.does c.args.entry c.look.result c.args.self.now (record c.args.self.now { entries = with_item c.args.self.now.entries c.args.entry c.look.new.self }) c.requires.sound
    (looks_there g.F.Feed.meaning g.F.Feed.does c.args.entry c.look.result c.args.self.now c.in-Some.entry.now c.look.new.self there c.look.ensures)

pub returns-in-None-clause-looks : goal.returns-in-None-clause-looks
returns-in-None-clause-looks g c = let above : length c.args.self.now.entries.items ≤ c.args.entry = search rules in looks_nowhere g.F.Feed.meaning g.F.Feed.does c.args.entry c.args.self.now above
