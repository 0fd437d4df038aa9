-- One subscription lost its producer's end.
use Rattle.std.proofs.Common.{rules, ◌<◌, ◌≤◌, length, Some, ap, sym, ◌∙◌}
use Rattle.std.proofs.lemmas.Option.{slice_get-get_or}
use Rattle.std.specs.Vec.{with_item}
use Rattle.publisher_hub.proofs.Soundness.TakingOut.{takes_nobody, takes_there, sound_without}
use Rattle.publisher_hub.proofs.hub.Hub.take_feed.Goals as goal

pub returns-in-Some-clause-takes : goal.returns-in-Some-clause-takes
returns-in-Some-clause-takes g c =
    let within : c.args.entry < length c.args.self.now.entries.items = search rules in
    let there =
    slice_get-get_or c.args.self.now.entries.items c.args.entry c.in-Some.entry.now within ∙ ap Some (sym c.in-Some.ensures.value) in
    takes_there g.F.Feed.meaning c.args.entry c.take_feed.result c.args.self.now c.in-Some.entry.now c.take_feed.new.self there c.take_feed.ensures

pub returns-in-Some-clause-sound : goal.returns-in-Some-clause-sound
returns-in-Some-clause-sound g c =
    let within : c.args.entry < length c.args.self.now.entries.items = search rules in
    let there =
    slice_get-get_or c.args.self.now.entries.items c.args.entry c.in-Some.entry.now within ∙ ap Some (sym c.in-Some.ensures.value) in
    sound_without g.F.Feed.meaning c.args.entry c.take_feed.result c.args.self.now (record c.args.self.now { entries = with_item c.args.self.now.entries c.args.entry c.take_feed.new.self })
    c.requires.sound (takes_there g.F.Feed.meaning c.args.entry c.take_feed.result c.args.self.now c.in-Some.entry.now c.take_feed.new.self there c.take_feed.ensures)

pub returns-in-None-clause-takes : goal.returns-in-None-clause-takes
returns-in-None-clause-takes g c = let above : length c.args.self.now.entries.items ≤ c.args.entry = search rules in takes_nobody g.F.Feed.meaning c.args.entry c.args.self.now above
