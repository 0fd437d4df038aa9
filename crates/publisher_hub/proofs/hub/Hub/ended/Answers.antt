-- One subscription was asked for its ticket.
use Rattle.std.proofs.Common.{rules, ◌<◌, ◌≤◌, length, Some, ap, sym, ◌∙◌}
use Rattle.std.proofs.lemmas.Option.{slice_get-get_or}
use Rattle.std.specs.Vec.{with_item}
use Rattle.publisher_hub.proofs.Soundness.Tickets.{asks_nobody, asks_there, sound_asked}
use Rattle.publisher_hub.proofs.hub.Hub.ended.Goals as goal

pub returns-in-Some-clause-looks : goal.returns-in-Some-clause-looks
returns-in-Some-clause-looks g c =
    let within : c.args.entry < length c.args.self.now.entries.items = search rules in
    let there =
    slice_get-get_or c.args.self.now.entries.items c.args.entry c.in-Some.entry.now within ∙ ap Some (sym c.in-Some.ensures.value) in
    asks_there g.F.Feed.meaning g.F.Feed.does c.args.entry c.ended.result c.args.self.now c.in-Some.entry.now c.ended.new.self c.ended.ensures.0 there c.ended.ensures.1

pub returns-in-Some-clause-sound : goal.returns-in-Some-clause-sound
returns-in-Some-clause-sound g c =
    let within : c.args.entry < length c.args.self.now.entries.items = search rules in
    let there =
    slice_get-get_or c.args.self.now.entries.items c.args.entry c.in-Some.entry.now within ∙ ap Some (sym c.in-Some.ensures.value) in
    sound_asked g.F.Feed.meaning g.F.Feed.does c.args.entry c.ended.result c.args.self.now (record c.args.self.now { entries = with_item c.args.self.now.entries c.args.entry c.ended.new.self })
    c.requires.sound (asks_there g.F.Feed.meaning g.F.Feed.does c.args.entry c.ended.result c.args.self.now c.in-Some.entry.now c.ended.new.self c.ended.ensures.0 there c.ended.ensures.1)

pub returns-in-None-clause-looks : goal.returns-in-None-clause-looks
returns-in-None-clause-looks g c = let above : length c.args.self.now.entries.items ≤ c.args.entry = search rules in asks_nobody g.F.Feed.meaning g.F.Feed.does c.args.entry c.args.self.now above
