-- A subscription is added.
use Rattle.std.proofs.Common.{rules, ◌++◌, ◌∷◌, [], ap, ◌∙◌}
use Rattle.publisher_hub.specs.declared.entry.Entry.{Entry}
use Rattle.publisher_hub.proofs.Soundness.Adding.{sound_grown}
use Rattle.publisher_hub.proofs.hub.Hub.add.Goals as goal

pub returns-clause-entries : goal.returns-clause-entries
returns-clause-entries g c = c.push_reserved.ensures.items
    ∙ ap (λ (entry : Entry g.row.F.Denot). c.args.self.now.entries.items ++ entry ∷ []) c.first_entry.ensures

pub returns-clause-sound : goal.returns-clause-sound
returns-clause-sound g c =
    sound_grown g.F.Feed.meaning c.args.self.now c.push_reserved.new.self.items c.push_reserved-2.new.self.items c.args.name c.args.on_full c.args.feed c.args.ticket
    c.requires.empty c.requires.capacity c.requires.closed_as c.requires.place (returns-clause-entries g c) (search rules) c.requires.sound

pub returns-clause-live : goal.returns-clause-live
returns-clause-live g c = c.push_reserved-2.ensures.items
    ∙ ap (λ number. c.args.self.now.live.items ++ number ∷ []) (c.len-number.ensures ∙ c.args.self.now.entries.ok.0)
