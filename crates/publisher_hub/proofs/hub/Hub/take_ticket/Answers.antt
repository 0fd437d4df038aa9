-- The ticket of one subscription was taken out.
use Rattle.std.proofs.Common.{rules, ◌≡◌, ◌<◌, ◌≤◌, length, Some, ap, sym, subst, ◌∙◌}
use Rattle.std.specs.Prelude.{slice_get}
use Rattle.std.specs.Option.{option_and_then}
use Rattle.std.specs.Vec.{with_item}
use Rattle.std.proofs.lemmas.Option.{slice_get-get_or, slice_get_past}
use Rattle.publisher_hub.specs.Hub.{hub_of}
use Rattle.publisher_hub.specs.Sound.{IsSound}
use Rattle.publisher_hub.specs.Tickets.{without_ticket}
use Rattle.publisher_hub.specs.declared.entry.Entry.{Entry}
use Rattle.publisher_hub.proofs.Soundness.Tickets.{sound_unticketed, unticketed_same}
use Rattle.publisher_hub.proofs.hub.Hub.take_ticket.Given.{Over}
use Rattle.publisher_hub.proofs.hub.Hub.take_ticket.Goals as goal
use Rattle.publisher_hub.proofs.hub.Hub.take_ticket.Goals.{After-take}

there : (g : Over) (c : After-take g) → slice_get c.args.self.now.entries.items c.args.entry ≡ Some c.in-Some.entry.now
there g c =
    let within : c.args.entry < length c.args.self.now.entries.items = search rules in
    slice_get-get_or c.args.self.now.entries.items c.args.entry c.in-Some.entry.now within ∙ ap Some (sym c.in-Some.ensures.value)

after : (g : Over) (c : After-take g) → record c.args.self.now { entries = with_item c.args.self.now.entries c.args.entry (record c.in-Some.entry.now { ticket = c.take.new.self }) } ≡ without_ticket c.args.self.now c.args.entry (Some c.in-Some.entry.now)
after g c =
    ap (λ t. record c.args.self.now { entries = with_item c.args.self.now.entries c.args.entry (record c.in-Some.entry.now { ticket = t }) }) c.take.ensures.after

pub returns-in-Some-clause-ticket : goal.returns-in-Some-clause-ticket
returns-in-Some-clause-ticket g c =
    let now = there g (goal.at.returns-in-Some-clause-ticket g c).After-take in
    c.take.ensures.value ∙ sym (ap (option_and_then (λ (entry : Entry g.row.F.Denot). entry.ticket)) now)

pub returns-in-Some-clause-taken : goal.returns-in-Some-clause-taken
returns-in-Some-clause-taken g c =
    let left = (goal.at.returns-in-Some-clause-taken g c).After-take in
    after g left ∙ sym (ap (without_ticket c.args.self.now c.args.entry) (there g left))

pub returns-in-Some-clause-none : goal.returns-in-Some-clause-none
returns-in-Some-clause-none g c = λ none.
    let left = (goal.at.returns-in-Some-clause-none g c).After-take in
    ap (hub_of g.F.Feed.meaning) (after g left)
    ∙ unticketed_same g.F.Feed.meaning c.args.self.now c.args.entry c.in-Some.entry.now (there g left) (sym c.take.ensures.value ∙ none)

pub returns-in-Some-clause-sound : goal.returns-in-Some-clause-sound
returns-in-Some-clause-sound g c =
    let left = (goal.at.returns-in-Some-clause-sound g c).After-take in
    subst (λ hub. IsSound (hub_of g.F.Feed.meaning hub)) (sym (after g left)) (sound_unticketed g.F.Feed.meaning c.args.self.now c.args.entry c.in-Some.entry.now c.requires.sound (there g left))

pub returns-in-None-clause-ticket : goal.returns-in-None-clause-ticket
returns-in-None-clause-ticket g c =
    let past : length c.args.self.now.entries.items ≤ c.args.entry = search rules in
    sym (ap (option_and_then (λ (entry : Entry g.row.F.Denot). entry.ticket)) (slice_get_past c.args.self.now.entries.items c.args.entry past))

pub returns-in-None-clause-taken : goal.returns-in-None-clause-taken
returns-in-None-clause-taken g c =
    let past : length c.args.self.now.entries.items ≤ c.args.entry = search rules in
    sym (ap (without_ticket c.args.self.now c.args.entry) (slice_get_past c.args.self.now.entries.items c.args.entry past))
