-- One subscription lost its producer's end, if it had ended, and the numbers of the retired ones were left out.
use Rattle.std.proofs.Common.{rules, ◌<◌, length, Option, Some, ap, sym, subst, ◌∙◌}
use Rattle.std.proofs.lemmas.Option.{slice_get-get_or}
use Rattle.close_count.specs.declared.ticket.Ticket.{Ticket}
use Rattle.publisher_hub.specs.Reclaiming.{TakesEnded}
use Rattle.publisher_hub.proofs.Soundness.Reclaiming.{ended_there, sound_ended}
use Rattle.publisher_hub.proofs.hub.Hub.take_ended.Goals as goal

pub returns-in_err-taken-clause-sound : goal.returns-in_err-taken-clause-sound
returns-in_err-taken-clause-sound g c =
    let within : c.args.entry < length c.args.self.now.entries.items = search rules in
    let there =
    slice_get-get_or c.args.self.now.entries.items c.args.entry c.in_ok-get_mut.field-0.now within
    ∙ ap Some (sym c.in_ok-get_mut.ensures.value) in
    sound_ended g.F.Feed.meaning g.F.Feed.does c.args.entry c.take_ended.result c.args.self.now c.in_ok-get_mut.field-0.now c.take_ended.new.self c.take_ended.ensures.0 c.requires.sound there c.take_ended.ensures.1

pub leave_out_retired-requires : goal.leave_out_retired-requires
leave_out_retired-requires g c =
    let within : c.args.entry < length c.args.self.now.entries.items = search rules in
    let there =
    slice_get-get_or c.args.self.now.entries.items c.args.entry c.in_ok-get_mut.field-0.now within
    ∙ ap Some (sym c.in_ok-get_mut.ensures.value) in
    record { sound = sound_ended g.F.Feed.meaning g.F.Feed.does c.args.entry c.take_ended.result c.args.self.now c.in_ok-get_mut.field-0.now c.take_ended.new.self c.take_ended.ensures.0 c.requires.sound there c.take_ended.ensures.1 }

pub returns-clause-takes : goal.returns-clause-takes
returns-clause-takes g c =
    let within : c.args.entry < length c.args.self.now.entries.items = search rules in
    let there =
    slice_get-get_or c.args.self.now.entries.items c.args.entry c.in_ok-get_mut.field-0.now within
    ∙ ap Some (sym c.in_ok-get_mut.ensures.value) in
    let left = c.leave_out_retired.ensures in
    ended_there g.F.Feed.meaning g.F.Feed.does c.args.entry c.in_ok-taken.taken c.args.self.now c.leave_out_retired.new.self c.in_ok-get_mut.field-0.now c.take_ended.new.self c.take_ended.ensures.0 there
    (subst (λ (taken : Option (g.row.F.Denot × Option Ticket)). TakesEnded g.F.Feed.meaning g.F.Feed.does c.args.self.now.next c.take_ended.ensures.0 taken c.in_ok-get_mut.field-0.now c.take_ended.new.self) c.in_ok-taken.was c.take_ended.ensures.1)
    left.left left.rest
