-- Where no place for a task is made, nothing was looked at.
use Rattle.std.proofs.Common.{refl, sym, ◌∙◌, inl}
use Rattle.publisher_hub.specs.Hub.{hub_of}
use Rattle.publisher_hub.proofs.PartialRounds.Progress.{same_some}
use Rattle.publisher_hub.proofs.Subscribed.Readiness.{not_looked_at, on_err}
use Rattle.publisher_hub.proofs.Subscribed.Admission.{seen_left}
use Rattle.publisher_hub.proofs.hub.Hub.see_all.Goals as goal

pub returns-in_err-reserve_due-clause-in_part : goal.returns-in_err-reserve_due-clause-in_part
returns-in_err-reserve_due-clause-in_part g c = on_err c.from_residual.result _ (record {
  prepared = record { as_long = refl; each = λ k x y at at'. inl (same_some (sym at' ∙ at)) };
  kept = (not_looked_at (hub_of g.F.Feed.meaning c.args.self.now) c.requires.sound).entries;
  rest = refl;
})

pub returns-in_err-prepare_live-clause-in_part : goal.returns-in_err-prepare_live-clause-in_part
returns-in_err-prepare_live-clause-in_part g c = on_err c.from_residual-in_err-prepare_live.result _ (record {
  prepared = c.in_err-prepare_live.ensures.exact;
  kept = c.prepare_live.ensures.looked.entries;
  rest = c.prepare_live.ensures.looked.rest;
})

pub returns-clause-seen : goal.returns-clause-seen
returns-clause-seen g c =
    let looks = c.in_ok-prepare_live.ensures.ok in
    let left = c.leave_out_retired.ensures in
    seen_left g.F.Feed.meaning g.F.Feed.does c.args.self.now c.prepare_live.new.self c.leave_out_retired.new.self looks.0 looks.1.0 c.prepare_live.ensures.looked left.rest left.left left.all_live

pub returns-in_err-reserve_due-clause-sound : goal.returns-in_err-reserve_due-clause-sound
returns-in_err-reserve_due-clause-sound g c = c.requires.sound

pub returns-in_err-prepare_live-clause-sound : goal.returns-in_err-prepare_live-clause-sound
returns-in_err-prepare_live-clause-sound g c = c.prepare_live.ensures.sound

pub returns-clause-sound : goal.returns-clause-sound
returns-clause-sound g c = c.leave_out_retired.ensures.sound

pub returns-clause-rest : goal.returns-clause-rest
returns-clause-rest g c = rw (c.leave_out_retired.ensures.rest, c.prepare_live.ensures.rest) refl

pub returns-clause-due : goal.returns-clause-due
returns-clause-due g c = c.reserve_due.ensures.items
