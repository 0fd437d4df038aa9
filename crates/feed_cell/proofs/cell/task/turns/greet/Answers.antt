-- A task that was never run is greeted first; any other was greeted before.
use Rattle.std.proofs.Common.{refl, rules, subst, ap, ◌∙◌}
use Rattle.feed_cell.proofs.Tasks.Calls.{same_guest, top, greets_on, greets_end}
use Rattle.feed_cell.proofs.Tasks.Opens.{greeted_end, greeted_on, stays}
use Rattle.feed_cell.specs.TaskPauses.{IsPaused}
use Rattle.feed_cell.specs.declared.cell.Held.TheVariants as Held
use Rattle.feed_cell.specs.declared.cell.Lodger.{Lodger}
use Rattle.feed_cell.proofs.cell.task.turns.greet.Goals as goal

pub slot_mut-requires : goal.slot_mut-requires
slot_mut-requires g c =
    let fresh = subst (λ stage. IsPaused g.B.Listener.told stage c.args.party.now.seat.me) c.in-Fresh.is c.requires.paused in
    (search rules, (Held.Guest fresh.guest, top g.B.Listener.told c.args.party.now.seat.me.1 _ c.args.party.now.capacity _ fresh.slot c.args.party.now.sized))

pub end-requires-clause-ending : goal.end-requires-clause-ending
end-requires-clause-ending g c =
    let fresh = subst (λ stage. IsPaused g.B.Listener.told stage c.args.party.now.seat.me) c.in-Fresh.is c.requires.paused in
    let ends = greets_end g.B.Listener.told g.B.Listener.replied c.args.party.now.seat.me c.args.party.now.capacity c.in-Guest.guest c.greet.new.self c.slot_mut.result.now c.args.seen.now c.greet.new.seen c.args.party.now.sized c.slot_mut.ensures.value c.in-Guest.is c.in-Some.how fresh c.requires.runner.0 c.requires.runner.1 c.in-Some.ensures.ends c.in-Some.ensures.replies in
    (c.in-Some.how, ends.ending)

pub returns-in-None-clause-goes : goal.returns-in-None-clause-goes
returns-in-None-clause-goes g c =
    let fresh = subst (λ stage. IsPaused g.B.Listener.told stage c.args.party.now.seat.me) c.in-Fresh.is c.requires.paused in
    let goes = greets_on g.B.Listener.told g.B.Listener.replied c.args.party.now.seat.me c.args.party.now.capacity c.in-Guest.guest c.greet.new.self c.slot_mut.result.now c.args.seen.now c.greet.new.seen c.args.party.now.sized c.slot_mut.ensures.value c.in-Guest.is fresh c.in-None.ensures.goes c.in-None.ensures.replies in
    greeted_on g.B.Listener.told g.B.Listener.replied c.args.party.now.seat.me _ c.args.seen.now c.greet.new.seen c.requires.nothing fresh goes

pub returns-in-Some-clause-ends : goal.returns-in-Some-clause-ends
returns-in-Some-clause-ends g c =
    let fresh = subst (λ stage. IsPaused g.B.Listener.told stage c.args.party.now.seat.me) c.in-Fresh.is c.requires.paused in
    let ends = greets_end g.B.Listener.told g.B.Listener.replied c.args.party.now.seat.me c.args.party.now.capacity c.in-Guest.guest c.greet.new.self c.slot_mut.result.now c.args.seen.now c.greet.new.seen c.args.party.now.sized c.slot_mut.ensures.value c.in-Guest.is c.in-Some.how fresh c.requires.runner.0 c.requires.runner.1 c.in-Some.ensures.ends c.in-Some.ensures.replies in
    greeted_end g.B.Listener.told g.B.Listener.replied c.args.party.now.seat.me _ c.args.seen.now c.greet.new.seen c.requires.nothing fresh c.in-Some.how c.end.new.party.seat.me ends c.end.ensures.ended.1

pub returns-in_default : goal.returns-in_default
returns-in_default g c = record {
  seat = (refl, refl);
  runner = c.requires.runner;
  goes = stays g.B.Listener.told g.B.Listener.replied c.args.stage c.args.party.now.seat.me c.args.seen.now.signals c.in_default.not-Fresh c.requires.nothing c.requires.paused;
  ends = tt;
  failed = λ code e. cc;
  room = refl;
}

pub greet-requires-clause-going : goal.greet-requires-clause-going
greet-requires-clause-going g c =
    let fresh = subst (λ stage. IsPaused g.B.Listener.told stage c.args.party.now.seat.me) c.in-Fresh.is c.requires.paused in
    ap (λ (l : Lodger g.row.B.Denot). l.how) (same_guest g.B.Listener.told c.args.party.now.seat.me.1 c.args.party.now.seat.me.0.capacity c.args.party.now.capacity fresh.guest c.in-Guest.guest c.slot_mut.result.now fresh.slot c.slot_mut.ensures.value c.in-Guest.is) ∙ fresh.how
