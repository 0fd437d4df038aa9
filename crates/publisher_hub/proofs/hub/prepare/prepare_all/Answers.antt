-- Each of the live subscriptions is prepared once.
use Rattle.std.proofs.Common.{rules, ◌≡◌, Result, Ok, Err, OnErr, None, refl, length, arith}
use Rattle.publisher_hub.specs.Entry.{entry_of}
use Rattle.publisher_hub.specs.Looking.{Prepares}
use Rattle.publisher_hub.specs.Steps.{IsHere}
use Rattle.publisher_hub.proofs.PartialRounds.Next.{get_mapped, number_at, number_inside, number_there, numbers_of, stands_as, stood_next, whole_round}
use Rattle.publisher_hub.proofs.PartialRounds.Preparing.{preparing_next, preparing_none, stopped}
use Rattle.publisher_hub.proofs.Subscribed.Readiness.{ready_is_prepared}
use Rattle.publisher_hub.proofs.hub.prepare.prepare_all.Goals as goal

on_err : {A E : Type 0} (r : Result A E) (P : Type 0) → P → OnErr r P
on_err (Ok x) P p = _
on_err (Err e) P p = p

pub loop-number-init : goal.loop-number-init
loop-number-init g c = rw c.everywhere-room.ensures (preparing_none g.F.Feed.meaning g.F.Feed.does c.args.next c.args.capacity c.args.live.now c.args.entries.now)

pub offset_bounds-entries-number : goal.offset_bounds-entries-number
offset_bounds-entries-number g c = let inside = number_inside g.F.Feed.meaning c.args.live.now c.args.entries.now c.requires.live c.loop-number.number-index c.loop-number-test.true in search rules

pub bounds-entries-number : goal.bounds-entries-number
bounds-entries-number g c =
    number_there g.F.Feed.meaning c.args.live.now c.args.entries.now c.requires.live c.loop-number.number-index (Prepares g.F.Feed.meaning g.F.Feed.does c.args.next) None
    c.loop-number.invariant.glances c.loop-number.entries c.loop-number.invariant.upto c.loop-number-test.true

pub prepare_one-requires : goal.prepare_one-requires
prepare_one-requires g c = record {
  here =
      stands_as g.F.Feed.meaning c.args.live.now c.args.entries.now c.requires.live c.loop-number.number-index (Prepares g.F.Feed.meaning g.F.Feed.does c.args.next) None
      c.loop-number.invariant.glances c.loop-number.entries c.loop-number.invariant.upto IsHere c.requires.here c.loop-number-test.true c.index-entries-number.result;
}

pub returns-in_err-prepare_one-clause-exact : goal.returns-in_err-prepare_one-clause-exact
returns-in_err-prepare_one-clause-exact g c =
    let numbers = numbers_of g.F.Feed.meaning c.args.live.now c.args.entries.now c.requires.live in
    let stood = stood_next g.F.Feed.meaning c.args.live.now c.args.entries.now c.requires.live c.loop-number.number-index (Prepares g.F.Feed.meaning g.F.Feed.does c.args.next) None
    c.loop-number.invariant.glances c.loop-number.entries c.loop-number.invariant.upto c.loop-number-test.true c.index-entries-number.result in
    on_err c.from_residual.result _ (stopped g.F.Feed.meaning g.F.Feed.does c.args.next c.args.capacity c.args.live.now c.loop-number.number-index _ c.loop-number.room c.args.entries.now c.loop-number.entries
    _ c.prepare_one.new.entry numbers (number_at c.args.live.now c.loop-number.number-index c.loop-number-test.true) stood c.in_err-prepare_one.ensures.refused c.loop-number.invariant)

pub loop-number-preserved : goal.loop-number-preserved
loop-number-preserved g c =
    let numbers = numbers_of g.F.Feed.meaning c.args.live.now c.args.entries.now c.requires.live in
    let stood = stood_next g.F.Feed.meaning c.args.live.now c.args.entries.now c.requires.live c.loop-number.number-index (Prepares g.F.Feed.meaning g.F.Feed.does c.args.next) None
    c.loop-number.invariant.glances c.loop-number.entries c.loop-number.invariant.upto c.loop-number-test.true c.index-entries-number.result in
    let looked = c.in_ok-prepare_one.ensures.ok in
    preparing_next g.F.Feed.meaning g.F.Feed.does c.args.next c.args.capacity c.args.live.now c.loop-number.number-index _ c.loop-number.room c.prepare_one.new.room c.args.entries.now c.loop-number.entries
    looked.0 _ c.prepare_one.new.entry numbers (number_at c.args.live.now c.loop-number.number-index c.loop-number-test.true) stood looked.1.0 looked.1.1 c.loop-number.invariant

pub returns-clause-ok : goal.returns-clause-ok
returns-clause-ok g c =
    let done : c.loop-number.number-index ≡ length c.args.live.now = omega arith in
    let so_far = c.loop-number.invariant in (
      so_far.glances,
      (
        whole_round g.F.Feed.meaning c.args.live.now c.args.entries.now c.requires.live c.loop-number.number-index (Prepares g.F.Feed.meaning g.F.Feed.does c.args.next) None
            so_far.glances c.loop-number.entries so_far.upto (λ x retired. (retired, refl)) done,
        so_far.shows,
      ),
    )

pub returns-in_err-prepare_one-clause-not_refused : goal.returns-in_err-prepare_one-clause-not_refused
returns-in_err-prepare_one-clause-not_refused g c ready =
    let numbers = numbers_of g.F.Feed.meaning c.args.live.now c.args.entries.now c.requires.live in
    let stood = stood_next g.F.Feed.meaning c.args.live.now c.args.entries.now c.requires.live c.loop-number.number-index (Prepares g.F.Feed.meaning g.F.Feed.does c.args.next) None
    c.loop-number.invariant.glances c.loop-number.entries c.loop-number.invariant.upto c.loop-number-test.true c.index-entries-number.result in
    absurd (ready_is_prepared g.F.Feed.meaning g.F.Feed.does c.args.next _ c.prepare_one.new.entry c.in_err-prepare_one.ensures.refused
    (ready _ _ (get_mapped (entry_of g.F.Feed.meaning) c.args.entries.now _ _ stood)))
