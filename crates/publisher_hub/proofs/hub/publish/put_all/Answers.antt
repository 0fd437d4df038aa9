-- Each of the live subscriptions is offered the item once.
use Rattle.std.proofs.Common.{rules, ◌≡◌, ◌+◌, ◌-◌, None, refl, subst, length, arith}
use Rattle.publisher_hub.specs.Gathering.{CanGather}
use Rattle.publisher_hub.specs.Offering.{PutsTo, item_of}
use Rattle.publisher_hub.specs.Steps.{CanPut}
use Rattle.publisher_hub.proofs.PartialRounds.Putting.{putting_next, putting_none, room_next}
use Rattle.publisher_hub.proofs.PartialRounds.Next.{number_at, number_inside, number_there, numbers_of, stands_as, stood_next, whole_round}
use Rattle.publisher_hub.proofs.hub.publish.put_all.Goals as goal

pub loop-number-init : goal.loop-number-init
loop-number-init g c = record {
  puts = putting_none g.F.Feed.meaning g.F.Feed.does (item_of c.args.stamp c.args.text.now) c.args.live.now c.args.entries.now c.args.gathering.now c.args.due.now c.requires.missed c.requires.lag c.requires.shares;
  room = subst (λ many. CanGather many c.args.gathering.now c.args.due.now) (omega arith) c.requires.room;
}

pub offset_bounds-entries-number : goal.offset_bounds-entries-number
offset_bounds-entries-number g c = let inside = number_inside g.F.Feed.meaning c.args.live.now c.args.entries.now c.requires.live c.loop-number.number-index c.loop-number-test.true in search rules

pub bounds-entries-number : goal.bounds-entries-number
bounds-entries-number g c =
    number_there g.F.Feed.meaning c.args.live.now c.args.entries.now c.requires.live c.loop-number.number-index (PutsTo g.F.Feed.meaning g.F.Feed.does (item_of c.args.stamp c.args.text.now)) None
    c.loop-number.invariant.puts.puts c.loop-number.entries c.loop-number.invariant.puts.upto c.loop-number-test.true

pub put_one-requires-clause-can : goal.put_one-requires-clause-can
put_one-requires-clause-can g c =
    stands_as g.F.Feed.meaning c.args.live.now c.args.entries.now c.requires.live c.loop-number.number-index (PutsTo g.F.Feed.meaning g.F.Feed.does (item_of c.args.stamp c.args.text.now)) None
    c.loop-number.invariant.puts.puts c.loop-number.entries c.loop-number.invariant.puts.upto CanPut c.requires.can c.loop-number-test.true c.index-entries-number.result

pub put_one-requires-clause-room : goal.put_one-requires-clause-room
put_one-requires-clause-room g c = (
  length c.args.live.now - (c.loop-number.number-index + 1),
  room_next (length c.args.live.now) c.loop-number.number-index c.loop-number.gathering c.loop-number.due c.loop-number-test.true c.loop-number.invariant.room,
)

pub loop-number-preserved : goal.loop-number-preserved
loop-number-preserved g c =
    let numbers = numbers_of g.F.Feed.meaning c.args.live.now c.args.entries.now c.requires.live in
    let so_far = c.loop-number.invariant.puts in
    let stood = stood_next g.F.Feed.meaning c.args.live.now c.args.entries.now c.requires.live c.loop-number.number-index (PutsTo g.F.Feed.meaning g.F.Feed.does (item_of c.args.stamp c.args.text.now)) None
    c.loop-number.invariant.puts.puts c.loop-number.entries c.loop-number.invariant.puts.upto c.loop-number-test.true c.index-entries-number.result in
    let given = c.put_one.ensures.puts in
    record {
      puts = putting_next g.F.Feed.meaning g.F.Feed.does (item_of c.args.stamp c.args.text.now) c.args.live.now c.loop-number.number-index _ c.args.entries.now c.loop-number.entries given.0 _ c.put_one.new.entry
          c.loop-number.gathering c.put_one.new.gathering c.args.due.now c.loop-number.due c.put_one.new.due numbers (number_at c.args.live.now c.loop-number.number-index c.loop-number-test.true) stood
          given.1.0 given.1.1 so_far;
      room = c.put_one.ensures.room (length c.args.live.now - (c.loop-number.number-index + 1))
          (room_next (length c.args.live.now) c.loop-number.number-index c.loop-number.gathering c.loop-number.due c.loop-number-test.true c.loop-number.invariant.room);
    }

pub returns-clause-puts : goal.returns-clause-puts
returns-clause-puts g c =
    let done : c.loop-number.number-index ≡ length c.args.live.now = omega arith in
    let so_far = c.loop-number.invariant.puts in (
      so_far.puts,
      (
        whole_round g.F.Feed.meaning c.args.live.now c.args.entries.now c.requires.live c.loop-number.number-index (PutsTo g.F.Feed.meaning g.F.Feed.does (item_of c.args.stamp c.args.text.now)) None
            so_far.puts c.loop-number.entries so_far.upto (λ x retired. (retired, refl)) done,
        so_far.gathers,
      ),
    )
