-- Each of the live subscriptions is looked at once.
use Rattle.std.proofs.Common.{rules, ◌≡◌, None, refl, length, arith}
use Rattle.publisher_hub.specs.Looking.{Glances}
use Rattle.publisher_hub.specs.Steps.{IsHere}
use Rattle.publisher_hub.proofs.PartialRounds.Next.{number_at, number_inside, number_there, numbers_of, stands_as, stood_next, whole_round}
use Rattle.publisher_hub.proofs.PartialRounds.Looking.{looking_next, looking_none}
use Rattle.publisher_hub.proofs.hub.look.look_all.Goals as goal

pub loop-number-init : goal.loop-number-init
loop-number-init g c = rw c.everywhere.ensures (looking_none g.F.Feed.meaning g.F.Feed.does c.args.next c.args.capacity c.args.live.now c.args.entries.now)

pub offset_bounds-entries-number : goal.offset_bounds-entries-number
offset_bounds-entries-number g c = let inside = number_inside g.F.Feed.meaning c.args.live.now c.args.entries.now c.requires.live c.loop-number.number-index c.loop-number-test.true in search rules

pub bounds-entries-number : goal.bounds-entries-number
bounds-entries-number g c =
    number_there g.F.Feed.meaning c.args.live.now c.args.entries.now c.requires.live c.loop-number.number-index (Glances g.F.Feed.meaning g.F.Feed.does c.args.next) None
    c.loop-number.invariant.glances c.loop-number.entries c.loop-number.invariant.upto c.loop-number-test.true

pub look_one-requires-clause-here : goal.look_one-requires-clause-here
look_one-requires-clause-here g c =
    stands_as g.F.Feed.meaning c.args.live.now c.args.entries.now c.requires.live c.loop-number.number-index (Glances g.F.Feed.meaning g.F.Feed.does c.args.next) None
    c.loop-number.invariant.glances c.loop-number.entries c.loop-number.invariant.upto IsHere c.requires.here c.loop-number-test.true c.index-entries-number.result

pub loop-number-preserved : goal.loop-number-preserved
loop-number-preserved g c =
    let numbers = numbers_of g.F.Feed.meaning c.args.live.now c.args.entries.now c.requires.live in
    let stood = stood_next g.F.Feed.meaning c.args.live.now c.args.entries.now c.requires.live c.loop-number.number-index (Glances g.F.Feed.meaning g.F.Feed.does c.args.next) None
    c.loop-number.invariant.glances c.loop-number.entries c.loop-number.invariant.upto c.loop-number-test.true c.index-entries-number.result in
    let looked = c.look_one.ensures in
    looking_next g.F.Feed.meaning g.F.Feed.does c.args.next c.args.capacity c.args.live.now c.loop-number.number-index _ c.loop-number.overview c.look_one.new.overview c.args.entries.now c.loop-number.entries
    looked.0 _ c.look_one.new.entry numbers (number_at c.args.live.now c.loop-number.number-index c.loop-number-test.true) stood looked.1.0 looked.1.1 c.loop-number.invariant

pub returns : goal.returns
returns g c =
    let done : c.loop-number.number-index ≡ length c.args.live.now = omega arith in
    let so_far = c.loop-number.invariant in (
      so_far.glances,
      (
        whole_round g.F.Feed.meaning c.args.live.now c.args.entries.now c.requires.live c.loop-number.number-index (Glances g.F.Feed.meaning g.F.Feed.does c.args.next) None
            so_far.glances c.loop-number.entries so_far.upto (λ x retired. (retired, refl)) done,
        so_far.shows,
      ),
    )
