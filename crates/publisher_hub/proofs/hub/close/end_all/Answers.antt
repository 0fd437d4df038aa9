-- Each of the live subscriptions is closed once.
use Rattle.std.proofs.Common.{rules, ◌≡◌, refl, length, arith}
use Rattle.publisher_hub.specs.Closing.{Closes}
use Rattle.publisher_hub.specs.Steps.{CanTake}
use Rattle.publisher_hub.specs.declared.entry.AtClose.{AtClose}
use Rattle.publisher_hub.proofs.PartialRounds.Closing.{closing_next, closing_none}
use Rattle.publisher_hub.proofs.PartialRounds.Next.{number_at, number_inside, number_there, numbers_of, stands_as, stood_next, whole_round}
use Rattle.publisher_hub.proofs.hub.close.end_all.Goals as goal

pub loop-number-init : goal.loop-number-init
loop-number-init g c =
    closing_none g.F.Feed.meaning g.F.Feed.does c.args.ending c.args.live.now c.args.entries.now c.args.due.now c.requires.room

pub offset_bounds-entries-number : goal.offset_bounds-entries-number
offset_bounds-entries-number g c = let inside = number_inside g.F.Feed.meaning c.args.live.now c.args.entries.now c.requires.live c.loop-number.number-index c.loop-number-test.true in search rules

pub bounds-entries-number : goal.bounds-entries-number
bounds-entries-number g c =
    number_there g.F.Feed.meaning c.args.live.now c.args.entries.now c.requires.live c.loop-number.number-index (Closes g.F.Feed.meaning g.F.Feed.does c.args.ending) AtClose.Retired
    c.loop-number.invariant.answers c.loop-number.entries c.loop-number.invariant.upto c.loop-number-test.true

pub end-answer-requires : goal.end-answer-requires
end-answer-requires g c = record {
  take =
      stands_as g.F.Feed.meaning c.args.live.now c.args.entries.now c.requires.live c.loop-number.number-index (Closes g.F.Feed.meaning g.F.Feed.does c.args.ending) AtClose.Retired
      c.loop-number.invariant.answers c.loop-number.entries c.loop-number.invariant.upto CanTake c.requires.take c.loop-number-test.true c.index-entries-number.result;
}

pub loop-number-preserved : goal.loop-number-preserved
loop-number-preserved g c =
    let numbers = numbers_of g.F.Feed.meaning c.args.live.now c.args.entries.now c.requires.live in
    let so_far = c.loop-number.invariant in
    let stood = stood_next g.F.Feed.meaning c.args.live.now c.args.entries.now c.requires.live c.loop-number.number-index (Closes g.F.Feed.meaning g.F.Feed.does c.args.ending) AtClose.Retired
    c.loop-number.invariant.answers c.loop-number.entries c.loop-number.invariant.upto c.loop-number-test.true c.index-entries-number.result in
    closing_next g.F.Feed.meaning g.F.Feed.does c.args.ending c.args.live.now c.loop-number.number-index _ c.args.entries.now c.loop-number.entries c.end-answer.result _ c.end-answer.new.self
    c.args.due.now c.loop-number.due c.push_answered.new.due numbers (number_at c.args.live.now c.loop-number.number-index c.loop-number-test.true) stood
    c.end-answer.ensures c.push_answered.ensures.due c.push_answered.ensures.len c.push_answered.ensures.capacity so_far

pub returns : goal.returns
returns g c =
    let done : c.loop-number.number-index ≡ length c.args.live.now = omega arith in
    let so_far = c.loop-number.invariant in (
      so_far.answers,
      (
        whole_round g.F.Feed.meaning c.args.live.now c.args.entries.now c.requires.live c.loop-number.number-index (Closes g.F.Feed.meaning g.F.Feed.does c.args.ending) AtClose.Retired
            so_far.answers c.loop-number.entries so_far.upto (λ x retired. (retired, refl)) done,
        so_far.due,
      ),
    )
