-- Each of the live subscriptions is looked at once, and listed if it goes on.
use Rattle.std.proofs.Common.{rules, ◌≡◌, None, refl, length, ◌∙◌, arith}
use Rattle.publisher_hub.specs.Looking.{Glances}
use Rattle.publisher_hub.specs.Stats.{IsTallied}
use Rattle.publisher_hub.proofs.PartialRounds.Next.{number_at, number_inside, number_there, numbers_of, stands_as, stood_next}
use Rattle.publisher_hub.proofs.PartialRounds.Surveying.{surveying_all, surveying_next, surveying_none}
use Rattle.publisher_hub.proofs.hub.stats.survey_all.Goals as goal

pub loop-number-init : goal.loop-number-init
loop-number-init g c = (rw c.requires.empty (surveying_none g.F.Feed.meaning g.F.Feed.does c.args.next c.args.live.now c.args.entries.now), refl)

pub offset_bounds-entries-number : goal.offset_bounds-entries-number
offset_bounds-entries-number g c = let inside = number_inside g.F.Feed.meaning c.args.live.now c.args.entries.now c.requires.live c.loop-number.number-index c.loop-number-test.true in search rules

pub bounds-entries-number : goal.bounds-entries-number
bounds-entries-number g c =
    number_there g.F.Feed.meaning c.args.live.now c.args.entries.now c.requires.live c.loop-number.number-index (Glances g.F.Feed.meaning g.F.Feed.does c.args.next) None
    c.loop-number.invariant.0.glances c.loop-number.entries c.loop-number.invariant.0.looked c.loop-number-test.true

pub survey_one-requires-clause-tallied : goal.survey_one-requires-clause-tallied
survey_one-requires-clause-tallied g c =
    stands_as g.F.Feed.meaning c.args.live.now c.args.entries.now c.requires.live c.loop-number.number-index (Glances g.F.Feed.meaning g.F.Feed.does c.args.next) None
    c.loop-number.invariant.0.glances c.loop-number.entries c.loop-number.invariant.0.looked (IsTallied c.args.next) c.requires.tallied c.loop-number-test.true c.index-entries-number.result

pub survey_one-requires-clause-room : goal.survey_one-requires-clause-room
survey_one-requires-clause-room g c =
    let few = c.loop-number.invariant.0.few in
    let same = c.loop-number.invariant.1 in
    let room = c.requires.room in
    let within = c.loop-number-test.true in
    omega arith

pub loop-number-preserved : goal.loop-number-preserved
loop-number-preserved g c =
    let numbers = numbers_of g.F.Feed.meaning c.args.live.now c.args.entries.now c.requires.live in
    let stood = stood_next g.F.Feed.meaning c.args.live.now c.args.entries.now c.requires.live c.loop-number.number-index (Glances g.F.Feed.meaning g.F.Feed.does c.args.next) None
    c.loop-number.invariant.0.glances c.loop-number.entries c.loop-number.invariant.0.looked c.loop-number-test.true c.index-entries-number.result in (
      surveying_next g.F.Feed.meaning g.F.Feed.does c.args.next c.args.live.now c.loop-number.number-index _ _ _ c.args.entries.now c.loop-number.entries _ c.survey_one.new.entry
          numbers (number_at c.args.live.now c.loop-number.number-index c.loop-number-test.true) stood c.survey_one.ensures.survey c.loop-number.invariant.0,
      c.survey_one.ensures.capacity ∙ c.loop-number.invariant.1,
    )

pub returns-clause-survey : goal.returns-clause-survey
returns-clause-survey g c =
    let done : c.loop-number.number-index ≡ length c.args.live.now = omega arith in
    surveying_all g.F.Feed.meaning g.F.Feed.does c.args.next c.args.live.now c.loop-number.number-index c.loop-number.figures.items c.args.entries.now c.loop-number.entries
    c.requires.live done c.loop-number.invariant.0

pub returns-clause-few : goal.returns-clause-few
returns-clause-few g c =
    let few = c.loop-number.invariant.0.few in
    omega arith
