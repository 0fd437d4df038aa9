use Rattle.std.specs.Prelude.{◌≡◌}
use Rattle.std.specs.Vec.{vec_capacity}
use Rattle.publisher_hub.proofs.PartialRounds.Surveying.{IsSurveying}
use Rattle.publisher_hub.proofs.hub.stats.survey_all.Given as goal

abbrev pub invariant-loop-number : goal.invariant-loop-number
invariant-loop-number g l =
    IsSurveying g.F.Feed.meaning g.F.Feed.does l.next l.live l.number-index l.figures.items l.initial.entries l.entries
    × (vec_capacity l.figures ≡ vec_capacity l.initial.figures)
