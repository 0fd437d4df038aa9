-- What is left of a subscription that was reclaimed keeps the rules of Flow, and has ended.
use Rattle.std.proofs.Common.{◌≡◌, ℕ, Bool, true, false, Option, None, Some, List, [], refl, sym, subst, ◌∙◌}
use Rattle.feed_core.specs.AnsweredTurn.{Reply}
use Rattle.std.specs.Prelude.{IsSome}
use Rattle.feed_core.specs.Prelude.{How, Signal}
use Rattle.publisher.specs.Finishing.{IsCountedIn}
use Rattle.publisher.specs.Leaving.{IsLaneOfTaken}
use Rattle.publisher.specs.Reclaiming.{IsReclaimed}
use Rattle.publisher.specs.declared.outcome.NamedLane.{NamedLane}
use Rattle.publisher.specs.declared.finishing.find.Taken.{Taken}
use Rattle.publisher.proofs.LeftLanes.Outcomes.{is_lane_of}

module _ {B : Type 0} (told : B → List Signal) (replied : B → List Reply) where
  -- it has ended, so it doesn't run
  pub reclaimed_is : (published dropping number : ℕ) (taken : Taken B) (left : NamedLane B)
      → IsLaneOfTaken told replied number taken left → IsCountedIn published dropping taken
      → taken.producer.end.over ≡ true → IsReclaimed told replied left
  reclaimed_is published dropping number taken left is counted over =
      by (subst (λ n. IsLaneOfTaken told replied n taken left) (sym is.number_is) is) where
        none_some : (ending : Option How) → ending ≡ None → IsSome ending → ⊥
        none_some None none some = cc
        none_some (Some how) none some = cc

        by : IsLaneOfTaken told replied left.entry taken left → IsReclaimed told replied left
        by it = record {
          published = published;
          lane = it.lane.lane;
          is = is_lane_of told replied published dropping [] left taken it counted;
          rests = rests left.lane.running refl;
          ended = it.lane.over over;
          late = λ late. it.since ∙ counted.late (sym it.late ∙ late);
        } where
          rests : (running : Bool) → left.lane.running ≡ running → left.lane.running ≡ false
          rests false at = at
          rests true at = absurd (none_some left.lane.ending (it.lane.is.unended at) (it.lane.over over))
