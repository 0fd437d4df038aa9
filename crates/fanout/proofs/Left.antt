-- What a publisher leaves that has ended without a refusal.
use Rattle.std.proofs.Common.{◌≡◌, ◌∙◌, sym, ℕ, Option, None, Some, List, [], ◌∷◌, ◌++◌, map, subst, false}
use Rattle.std.specs.Prelude.{IfSome}
use Rattle.feed_core.specs.AnsweredTurn.{Reply}
use Rattle.feed_core.specs.Lane.{IsFlow, IsSettledAs, LaneState}
use Rattle.feed_core.specs.Prelude.{Complete, How, Next, Signal, Subscribed}
use Rattle.fanout.specs.Session.{IsToldAll, TellsAll}
use Rattle.publisher.specs.Handles.{SubmitterState, SubscriptionState}
use Rattle.publisher.specs.Outcome.{IsLane, IsOutcome, LeavesAllDone, TookPart}
use Rattle.publisher.specs.declared.outcome.NamedLane.{NamedLane}
use Rattle.publisher.specs.declared.outcome.Outcome.{Outcome}

-- what holds of what is there may be said otherwise
pub if_some : {X : Type 0} (o : Option X) (P Q : X → Type 0) → ((x : X) → P x → Q x) → IfSome o P → IfSome o Q
if_some None P Q more is = tt
if_some (Some x) P Q more is = more x is

-- a sink that completed and doesn't run was told all
pub told_all : {B : Type 0} (told : B → List Signal) (replied : B → List Reply) (published : ℕ) (left : NamedLane B)
    (lane : LaneState) → IsLane told replied published left lane → left.lane.running ≡ false
    → left.lane.ending ≡ Some How.Completed → IsToldAll told published left lane
told_all told replied published left lane is rests completed =
    let settled = is.is.settled rests in
    let how : lane.how ≡ Some How.Completed = sym is.is.ending ∙ completed in
    let as_completed : IsSettledAs lane (Some How.Completed) = subst (λ h. IsSettledAs lane h) how settled.1.rests in
    record {
      is_there = settled.0;
      pieces = if_some left.lane.subscriber
          (λ b. (told b ≡ lane.told) × (left.lane.asked ≡ lane.asked) × IsFlow lane)
          (λ b. told b ≡ Subscribed ∷ (map Next lane.accepted ++ Complete ∷ [])) (λ b f. f.0 ∙ as_completed) is.is.flow;
      many = is.is.accepted;
      all = is.whole (subst TookPart (sym completed) tt);
    }

-- so it is of each
pub tells_all : {B H : Type 0} (told : B → List Signal) (replied : B → List Reply) (submitters : List SubmitterState)
    (subscriptions : List SubscriptionState) (outcome : Outcome B H) → IsOutcome told replied submitters outcome
    → LeavesAllDone submitters subscriptions outcome → TellsAll told outcome
tells_all told replied submitters subscriptions outcome is done = record {
  lanes = is.lanes;
  as_many = is.as_many;
  each = (λ i left lane at_left at_lane completed. told_all told replied outcome.published left lane
      (is.each i left lane at_left at_lane) (done.1.rests i left at_left) completed);
  agreed = is.agreed;
}
