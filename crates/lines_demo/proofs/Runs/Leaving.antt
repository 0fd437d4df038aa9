-- What a run leaves.
use Rattle.std.proofs.Common.{◌≡◌, ℕ, List, Result, Ok, Err, IfOk, length, refl, sym, subst}
use Rattle.std.specs.List.{AllZip}
use Rattle.flow_rules.specs.declared.refusal.Refusal.{Refusal}
use Rattle.flow_rules.specs.declared.signal.Signal.{Signal}
use Rattle.flow_rules.specs.Callback.{Reply}
use Rattle.publisher.specs.Handles.{SubmitterState, SubscriptionState}
use Rattle.publisher.specs.Outcome.{AreHandedIn, IfRefused, IsOutcome, IsWhole, LeavesAllDone, LeavesUndone, outcome_of}
use Rattle.publisher.specs.declared.outcome.Outcome.{Outcome}
use Rattle.lines_demo.specs.Threads.Input.{InputState}
use Rattle.lines_demo.specs.Threads.Run.{IsLeftOf, Leaves}
use Rattle.lines_demo.specs.Threads.Sending.{HasPublished}

-- what is left is all there
pub all_is_there : {B H : Type 0} (submitters : List SubmitterState) (subscriptions : List SubscriptionState)
    (finished : Result (Outcome B H) (Refusal × Outcome B H)) (outcome : Outcome B H)
    → IfOk finished (LeavesAllDone submitters subscriptions)
    → ((names : _) → IfRefused (Refusal.Unsettled names) finished (LeavesUndone submitters subscriptions names.items))
    → IsLeftOf finished outcome → (outcome ≡ outcome_of finished) × IsWhole submitters subscriptions (outcome_of finished)
all_is_there submitters subscriptions (Ok left) outcome done undone is = (is, done.0)
all_is_there submitters subscriptions (Err (Refusal.Unsettled names, left)) outcome done undone is = (is, (undone names left refl).0)
all_is_there submitters subscriptions (Err (_, left)) outcome done undone is = absurd is

-- what is left after some submitters and subscriptions is what a run leaves
pub left_by_a_run : {B H : Type 0} (told : B → List Signal) (replied : B → List Reply) (input : InputState) (subscribers : ℕ)
    (submitters : List SubmitterState) (subscriptions : List SubscriptionState)
    (finished : Result (Outcome B H) (Refusal × Outcome B H)) (outcome : Outcome B H)
    → AllZip (HasPublished input.publications) input.sources submitters → length subscriptions ≡ subscribers
    → IsOutcome told replied submitters (outcome_of finished) → AreHandedIn subscriptions (outcome_of finished).lanes.items
    → (outcome ≡ outcome_of finished) × IsWhole submitters subscriptions (outcome_of finished)
    → Leaves told replied input subscribers outcome
left_by_a_run told replied input subscribers submitters subscriptions finished outcome published subscribed left handed there =
    subst (Leaves told replied input subscribers) (sym there.0) (record {
      submitters = submitters;
      published = published;
      subscriptions = subscriptions;
      subscribed = subscribed;
      left = left;
      handed = handed;
      whole = there.1;
    })

-- all is left if the refusal only says what has not ended
pub left_of_unsettled : {B H : Type 0} (parts : Refusal × Outcome B H) (names : _) → parts.0 ≡ Refusal.Unsettled names → IsLeftOf (Err parts) parts.1
left_of_unsettled (_, outcome) names is = subst (λ refusal. IsLeftOf (Err (refusal, outcome)) outcome) (sym is) refl
