-- What `finish` answers, clause by clause.
use Rattle.std.proofs.Common.{Result, Ok, Err, List, subst}
use Rattle.std.specs.Prelude.{IfErr, IfOk}
use Rattle.flow_rules.specs.declared.refusal.Refusal.{Refusal}
use Rattle.publisher.specs.Handles.{SubmitterState, SubscriptionState}
use Rattle.publisher.specs.Outcome.{Finishes, IfRefused, IsRefusalOfFinish, LeavesAllDone}
use Rattle.publisher.specs.declared.outcome.Outcome.{Outcome}

module _ {B H : Type 0} (submitters : List SubmitterState) (subscriptions : List SubscriptionState)
    (result : Result (Outcome B H) (Refusal × Outcome B H)) (finishes : Finishes submitters subscriptions result) where
  pub says_ok : IfOk result (LeavesAllDone submitters subscriptions)
  says_ok = by result finishes where
    by : (r : Result (Outcome B H) (Refusal × Outcome B H)) → Finishes submitters subscriptions r
        → IfOk r (LeavesAllDone submitters subscriptions)
    by (Ok outcome) it = it
    by (Err refused) it = tt

  -- of the refusal that it is, `Finishes` says what its clause does
  pub says_of : (refusal : Refusal) → IfRefused refusal result (λ outcome. Finishes submitters subscriptions (Err (refusal, outcome)))
  says_of refusal outcome same = subst (λ (r : Result (Outcome B H) (Refusal × Outcome B H)). Finishes submitters
      subscriptions r) same finishes

  pub says_refusals : IfErr result (λ refused. IsRefusalOfFinish refused.0)
  says_refusals = by result finishes where
    by : (r : Result (Outcome B H) (Refusal × Outcome B H)) → Finishes submitters subscriptions r
        → IfErr r (λ refused. IsRefusalOfFinish refused.0)
    by (Ok outcome) it = tt
    by (Err (Refusal.NoMemory, outcome)) it = tt
    by (Err (Refusal.StillHeld name, outcome)) it = tt
    by (Err (Refusal.Unsettled names, outcome)) it = tt
    by (Err (Refusal.BadCapacity, outcome)) it = it
    by (Err (Refusal.Closed ending, outcome)) it = it
    by (Err (Refusal.Duplicate, outcome)) it = it
    by (Err (Refusal.TooMany, outcome)) it = it
    by (Err (Refusal.LineTooLong, outcome)) it = it
    by (Err (Refusal.BadWorkers, outcome)) it = it
    by (Err (Refusal.Unknown, outcome)) it = it
    by (Err (Refusal.WouldWait, outcome)) it = it
    by (Err (Refusal.BadCommand, outcome)) it = it
    by (Err (Refusal.Exhausted, outcome)) it = it
