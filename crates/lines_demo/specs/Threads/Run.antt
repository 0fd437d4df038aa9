-- What a run leaves, and why it stops.
use Rattle.std.specs.Prelude.{◌≡◌, ◌⊎◌, ℕ, Option, IfSome, All, List, [], length, Result, Ok, Err, if◌then◌else◌}
use Rattle.std.specs.List.{AllZip}
use Rattle.std.specs.Io.KnownBytes.{Appends}
use Rattle.flow_rules.specs.declared.signal.Signal.{Signal}
use Rattle.flow_rules.specs.Callback.{Reply}
use Rattle.lines_demo.specs.Prelude.{Refusal}
use Rattle.lines_demo.specs.declared.reader.InputFault.{InputFault}
use Rattle.publisher.specs.Handles.{SubmitterState, SubscriptionState}
use Rattle.publisher.specs.Outcome.{AreHandedIn, IsOutcome, IsWhole}
use Rattle.publisher.specs.declared.outcome.Outcome.{Outcome}
use Rattle.commands.specs.declared.writing.OutputFault.{OutputFault}
use Rattle.lines_demo.specs.Threads.Input.{InputState, input_of}
use Rattle.lines_demo.specs.Threads.Plan.{PlanState}
use Rattle.lines_demo.specs.Threads.Report.{ReporterState, all_completed, report_of}
use Rattle.lines_demo.specs.Threads.Sending.{HasPublished}
use Rattle.lines_demo.specs.declared.threads.reporter.NamedSubscriber.{NamedSubscriber}
use Rattle.lines_demo.specs.declared.threads.fault.LinesFault.{LinesFault}
use Rattle.lines_demo.specs.declared.threads.fault.LinesFault.TheVariants.{Read, TooLong, Write, Gone, Refused}

-- why a run stops if its input can't be read
abbrev pub fault_of_input : InputFault → LinesFault
fault_of_input InputFault.Read = Read
fault_of_input InputFault.TooLong = TooLong
fault_of_input InputFault.Memory = Refused Refusal.NoMemory

-- why a run stops if its report can't be written
abbrev pub fault_of_output : OutputFault → LinesFault
fault_of_output OutputFault.Write = Write
fault_of_output OutputFault.Gone = Gone
fault_of_output OutputFault.Memory = Refused Refusal.NoMemory

-- a run stops for this refusal of its input, or before that since reading or memory failed or the input is too long;
-- its writer holds what it held
abbrev pub StopsFor : Refusal → Result ℕ LinesFault → Option (List ℕ) → Option (List ℕ) → Type 0
StopsFor refusal result old new =
    (new ≡ old) × ((result ≡ Err (Refused refusal))
    ⊎ ((result ≡ Err Read) ⊎ ((result ≡ Err TooLong) ⊎ (result ≡ Err (Refused Refusal.NoMemory)))))

-- none of these subscribers was told anything, or replied
abbrev pub AreUntold : {B : Type 0} → (B → List Signal) → (B → List Reply) → List (NamedSubscriber B) → Type 0
AreUntold told replied subscribers = All (λ named. (told named.subscriber ≡ []) × (replied named.subscriber ≡ [])) subscribers

-- what is left, if all is there: nothing runs and all has ended, or some subscriptions have not
abbrev pub IsLeftOf : {B H : Type 0} → Result (Outcome B H) (Refusal × Outcome B H) → Outcome B H → Type 0
IsLeftOf (Ok outcome) left = left ≡ outcome
IsLeftOf (Err (Refusal.Unsettled names, outcome)) left = left ≡ outcome
IsLeftOf (Err (_, outcome)) left = ⊥

-- a run left this: each source of its input published its texts by a submitter of its own, and nothing else was published; and it made as many
-- subscriptions as it has subscribers, each of which has its part in what is left, and lost nothing
pub record Leaves {B H : Type 0} (told : B → List Signal) (replied : B → List Reply) (input : InputState) (subscribers : ℕ)
    (outcome : Outcome B H) : Type 0 where
  pub submitters : List SubmitterState
  pub published : AllZip (HasPublished input.publications) input.sources submitters
  pub subscriptions : List SubscriptionState
  pub subscribed : length subscriptions ≡ subscribers
  pub left : IsOutcome told replied submitters outcome
  pub handed : AreHandedIn subscriptions outcome.lanes.items
  pub whole : IsWhole submitters subscriptions outcome

-- a run with this input and this many subscribers appended the report of what it left, and answers 0 if all of that was completed, and else 3
pub record Reports {F : Type 0} (last : F → Option (List ℕ × ℕ)) (input : InputState) (subscribers status : ℕ) (old new : Option (List ℕ))
    : Type 0 where
  pub outcome : Outcome ReporterState F
  pub left : Leaves (λ reporter. reporter.signals) (λ reporter. reporter.replies) input subscribers outcome
  pub written : Appends old new (report_of last outcome)
  pub answers : status ≡ (if all_completed outcome then 0 else 3)

-- the same of the input that these bytes have by this plan, if they are known
pub record ReportsRead {F : Type 0} (last : F → Option (List ℕ × ℕ)) (plan : PlanState) (bytes : Option (List ℕ)) (status : ℕ)
    (old new : Option (List ℕ)) : Type 0 where
  pub input : InputState
  pub read : IfSome bytes (λ known. input_of plan known ≡ Ok input)
  pub reports : Reports last input (length plan.subscribers) status old new
