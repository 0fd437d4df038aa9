-- Causes within causes, and the ends that they have.
use Rattle.std.proofs.Common.{◌≡◌, ℕ, Bool, true, false, refl, sym, subst, ◌∙◌, Option, Some, None, inl, inr}
use Rattle.std.specs.Prelude.{IsSome, ◌⊎◌}
use Rattle.feed_core.specs.Prelude.{Published, IllegalArgument, IllegalState, Ending, ErrorOrder, Overtake, AfterItems, How}
use Rattle.feed_core.specs.Cause.{stops, closes, end_at_last, end_where, error_at_once, with_cause_of, no_causes_in}
use Rattle.feed_core.specs.World.Types.{Causes, Cause, Cancel, Argument, State, Closing, Producing, Requesting}
use Rattle.feed_core.specs.World.Table.{joined, ProducerMay, HandleMay}
use Rattle.feed_core.specs.World.Kept.{IsWithin}

pub within_same : (c : Causes) → IsWithin c c
within_same c = record { order = refl; cancel = λ e. e; argument = λ e. e; state = λ e. e; closing = λ ending e. e; failed = λ code e. e; memory = λ e. e }

pub within_step : {a b c : Causes} → IsWithin a b → IsWithin b c → IsWithin a c
within_step first then = record {
  order = first.order ∙ then.order;
  cancel = λ e. then.cancel (first.cancel e);
  argument = λ e. then.argument (first.argument e);
  state = λ e. then.state (first.state e);
  closing = λ ending e. then.closing ending (first.closing ending e);
  failed = λ code e. then.failed code (first.failed code e);
  memory = λ e. then.memory (first.memory e);
}

within_cancel : (c : Causes) → IsWithin c (record c { cancel = true })
within_cancel c = record { order = refl; cancel = λ e. refl; argument = λ e. e; state = λ e. e; closing = λ ending e. e; failed = λ code e. e; memory = λ e. e }

pub within_argument : (c : Causes) → IsWithin c (record c { argument = true })
within_argument c = record { order = refl; cancel = λ e. e; argument = λ e. refl; state = λ e. e; closing = λ ending e. e; failed = λ code e. e; memory = λ e. e }

within_state : (c : Causes) → IsWithin c (record c { state = true })
within_state c = record { order = refl; cancel = λ e. e; argument = λ e. e; state = λ e. refl; closing = λ ending e. e; failed = λ code e. e; memory = λ e. e }

within_closing : (c : Causes) (ending : Ending) → c.closing ≡ None → IsWithin c (record c { closing = Some ending })
within_closing c ending unclosed = record { order = refl; cancel = λ e. e; argument = λ e. e; state = λ e. e; closing = λ other e. cc; failed = λ code e. e; memory = λ e. e }

-- a signal adds to the causes
pub within_producer : (cause : Option Cause) (producer : Producing) (c : Causes) → ProducerMay cause producer c.closing
    → IsWithin c (joined cause c)
within_producer None producer c may = within_same c
within_producer (Some Cancel) producer c may = within_cancel c
within_producer (Some Argument) producer c may = within_argument c
within_producer (Some State) producer c may = within_state c
within_producer (Some (Closing ending)) producer c may = within_closing c ending may.1

pub within_handle : (cause : Option Cause) (handle : Requesting) (c : Causes) → HandleMay cause handle → IsWithin c (joined cause c)
within_handle None handle c may = within_same c
within_handle (Some Cancel) handle c may = within_cancel c
within_handle (Some Argument) handle c may = within_argument c
within_handle (Some State) handle c may = within_state c
within_handle (Some (Closing ending)) handle c may = absurd may

-- and none that a callback brings about
pub joined_failed : (cause : Option Cause) (c : Causes) → (joined cause c).failed ≡ c.failed
joined_failed None c = refl
joined_failed (Some Cancel) c = refl
joined_failed (Some Argument) c = refl
joined_failed (Some State) c = refl
joined_failed (Some (Closing ending)) c = refl

pub joined_memory : (cause : Option Cause) (c : Causes) → (joined cause c).memory ≡ c.memory
joined_memory None c = refl
joined_memory (Some Cancel) c = refl
joined_memory (Some Argument) c = refl
joined_memory (Some State) c = refl
joined_memory (Some (Closing ending)) c = refl

-- what was not closed has no end that waits
pub unclosed_waits : (c : Causes) → c.closing ≡ None → IsSome (closes c) → ⊥
unclosed_waits c unclosed some = let never : IsSome (end_at_last None c.order) = subst (λ closing. IsSome (end_at_last closing c.order)) unclosed some in cc

-- a value that is none is not some
pub none_some : (stop : Option How) → stop ≡ None → IsSome stop → ⊥
none_some None e some = cc
none_some (Some how) e some = cc

-- why an end waits: it is a completion, or an error that waits for the items
abbrev IsWaitFor : Causes → Type 0
IsWaitFor c = (c.closing ≡ Some Ending.Normal) ⊎ ((code : ℕ) × (c.closing ≡ Some (Ending.Failed code)) × (c.order ≡ AfterItems))

closes_cause : (c : Causes) → IsSome (closes c) → IsWaitFor c
closes_cause c some = by c.closing c.order refl refl some where
  by : (closing : Option Ending) (order : ErrorOrder) → c.closing ≡ closing → c.order ≡ order → IsSome (end_at_last closing order)
      → IsWaitFor c
  by None order e o some = cc
  by (Some Ending.Normal) order e o some = inl e
  by (Some (Ending.Failed code)) Overtake e o some = cc
  by (Some (Ending.Failed code)) AfterItems e o some = inr (code, e, o)

pub normal_closes : (c : Causes) → c.closing ≡ Some Ending.Normal → IsSome (closes c)
normal_closes c e = subst (λ closing. IsSome (end_at_last closing c.order)) (sym e) refl

pub error_closes : (c : Causes) (code : ℕ) → c.order ≡ AfterItems → c.closing ≡ Some (Ending.Failed code) → IsSome (closes c)
error_closes c code order e =
    subst (λ closing. IsSome (end_at_last closing c.order)) (sym e)
    (subst (λ o. IsSome (end_at_last (Some (Ending.Failed code)) o)) (sym order) refl)

pub closes_within : {c d : Causes} → IsWithin c d → IsSome (closes c) → IsSome (closes d)
closes_within {c} {d} within some = by (closes_cause c some) where
  by : IsWaitFor c → IsSome (closes d)
  by (inl e) = normal_closes d (within.closing Ending.Normal e)
  by (inr e) = error_closes d e.0 (sym within.order ∙ e.2) (within.closing (Ending.Failed e.0) e.1)

-- the cause of an end at once; a closing error is one if it overtakes the items
abbrev pub IsStopOf : Causes → How → Type 0
IsStopOf c How.Completed = ⊥
IsStopOf c (How.Errored (Published code)) = (c.closing ≡ Some (Ending.Failed code)) × (c.order ≡ Overtake)
IsStopOf c (How.Errored IllegalArgument) = c.argument ≡ true
IsStopOf c (How.Errored IllegalState) = c.state ≡ true
IsStopOf c How.Cancelled = c.cancel ≡ true
IsStopOf c (How.Failed _) = ⊥
IsStopOf c How.OutOfMemory = ⊥

pub stops_cause : (c : Causes) (how : How) → stops c ≡ Some how → IsStopOf c how
stops_cause causes how e = by causes.cancel causes.argument causes.state causes.closing causes.order refl refl refl refl refl e where
  by : (cancel argument state : Bool) (closing : Option Ending) (order : ErrorOrder) → causes.cancel ≡ cancel
      → causes.argument ≡ argument → causes.state ≡ state → causes.closing ≡ closing → causes.order ≡ order
      → end_where cancel How.Cancelled (end_where argument (How.Errored IllegalArgument) (end_where state (How.Errored IllegalState) (error_at_once closing order))) ≡ Some how
      → IsStopOf causes how
  by true argument state closing order c a s l o e = let is : How.Cancelled ≡ how = cc in subst (IsStopOf causes) is c
  by false true state closing order c a s l o e = let is : How.Errored IllegalArgument ≡ how = cc in subst (IsStopOf causes) is a
  by false false true closing order c a s l o e = let is : How.Errored IllegalState ≡ how = cc in subst (IsStopOf causes) is s
  by false false false None order c a s l o e = cc
  by false false false (Some Ending.Normal) order c a s l o e = cc
  by false false false (Some (Ending.Failed code)) Overtake c a s l o e = let is : How.Errored (Published code) ≡ how = cc in subst (IsStopOf causes) is (l, o)
  by false false false (Some (Ending.Failed code)) AfterItems c a s l o e = cc

-- with one of these causes there is an end at once
cancel_stops : (c : Causes) → c.cancel ≡ true → IsSome (stops c)
cancel_stops c e = subst (λ b. IsSome (end_where b How.Cancelled (end_where c.argument (How.Errored IllegalArgument) (end_where c.state (How.Errored IllegalState) (error_at_once c.closing c.order))))) (sym e) refl

-- an end, or the next one
some_where : (b : Bool) (how : How) (next : Option How) → IsSome next → IsSome (end_where b how next)
some_where true how next some = refl
some_where false how next some = some

argument_stops : (c : Causes) → c.argument ≡ true → IsSome (stops c)
argument_stops c e = some_where c.cancel How.Cancelled _
    (subst (λ b. IsSome (end_where b (How.Errored IllegalArgument) (end_where c.state (How.Errored IllegalState) (error_at_once c.closing c.order)))) (sym e) refl)

state_stops : (c : Causes) → c.state ≡ true → IsSome (stops c)
state_stops c e = some_where c.cancel How.Cancelled _ (some_where c.argument (How.Errored IllegalArgument) _
    (subst (λ b. IsSome (end_where b (How.Errored IllegalState) (error_at_once c.closing c.order))) (sym e) refl))

error_stops : (c : Causes) (code : ℕ) → c.closing ≡ Some (Ending.Failed code) → c.order ≡ Overtake → IsSome (stops c)
error_stops c code e order = some_where c.cancel How.Cancelled _ (some_where c.argument (How.Errored IllegalArgument) _ (some_where c.state (How.Errored IllegalState) _
    (subst (λ closing. IsSome (error_at_once closing c.order)) (sym e)
    (subst (λ o. IsSome (error_at_once (Some (Ending.Failed code)) o)) (sym order) refl))))

stop_stops : (c : Causes) (how : How) → IsStopOf c how → IsSome (stops c)
stop_stops c How.Completed of = absurd of
stop_stops c (How.Errored (Published code)) of = error_stops c code of.0 of.1
stop_stops c (How.Errored IllegalArgument) of = argument_stops c of
stop_stops c (How.Errored IllegalState) of = state_stops c of
stop_stops c How.Cancelled of = cancel_stops c of
stop_stops c (How.Failed _) of = absurd of
stop_stops c How.OutOfMemory of = absurd of

-- a cause stays one among more
stop_within : {c d : Causes} (how : How) → IsWithin c d → IsStopOf c how → IsStopOf d how
stop_within How.Completed within of = of
stop_within (How.Errored (Published code)) within of = (within.closing (Ending.Failed code) of.0, sym within.order ∙ of.1)
stop_within (How.Errored IllegalArgument) within of = within.argument of
stop_within (How.Errored IllegalState) within of = within.state of
stop_within How.Cancelled within of = within.cancel of
stop_within (How.Failed _) within of = of
stop_within How.OutOfMemory within of = of

-- an end at once
some_stop : (c : Causes) → IsSome (stops c) → (how : How) × (stops c ≡ Some how)
some_stop c some = by (stops c) refl some where
  by : (stop : Option How) → stops c ≡ stop → IsSome stop → (how : How) × (stops c ≡ Some how)
  by None e some = cc
  by (Some how) e some = (how, e)

-- with more causes there is still an end at once
pub stops_within : {c d : Causes} → IsWithin c d → IsSome (stops c) → IsSome (stops d)
stops_within {c} {d} within some =
    let found = some_stop c some in
    stop_stops d found.0 (stop_within found.0 within (stops_cause c found.0 found.1))

-- a cause of a signal that is an end at once by itself is one beside any others
pub joined_stops : (cause : Option Cause) (c : Causes) → IsSome (stops (joined cause (no_causes_in c.order)))
    → IsSome (stops (joined cause c))
joined_stops None c some = cc
joined_stops (Some Cancel) c some = refl
joined_stops (Some Argument) c some = argument_stops (record c { argument = true }) refl
joined_stops (Some State) c some = state_stops (record c { state = true }) refl
joined_stops (Some (Closing Ending.Normal)) c some = cc
joined_stops (Some (Closing (Ending.Failed code))) c some = by c.order refl some where
  by : (order : ErrorOrder) → c.order ≡ order → IsSome (error_at_once (Some (Ending.Failed code)) order)
      → IsSome (stops (record c { closing = Some (Ending.Failed code) }))
  by Overtake o some = error_stops (record c { closing = Some (Ending.Failed code) }) code refl o
  by AfterItems o some = cc

-- so does the cause that a callback brings about
pub stops_with_cause : (how : How) (c : Causes) → IsSome (stops c) → IsSome (stops (with_cause_of how c))
stops_with_cause How.Completed c some = some
stops_with_cause (How.Errored _) c some = some
stops_with_cause How.Cancelled c some = refl
stops_with_cause (How.Failed _) c some = some
stops_with_cause How.OutOfMemory c some = some
