-- What a callback does to what its subscriber was told.
use Rattle.std.specs.Prelude.{◌≡◌, Bool, true, List, [], ◌∷◌, ◌++◌, Result, Ok, Err, IfOk, OnOk, OnErr}
use Rattle.flow_rules.specs.declared.answer.Answer.{Answer}
use Rattle.flow_rules.specs.declared.answer.Answer.TheVariants.{Go}
use Rattle.flow_rules.specs.declared.refusal.NoMemory.{NoMemory}
use Rattle.flow_rules.specs.declared.signal.Signal.{Signal}

-- if it answers Ok, its subscriber was told this signal more; if it was refused memory, nothing
abbrev pub Tells : Signal → Result Answer NoMemory → List Signal → List Signal → Type 0
Tells signal result old new = OnOk result (new ≡ old ++ signal ∷ []) × OnErr result (new ≡ old)

-- what a callback came back with: its answer, or it was refused memory
abbrev pub Reply : Type 0
Reply = Result Answer NoMemory

-- it was refused memory
abbrev pub refused : Reply
refused = Err (record {})

-- what came back from the callback of a terminal signal, if an answer is not obeyed: it went on, or was refused
-- memory
abbrev pub unobeyed : Reply → Reply
unobeyed (Ok _) = Ok Go
unobeyed (Err _) = refused

-- what a subscriber was told, and what each of its callbacks came back with
pub record Heard : Type 0 where
  pub signals : List Signal
  pub replies : List Reply

abbrev pub heard_nothing : Heard
heard_nothing = record { signals = []; replies = [] }

-- one reply more
abbrev pub heard_reply : Reply → Heard → Heard
heard_reply reply heard = record heard { replies = heard.replies ++ reply ∷ [] }

-- a callback was refused memory
abbrev pub heard_refused : Heard → Heard
heard_refused = heard_reply refused

-- this signal more, which it answered so
abbrev pub heard_more : Signal → Answer → Heard → Heard
heard_more signal answer heard = record { signals = heard.signals ++ signal ∷ []; replies = heard.replies ++ Ok answer ∷ [] }

-- this signal more, whose answer is not obeyed
abbrev pub heard_last : Signal → Heard → Heard
heard_last signal heard = record { signals = heard.signals ++ signal ∷ []; replies = heard.replies ++ Ok Go ∷ [] }

-- a steady subscriber answers Go, if it is not refused memory, and stays steady
abbrev pub StaysSteady : Result Answer NoMemory → Bool → Bool → Type 0
StaysSteady result old new = (old ≡ true → new ≡ true) × (old ≡ true → IfOk result (λ answer. answer ≡ Go))
