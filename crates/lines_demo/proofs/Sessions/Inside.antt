-- The state that a session's fields stand for, and its woken.
use Rattle.std.proofs.Common.{ℕ, Bool, if◌then◌else◌, List, [], ◌∷◌, ◌++◌, length}
use Rattle.lines_demo.specs.Script.Session.{state_of}
use Rattle.lines_demo.specs.Script.State.{SessionState}
use Rattle.lines_demo.specs.declared.script.session.Session.TheInside.{Inside}

-- as the session's model has it
abbrev pub state_inside : {B : Type 0} → Inside B → SessionState
state_inside s = state_of s.hub (length s.stock.items) s.woken s.beginning

-- the woken once this one is, too, if it was started
abbrev pub woken_with : List ℕ → ℕ → Bool → List ℕ
woken_with woken number is_started = woken ++ (if is_started then number ∷ [] else [])
