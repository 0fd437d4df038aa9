-- Whom a signal starts.
use Rattle.std.proofs.Common.{◌≡◌, ◌↔◌, ℕ, Bool, true, false, not, ◌&&◌, if◌then◌else◌, Option, None, Some, [], ◌∷◌, refl, sym, ap, ◌∙◌}
use Rattle.std.specs.Prelude.{is_none, IsSome}
use Rattle.publisher_hub.specs.Gathering.{work_of}
use Rattle.feed_core.specs.Desk.{Rests, desk_after_signal}
use Rattle.lines_demo.specs.Prelude.{DeskState, How, LaneState, owes}
use Rattle.lines_demo.specs.Script.Session.{numbers_of}

-- a signal that starts one at rest wakes who owes a turn after it and owed none before
pub signal_wakes : (desk : DeskState) (lane : LaneState) (k : ℕ) (start : Option Unit) → lane.how ≡ desk.lane.how
    → IsSome start ↔ Rests desk
    → numbers_of (work_of k start) ≡ (if owes (desk_after_signal desk lane) && not (owes desk) then k ∷ [] else [])
signal_wakes desk lane k start same starts =
    by start desk.started desk.lane.how starts ∙ ap (λ how. if is_none how && not (owes desk) then k ∷ [] else []) (sym same) where
      by : (answer : Option Unit) (started : Bool) (how : Option How) → IsSome answer ↔ ((started ≡ false) × (how ≡ None))
          → numbers_of (work_of k answer) ≡ (if is_none how && not (started && is_none how) then k ∷ [] else [])
      by (Some task) false None s = refl
      by (Some task) true None s = let never = (s.0 refl).0 in cc
      by (Some task) true (Some how) s = let never = (s.0 refl).1 in cc
      by (Some task) false (Some how) s = let never = (s.0 refl).1 in cc
      by None false None s = let never = s.1 (refl, refl) in cc
      by None true None s = refl
      by None true (Some how) s = refl
      by None false (Some how) s = refl
