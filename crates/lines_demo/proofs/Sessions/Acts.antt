-- What the owner of a subscription does to it, as plain state.
use Rattle.std.proofs.Common.{◌≡◌, ℕ, zero, suc, ℤ, pos, negsuc, Bool, true, false, ◌&&◌, if◌then◌else◌, refl, ap, ◌∙◌, arith}
use Rattle.std.specs.Prelude.{is_none}
use Rattle.feed_core.specs.Desk.{desk_after_signal, desk_with_request}
use Rattle.feed_core.specs.Feed.{end_of}
use Rattle.feed_core.specs.LaneCalls.{lane_with_cancel, lane_with_request}
use Rattle.feed_core.specs.Sound.{IsSoundDesk}
use Rattle.feed_core.proofs.Desks.Sound.{owes_live, sound_desk_cancel, sound_desk_request}
use Rattle.publisher_hub.specs.Lending.{MayBecome}
use Rattle.lines_demo.specs.Prelude.{DeskState, desk_without_looks, owes}
use Rattle.lines_demo.specs.Script.Obeying.{desk_after_act}
use Rattle.lines_demo.specs.declared.script.session.acting.Act.{Act}

-- all that an act may change: how much is requested in all and by the owner, the causes cancel and bad request, whether
-- its task was started, whether its owner requested badly, and whether it was cancelled
abbrev pub desk_with_act : DeskState → ℕ → ℕ → Bool → Bool → Bool → Bool → Bool → DeskState
desk_with_act desk asked requested cancel argument started badly cancelled = record desk {
  lane = record desk.lane { asked = asked; causes = record desk.lane.causes { cancel = cancel; argument = argument } };
  started = started;
  requested = requested;
  asked_badly = badly;
  is_cancelled = cancelled;
}

-- what holds of each such change, if a started task stays so, holds of an act
pub by_act : (act : Act) (desk : DeskState) (P : DeskState → Type 0)
    → ((asked requested : ℕ) (cancel argument started badly cancelled : Bool) → (desk.started ≡ true → started ≡ true) → P (desk_with_act desk asked requested cancel argument started badly cancelled)) → P (desk_after_act act desk)
by_act (Act.Request number) desk P each = by desk.is_cancelled number where
  same : P desk
  same = each desk.lane.asked desk.requested desk.lane.causes.cancel desk.lane.causes.argument desk.started desk.asked_badly desk.is_cancelled (λ e. e)

  by : (cancelled : Bool) (n : ℤ)
      → P (if cancelled then desk else desk_after_signal (desk_with_request n desk) (lane_with_request n desk.lane))
  by true n = same
  by false (pos zero) = each desk.lane.asked desk.requested desk.lane.causes.cancel true true true desk.is_cancelled (λ e. refl)
  by false (pos (suc n)) = each _ _ desk.lane.causes.cancel desk.lane.causes.argument true desk.asked_badly desk.is_cancelled (λ e. refl)
  by false (negsuc n) = each desk.lane.asked desk.requested desk.lane.causes.cancel true true true desk.is_cancelled (λ e. refl)
by_act Act.Cancel desk P each = by desk.is_cancelled where
  by : (cancelled : Bool) → P (if cancelled then desk else record (desk_after_signal desk (lane_with_cancel desk.lane)) { is_cancelled = true })
  by true = each desk.lane.asked desk.requested desk.lane.causes.cancel desk.lane.causes.argument desk.started desk.asked_badly desk.is_cancelled (λ e. e)
  by false = each desk.lane.asked desk.requested true desk.lane.causes.argument true desk.asked_badly true (λ e. refl)

-- it ends no subscription by itself
pub act_how : (act : Act) (desk : DeskState) → (desk_after_act act desk).lane.how ≡ desk.lane.how
act_how act desk = by_act act desk (λ d. d.lane.how ≡ desk.lane.how) (λ asked requested cancel argument started badly cancelled goes_on. refl)

-- a subscriber that is steady stays so
pub act_steady : (act : Act) (desk : DeskState) → (desk_after_act act desk).is_steady ≡ desk.is_steady
act_steady act desk = by_act act desk (λ d. d.is_steady ≡ desk.is_steady) (λ asked requested cancel argument started badly cancelled goes_on. refl)

-- the publisher's end is what it may become
pub act_becomes : (act : Act) (desk : DeskState) → MayBecome (end_of desk) (end_of (desk_after_act act desk))
act_becomes act desk =
    by_act act desk (λ d. MayBecome (end_of desk) (end_of d)) (λ asked requested cancel argument started badly cancelled goes_on.
    record { capacity = refl; accepted = refl; closing = refl; seen = omega arith; over = λ over. over })

-- it forgets nobody's turn
pub act_owes : (act : Act) (desk : DeskState) → owes desk ≡ true → owes (desk_after_act act desk) ≡ true
act_owes act desk owed =
    by_act act desk (λ d. owes d ≡ true) (λ asked requested cancel argument started badly cancelled goes_on.
    ap (λ s. s && is_none desk.lane.how) (goes_on (runs desk.started (is_none desk.lane.how) owed)) ∙ ap is_none (owes_live desk owed)) where
      runs : (started live : Bool) → (started && live) ≡ true → started ≡ true
      runs true live e = refl
      runs false live e = e

-- it keeps what a subscription keeps
pub act_sound : (act : Act) (desk : DeskState) → IsSoundDesk desk → IsSoundDesk (desk_after_act act desk)
act_sound (Act.Request number) desk kept = sound_desk_request desk number kept
act_sound Act.Cancel desk kept = sound_desk_cancel desk kept

-- it does the same however often the publisher has looked
pub act_without_looks : (act : Act) (desk : DeskState)
    → desk_without_looks (desk_after_act act desk) ≡ desk_after_act act (desk_without_looks desk)
act_without_looks (Act.Request number) desk = by desk.is_cancelled number where
  by : (cancelled : Bool) (n : ℤ)
      → desk_without_looks (if cancelled then desk else desk_after_signal (desk_with_request n desk) (lane_with_request n desk.lane))
      ≡ (if cancelled then desk_without_looks desk else desk_after_signal (desk_with_request n (desk_without_looks desk)) (lane_with_request n desk.lane))
  by true n = refl
  by false (pos zero) = refl
  by false (pos (suc n)) = refl
  by false (negsuc n) = refl
act_without_looks Act.Cancel desk = by desk.is_cancelled where
  by : (cancelled : Bool) → desk_without_looks (if cancelled then desk else record (desk_after_signal desk (lane_with_cancel desk.lane)) { is_cancelled = true })
      ≡ (if cancelled then desk_without_looks desk else record (desk_after_signal (desk_without_looks desk) (lane_with_cancel desk.lane)) { is_cancelled = true })
  by true = refl
  by false = refl
