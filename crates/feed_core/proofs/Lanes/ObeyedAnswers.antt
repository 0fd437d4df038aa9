-- What a request and an answer do to a lane, and that they keep it in order.
use Rattle.std.proofs.Common.{◌≡◌, ℕ, zero, suc, ℤ, pos, negsuc, ◌≤◌, ◌<ℤ◌, ◌≤ℤ◌, unsigned_abs, Bool, true, List, [], ◌∷◌, Option, None, Ok, refl, sym, subst, inr}
use Rattle.std.proofs.lemmas.List.{append-nil}
use Rattle.std.proofs.Math.Facts.{leb_yes}
use Rattle.std.proofs.Math.Nat.{not-suc-le-zero}
use Rattle.feed_core.specs.Prelude.{Answer, Item, Signal, Subscribed, Next, How, Causes, Outlook, total_after}
use Rattle.feed_core.specs.AnsweredTurn.{After, obeyed}
use Rattle.feed_core.specs.Desk.{DeskState, desk_with_request}
use Rattle.feed_core.specs.Lane.{LaneState}
use Rattle.feed_core.specs.LaneCalls.{lane_with_bad_request, lane_with_demand, lane_with_request}
use Rattle.feed_core.specs.Replies.{replies_in}
use Rattle.feed_core.specs.Sound.{IsInOrder, IsSoundLane, is_begun, lane_of, loss_of}
use Rattle.feed_core.specs.Steps.{Asks, IsGreetedBy, IsToldBy, Obeys}
use Rattle.feed_core.specs.Turn.{how_after}
use Rattle.feed_core.proofs.Desks.Steps.{in_order_ended}
use Rattle.feed_core.proofs.Lanes.Sound.{sound_lane_with_request}

-- a positive request adds to the demand
pub request_adds : (n : ℤ) (lane : LaneState) → pos 0 <ℤ n → lane_with_request n lane ≡ lane_with_demand (unsigned_abs n) lane
request_adds (pos zero) lane positive = absurd positive.lt
request_adds (pos (suc n)) lane positive = refl
request_adds (negsuc n) lane positive = absurd positive.lt

-- another is a cause
pub request_refused : (n : ℤ) (lane : LaneState) → n ≤ℤ pos 0 → lane_with_request n lane ≡ lane_with_bad_request lane
request_refused (pos zero) lane bad = refl
request_refused (pos (suc n)) lane bad = absurd (not-suc-le-zero (leb_yes bad.le))
request_refused (negsuc n) lane bad = refl

-- the owner knows of a positive request
pub request_noted : (n : ℤ) (desk : DeskState) → pos 0 <ℤ n
    → desk_with_request n desk ≡ record desk { requested = total_after desk.requested (unsigned_abs n) }
request_noted (pos zero) desk positive = absurd positive.lt
request_noted (pos (suc n)) desk positive = refl
request_noted (negsuc n) desk positive = absurd positive.lt

-- and of a bad one
pub bad_request_noted : (n : ℤ) (desk : DeskState) → n ≤ℤ pos 0 → desk_with_request n desk ≡ record desk { asked_badly = true }
bad_request_noted (pos zero) desk bad = refl
bad_request_noted (pos (suc n)) desk bad = absurd (not-suc-le-zero (leb_yes bad.le))
bad_request_noted (negsuc n) desk bad = refl

-- a request keeps a lane sound
pub sound_asking : (n : ℤ) (lane : LaneState) (asked : ℕ) (causes : Causes) → IsSoundLane lane → lane.asked ≤ asked
    → Asks n lane.asked asked lane.causes causes
    → IsSoundLane (record lane { asked = asked; causes = causes })
sound_asking n lane asked causes sound grows asks =
    let same = asks lane in
    subst (λ (after : LaneState). IsSoundLane after) same (sound_lane_with_request n lane sound (subst (λ (after : LaneState). lane.asked ≤ after.asked) (sym same) grows))

module _ {told : List Signal} {held : List Item} {given asked capacity : ℕ} {causes : Causes} {how : Option How} {started : Bool}
    (kept : IsInOrder (lane_of told held given asked causes how) held capacity started) (unended : how ≡ None) (runs : started ≡ true) (begun : is_begun told ≡ true) where
  -- an answer that is obeyed keeps a Desk in order
  in_order_obeyed : (answer : Answer) → asked ≤ (obeyed answer (lane_of told held given asked causes how)).lane.asked
      → IsInOrder (obeyed answer (lane_of told held given asked causes how)).lane held capacity started
  in_order_obeyed Answer.Go grows = kept
  in_order_obeyed (Answer.Request (pos zero)) grows = record { sound = sound_lane_with_request (pos zero) (lane_of told held given asked causes how) kept.sound grows; holds = refl; fits = kept.fits; rests = λ e. cc }
  in_order_obeyed (Answer.Request (pos (suc n))) grows = record { sound = sound_lane_with_request (pos (suc n)) (lane_of told held given asked causes how) kept.sound grows; holds = refl; fits = kept.fits; rests = λ e. cc }
  in_order_obeyed (Answer.Request (negsuc n)) grows = record { sound = sound_lane_with_request (negsuc n) (lane_of told held given asked causes how) kept.sound grows; holds = refl; fits = kept.fits; rests = λ e. cc }
  in_order_obeyed Answer.Cancel grows = in_order_ended kept unended runs begun How.Cancelled tt (sym (append-nil told))
  in_order_obeyed (Answer.Fail code) grows = in_order_ended kept unended runs begun (How.Failed code) tt (sym (append-nil told))

  -- what an answer changes keeps a Desk in order
  pub in_order_obeying : {asked' : ℕ} {causes' : Causes} {how' : Option How} {outlook : Outlook} (answer : Answer) → asked ≤ asked'
      → Obeys answer asked asked' causes causes' how how' outlook
      → IsInOrder (lane_of told held given asked' causes' how') held capacity started
  in_order_obeying answer grows obeys =
      let same = obeys (lane_of told held given asked causes how) in
      subst (λ (after : After). IsInOrder after.lane held capacity started) same (in_order_obeyed answer (subst (λ (after : After). asked ≤ after.lane.asked) (sym same) grows))

-- after an answer a lane has ended as the outlook says
obeyed_how : (answer : Answer) (lane : LaneState) → lane.how ≡ None → (obeyed answer lane).lane.how ≡ how_after (obeyed answer lane).outlook
obeyed_how Answer.Go lane unended = unended
obeyed_how (Answer.Request (pos zero)) lane unended = unended
obeyed_how (Answer.Request (pos (suc n))) lane unended = unended
obeyed_how (Answer.Request (negsuc n)) lane unended = unended
obeyed_how Answer.Cancel lane unended = refl
obeyed_how (Answer.Fail code) lane unended = refl

pub obeying_how : (answer : Answer) (lane : LaneState) (after : After) → lane.how ≡ None → obeyed answer lane ≡ after
    → after.lane.how ≡ how_after after.outlook
obeying_how answer lane after unended same = subst (λ (a : After). a.lane.how ≡ how_after a.outlook) same (obeyed_how answer lane unended)

-- no answer is a refusal of memory
obeyed_loss : (answer : Answer) (lane : LaneState) → loss_of (how_after (obeyed answer lane).outlook) ≡ 0
obeyed_loss Answer.Go lane = refl
obeyed_loss (Answer.Request n) lane = refl
obeyed_loss Answer.Cancel lane = refl
obeyed_loss (Answer.Fail code) lane = refl

pub obeying_loss : (answer : Answer) (lane : LaneState) (after : After) → obeyed answer lane ≡ after → loss_of (how_after after.outlook) ≡ 0
obeying_loss answer lane after same = subst (λ (a : After). loss_of (how_after a.outlook) ≡ 0) same (obeyed_loss answer lane)

-- an item may be followed by what its answer brings about
obeyed_told : (answer : Answer) (lane : LaneState) (item : Item) → IsToldBy (obeyed answer lane).outlook (Next item ∷ [])
obeyed_told Answer.Go lane item = (item, refl)
obeyed_told (Answer.Request n) lane item = (item, refl)
obeyed_told Answer.Cancel lane item = inr ((item, refl), refl)
obeyed_told (Answer.Fail code) lane item = inr ((item, refl), refl)

pub obeying_told : (answer : Answer) (lane : LaneState) (item : Item) (after : After) → obeyed answer lane ≡ after
    → IsToldBy after.outlook (Next item ∷ [])
obeying_told answer lane item after same = subst (λ (a : After). IsToldBy a.outlook (Next item ∷ [])) same (obeyed_told answer lane item)

-- so may the greeting
obeyed_greeted : (answer : Answer) (lane : LaneState) → IsGreetedBy (obeyed answer lane).outlook [] (Subscribed ∷ [])
obeyed_greeted Answer.Go lane = refl
obeyed_greeted (Answer.Request n) lane = refl
obeyed_greeted Answer.Cancel lane = (inr refl, refl)
obeyed_greeted (Answer.Fail code) lane = (inr refl, refl)

pub obeying_greeted : (answer : Answer) (lane : LaneState) (after : After) → obeyed answer lane ≡ after
    → IsGreetedBy after.outlook [] (Subscribed ∷ [])
obeying_greeted answer lane after same = subst (λ (a : After). IsGreetedBy a.outlook [] (Subscribed ∷ [])) same (obeyed_greeted answer lane)

-- the reply of one that only goes on is the one to its signal
obeyed_goes_on : (lane : LaneState) (signal : Signal) → Ok Answer.Go ∷ [] ≡ replies_in (signal ∷ []) (obeyed Answer.Go lane).outlook
obeyed_goes_on lane signal = refl

pub obeying_goes_on : (answer : Answer) (lane : LaneState) (signal : Signal) (after : After) → obeyed answer lane ≡ after
    → answer ≡ Answer.Go → Ok answer ∷ [] ≡ replies_in (signal ∷ []) after.outlook
obeying_goes_on answer lane signal after same goes =
    subst (λ (a : After). Ok answer ∷ [] ≡ replies_in (signal ∷ []) a.outlook) same
    (subst (λ (r : Answer). Ok r ∷ [] ≡ replies_in (signal ∷ []) (obeyed r lane).outlook) (sym goes) (obeyed_goes_on lane signal))
