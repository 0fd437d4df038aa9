-- What is left of the subscriptions of a publisher keeps the rules of Flow, and agrees.
use Rattle.std.proofs.Common.{◌≡◌, ◌⊎◌, inl, inr, ℕ, zero, suc, ◌<◌, ◌≤◌, Bool, true, false, Option, None, Some, List, ◌∷◌, [], length, map, refl, sym, ap, subst, ◌∙◌, arith}
use Rattle.feed_core.specs.AnsweredTurn.{Reply}
use Rattle.std.specs.Prelude.{IsSome, IfSome, slice_get, Contains, ◌||◌}
use Rattle.std.proofs.lemmas.Option.{same_Some, slice_get_within}
use Rattle.feed_core.specs.Prelude.{Signal, Subscribed, Next, Complete, Ending, How}
use Rattle.feed_core.specs.Answered.{causes_by}
use Rattle.feed_core.specs.Cause.{stops}
use Rattle.feed_core.specs.Lane.{LaneState, IsIdle, IsSettled, IsSettledAs}
use Rattle.feed_core.specs.declared.cause.Causes.{Causes}
use Rattle.feed_core.proofs.Turns.Loop.{last_contained}
use Rattle.publisher_hub.proofs.AnswerLists.Places.{there}
use Rattle.history.specs.declared.rule.Entry.{Entry}
use Rattle.publisher.specs.Content.{AreSentIn}
use Rattle.publisher.specs.Finishing.{AreClosedWith, AreOfLog, AreTakenOut, IsCountedIn}
use Rattle.publisher.specs.Handles.{SubmitterState, SubscriptionState}
use Rattle.publisher.specs.Leaving.{ClosesAll, IsLaneOfTaken}
use Rattle.publisher.specs.Outcome.{IsLane, IsOutcome, TookPart}
use Rattle.publisher.specs.declared.outcome.NamedLane.{NamedLane}
use Rattle.publisher.specs.declared.outcome.Outcome.{Outcome}
use Rattle.publisher.specs.declared.finishing.find.Found.{Found}
use Rattle.publisher.specs.declared.finishing.find.Taken.{Taken}

-- a completed lane was closed
completed_closed : (lane : LaneState) → lane.how ≡ Some How.Completed → IsSettled lane → IsSome lane.causes.closing
completed_closed lane how settled =
    let told : IsSettledAs lane (Some How.Completed) = subst (IsSettledAs lane) how settled.rests in
    let contains : Contains lane.told Complete = last_contained lane.told Complete (Subscribed ∷ map Next lane.accepted, told) in
    rw (settled.flow.completed contains).0 refl

-- a cancel stops a subscription
cancel_stops : (causes : Causes) → causes.cancel ≡ true → stops causes ≡ None → ⊥
cancel_stops causes cancelled none =
    let stopped : stops causes ≡ Some How.Cancelled = rw cancelled refl in
    let no : Some How.Cancelled ≡ None = sym stopped ∙ none in cc

-- which of the lanes is that of each of what is left
pub record HasLaneState {B : Type 0} (told : B → List Signal) (replied : B → List Reply) (published : ℕ)
    (founds : List (Found B)) (left : NamedLane B) (lane : LaneState) : Type 0 where
  pub taken : Taken B
  pub stands : slice_get founds left.entry ≡ Some (Found.Both taken)
  pub accepted : lane.accepted ≡ taken.producer.end.accepted
  pub closing : lane.causes.closing ≡ taken.producer.end.closing
  pub is_lane : IsLane told replied published left lane

module _ {B : Type 0} (told : B → List Signal) (replied : B → List Reply) (published dropping : ℕ)
    (founds : List (Found B)) (left : NamedLane B) (taken : Taken B)
    (is : IsLaneOfTaken told replied left.entry taken left) (counted : IsCountedIn published dropping taken) where
  abbrev pub lane : LaneState
  lane = is.lane.lane

  -- one that goes on, or was completed, took part to the end
  still_part : (how : Option How) → left.lane.ending ≡ how → TookPart how
      → (taken.producer.end.over ≡ false) ⊎ IsSome taken.producer.end.closing
  still_part None e part = inl (by taken.producer.end.over refl) where
    by : (over : Bool) → taken.producer.end.over ≡ over → over ≡ false
    by false at = refl
    by true at = let some = is.lane.over at in no left.lane.ending e some where
      no : (ending : Option How) → ending ≡ None → IsSome ending → true ≡ false
      no None e some = cc
      no (Some how) e some = cc
  still_part (Some How.Completed) e part = inr
      (subst IsSome is.lane.closing (completed_closed lane (sym is.lane.is.ending ∙ e)
      (is.lane.is.settled (by left.lane.running refl)).1)) where
        by : (running : Bool) → left.lane.running ≡ running → left.lane.running ≡ false
        by false at = at
        by true at = let no : None ≡ Some How.Completed = sym (is.lane.is.unended at) ∙ e in cc
  still_part (Some (How.Errored fault)) e part = absurd part
  still_part (Some How.Cancelled) e part = absurd part
  still_part (Some (How.Failed code)) e part = absurd part
  still_part (Some How.OutOfMemory) e part = absurd part

  not_none : (subscriber : Option B) → subscriber ≡ None → IsSome subscriber → ⊥
  not_none None none some = cc
  not_none (Some b) none some = cc

  -- one that its owner cancelled is not idle, so it has ended if it doesn't run
  cancel_heeded : left.lane.running ≡ false → left.lane.cancelled ≡ true → IsSome left.lane.ending
  cancel_heeded rests cancelled = by left.lane.subscriber left.lane.ending refl refl where
    by : (subscriber : Option B) (ending : Option How) → left.lane.subscriber ≡ subscriber → left.lane.ending ≡ ending
        → IsSome left.lane.ending
    by subscriber (Some how) there at = rw at refl
    by None None there at = absurd (not_none left.lane.subscriber there (is.lane.is.settled rests).0)
    by (Some b) None there at =
        let idle : IsIdle lane = subst (IsSettledAs lane) (sym is.lane.is.ending ∙ at) (is.lane.is.settled rests).1.rests in
        let cause : lane.causes.cancel ≡ left.lane.cancelled || (causes_by lane.causes.order (replied b)).cancel =
        subst (λ s. IfSome s (λ b. lane.causes.cancel ≡ left.lane.cancelled || (causes_by lane.causes.order (replied b)).cancel))
        there is.lane.cancelled in
        absurd (cancel_stops lane.causes
        (cause ∙ ap (λ c. c || (causes_by lane.causes.order (replied b)).cancel) cancelled) idle.runs_on)

  many : left.lane.accepted ≡ length taken.producer.end.accepted
  many = is.lane.is.accepted ∙ ap length is.lane.accepted

  pub is_lane_of : IsLane told replied published left lane
  is_lane_of = record {
    is = is.lane.is;
    asked = is.lane.asked;
    ends = is.lane.ends;
    by = is.lane.by;
    heeded = cancel_heeded;
    ordered = λ i j x y at on less. counted.ordered i j x y (sym (ap (λ l. slice_get l i) is.lane.accepted) ∙ at)
        (sym (ap (λ l. slice_get l j) is.lane.accepted) ∙ on) less;
    since = λ i x at.
        let item = counted.items i x (sym (ap (λ l. slice_get l i) is.lane.accepted) ∙ at) in
        let since = is.since in (let first = item.0 in omega arith, item.1);
    counted = let count = counted.counted in let since = is.since in let dropped = is.dropped in let accepted = many in omega arith;
    whole = λ part.
        let all = counted.whole (still_part left.lane.ending refl part) in
        let since = is.since in let dropped = is.dropped in let accepted = many in omega arith;
  }

  pub few_drops : left.dropped ≤ dropping
  few_drops = let drops = counted.drops in let same = is.dropped in omega arith

module _ {B H : Type 0} (told : B → List Signal) (replied : B → List Reply) (subscriptions : List SubscriptionState)
    (founds : List (Found B)) (dropping : ℕ) (drained : Bool) (outcome : Outcome B H) (first : Option (List ℕ))
    (out : AreTakenOut subscriptions founds outcome.published dropping drained) (same : outcome.drained ≡ drained)
    (closes : ClosesAll told replied founds (length founds) outcome.lanes.items outcome.held.items first) where
  lane_at : (i : ℕ) (left : NamedLane B) → slice_get outcome.lanes.items i ≡ Some left → (lane : LaneState)
      × HasLaneState told replied outcome.published founds left lane
  lane_at i left at =
      let it = closes.each i left at in (
        it.1.1.1.of.lane.lane,
        record {
          taken = it.0;
          stands = it.1.0;
          accepted = it.1.1.1.of.lane.accepted;
          closing = it.1.1.1.of.lane.closing;
          is_lane = is_lane_of told replied outcome.published dropping founds left it.0 it.1.1.1.of (out.each left.entry it.0 it.1.0);
        },
      )

  pub drops_at : (i : ℕ) (left : NamedLane B) → slice_get outcome.lanes.items i ≡ Some left → left.dropped ≤ dropping
  drops_at i left at =
      let it = closes.each i left at in
      few_drops told replied outcome.published dropping founds left it.0 it.1.1.1.of (out.each left.entry it.0 it.1.0)

  -- the lanes of a list of what is left
  pub record AreLanes (lefts : List (NamedLane B)) (lanes : List LaneState) : Type 0 where
    pub as_many : length lanes ≡ length lefts
    pub each : (i : ℕ) (left : NamedLane B) (lane : LaneState) → slice_get lefts i ≡ Some left
        → slice_get lanes i ≡ Some lane → HasLaneState told replied outcome.published founds left lane

  lanes_more : (left : NamedLane B) (lefts : List (NamedLane B)) (lane : LaneState) (lanes : List LaneState)
      → HasLaneState told replied outcome.published founds left lane → AreLanes lefts lanes → AreLanes (left ∷ lefts) (lane ∷ lanes)
  lanes_more left lefts lane lanes is are = record { as_many = ap suc are.as_many; each = λ i it its at on. by i it its at on } where
    by : (i : ℕ) (it : NamedLane B) (its : LaneState) → slice_get (left ∷ lefts) i ≡ Some it
        → slice_get (lane ∷ lanes) i ≡ Some its → HasLaneState told replied outcome.published founds it its
    by zero it its at on = subst (λ l. HasLaneState told replied outcome.published founds l its)
        (same_Some left it at) (subst (λ l. HasLaneState told replied outcome.published founds left l) (same_Some lane its on) is)
    by (suc i) it its at on = are.each i it its at on

  lanes_of : (lefts : List (NamedLane B)) →
      ((i : ℕ) (left : NamedLane B) → slice_get lefts i ≡ Some left → (lane : LaneState)
      × HasLaneState told replied outcome.published founds left lane) → (lanes : List LaneState) × AreLanes lefts lanes
  lanes_of [] at = ([], record { as_many = refl; each = λ i left lane none on. cc })
  lanes_of (left ∷ lefts) at =
      let here = at 0 left refl in
      let more = lanes_of lefts (λ i it on. at (suc i) it on) in
      (here.0 ∷ more.0, lanes_more left lefts here.0 more.0 here.1 more.1)

  -- of what was published
  pub is_outcome : (submitters : List SubmitterState) (log : List Entry) → length log ≡ outcome.published
      → AreSentIn log submitters → AreOfLog log founds → (closing : Option Ending) → AreClosedWith closing founds
      → IsOutcome told replied submitters outcome
  is_outcome submitters log long sent of_log closing closed =
      let all = lanes_of outcome.lanes.items lane_at in
      record {
        lanes = all.0;
        as_many = all.1.as_many;
        each = λ i left lane at on. (all.1.each i left lane at on).is_lane;
        agreed = λ i j k n one other x y at on at_other on_other is_one.
            let left = there outcome.lanes.items i (subst (λ m. i < m) all.1.as_many (slice_get_within all.0 i one at)) in
            let other_left = there outcome.lanes.items j (subst (λ m. j < m) all.1.as_many (slice_get_within all.0 j other at_other)) in
            let here = all.1.each i left.0 one left.1 at in
            let there = all.1.each j other_left.0 other other_left.1 at_other in
            out.agreed left.0.entry other_left.0.entry k n here.taken there.taken x y here.stands
            (sym (ap (λ l. slice_get l k) here.accepted) ∙ on) there.stands
            (sym (ap (λ l. slice_get l n) there.accepted) ∙ on_other) is_one;
        log = log;
        long = long;
        sent = sent;
        content = λ i k one x at on.
            let left = there outcome.lanes.items i (subst (λ m. i < m) all.1.as_many (slice_get_within all.0 i one at)) in
            let here = all.1.each i left.0 one left.1 at in
            of_log left.0.entry k here.taken x here.stands (sym (ap (λ l. slice_get l k) here.accepted) ∙ on);
        closing = closing;
        closed = λ i one ending at told.
            let left = there outcome.lanes.items i (subst (λ m. i < m) all.1.as_many (slice_get_within all.0 i one at)) in
            let here = all.1.each i left.0 one left.1 at in
            closed left.0.entry here.taken ending here.stands (sym here.closing ∙ told);
        drained = λ last i left at on_time.
            let it = closes.each i left at in
            it.1.1.1.of.lane.over (out.ended (sym same ∙ last) left.entry it.0 it.1.0 (sym it.1.1.1.of.late ∙ on_time));
        late = λ i left at late.
            let it = closes.each i left at in
            it.1.1.1.of.since ∙ (out.each left.entry it.0 it.1.0).late (sym it.1.1.1.of.late ∙ late);
      }
