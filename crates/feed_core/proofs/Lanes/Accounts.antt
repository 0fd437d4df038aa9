-- What a subscription was asked for, why it may end and how it ended stays what its owner did and what its subscriber
-- replied.
use Rattle.std.proofs.Common.{◌≡◌, ℕ, zero, suc, ℤ, pos, negsuc, ◌+◌, ◌<◌, ◌≤◌, min, Bool, true, false, Option, None, Some, List, [], ◌∷◌, ◌++◌, length, take, Ok, refl, sym, ap, ◌∙◌, subst, inl, inr, arith, length-append}
use Rattle.std.specs.Prelude.{◌||◌}
use Rattle.std.proofs.lemmas.Bool.{cases_lt}
use Rattle.std.proofs.lemmas.List.{append-nil, take-append-le, take_at}
use Rattle.feed_core.specs.Accounts.{AccountsFor, IsAccounted, GivesBelow}
use Rattle.feed_core.specs.Answered.{own_after, own_on, causes_after, causes_on, end_of, end_on, own_by, causes_by}
use Rattle.feed_core.specs.AnsweredTurn.{Reply, After, refused, replies_to, obeyed}
use Rattle.feed_core.specs.Cause.{no_causes_in, end_where, error_at_once, end_at_last, with_cause_of}
use Rattle.feed_core.specs.Desk.{DeskState, desk_with_request}
use Rattle.feed_core.specs.Lane.{LaneState}
use Rattle.feed_core.specs.LaneCalls.{lane_with_cancel, lane_with_request}
use Rattle.feed_core.specs.PlainTurn.{terminal_of}
use Rattle.feed_core.specs.Prelude.{Answer, Causes, Ending, ErrorOrder, Overtake, AfterItems, Published, IllegalArgument, IllegalState, How, Outlook, UNBOUNDED, total_after}
use Rattle.feed_core.specs.Replies.{AllGoOn, IsUnasked, EndsBy}
use Rattle.feed_core.specs.Sound.{is_begun}
use Rattle.feed_core.specs.Steps.{Asks, Notes, Obeys, OwesEnd}
use Rattle.feed_core.proofs.Lists.Replies.{own_more, causes_more, order_kept, own_adds, cancel_on, argument_on, failed_on, memory_on, all_more, ends_more, cancels_nothing}

-- what an answer changes in a lane
obeyed_asked : (answer : Answer) (lane : LaneState) → (obeyed answer lane).lane.asked ≡ own_after answer lane.asked
obeyed_asked Answer.Go lane = refl
obeyed_asked (Answer.Request (pos zero)) lane = refl
obeyed_asked (Answer.Request (pos (suc n))) lane = refl
obeyed_asked (Answer.Request (negsuc n)) lane = refl
obeyed_asked Answer.Cancel lane = refl
obeyed_asked (Answer.Fail code) lane = refl

obeyed_causes : (answer : Answer) (lane : LaneState) → (obeyed answer lane).lane.causes ≡ causes_after answer lane.causes
obeyed_causes Answer.Go lane = refl
obeyed_causes (Answer.Request (pos zero)) lane = refl
obeyed_causes (Answer.Request (pos (suc n))) lane = refl
obeyed_causes (Answer.Request (negsuc n)) lane = refl
obeyed_causes Answer.Cancel lane = refl
obeyed_causes (Answer.Fail code) lane = refl

obeyed_end : (answer : Answer) (lane : LaneState) → lane.how ≡ None → (obeyed answer lane).lane.how ≡ end_of answer
obeyed_end Answer.Go lane unended = unended
obeyed_end (Answer.Request (pos zero)) lane unended = unended
obeyed_end (Answer.Request (pos (suc n))) lane unended = unended
obeyed_end (Answer.Request (negsuc n)) lane unended = unended
obeyed_end Answer.Cancel lane unended = refl
obeyed_end (Answer.Fail code) lane unended = refl

-- an end that is owed was asked for by no reply
owed_unasked : (cancelled : Bool) (lane : LaneState) (end : How) → (lane.causes.cancel ≡ true → cancelled ≡ true) → OwesEnd lane end
    → IsUnasked cancelled end
owed_unasked cancelled lane end owner (inl e) = by lane.causes.cancel lane.causes.argument lane.causes.state lane.causes.closing lane.causes.order refl e where
  by : (cancel argument state : Bool) (closing : Option Ending) (order : ErrorOrder) → lane.causes.cancel ≡ cancel
      → end_where cancel How.Cancelled (end_where argument (How.Errored IllegalArgument) (end_where state (How.Errored IllegalState) (error_at_once closing order))) ≡ Some end
      → IsUnasked cancelled end
  by true argument state closing order c e = let is : How.Cancelled ≡ end = cc in subst (IsUnasked cancelled) is (owner c)
  by false true state closing order c e = let is : How.Errored IllegalArgument ≡ end = cc in subst (IsUnasked cancelled) is tt
  by false false true closing order c e = let is : How.Errored IllegalState ≡ end = cc in subst (IsUnasked cancelled) is tt
  by false false false None order c e = cc
  by false false false (Some Ending.Normal) order c e = cc
  by false false false (Some (Ending.Failed code)) Overtake c e = let is : How.Errored (Published code) ≡ end = cc in subst (IsUnasked cancelled) is tt
  by false false false (Some (Ending.Failed code)) AfterItems c e = cc
owed_unasked cancelled lane end owner (inr e) = by lane.causes.closing lane.causes.order e.1 where
  by : (closing : Option Ending) (order : ErrorOrder) → end_at_last closing order ≡ Some end → IsUnasked cancelled end
  by None order e = cc
  by (Some Ending.Normal) order e = let is : How.Completed ≡ end = cc in subst (IsUnasked cancelled) is tt
  by (Some (Ending.Failed code)) Overtake e = cc
  by (Some (Ending.Failed code)) AfterItems e = let is : How.Errored (Published code) ≡ end = cc in subst (IsUnasked cancelled) is tt

-- ---- one more reply of a subscription that has not ended

module _ {lane : LaneState} {requested : ℕ} {badly cancelled : Bool} {replied : List Reply} (kept : AccountsFor requested badly cancelled lane replied) (unended : lane.how ≡ None) where
  went_on : AllGoOn replied
  went_on = subst (λ (h : Option How). EndsBy cancelled h replied) unended kept.ends

  -- what the replies bring about, after one more
  causes_then : (r : Reply) (causes' : Causes) → causes' ≡ causes_on r lane.causes
      → causes_by causes'.order (replied ++ r ∷ []) ≡ causes_on r (causes_by lane.causes.order replied)
  causes_then r causes' is =
      ap (λ (order : ErrorOrder). causes_by order (replied ++ r ∷ [])) (ap (λ (c : Causes). c.order) is ∙ order_kept r lane.causes) ∙ causes_more (no_causes_in lane.causes.order) replied r

  -- one more reply, of which this has come
  accounts_more : (r : Reply) (new : LaneState) → new.asked ≡ own_on r lane.asked → new.causes ≡ causes_on r lane.causes
      → new.how ≡ end_on r → new.given ≤ length replied + 1
      → (new.how ≡ None → is_begun new.told ≡ true) → (new.how ≡ None → length replied ≡ new.given) → AccountsFor requested badly cancelled new (replied ++ r ∷ [])
  accounts_more r new total is end few begun counted =
      let longer : length (replied ++ r ∷ []) ≡ length replied + 1 = length-append replied (r ∷ []) in
      let then = causes_then r new.causes is in
      record {
        asked = total ∙ ap (own_on r) kept.asked ∙ own_adds r requested (own_by replied) ∙ ap (total_after requested) (sym (own_more 0 replied r));
        cancel = ap (λ (c : Causes). c.cancel) is ∙ cancel_on r lane.causes (causes_by lane.causes.order replied) cancelled kept.cancel ∙ ap (λ (c : Causes). cancelled || c.cancel) (sym then);
        argument = ap (λ (c : Causes). c.argument) is ∙ argument_on r lane.causes (causes_by lane.causes.order replied) badly kept.argument ∙ ap (λ (c : Causes). badly || c.argument) (sym then);
        failed = ap (λ (c : Causes). c.failed) is ∙ failed_on r lane.causes (causes_by lane.causes.order replied) kept.failed ∙ ap (λ (c : Causes). c.failed) (sym then);
        memory = ap (λ (c : Causes). c.memory) is ∙ memory_on r lane.causes (causes_by lane.causes.order replied) kept.memory ∙ ap (λ (c : Causes). c.memory) (sym then);
        ends = subst (λ (h : Option How). EndsBy cancelled h (replied ++ r ∷ [])) (sym end) (ends_more cancelled replied r went_on (end_on r) refl);
        called = omega (arith, longer, few);
        greeted = λ on greeted. (let all = counted on in omega (arith, longer, all));
        fresh = λ on none. (let greeted = begun on in cc);
      }

  -- an answer that is obeyed
  pub accounts_answered : {lane' : LaneState} {outlook : Outlook} {replied' : List Reply} (answer : Answer)
      → Obeys answer lane.asked lane'.asked lane.causes lane'.causes lane.how lane'.how outlook
      → replied' ≡ replied ++ Ok answer ∷ [] → is_begun lane'.told ≡ true → length replied ≡ lane'.given → AccountsFor requested badly cancelled lane' replied'
  accounts_answered {lane'} {outlook} answer obeys grows begun counted =
      let mid : LaneState = record lane' { asked = lane.asked; causes = lane.causes; how = lane.how } in
      let same : obeyed answer mid ≡ record { lane = lane'; outlook = outlook } = obeys lane' in
      subst (AccountsFor requested badly cancelled lane') (sym grows)
      (accounts_more (Ok answer) lane'
      (ap (λ (after : After). after.lane.asked) (sym same) ∙ obeyed_asked answer mid)
      (ap (λ (after : After). after.lane.causes) (sym same) ∙ obeyed_causes answer mid)
      (ap (λ (after : After). after.lane.how) (sym same) ∙ obeyed_end answer mid unended)
      (omega (arith, counted)) (λ on. begun) (λ on. counted))

  -- a callback that was refused memory
  pub accounts_refused : {lane' : LaneState} {replied' : List Reply} → replied' ≡ replied ++ refused ∷ []
      → lane'.given ≤ length replied + 1 → lane'.asked ≡ lane.asked
      → lane'.causes ≡ with_cause_of How.OutOfMemory lane.causes → lane'.how ≡ Some How.OutOfMemory → AccountsFor requested badly cancelled lane' replied'
  accounts_refused {lane'} grows few total is end =
      subst (AccountsFor requested badly cancelled lane') (sym grows) (accounts_more refused lane' total is end few (λ on. cc) (λ on. cc))

  -- a cancel is the owner's
  cancelled_by_owner : lane.causes.cancel ≡ true → cancelled ≡ true
  cancelled_by_owner cancels = by cancelled (sym kept.cancel ∙ cancels) where
    by : (is : Bool) → (is || (causes_by lane.causes.order replied).cancel) ≡ true → is ≡ true
    by true e = refl
    by false e = sym (cancels_nothing (no_causes_in lane.causes.order) replied went_on) ∙ e

  -- the reply to a terminal signal changes nothing but the length
  accounts_last : (end : How) (lane' : LaneState) → lane'.given ≡ lane.given → lane'.asked ≡ lane.asked → lane'.causes ≡ lane.causes
      → lane'.how ≡ Some end → IsUnasked cancelled end
      → AccountsFor requested badly cancelled lane' (replied ++ Ok Answer.Go ∷ [])
  accounts_last end lane' given total is how unasked =
      let longer : length (replied ++ Ok Answer.Go ∷ []) ≡ length replied + 1 = length-append replied (Ok Answer.Go ∷ []) in
      let enough = kept.called in
      let then = causes_then (Ok Answer.Go) lane'.causes is in
      record {
        asked = total ∙ kept.asked ∙ ap (total_after requested) (sym (own_more 0 replied (Ok Answer.Go)));
        cancel = ap (λ (c : Causes). c.cancel) is ∙ kept.cancel ∙ ap (λ (c : Causes). cancelled || c.cancel) (sym then);
        argument = ap (λ (c : Causes). c.argument) is ∙ kept.argument ∙ ap (λ (c : Causes). badly || c.argument) (sym then);
        failed = ap (λ (c : Causes). c.failed) is ∙ kept.failed ∙ ap (λ (c : Causes). c.failed) (sym then);
        memory = ap (λ (c : Causes). c.memory) is ∙ kept.memory ∙ ap (λ (c : Causes). c.memory) (sym then);
        ends = subst (λ (h : Option How). EndsBy cancelled h (replied ++ Ok Answer.Go ∷ [])) (sym how) (inl (all_more replied (Ok Answer.Go) went_on refl, unasked));
        called = omega (arith, longer, enough, given);
        greeted = λ on greeted. cc;
        fresh = λ on none. cc;
      }

  -- a cancel of the owner is the end
  accounts_cancel : (lane' : LaneState) → lane'.given ≡ lane.given → lane'.asked ≡ lane.asked
      → lane'.causes ≡ record lane.causes { cancel = true } → lane'.how ≡ Some How.Cancelled → cancelled ≡ true
      → AccountsFor requested badly cancelled lane' (replied ++ [])
  accounts_cancel lane' given total is how owner =
      let enough = kept.called in
      let then : causes_by lane'.causes.order replied ≡ causes_by lane.causes.order replied = ap (λ (c : Causes). causes_by c.order replied) is in
      subst (AccountsFor requested badly cancelled lane') (sym (append-nil replied)) (record {
        asked = total ∙ kept.asked;
        cancel = ap (λ (c : Causes). c.cancel) is ∙ ap (λ (is : Bool). is || (causes_by lane'.causes.order replied).cancel) (sym owner);
        argument = ap (λ (c : Causes). c.argument) is ∙ kept.argument ∙ ap (λ (c : Causes). badly || c.argument) (sym then);
        failed = ap (λ (c : Causes). c.failed) is ∙ kept.failed ∙ ap (λ (c : Causes). c.failed) (sym then);
        memory = ap (λ (c : Causes). c.memory) is ∙ kept.memory ∙ ap (λ (c : Causes). c.memory) (sym then);
        ends = subst (λ (h : Option How). EndsBy cancelled h replied) (sym how) (inl (went_on, owner));
        called = omega (arith, enough, given);
        greeted = λ on greeted. cc;
        fresh = λ on none. cc;
      })

  -- an end that is owed, with its terminal signal
  pub accounts_ended : {lane' : LaneState} {replied' : List Reply} (end : How) → OwesEnd lane end
      → replied' ≡ replied ++ replies_to (terminal_of end) → lane'.given ≡ lane.given
      → lane'.asked ≡ lane.asked → lane'.causes ≡ with_cause_of end lane.causes → lane'.how ≡ Some end → AccountsFor requested badly cancelled lane' replied'
  accounts_ended {lane'} end owed grows given total is how =
      subst (AccountsFor requested badly cancelled lane') (sym grows) (by end is how (owed_unasked cancelled lane end cancelled_by_owner owed)) where
        by : (end : How) → lane'.causes ≡ with_cause_of end lane.causes → lane'.how ≡ Some end → IsUnasked cancelled end
            → AccountsFor requested badly cancelled lane' (replied ++ replies_to (terminal_of end))
        by How.Completed is how unasked = accounts_last How.Completed lane' given total is how unasked
        by (How.Errored fault) is how unasked = accounts_last (How.Errored fault) lane' given total is how unasked
        by How.Cancelled is how unasked = accounts_cancel lane' given total is how unasked
        by (How.Failed code) is how unasked = absurd unasked
        by How.OutOfMemory is how unasked = absurd unasked

-- ---- what the owner does

sum_before : (most requested own n : ℕ) → min (min (requested + own) most + n) most ≡ min (min (requested + n) most + own) most
sum_before most requested own n = omega arith

accounts_with_request : (n : ℤ) (desk : DeskState) → IsAccounted desk
    → AccountsFor (desk_with_request n desk).requested (desk_with_request n desk).asked_badly desk.is_cancelled (lane_with_request n desk.lane) desk.replied
accounts_with_request (pos zero) desk kept =
    record { asked = kept.asked; cancel = kept.cancel; argument = refl; failed = kept.failed; memory = kept.memory; ends = kept.ends; called = kept.called; greeted = kept.greeted; fresh = kept.fresh }
accounts_with_request (pos (suc n)) desk kept = record {
  asked = ap (λ total. total_after total (suc n)) kept.asked ∙ sum_before UNBOUNDED desk.requested (own_by desk.replied) (suc n);
  cancel = kept.cancel;
  argument = kept.argument;
  failed = kept.failed;
  memory = kept.memory;
  ends = kept.ends;
  called = kept.called;
  greeted = kept.greeted;
  fresh = kept.fresh;
}
accounts_with_request (negsuc n) desk kept =
    record { asked = kept.asked; cancel = kept.cancel; argument = refl; failed = kept.failed; memory = kept.memory; ends = kept.ends; called = kept.called; greeted = kept.greeted; fresh = kept.fresh }

-- a request
pub accounts_requested : (n : ℤ) (desk : DeskState) (asked requested : ℕ) (causes : Causes) (badly : Bool) → IsAccounted desk
    → Asks n desk.lane.asked asked desk.lane.causes causes
    → Notes n desk.requested requested desk.asked_badly badly → AccountsFor requested badly desk.is_cancelled (record desk.lane { asked = asked; causes = causes }) desk.replied
accounts_requested n desk asked requested causes badly kept asks notes =
    subst (λ (lane : LaneState). AccountsFor requested badly desk.is_cancelled lane desk.replied) (asks desk.lane)
    (subst (λ (d : DeskState). AccountsFor d.requested d.asked_badly desk.is_cancelled (lane_with_request n desk.lane) desk.replied) (notes desk) (accounts_with_request n desk kept))

-- a cancel
pub accounts_cancelled : (requested : ℕ) (badly cancelled : Bool) (lane : LaneState) (replied : List Reply)
    → AccountsFor requested badly cancelled lane replied
    → AccountsFor requested badly true (lane_with_cancel lane) replied
accounts_cancelled requested badly cancelled lane replied kept =
    record { asked = kept.asked; cancel = refl; argument = kept.argument; failed = kept.failed; memory = kept.memory; ends = by lane.how kept.ends; called = kept.called; greeted = kept.greeted; fresh = kept.fresh } where
      still : (end : How) → IsUnasked cancelled end → IsUnasked true end
      still How.Completed unasked = tt
      still (How.Errored fault) unasked = tt
      still How.Cancelled unasked = refl
      still (How.Failed code) unasked = unasked
      still How.OutOfMemory unasked = unasked

      by : (how : Option How) → EndsBy cancelled how replied → EndsBy true how replied
      by None ends = ends
      by (Some end) (inl (all, unasked)) = inl (all, still end unasked)
      by (Some end) (inr asks) = inr asks

-- ---- each item was requested

-- no item was given
pub gives_none : (old new : DeskState) → new.lane.given ≡ old.lane.given → GivesBelow old new
gives_none old new same = λ n low high. absurd (omega (arith, same, low, high))

-- one item was given, below the demand
pub gives_one : (old new : DeskState) (more : List Reply) → IsAccounted old → old.lane.how ≡ None → is_begun old.lane.told ≡ true
    → old.lane.given < old.lane.asked
    → new.lane.given ≡ old.lane.given + 1 → new.replied ≡ old.replied ++ more → GivesBelow old new
gives_one old new more kept unended begun requested one grows = λ n low high.
    let counted : length old.replied ≡ old.lane.given + 1 = kept.greeted unended begun in
    let this : old.lane.given ≡ n = omega (arith, one, low, high) in
    let before : take (old.lane.given + 1) new.replied ≡ old.replied = ap (take (old.lane.given + 1)) grows ∙ take_at old.replied more (old.lane.given + 1) counted in
    let below : old.lane.given < total_after old.requested (own_by (take (old.lane.given + 1) new.replied)) =
    subst (λ (total : ℕ). old.lane.given < total) (kept.asked ∙ ap (λ (l : List Reply). total_after old.requested (own_by l)) (sym before)) requested in
    subst (λ (m : ℕ). m < total_after old.requested (own_by (take (m + 1) new.replied))) this below

-- two parts of a turn, one after the other
pub gives_then : (old mid new : DeskState) (more : List Reply) → IsAccounted mid → mid.requested ≡ old.requested
    → new.replied ≡ mid.replied ++ more
    → GivesBelow old mid → GivesBelow mid new → GivesBelow old new
gives_then old mid new more kept same grows first second = λ n low high.
    elim (cases_lt n mid.lane.given) [
      | inl before ↦
          let enough = kept.called in
          let is : take (n + 1) new.replied ≡ take (n + 1) mid.replied = ap (take (n + 1)) grows ∙ take-append-le (n + 1) mid.replied more (omega (arith, enough, before)) in
          subst (λ (l : List Reply). n < total_after old.requested (own_by l)) (sym is) (first n low before)
      | inr after ↦ subst (λ (total : ℕ). n < total_after total (own_by (take (n + 1) new.replied))) same (second n after high)
    ]
