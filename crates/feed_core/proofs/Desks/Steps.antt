-- One step of a turn keeps a Desk in order.
use Rattle.std.proofs.Common.{◌≡◌, ℕ, ◌+◌, ◌<◌, Bool, true, false, List, [], ◌∷◌, ◌++◌, map, length, drop, Option, None, Some, refl, ap, sym, ◌∙◌, subst, inl, inr, arith, append_assoc}
use Rattle.std.proofs.lemmas.List.{append-nil, length-append, map-append}
use Rattle.std.proofs.Math.Seq.{drop-append_seam}
use Rattle.feed_core.specs.Prelude.{Item, Signal, Subscribed, Next, Fault, Published, IllegalArgument, IllegalState, Ending, ErrorOrder, Overtake, AfterItems, How, items_of}
use Rattle.feed_core.specs.declared.cause.Causes.{Causes}
use Rattle.feed_core.specs.Cause.{IsFaultOf, stops, closes, end_where, error_at_once, end_at_last, with_cause_of}
use Rattle.feed_core.specs.Lane.{LaneState}
use Rattle.feed_core.specs.PlainTurn.{terminal_of}
use Rattle.feed_core.specs.Sound.{is_begun, opening, terminal_part, signals_of, lane_of, HasCause, IsInOrder}
use Rattle.feed_core.specs.Steps.{OwesEnd, MovesNext}
use Rattle.feed_core.proofs.Lanes.FlowRules.{all_counted, told_open}
use Rattle.flow_rules.proofs.Items.{items_of_append}

-- a list that was begun stays so when it grows
pub is_begun_append : (told more : List Signal) → is_begun told ≡ true → is_begun (told ++ more) ≡ true
is_begun_append [] more h = cc
is_begun_append (s ∷ told) more h = refl

-- a subscriber that was greeted stays so when it is told more
pub still_greeted : (told told' more : List Signal) (greeted : Bool) → greeted ≡ is_begun told → is_begun told ≡ true
    → told' ≡ told ++ more → greeted ≡ is_begun told'
still_greeted told told' more greeted known begun grows = known ∙ begun ∙ sym (ap is_begun grows ∙ is_begun_append told more begun)

-- a terminal signal is no item
pub items_of_terminal : (how : How) → items_of (terminal_of how) ≡ []
items_of_terminal How.Completed = refl
items_of_terminal (How.Errored _) = refl
items_of_terminal How.Cancelled = refl
items_of_terminal (How.Failed _) = refl
items_of_terminal How.OutOfMemory = refl

-- a terminal signal adds no items to a list
pub ended_items : (told told' : List Signal) (end : How) → told' ≡ told ++ terminal_of end → items_of told' ≡ items_of told
ended_items told told' end grows =
    ap items_of grows ∙ items_of_append told (terminal_of end) ∙ ap (λ items. items_of told ++ items) (items_of_terminal end) ∙ append-nil (items_of told)

-- a closing error that waits for the items comes once every one of them was given
abbrev ComesLast : LaneState → Fault → Type 0
ComesLast lane (Published code) = lane.causes.order ≡ AfterItems → lane.given ≡ length lane.accepted
ComesLast lane IllegalArgument = Unit {0}
ComesLast lane IllegalState = Unit {0}

-- what has to hold before a lane may end so
abbrev pub MayEnd : LaneState → How → Type 0
MayEnd lane How.Completed = (lane.causes.closing ≡ Some Ending.Normal) × (lane.given ≡ length lane.accepted)
MayEnd lane (How.Errored fault) = IsFaultOf lane.causes fault × ComesLast lane fault
MayEnd lane How.Cancelled = Unit {0}
MayEnd lane (How.Failed _) = Unit {0}
MayEnd lane How.OutOfMemory = Unit {0}

-- an end at once has its cause
pub stops_may : (lane : LaneState) (how : How) → stops lane.causes ≡ Some how → MayEnd lane how
stops_may lane how e = by lane.causes.cancel lane.causes.argument lane.causes.state lane.causes.closing lane.causes.order refl refl refl refl refl e where
  by : (cancel argument state : Bool) (closing : Option Ending) (order : ErrorOrder) → lane.causes.cancel ≡ cancel
      → lane.causes.argument ≡ argument → lane.causes.state ≡ state → lane.causes.closing ≡ closing → lane.causes.order ≡ order
      → end_where cancel How.Cancelled (end_where argument (How.Errored IllegalArgument) (end_where state (How.Errored IllegalState) (error_at_once closing order))) ≡ Some how
      → MayEnd lane how
  by true argument state closing order c a s l o e = let is : How.Cancelled ≡ how = cc in subst (MayEnd lane) is tt
  by false true state closing order c a s l o e = let is : How.Errored IllegalArgument ≡ how = cc in subst (MayEnd lane) is (a, tt)
  by false false true closing order c a s l o e = let is : How.Errored IllegalState ≡ how = cc in subst (MayEnd lane) is (s, tt)
  by false false false None order c a s l o e = cc
  by false false false (Some Ending.Normal) order c a s l o e = cc
  by false false false (Some (Ending.Failed code)) Overtake c a s l o e = let is : How.Errored (Published code) ≡ how = cc in subst (MayEnd lane) is (l, λ waits. cc)
  by false false false (Some (Ending.Failed code)) AfterItems c a s l o e = cc

-- an end that waits for the items has its cause, and comes after every item
pub closes_may : (lane : LaneState) (how : How) → closes lane.causes ≡ Some how → lane.given ≡ length lane.accepted → MayEnd lane how
closes_may lane how e all = by lane.causes.closing lane.causes.order refl e where
  by : (closing : Option Ending) (order : ErrorOrder) → lane.causes.closing ≡ closing → end_at_last closing order ≡ Some how
      → MayEnd lane how
  by None order l e = cc
  by (Some Ending.Normal) order l e = let is : How.Completed ≡ how = cc in subst (MayEnd lane) is (l, all)
  by (Some (Ending.Failed code)) Overtake l e = cc
  by (Some (Ending.Failed code)) AfterItems l e = let is : How.Errored (Published code) ≡ how = cc in subst (MayEnd lane) is (l, λ waits. all)

-- a lane may end as is owed
owed_may : (lane : LaneState) (how : How) → OwesEnd lane how → MayEnd lane how
owed_may lane how (inl e) = stops_may lane how e
owed_may lane how (inr e) = closes_may lane how e.1 e.2

-- a lane that ends as it may has a cause for it
pub has_cause : (lane : LaneState) (how : How) (told : List Signal) (accepted : List Item) → length accepted ≡ length lane.accepted
    → MayEnd lane how
    → HasCause (record { accepted = accepted; given = lane.given; asked = lane.asked; causes = with_cause_of how lane.causes; how = Some how; told = told })
has_cause lane how told accepted long may = record {
  completed = λ e. let is : How.Completed ≡ how = cc in subst (λ h. MayEnd lane h → (with_cause_of h lane.causes).closing ≡ Some Ending.Normal) is (λ m. m.0) may;
  whole = λ e. let is : How.Completed ≡ how = cc in subst (λ h. MayEnd lane h → lane.given ≡ length lane.accepted) is (λ m. m.1) may ∙ sym long;
  published = λ code e. let is : How.Errored (Published code) ≡ how = cc in subst (λ h. MayEnd lane h → (with_cause_of h lane.causes).closing ≡ Some (Ending.Failed code)) is (λ m. m.0) may;
  last = λ code e order. let is : How.Errored (Published code) ≡ how = cc in
      subst (λ h. MayEnd lane h → (with_cause_of h lane.causes).order ≡ AfterItems → lane.given ≡ length lane.accepted) is (λ m. m.1) may order ∙ sym long;
  argument = λ e. let is : How.Errored IllegalArgument ≡ how = cc in subst (λ h. MayEnd lane h → (with_cause_of h lane.causes).argument ≡ true) is (λ m. m.0) may;
  state = λ e. let is : How.Errored IllegalState ≡ how = cc in subst (λ h. MayEnd lane h → (with_cause_of h lane.causes).state ≡ true) is (λ m. m.0) may;
  cancelled = λ e. let is : How.Cancelled ≡ how = cc in subst (λ h. (with_cause_of h lane.causes).cancel ≡ true) is refl;
  failed = λ code e. let is : How.Failed code ≡ how = cc in subst (λ h. (with_cause_of h lane.causes).failed ≡ Some code) is refl;
  refused = λ e. let is : How.OutOfMemory ≡ how = cc in subst (λ h. (with_cause_of h lane.causes).memory ≡ true) is refl;
}

-- a lane that has not ended needs no cause
pub no_cause : (lane : LaneState) → lane.how ≡ None → HasCause lane
no_cause lane unended = record {
  completed = λ e. cc;
  whole = λ e. cc;
  published = λ code e. cc;
  last = λ code e. cc;
  argument = λ e. cc;
  state = λ e. cc;
  cancelled = λ e. cc;
  failed = λ code e. cc;
  refused = λ e. cc;
}

module _ {told : List Signal} {held : List Item} {given asked capacity : ℕ} {causes : Causes} {how : Option How} {started : Bool}
    (kept : IsInOrder (lane_of told held given asked causes how) held capacity started) (unended : how ≡ None) where
  -- the held items are those that were accepted and not given
  pub waiting_held : drop given (items_of told ++ held) ≡ held
  waiting_held = ap (λ k. drop k (items_of told ++ held)) (all_counted kept.sound unended) ∙ drop-append_seam (items_of told) held

  module _ (runs : started ≡ true) (begun : is_begun told ≡ true) where
    -- what was told so far
    told_so_far : told ≡ Subscribed ∷ map Next (items_of told)
    told_so_far = told_open kept.sound unended begun

    -- what was told grows by more items or a terminal signal
    told_grown : {told' : List Signal} (more : List Signal) (how' : Option How) → told' ≡ told ++ more
        → map Next (items_of told) ++ more ≡ map Next (items_of told') ++ terminal_part how'
        → told' ≡ signals_of (is_begun told') (items_of told') how'
    told_grown {told'} more how' grows is =
        let whole : told' ≡ Subscribed ∷ (map Next (items_of told) ++ more) = grows ∙ ap (λ signals. signals ++ more) told_so_far in
        subst (λ b. told' ≡ opening b ++ (map Next (items_of told') ++ terminal_part how')) (sym (ap is_begun whole)) (whole ∙ ap (λ rest. Subscribed ∷ rest) is)

    -- an end that is owed, or comes of a callback, keeps a Desk in order
    pub in_order_ended : {told' : List Signal} (end : How) → MayEnd (lane_of told held given asked causes how) end
        → told' ≡ told ++ terminal_of end
        → IsInOrder (lane_of told' held given asked (with_cause_of end causes) (Some end)) held capacity started
    in_order_ended {told'} end may grows =
        let same : items_of told' ≡ items_of told = ended_items told told' end grows in
        let accepted_same : items_of told' ++ held ≡ items_of told ++ held = ap (λ items. items ++ held) same in
        let as_many = all_counted kept.sound unended in
        let told_same : length (items_of told') ≡ length (items_of told) = ap length same in
        let long : length (items_of told' ++ held) ≡ length (items_of told ++ held) = ap length accepted_same in
        record {
          sound = record {
            told_is = told_grown (terminal_of end) (Some end) grows (ap (λ items. map Next items ++ terminal_of end) (sym same));
            in_order = (held, refl);
            counts = record { tells = omega arith; loses = omega arith; taken = let taken = kept.sound.counts.taken in omega arith; requested = kept.sound.counts.requested };
            cause = has_cause (lane_of told held given asked causes how) end told' (items_of told' ++ held) long may;
            unfailed = λ e. cc;
            remembered = λ e. cc;
          };
          holds = refl;
          fits = let fits = kept.fits in omega arith;
          rests = λ e. cc;
        }

    -- an end that is owed keeps a Desk in order
    pub in_order_owed : {told' : List Signal} (end : How) → OwesEnd (lane_of told held given asked causes how) end
        → told' ≡ told ++ terminal_of end
        → IsInOrder (lane_of told' held given asked (with_cause_of end causes) (Some end)) held capacity started
    in_order_owed end owed grows = in_order_ended end (owed_may (lane_of told held given asked causes how) end owed) grows

    -- an item whose callback was refused memory is taken and lost
    pub in_order_lost : {told' : List Signal} {held' : List Item} → told' ≡ told → held' ≡ held
        → given < length (items_of told ++ held) → given < asked
        → IsInOrder (lane_of told' held' (given + 1) asked (with_cause_of How.OutOfMemory causes) (Some How.OutOfMemory)) held' capacity started
    in_order_lost {told'} {held'} same_told same_held waits requested =
        subst (λ signals. IsInOrder (lane_of signals held' (given + 1) asked (with_cause_of How.OutOfMemory causes) (Some How.OutOfMemory)) held' capacity started) (sym same_told)
        (subst (λ rest. IsInOrder (lane_of told rest (given + 1) asked (with_cause_of How.OutOfMemory causes) (Some How.OutOfMemory)) rest capacity started) (sym same_held)
        (let as_many = all_counted kept.sound unended in
        record {
          sound = record {
            told_is = (in_order_ended How.OutOfMemory tt (sym (append-nil told))).sound.told_is;
            in_order = (held, refl);
            counts = record { tells = omega arith; loses = omega arith; taken = omega arith; requested = omega arith };
            cause = has_cause (lane_of told held (given + 1) asked causes how) How.OutOfMemory told (items_of told ++ held) refl tt;
            unfailed = λ e. cc;
            remembered = λ e. cc;
          };
          holds = refl;
          fits = let fits = kept.fits in omega arith;
          rests = λ e. cc;
        }))

    module _ {told' : List Signal} {held' : List Item} {seen seen' : List Signal} (moves : MovesNext told told' held held' seen seen') where
      -- one more item was told
      items_after : items_of told' ≡ items_of told ++ moves.item ∷ []
      items_after = ap items_of moves.told_after ∙ items_of_append told (Next moves.item ∷ [])

      -- an item that is told moves from the held ones to the told ones
      pub accepted_kept : items_of told' ++ held' ≡ items_of told ++ held
      accepted_kept = ap (λ items. items ++ held') items_after ∙ append_assoc (items_of told) (moves.item ∷ []) held' ∙ ap (λ rest. items_of told ++ rest) (sym moves.waited)

      -- one more item was told than was given before
      pub one_more : length (items_of told') ≡ given + 1
      one_more = let before = all_counted kept.sound unended in omega (arith, ap length items_after, length-append (items_of told) (moves.item ∷ []))

      -- an item that is told keeps a Desk in order
      pub in_order_given : given < asked → IsInOrder (lane_of told' held' (given + 1) asked causes how) held' capacity started
      in_order_given requested =
          let told_one_more = one_more in
          let long : length (items_of told' ++ held') ≡ length (items_of told ++ held) = ap length accepted_kept in
          let parts = length-append (items_of told') held' in
          record {
            sound = record {
              told_is = told_grown (Next moves.item ∷ []) how moves.told_after
                  (sym (map-append Next (items_of told) (moves.item ∷ [])) ∙ ap (map Next) (sym items_after) ∙ sym (append-nil (map Next (items_of told'))) ∙ ap (λ h. map Next (items_of told') ++ terminal_part h) (sym unended));
              in_order = (held', refl);
              counts = record { tells = omega arith; loses = omega arith; taken = omega arith; requested = omega arith };
              cause = no_cause (lane_of told' held' (given + 1) asked causes how) unended;
              unfailed = kept.sound.unfailed;
              remembered = kept.sound.remembered;
            };
            holds = refl;
            fits = let fits = kept.fits in omega arith;
            rests = λ e. cc;
          }
