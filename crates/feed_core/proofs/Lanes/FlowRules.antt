-- A sound lane keeps the Flow rules, and one that has ended or is at rest is settled: nothing is forgotten.
use Rattle.std.proofs.Common.{◌≡◌, ℕ, ◌+◌, ◌≤◌, ◌⊎◌, min, true, List, [], ◌∷◌, ◌++◌, map, length, take, drop, Contains, Option, None, Some, is_some, refl, ap, sym, ◌∙◌, subst, inl, inr, arith}
use Rattle.std.proofs.lemmas.Bool.{cases_eq}
use Rattle.std.proofs.lemmas.List.{append-nil, length-append, nil_from_length}
use Rattle.std.proofs.Math.Seq.{take-append_seam, drop-append_seam}
use Rattle.feed_core.specs.Prelude.{Item, Signal, Subscribed, Next, Complete, Error, Fault, Published, IllegalArgument, IllegalState, AfterItems, How, IsFlowText, items_of}
use Rattle.feed_core.specs.Cause.{IsFaultOf}
use Rattle.feed_core.specs.Lane.{LaneState, IsFlow, IsIdle, IsSettled, IsSettledAs, IsToldLast, HasNoTerminal}
use Rattle.feed_core.specs.PlainTurn.{terminal_of}
use Rattle.feed_core.specs.Sound.{is_begun, terminal_part, signals_of, loss_of, IsAtRest, IsSoundLane}
use Rattle.feed_core.proofs.Lists.Signals.{terminal_last, complete_ending, error_ending, is_terminal_part}

-- the signals of items and an end are a list that the rules allow
allowed : (told : List Signal) (items : List Item) (how : Option How) → told ≡ signals_of (is_begun told) items how → IsFlowText told
allowed [] items how e = inl refl
allowed (s ∷ told) items how e = inr (items, terminal_part how, e, is_terminal_part how)

-- every taken item was told, or the last one was lost
tells_given : (how : Option How) (told given : ℕ) → told ≤ given → given ≤ told + loss_of how
    → (told ≡ given) ⊎ ((how ≡ Some How.OutOfMemory) × (told + 1 ≡ given))
tells_given None told given low high = inl (omega arith)
tells_given (Some How.Completed) told given low high = inl (omega arith)
tells_given (Some (How.Errored _)) told given low high = inl (omega arith)
tells_given (Some How.Cancelled) told given low high = inl (omega arith)
tells_given (Some (How.Failed _)) told given low high = inl (omega arith)
tells_given (Some How.OutOfMemory) told given low high = elim (cases_eq told given) [
  | inl e ↦ inl e
  | inr other ↦ inr (refl, omega arith)
]

module _ {lane : LaneState} (sound : IsSoundLane lane) where
  -- onComplete was told only if the subscription completed
  complete_told : Contains lane.told Complete → lane.how ≡ Some How.Completed
  complete_told h =
      let inside = subst (λ told. Contains told Complete) sound.told_is h in
      complete_ending lane.how (terminal_last (is_begun lane.told) (items_of lane.told) (terminal_part lane.how) Complete tt inside)

  -- onError was told only if it ended with that error
  error_told : (fault : Fault) → Contains lane.told (Error fault) → lane.how ≡ Some (How.Errored fault)
  error_told fault h =
      let inside = subst (λ told. Contains told (Error fault)) sound.told_is h in
      error_ending lane.how fault (terminal_last (is_begun lane.told) (items_of lane.told) (terminal_part lane.how) (Error fault) tt inside)

  -- if as many items were told as accepted, they are the accepted ones
  whole : length (items_of lane.told) ≡ length lane.accepted → items_of lane.told ≡ lane.accepted
  whole e =
      let rest = sound.in_order.0 in
      let long : length lane.accepted ≡ length (items_of lane.told) + length rest = ap length (sym sound.in_order.1) ∙ length-append (items_of lane.told) rest in
      let empty : rest ≡ [] = nil_from_length rest (omega arith) in
      sym (append-nil (items_of lane.told)) ∙ ap (λ more. items_of lane.told ++ more) (sym empty) ∙ sound.in_order.1

  -- if every accepted item was given and none was lost, all of them were told
  all_told : lane.given ≡ length lane.accepted → loss_of lane.how ≡ 0 → items_of lane.told ≡ lane.accepted
  all_told all none =
      let kept = sound.counts.loses in
      let long : length lane.accepted ≡ length (items_of lane.told) + length sound.in_order.0 = ap length (sym sound.in_order.1) ∙ length-append (items_of lane.told) sound.in_order.0 in
      let tells = sound.counts.tells in
      whole (omega arith)

  -- a completed subscription was told every accepted item
  completed_whole : lane.how ≡ Some How.Completed → items_of lane.told ≡ lane.accepted
  completed_whole e = all_told (sound.cause.whole e) (ap loss_of e)

  -- so was one that ended with a closing error that waits for the items
  pub errored_whole : (code : ℕ) → lane.how ≡ Some (How.Errored (Published code)) → lane.causes.order ≡ AfterItems
      → items_of lane.told ≡ lane.accepted
  errored_whole code e order = all_told (sound.cause.last code e order) (ap loss_of e)

  -- an error that a lane ended with has its cause
  fault_of : (fault : Fault) → lane.how ≡ Some (How.Errored fault) → IsFaultOf lane.causes fault
  fault_of (Published code) e = sound.cause.published code e
  fault_of IllegalArgument e = sound.cause.argument e
  fault_of IllegalState e = sound.cause.state e

  -- the lane keeps the Flow rules
  pub flow_kept : IsFlow lane
  flow_kept = record {
    allowed = allowed lane.told (items_of lane.told) lane.how sound.told_is;
    in_order = sound.in_order;
    counted = tells_given lane.how (length (items_of lane.told)) lane.given sound.counts.tells sound.counts.loses;
    requested = sound.counts.requested;
    completed = λ h. (sound.cause.completed (complete_told h), completed_whole (complete_told h));
    errored = λ fault h. fault_of fault (error_told fault h);
    waited = λ code h order. errored_whole code (error_told (Published code) h) order;
  }

  -- an end of another kind told no terminal signal
  no_terminal : (how : How) → lane.how ≡ Some how → (how ≡ How.Completed → ⊥) → ((fault : Fault) → how ≡ How.Errored fault → ⊥)
      → HasNoTerminal lane.told
  no_terminal how e other others = (
    λ h. let same : Some how ≡ Some How.Completed = sym e ∙ complete_told h in other (cc),
    λ fault h. let same : Some how ≡ Some (How.Errored fault) = sym e ∙ error_told fault h in others fault (cc),
  )

  -- an end with a terminal signal was told after onSubscribe
  told_ended : (how : How) (s : Signal) → lane.how ≡ Some how → terminal_of how ≡ s ∷ []
      → lane.told ≡ Subscribed ∷ (map Next (items_of lane.told) ++ s ∷ [])
  told_ended how s e last = by lane.told refl (subst (λ h. lane.told ≡ signals_of (is_begun lane.told) (items_of lane.told) h) e sound.told_is) where
    by : (told : List Signal) → told ≡ lane.told → lane.told ≡ signals_of (is_begun told) (items_of lane.told) (Some how)
        → lane.told ≡ Subscribed ∷ (map Next (items_of lane.told) ++ s ∷ [])
    by [] is text =
        let nothing : items_of lane.told ≡ [] = ap items_of (sym is) in
        let ending : lane.told ≡ terminal_of how = text ∙ ap (λ items. map Next items ++ terminal_of how) nothing in
        cc
    by (x ∷ told) is text = text ∙ ap (λ ending. Subscribed ∷ (map Next (items_of lane.told) ++ ending)) last

  -- a closing error that waits for the items was told after all of them
  told_last : (fault : Fault) → lane.how ≡ Some (How.Errored fault) → IsToldLast lane fault
  told_last (Published code) e = λ order. rw (errored_whole code e order) at (told_ended (How.Errored (Published code)) (Error (Published code)) e refl)
  told_last IllegalArgument e = tt
  told_last IllegalState e = tt

  -- what was told fits the end
  settled_as : (how : How) → lane.how ≡ Some how → IsSettledAs lane (Some how)
  settled_as How.Completed e = rw (completed_whole e) at (told_ended How.Completed Complete e refl)
  settled_as (How.Errored fault) e = ((Subscribed ∷ map Next (items_of lane.told), told_ended (How.Errored fault) (Error fault) e refl), told_last fault e)
  settled_as How.Cancelled e = (no_terminal How.Cancelled e (λ h. cc) (λ fault h. cc), sound.cause.cancelled e)
  settled_as (How.Failed code) e = (no_terminal (How.Failed code) e (λ h. cc) (λ fault h. cc), sound.cause.failed code e)
  settled_as How.OutOfMemory e = (no_terminal How.OutOfMemory e (λ h. cc) (λ fault h. cc), sound.cause.refused e)

  -- an ended lane is settled
  pub settled_ended : (how : How) → lane.how ≡ Some how → IsSettled lane
  settled_ended how e = record { flow = flow_kept; rests = subst (λ h. IsSettledAs lane h) (sym e) (settled_as how e) }

  -- a lane that has some end is settled
  pub settled_some : is_some lane.how ≡ true → IsSettled lane
  settled_some some = by lane.how refl some where
    by : (how : Option How) → lane.how ≡ how → is_some how ≡ true → IsSettled lane
    by None e h = cc
    by (Some how) e h = settled_ended how e

  -- a lane that has not ended was told its items alone
  pub told_open : lane.how ≡ None → is_begun lane.told ≡ true → lane.told ≡ Subscribed ∷ map Next (items_of lane.told)
  told_open unended begun =
      let so_far : lane.told ≡ signals_of (is_begun lane.told) (items_of lane.told) None = subst (λ how. lane.told ≡ signals_of (is_begun lane.told) (items_of lane.told) how) unended sound.told_is in
      let opened : lane.told ≡ signals_of true (items_of lane.told) None = subst (λ b. lane.told ≡ signals_of b (items_of lane.told) None) begun so_far in
      opened ∙ ap (λ nexts. Subscribed ∷ nexts) (append-nil (map Next (items_of lane.told)))

  -- in a lane that has not ended as many items were told as were given
  pub all_counted : lane.how ≡ None → lane.given ≡ length (items_of lane.told)
  all_counted unended =
      let most : lane.given ≤ length (items_of lane.told) + 0 = subst (λ h. lane.given ≤ length (items_of lane.told) + loss_of h) unended sound.counts.loses in
      let least = sound.counts.tells in
      omega arith

  -- what was accepted is what was told, and then what waits
  pub told_and_waiting : lane.how ≡ None → lane.accepted ≡ items_of lane.told ++ drop lane.given lane.accepted
  told_and_waiting unended =
      let waiting : drop lane.given lane.accepted ≡ sound.in_order.0 =
      ap (λ k. drop k lane.accepted) (all_counted unended) ∙ ap (drop (length (items_of lane.told))) (sym sound.in_order.1) ∙ drop-append_seam (items_of lane.told) sound.in_order.0 in
      sym sound.in_order.1 ∙ ap (λ rest. items_of lane.told ++ rest) (sym waiting)

  -- a lane at rest was told all that its demand allows
  idle : IsAtRest lane → IsIdle lane
  idle rest =
      let all = all_counted rest.unended in
      let n : min (length lane.accepted) lane.asked ≡ length (items_of lane.told) = omega (arith, rest.all_given) in
      let prefix : take (min (length lane.accepted) lane.asked) lane.accepted ≡ items_of lane.told =
      ap (λ k. take k lane.accepted) n ∙ ap (take (length (items_of lane.told))) (sym sound.in_order.1) ∙ take-append_seam (items_of lane.told) sound.in_order.0 in
      record {
        runs_on = rest.runs_on;
        unfailed = sound.unfailed rest.unended;
        remembered = sound.remembered rest.unended;
        all_told = told_open rest.unended rest.begun ∙ ap (λ items. Subscribed ∷ map Next items) (sym prefix);
        open_or_short = rest.waits;
      }

  -- a lane at rest is settled
  pub settled_at_rest : IsAtRest lane → IsSettled lane
  settled_at_rest rest = record { flow = flow_kept; rests = subst (λ h. IsSettledAs lane h) (sym rest.unended) (idle rest) }
