-- One look is one step of the turn that its callbacks' answers make.
use Rattle.std.proofs.Common.{◌≡◌, ℕ, zero, suc, ◌+◌, ◌-◌, ◌<◌, ◌≤◌, min, Bool, true, false, List, [], ◌∷◌, ◌++◌, length, drop, Option, None, Some, IsSome, Ok, refl, ap, sym, ◌∙◌, inl, inr, arith}
use Rattle.std.proofs.lemmas.List.{append-nil, length-drop}
use Rattle.std.proofs.Math.Seq.{drop-append_seam, drop-length}
use Rattle.feed_core.specs.Prelude.{Answer, Item, Signal, Next, IllegalArgument, IllegalState, Ending, ErrorOrder, Overtake, AfterItems, How, Causes, Outlook, Again, Resting, Ended, items_of}
use Rattle.feed_core.specs.AnsweredTurn.{Reply, ArePlain, refused, replies_to, first_reply, later_replies, obeyed, ended_as, lane_taken, called, finished, looked, look_of, and_then, looks_within}
use Rattle.feed_core.specs.Accounts.{AccountsFor, IsAccounted, GivesBelow}
use Rattle.feed_core.specs.Cause.{stops, closes, error_at_once, end_at_last, end_where, with_cause_of}
use Rattle.feed_core.specs.Desk.{DeskState, started_after}
use Rattle.feed_core.specs.Lane.{LaneState, IsFlow}
use Rattle.feed_core.specs.PlainTurn.{terminal_of}
use Rattle.feed_core.specs.Replies.{replies_in}
use Rattle.feed_core.specs.Sound.{is_begun, lane_of, loss_of, IsInOrder}
use Rattle.feed_core.specs.Steps.{HasTerminal, IsPart, IsToldBy, Looks, MovesNext, Obeys, OwesEnd}
use Rattle.feed_core.proofs.Lanes.Accounts.{accounts_answered, accounts_refused, accounts_ended, gives_none, gives_one}
use Rattle.feed_core.proofs.Lanes.FlowRules.{all_counted, flow_kept}
use Rattle.feed_core.proofs.Desks.Steps.{accepted_kept, ended_items, one_more, in_order_owed, in_order_ended, in_order_given, in_order_lost, is_begun_append, items_of_terminal, waiting_held}
use Rattle.feed_core.proofs.Lanes.ObeyedAnswers.{in_order_obeying, obeying_goes_on, obeying_how, obeying_loss, obeying_told}

-- a subscription of these parts
abbrev pub desk_of : LaneState → ℕ → Bool → Bool → ℕ → ℕ → Bool → Bool → List Reply → DeskState
desk_of lane capacity started steady looks requested badly cancelled replied = record {
  lane = lane;
  capacity = capacity;
  started = started;
  is_steady = steady;
  looks = looks;
  requested = requested;
  asked_badly = badly;
  is_cancelled = cancelled;
  replied = replied;
}

-- ---- what a look finds

-- an item that waits and was requested
gives_next : (reply : Reply) (lane : LaneState) (item : Item) (rest : List Item) → stops lane.causes ≡ None
    → drop lane.given lane.accepted ≡ item ∷ rest → lane.given < lane.asked
    → look_of reply lane ≡ called (Next item) reply (lane_taken lane)
gives_next reply lane item rest unstopped waits requested =
    let unmet : lane.asked - lane.given ≡ suc (lane.asked - lane.given - 1) = omega arith in
    λ k. looked (unstopped k) (closes lane.causes) (waits k) (unmet k) reply lane

-- an end that is owed
owed_look : (reply : Reply) (lane : LaneState) (end : How) → OwesEnd lane end
    → look_of reply lane ≡ finished end (terminal_of end) reply lane
owed_look reply lane end (inl e) = ap (λ stop. looked stop (closes lane.causes) (drop lane.given lane.accepted) (lane.asked - lane.given) reply lane) e
owed_look reply lane end (inr e) =
    let nothing : drop lane.given lane.accepted ≡ [] = ap (λ k. drop k lane.accepted) e.2 ∙ drop-length lane.accepted in
    λ k. looked (e.0 k) (e.1 k) (nothing k) (lane.asked - lane.given) reply lane

-- nothing
rests_so : (later : Option How) (waiting : List Item) (unmet : ℕ) (reply : Reply) (lane : LaneState) → (IsSome later → 0 < length waiting)
    → min (length waiting) unmet ≡ 0
    → looked None later waiting unmet reply lane ≡ record { lane = lane; outlook = Resting }
rests_so None [] unmet reply lane some none = refl
rests_so (Some how) [] unmet reply lane some none = let above : 0 < 0 = some refl in absurd (omega arith)
rests_so later (item ∷ waiting) zero reply lane some none = refl
rests_so later (item ∷ waiting) (suc n) reply lane some none = absurd (omega (arith, none))

-- the terminal callback came back
told_finish : (end : How) (more : List Reply) (lane : LaneState)
    → finished end (terminal_of end) (first_reply (replies_to (terminal_of end) ++ more)) lane ≡ ended_as end (record lane { told = lane.told ++ terminal_of end })
told_finish How.Completed more lane = refl
told_finish (How.Errored fault) more lane = refl
told_finish How.Cancelled more lane = ap (λ told. ended_as How.Cancelled (record lane { told = told })) (sym (append-nil lane.told))
told_finish (How.Failed code) more lane = ap (λ told. ended_as (How.Failed code) (record lane { told = told })) (sym (append-nil lane.told))
told_finish How.OutOfMemory more lane = ap (λ told. ended_as How.OutOfMemory (record lane { told = told })) (sym (append-nil lane.told))

-- such an end answers as often as it tells, unless it is a refusal of memory
told_answers : (end : How) → loss_of (Some end) ≡ 0 → length (replies_to (terminal_of end)) ≡ length (terminal_of end) + loss_of (Some end)
told_answers How.Completed none = refl
told_answers (How.Errored fault) none = refl
told_answers How.Cancelled none = refl
told_answers (How.Failed code) none = refl
told_answers How.OutOfMemory none = cc

-- an end that is owed is no refusal of memory
owed_loss : (lane : LaneState) (end : How) → OwesEnd lane end → loss_of (Some end) ≡ 0
owed_loss lane end (inl e) = stops_loss lane.causes.cancel lane.causes.argument lane.causes.state lane.causes.closing lane.causes.order e where
  stops_loss : (cancel argument state : Bool) (closing : Option Ending) (order : ErrorOrder)
      → end_where cancel How.Cancelled (end_where argument (How.Errored IllegalArgument) (end_where state (How.Errored IllegalState) (error_at_once closing order))) ≡ Some end → loss_of (Some end) ≡ 0
  stops_loss true argument state closing order e = ap loss_of (sym e)
  stops_loss false true state closing order e = ap loss_of (sym e)
  stops_loss false false true closing order e = ap loss_of (sym e)
  stops_loss false false false None order e = cc
  stops_loss false false false (Some Ending.Normal) order e = cc
  stops_loss false false false (Some (Ending.Failed code)) Overtake e = ap loss_of (sym e)
  stops_loss false false false (Some (Ending.Failed code)) AfterItems e = cc
owed_loss lane end (inr e) = closes_loss lane.causes.closing lane.causes.order e.1 where
  closes_loss : (closing : Option Ending) (order : ErrorOrder) → end_at_last closing order ≡ Some end → loss_of (Some end) ≡ 0
  closes_loss None order e = cc
  closes_loss (Some Ending.Normal) order e = ap loss_of (sym e)
  closes_loss (Some (Ending.Failed code)) Overtake e = cc
  closes_loss (Some (Ending.Failed code)) AfterItems e = ap loss_of (sym e)

-- its replies are those to its terminal signal
no_refusal : (end : How) → loss_of (Some end) ≡ 0 → replies_to (terminal_of end) ≡ replies_in (terminal_of end) (Ended end)
no_refusal How.Completed none = refl
no_refusal (How.Errored fault) none = refl
no_refusal How.Cancelled none = refl
no_refusal (How.Failed code) none = refl
no_refusal How.OutOfMemory none = cc

-- the callback of a terminal signal counts as one that went on
plain_end : (end : How) → ArePlain (replies_to (terminal_of end))
plain_end How.Completed = (refl, tt)
plain_end (How.Errored fault) = (refl, tt)
plain_end How.Cancelled = tt
plain_end (How.Failed code) = tt
plain_end How.OutOfMemory = tt

-- the task of a subscription that was told an item runs on
runs_on : (outlook : Outlook) (item : Item) → IsToldBy outlook (Next item ∷ []) → true ≡ started_after outlook
runs_on Again item shape = refl
runs_on Resting item shape = let e = ap length shape in absurd (omega (arith, e))
runs_on (Ended how) item shape = refl

-- who rests is accounted for as before
accounted_at_rest : (old : DeskState) → IsAccounted old → IsAccounted (record old { started = false })
accounted_at_rest old accounted = accounted

-- nothing was left to do
pub looks_rested : (old : DeskState) (seen : List Signal) → IsFlow old.lane → IsAccounted old → old.lane.how ≡ None
    → stops old.lane.causes ≡ None → old.lane.given ≡ min (length old.lane.accepted) old.lane.asked
    → (IsSome (closes old.lane.causes) → old.lane.given < length old.lane.accepted)
    → Looks old (record old { started = false }) seen seen Resting
looks_rested old seen flow accounted unended unstopped all waits =
    let lane = old.lane in
    let dropped = length-drop lane.given lane.accepted in
    record {
      last = [];
      replies = [];
      shape = refl;
      seen_after = sym (append-nil seen);
      part = record {
        recorded = sym (append-nil lane.told);
        answered = refl;
        replied = sym (append-nil old.replied);
        accepted = refl;
        grows = omega arith;
        how = unended;
        started = refl;
        capacity = refl;
        looks = refl;
        requested = refl;
        badly = refl;
        cancelled = refl;
        steady = λ steady. steady;
        plain = λ steady. tt;
        goes_on = λ steady. refl;
        flow = flow;
        accounted = accounted_at_rest old accounted;
        below = gives_none old (record old { started = false }) refl;
      };
      few = omega arith;
      ahead = (drop lane.given lane.accepted, refl);
      again = λ e. cc;
      left = λ most more.
          let rested : look_of (first_reply more) lane ≡ record { lane = lane; outlook = Resting } =
          ap (λ stop. looked stop (closes lane.causes) (drop lane.given lane.accepted) (lane.asked - lane.given) (first_reply more) lane) unstopped
          ∙ rests_so (closes lane.causes) (drop lane.given lane.accepted) (lane.asked - lane.given) (first_reply more) lane (λ e. let some = waits e in omega arith) (omega arith) in
          ap (λ after. and_then after (looks_within most (later_replies more))) rested;
    }

-- a part of a turn whose callback was refused memory, which ended the subscription: nothing was told
pub part_refused : {lane lane' : LaneState} {capacity : ℕ} {started steady steady' : Bool} {looks requested : ℕ} {badly cancelled : Bool} {replied replied' : List Reply}
    → replied' ≡ replied ++ refused ∷ [] → AccountsFor requested badly cancelled lane' replied'
    → GivesBelow (desk_of lane capacity started steady looks requested badly cancelled replied) (desk_of lane' capacity started steady' looks requested badly cancelled replied')
    → lane'.told ≡ lane.told → lane'.accepted ≡ lane.accepted → lane.asked ≤ lane'.asked → lane'.how ≡ Some How.OutOfMemory → IsFlow lane' → started ≡ true → (steady ≡ true → steady' ≡ true)
    → IsPart (desk_of lane capacity started steady looks requested badly cancelled replied) (desk_of lane' capacity started steady' looks requested badly cancelled replied')
    [] (Ended How.OutOfMemory) (refused ∷ [])
part_refused {lane} replies accounted below same_told accepted grows how flow runs stays = record {
  recorded = same_told ∙ sym (append-nil lane.told);
  answered = refl;
  replied = replies;
  accepted = accepted;
  grows = grows;
  how = how;
  started = runs;
  capacity = refl;
  looks = refl;
  requested = refl;
  badly = refl;
  cancelled = refl;
  steady = stays;
  plain = λ steady. (tt, tt);
  goes_on = λ steady. refl;
  flow = flow;
  accounted = accounted;
  below = below;
}

module _ {told : List Signal} {held : List Item} {given asked capacity : ℕ} {causes : Causes} {how : Option How} {started : Bool}
    {requested : ℕ} {badly cancelled : Bool} {replied : List Reply}
    (kept : IsInOrder (lane_of told held given asked causes how) held capacity started) (accounts : AccountsFor requested badly cancelled (lane_of told held given asked causes how) replied)
    (unended : how ≡ None) (runs : started ≡ true) (begun : is_begun told ≡ true) where
  -- an item was taken and told, and its answer was obeyed
  pub looks_given : {told' : List Signal} {held' : List Item} {seen seen' : List Signal} {steady steady' : Bool} {looks : ℕ} {replied' : List Reply}
      {asked' : ℕ} {causes' : Causes} {how' : Option How} {outlook : Outlook} (answer : Answer)
      → replied' ≡ replied ++ Ok answer ∷ [] → MovesNext told told' held held' seen seen' → stops causes ≡ None → given < asked
      → asked ≤ asked' → Obeys answer asked asked' causes causes' how how' outlook
      → (steady ≡ true → steady' ≡ true) → (steady ≡ true → answer ≡ Answer.Go)
      → Looks (desk_of (lane_of told held given asked causes how) capacity started steady looks requested badly cancelled replied)
      (desk_of (lane_of told' held' (given + 1) asked' causes' how') capacity started steady' looks requested badly cancelled replied') seen seen' outlook
  looks_given {told'} {held'} {steady = steady} {steady' = steady'} {looks = looks} {replied' = replied'} {asked' = asked'} {causes' = causes'} {how' = how'} {outlook = outlook} answer replies moves unstopped requests grows obeys stays goes =
      let old : LaneState = lane_of told held given asked causes how in
      let mid : LaneState = lane_of told' held' (given + 1) asked causes how in
      let new : LaneState = lane_of told' held' (given + 1) asked' causes' how' in
      let same : obeyed answer mid ≡ record { lane = new; outlook = outlook } = obeys mid in
      let accepted : new.accepted ≡ old.accepted = accepted_kept kept unended runs begun moves in
      let after : drop (given + 1) (items_of told' ++ held') ≡ held' =
      ap (λ k. drop k (items_of told' ++ held')) (sym (one_more kept unended runs begun moves)) ∙ drop-append_seam (items_of told') held' in
      let waits : drop given old.accepted ≡ moves.item ∷ held' = waiting_held kept unended ∙ moves.waited in
      let begun' : is_begun told' ≡ true = ap is_begun moves.told_after ∙ is_begun_append told (Next moves.item ∷ []) begun in
      let look : look_of (Ok answer) old ≡ record { lane = new; outlook = outlook } =
      gives_next (Ok answer) old moves.item held' unstopped waits requests
      ∙ (λ k. obeyed answer (record old { accepted = sym accepted k; given = given + 1; told = sym moves.told_after k }))
      ∙ same in
      let shape = obeying_told answer mid moves.item _ same in
      let counted = accounts.greeted unended begun in
      record {
        last = Next moves.item ∷ [];
        replies = Ok answer ∷ [];
        shape = shape;
        seen_after = moves.seen_after;
        part = record {
          recorded = moves.told_after;
          answered = let none = obeying_loss answer mid _ same in omega (arith, none);
          replied = replies;
          accepted = accepted;
          grows = grows;
          how = obeying_how answer mid _ unended same;
          started = runs ∙ runs_on outlook moves.item shape;
          capacity = refl;
          looks = refl;
          requested = refl;
          badly = refl;
          cancelled = refl;
          steady = stays;
          plain = λ steady. (goes steady, tt);
          goes_on = λ steady. obeying_goes_on answer mid (Next moves.item) _ same (goes steady);
          flow = flow_kept (in_order_obeying (in_order_given kept unended runs begun moves requests) unended runs begun' answer grows obeys).sound;
          accounted = accounts_answered accounts unended answer obeys replies begun' counted;
          below = gives_one (desk_of old capacity started steady looks requested badly cancelled replied) (desk_of new capacity started steady' looks requested badly cancelled replied') (Ok answer ∷ []) accounts unended begun requests refl replies;
        };
        few = omega arith;
        ahead = (held', sym waits);
        again = λ _. record {
          item = moves.item;
          told = refl;
          waited = waits ∙ ap (λ rest. moves.item ∷ rest) (sym after);
          counted = refl;
        };
        left = λ most more. ap (λ after. and_then after (looks_within most more)) look;
      }

  -- an item was taken, and its callback was refused memory
  pub looks_lost : {told' : List Signal} {held' : List Item} {seen seen' : List Signal} {steady steady' : Bool} {looks : ℕ} {replied' : List Reply}
      → replied' ≡ replied ++ refused ∷ [] → told' ≡ told → held' ≡ held → seen' ≡ seen → stops causes ≡ None → given < length (items_of told ++ held)
      → given < asked → (steady ≡ true → steady' ≡ true)
      → Looks (desk_of (lane_of told held given asked causes how) capacity started steady looks requested badly cancelled replied)
      (desk_of (lane_of told' held' (given + 1) asked (with_cause_of How.OutOfMemory causes) (Some How.OutOfMemory)) capacity started steady' looks requested badly cancelled replied') seen seen' (Ended How.OutOfMemory)
  looks_lost {told'} {held'} {seen} {steady = steady} {steady' = steady'} {looks = looks} {replied' = replied'} replies same_told same_held same_seen unstopped waits requests stays =
      let old : LaneState = lane_of told held given asked causes how in
      let new : LaneState = lane_of told' held' (given + 1) asked (with_cause_of How.OutOfMemory causes) (Some How.OutOfMemory) in
      let accepted : new.accepted ≡ old.accepted = ap (λ text. items_of text ++ held') same_told ∙ ap (λ rest. items_of told ++ rest) same_held in
      let next = gives_item held refl waits in
      record {
        last = [];
        replies = refused ∷ [];
        shape = inl refl;
        seen_after = same_seen ∙ sym (append-nil seen);
        part = part_refused replies (accounts_refused accounts unended replies (let enough = accounts.called in omega (arith, enough)) refl refl refl)
            (gives_one (desk_of old capacity started steady looks requested badly cancelled replied) (desk_of new capacity started steady' looks requested badly cancelled replied') (refused ∷ []) accounts unended begun requests refl replies)
            same_told accepted (omega arith) refl (flow_kept (in_order_lost kept unended runs begun same_told same_held waits requests).sound) runs stays;
        few = omega arith;
        ahead = (drop given old.accepted, refl);
        again = λ e. cc;
        left = λ most more.
            ap (λ after. and_then after (looks_within most more))
            (gives_next refused old next.0 next.1 unstopped (waiting_held kept unended ∙ next.2) requests
            ∙ (λ k. ended_as How.OutOfMemory (record old { accepted = sym accepted k; given = given + 1; told = sym same_told k })));
      } where
        -- an item waits
        gives_item : (items : List Item) → held ≡ items → given < length (items_of told ++ held)
            → (item : Item) × (rest : List Item) × (held ≡ item ∷ rest)
        gives_item [] e waits =
            let counted = all_counted kept.sound unended in
            let none : length (items_of told ++ held) ≡ length (items_of told) = ap (λ rest. length (items_of told ++ rest)) e ∙ ap length (append-nil (items_of told)) in
            absurd (omega (arith, none, counted, waits))
        gives_item (item ∷ items) e waits = (item, items, e)

  module _ {told' : List Signal} {seen seen' : List Signal} {steady steady' : Bool} {looks : ℕ} {replied' : List Reply} (end : How) (owed : OwesEnd (lane_of told held given asked causes how) end) (stays : steady ≡ true → steady' ≡ true) where
    -- the end that was owed was told
    pub looks_ended : replied' ≡ replied ++ replies_to (terminal_of end) → told' ≡ told ++ terminal_of end → seen' ≡ seen ++ terminal_of end
        → Looks (desk_of (lane_of told held given asked causes how) capacity started steady looks requested badly cancelled replied)
        (desk_of (lane_of told' held given asked (with_cause_of end causes) (Some end)) capacity started steady' looks requested badly cancelled replied') seen seen' (Ended end)
    looks_ended replies grows seen_grows =
        let old : LaneState = lane_of told held given asked causes how in
        let new : LaneState = lane_of told' held given asked (with_cause_of end causes) (Some end) in
        let accepted : items_of told' ++ held ≡ items_of told ++ held = ap (λ items. items ++ held) (ended_items told told' end grows) in
        record {
          last = terminal_of end;
          replies = replies_to (terminal_of end);
          shape = inl refl;
          seen_after = seen_grows;
          part = record {
            recorded = grows;
            answered = told_answers end (owed_loss old end owed);
            replied = replies;
            accepted = accepted;
            grows = omega arith;
            how = refl;
            started = runs;
            capacity = refl;
            looks = refl;
            requested = refl;
            badly = refl;
            cancelled = refl;
            steady = stays;
            plain = λ steady. plain_end end;
            goes_on = λ steady. no_refusal end (owed_loss old end owed);
            flow = flow_kept (in_order_owed kept unended runs begun end owed grows).sound;
            accounted = accounts_ended accounts unended end owed replies refl refl refl refl;
            below = gives_none (desk_of old capacity started steady looks requested badly cancelled replied) (desk_of new capacity started steady' looks requested badly cancelled replied') refl;
          };
          few = omega arith;
          ahead = (drop given old.accepted, ap (λ items. items ++ drop given old.accepted) (items_of_terminal end));
          again = λ e. cc;
          left = λ most more.
              ap (λ after. and_then after (looks_within most (later_replies (replies_to (terminal_of end) ++ more))))
              (owed_look (first_reply (replies_to (terminal_of end) ++ more)) old end owed ∙ told_finish end more old
              ∙ (λ k. ended_as end (record old { accepted = sym accepted k; told = sym grows k })));
        }

    -- the callback of the end that was owed was refused memory
    pub looks_missed : replied' ≡ replied ++ refused ∷ [] → told' ≡ told → seen' ≡ seen → HasTerminal end
        → Looks (desk_of (lane_of told held given asked causes how) capacity started steady looks requested badly cancelled replied)
        (desk_of (lane_of told' held given asked (with_cause_of How.OutOfMemory causes) (Some How.OutOfMemory)) capacity started steady' looks requested badly cancelled replied') seen seen' (Ended How.OutOfMemory)
    looks_missed replies same_told same_seen missed =
        let old : LaneState = lane_of told held given asked causes how in
        let new : LaneState = lane_of told' held given asked (with_cause_of How.OutOfMemory causes) (Some How.OutOfMemory) in
        let accepted : items_of told' ++ held ≡ items_of told ++ held = ap (λ text. items_of text ++ held) same_told in
        record {
          last = [];
          replies = refused ∷ [];
          shape = inl refl;
          seen_after = same_seen ∙ sym (append-nil seen);
          part = part_refused replies (accounts_refused accounts unended replies (let enough = accounts.called in omega (arith, enough)) refl refl refl)
              (gives_none (desk_of old capacity started steady looks requested badly cancelled replied) (desk_of new capacity started steady' looks requested badly cancelled replied') refl)
              same_told accepted (omega arith) refl (flow_kept (in_order_ended kept unended runs begun How.OutOfMemory tt (same_told ∙ sym (append-nil told))).sound) runs stays;
          few = omega arith;
          ahead = (drop given old.accepted, refl);
          again = λ e. cc;
          left = λ most more.
              ap (λ after. and_then after (looks_within most more))
              (owed_look refused old end owed ∙ ap (λ signals. finished end signals refused old) missed.1
              ∙ (λ k. ended_as How.OutOfMemory (record old { accepted = sym accepted k; told = sym same_told k })));
        }
