-- What is left of a subscription keeps the Flow rules, and is settled if its task is at rest or has ended.
use Rattle.std.proofs.Common.{◌≡◌, ℕ, ◌+◌, ◌≤◌, ◌⊎◌, min, Bool, true, false, ◌||◌, List, [], ◌∷◌, ◌++◌, length, drop, Option, None, Some, IfSome, IsSome, is_some, sym, refl, ap, ◌∙◌, subst, inl, inr, ⊎_elim, append-nil, length-append, take-append-drop, append_assoc, arith}
use mathlib.Core.Option.{some}
use lib.ListN.{get_elem?}
use Rattle.atomic_table.specs.Table.{State}
use Rattle.feed_core.specs.Lane.{LaneState, IsSettled}
use Rattle.feed_core.specs.Answered.{own_by, causes_by}
use Rattle.feed_core.specs.AnsweredTurn.{Reply}
use Rattle.feed_core.specs.Prelude.{ErrorOrder, Item, Signal, UNBOUNDED, total_after, items_of}
use Rattle.feed_core.specs.declared.lane.Lane.{Lane}
use Rattle.feed_core.specs.Sound.{is_begun, loss_of, HasCause, IsAtRest, IsSoundLane}
use Rattle.feed_core.specs.World.Table.{is_over, total_of, MayBegin}
use Rattle.feed_core.proofs.Desks.Steps.{no_cause}
use Rattle.feed_core.proofs.Lanes.FlowRules.{flow_kept, settled_some, settled_at_rest}
use Rattle.feed_cell.specs.Types.{Causes, Runner, Nobody, Coming, Fresh, Ready, Looked, Saw, Measured, Taken, Over, HasPut, HasAsked, Idle, Free, HasRoom}
use Rattle.feed_cell.proofs.Table.Outlooks.{reached_kept, reached_lawful}
use Rattle.feed_cell.specs.Cell.{CellRule, Lodges, LodgesAt, IsToldAt, has_seat, may_hold, how_of, greeted}
use Rattle.flow_rules.specs.Feed.{End}
use Rattle.feed_cell.specs.Control.{Flags, causes_of}
use Rattle.feed_cell.specs.Left.{lane_with, lane_without, causes_left, CountsHandle, IsLeftOf}
use Rattle.feed_cell.specs.TaskAnswers.{IsNoted}
use Rattle.feed_cell.specs.Parties.{HandleState, KnowsHandle, known_end}
use Rattle.feed_cell.proofs.Left.Causes.{caused, unended, goes_on, has_ended}
use Rattle.feed_cell.proofs.Tasks.EndedBy.{asked_for_by}
use Rattle.feed_cell.proofs.Left.Text.{fits_at}
use Rattle.feed_cell.proofs.Signals.HandOver.{on_some}
use Rattle.feed_cell.specs.declared.cell.Held.{Held}
use Rattle.feed_cell.specs.declared.cell.View.{View}

-- the causes by the flags, if those say what the publisher and the handle did
flagged : (f : Flags) (answers : Causes) (handle : HandleState) (end : End) → answers.order ≡ handle.order → f.cancel ≡ handle.cancelled
    → f.argument ≡ handle.argument → f.state ≡ end.state → f.closing ≡ end.closing
    → causes_of f answers ≡ causes_left end handle answers
flagged f answers handle end order cancel argument state closing =
    λ k. record { order = order k; cancel = cancel k || answers.cancel; argument = argument k || answers.argument; state = state k; closing = closing k; failed = answers.failed; memory = answers.memory }

not_over : (r : Runner) → (is_over r ≡ true → ⊥) → is_over r ≡ false
not_over r never = by (is_over r) never where
  by : (over : Bool) → (over ≡ true → ⊥) → over ≡ false
  by true never = absurd (never refl)
  by false never = refl

-- a total within its bound, with nothing more
whole_total : (asked : ℕ) → asked ≤ UNBOUNDED → asked ≡ total_after asked 0
whole_total asked bounded = omega arith

module _ {B : Type 0} (told : B → List Signal) (cap : ℕ) (s : State (Held B) View) (c : CellRule told cap s) where
  -- the lane of a subscription whose subscriber was told this
  abbrev pub lane_told_so : List Signal → LaneState
  lane_told_so text = record { accepted = c.cell.log; given = c.cell.world.given; asked = total_of c.cell.world; causes = c.cell.world.causes; how = how_of c.cell.world.runner; told = text }

  ends_by : (r : Runner) → c.cell.world.runner ≡ r → (text : List Signal) → HasCause (lane_told_so text)
  ends_by (Over how) e text = caused c.cell.world how (lane_told_so text) refl refl (sym c.shows.accepted) (ap how_of e) ((reached_lawful c.reached).ended how e)
  ends_by Nobody e text = no_cause (lane_told_so text) (ap how_of e)
  ends_by Coming e text = no_cause (lane_told_so text) (ap how_of e)
  ends_by Fresh e text = no_cause (lane_told_so text) (ap how_of e)
  ends_by Ready e text = no_cause (lane_told_so text) (ap how_of e)
  ends_by (Looked x) e text = no_cause (lane_told_so text) (ap how_of e)
  ends_by (Saw x t) e text = no_cause (lane_told_so text) (ap how_of e)
  ends_by (Measured x t a) e text = no_cause (lane_told_so text) (ap how_of e)
  ends_by Taken e text = no_cause (lane_told_so text) (ap how_of e)

  -- the lane is sound
  pub sound_left : (text : List Signal) → (c.cell.world.runner ≡ Fresh → ⊥) → IsToldAt c.cell.world.runner c.cell.taken text
      → may_hold c.cell.world.runner ≡ false → IsSoundLane (lane_told_so text)
  sound_left text begun told_is held =
      let kept = reached_kept c.reached in
      let fits = fits_at c.cell.world.runner c.cell.taken text begun told_is in
      let n : ℕ = length c.cell.taken + length c.cell.item in
      let item_is : c.cell.item ≡ [] = c.shows.none_out held in
      let prefix : c.cell.taken ++ drop n c.cell.log ≡ c.cell.log = ap (λ (l : List Item). l ++ drop n c.cell.log) (sym (append-nil c.cell.taken) ∙ ap (λ (l : List Item). c.cell.taken ++ l) (sym item_is) ∙ c.lists.begins) ∙ take-append-drop n c.cell.log in
      let given : c.cell.world.given ≡ length c.cell.taken = c.shows.given in
      let accepted : c.cell.world.accepted ≡ length c.cell.log = c.shows.accepted in
      let taken : c.cell.world.given ≤ c.cell.world.accepted = kept.taken in
      record {
        told_is = fits.told_is;
        in_order = ⊎_elim
            (λ all. (drop n c.cell.log, ap (λ (l : List Item). l ++ drop n c.cell.log) all ∙ prefix))
            (λ lost. (lost.1.0 ∷ drop n c.cell.log, sym (append_assoc (items_of text) (lost.1.0 ∷ []) (drop n c.cell.log)) ∙ ap (λ (l : List Item). l ++ drop n c.cell.log) (sym lost.1.1) ∙ prefix))
            fits.items;
        counts = ⊎_elim
            (λ all. (let same : length (items_of text) ≡ length c.cell.taken = ap length all in record { tells = omega arith; loses = omega arith; taken = omega arith; requested = kept.requested }))
            (λ lost. (
            let same : length c.cell.taken ≡ length (items_of text) + 1 = ap length lost.1.1 ∙ length-append (items_of text) (lost.1.0 ∷ []) in
            let loss : loss_of (how_of c.cell.world.runner) ≡ 1 = ap loss_of lost.0 in
            record { tells = omega arith; loses = omega arith; taken = omega arith; requested = kept.requested }))
            fits.items;
        cause = ends_by c.cell.world.runner refl text;
        unfailed = λ e. kept.unfailed (unended c.cell.world.runner e);
        remembered = λ e. kept.remembered (unended c.cell.world.runner e);
      }

  -- the lane of a task at rest is at rest
  pub rests_left : (text : List Signal) → c.cell.world.runner ≡ Nobody → text ≡ greeted c.cell.taken → MayBegin c.cell.world.producer
      → c.cell.left ≡ true → IsAtRest (lane_told_so text)
  rests_left text e text_is begins left =
      let law = reached_lawful c.reached in
      let accepted : c.cell.world.accepted ≡ length c.cell.log = c.shows.accepted in
      let all : c.cell.world.given ≡ min c.cell.world.accepted (total_of c.cell.world) = law.all_given e (record { put = λ put. between begins put; asked = λ asked. (let idle = c.shows.settled left in let never : Idle ≡ HasAsked = sym idle ∙ asked in cc) }) in
      record {
        unended = ap how_of e;
        begun = ap is_begun text_is;
        runs_on = law.runs_on e;
        all_given = all ∙ ap (λ (m : ℕ). min m (total_of c.cell.world)) accepted;
        waits = λ some. (let waits = law.waits e some in let total : ℕ = total_of c.cell.world in omega arith);
      }
    where
      between : MayBegin c.cell.world.producer → c.cell.world.producer ≡ HasPut → ⊥
      between (inl free) put = (let never : Free ≡ HasPut = sym free ∙ put in cc)
      between (inr room) put = (let never : HasRoom ≡ HasPut = sym room ∙ put in cc)

  -- a task that has ended, or is at rest, if its subscriber is at home
  abbrev pub IsSafe : Type 0
  IsSafe = (is_over c.cell.world.runner ≡ true) ⊎ (c.cell.world.runner ≡ Nobody)

  safe_held : IsSafe → (c.cell.world.runner ≡ Fresh → ⊥) × (may_hold c.cell.world.runner ≡ false) × (has_seat c.cell.world.runner ≡ false)
  safe_held (inl over) = by c.cell.world.runner refl over where
    by : (r : Runner) → c.cell.world.runner ≡ r → is_over r ≡ true
        → (c.cell.world.runner ≡ Fresh → ⊥) × (may_hold c.cell.world.runner ≡ false) × (has_seat c.cell.world.runner ≡ false)
    by (Over how) e over = ((λ fresh. (let never : Over how ≡ Fresh = sym e ∙ fresh in cc)), ap may_hold e, ap has_seat e)
    by Nobody e over = cc
    by Coming e over = cc
    by Fresh e over = cc
    by Ready e over = cc
    by (Looked x) e over = cc
    by (Saw x t) e over = cc
    by (Measured x t a) e over = cc
    by Taken e over = cc
  safe_held (inr e) = ((λ fresh. (let never : Nobody ≡ Fresh = sym e ∙ fresh in cc)), ap may_hold e, ap has_seat e)

  pub lodges_safe : IsSafe → Lodges told cap c.cell.world.runner c.cell.taken c.cell.world.own c.cell.answers s.homes
  lodges_safe safe = at c.cell.world.runner refl (c.lodges (c.shows.home (safe_held safe).2)) where
    at : (r : Runner) → c.cell.world.runner ≡ r → LodgesAt told cap r c.cell.taken c.cell.world.own c.cell.answers s.homes
        → Lodges told cap r c.cell.taken c.cell.world.own c.cell.answers s.homes
    at Fresh fresh g = absurd ((safe_held safe).0 fresh)
    at Nobody is g = g
    at Coming is g = g
    at Ready is g = g
    at (Looked x) is g = g
    at (Saw x t) is g = g
    at (Measured x t a) is g = g
    at Taken is g = g
    at (Over how) is g = g

  -- the total and the causes have what the seat that the handle had knows, beside what the answers brought about
  counts : (end : End) (handle : HandleState) (id : ℕ) (v : View) → get_elem? s.views id ≡ some v → KnowsHandle handle v
      → end.state ≡ c.cell.flags.state → end.closing ≡ c.cell.flags.closing
      → (answered : B → List Reply) (left : Lane B) (own : ℕ) → left.requested ≡ c.cell.world.asked → left.cancelled ≡ c.cell.flags.cancel → left.asked ≡ total_after c.cell.world.asked own
      → IfSome left.subscriber (λ b. (own ≡ own_by (answered b)) × (c.cell.answers ≡ causes_by c.cell.answers.order (answered b))) → CountsHandle answered end handle left c.cell.world.causes
  counts end handle id v at knows state closing answered left own requested cancelled is noted =
      let k = (c.handles id v at knows.is).1 in
      record {
        own = own;
        answers = c.cell.answers;
        requested = requested ∙ sym k.total ∙ knows.asked;
        cancelled = cancelled ∙ sym k.cancels ∙ knows.cancelled;
        total_is = is ∙ ap (λ a. total_after a own) (sym k.total ∙ knows.asked);
        causes_are = c.shows.causes ∙ flagged c.cell.flags c.cell.answers handle end (sym k.ordered ∙ knows.order) (sym k.cancels ∙ knows.cancelled) (sym k.bad ∙ knows.argument) (sym state) (sym closing);
        noted = subst (λ (o : ErrorOrder). IfSome left.subscriber (λ b. (own ≡ own_by (answered b)) × (c.cell.answers ≡ causes_by o (answered b)))) (sym k.ordered ∙ knows.order) noted;
      }

  module _ (answered : B → List Reply) (id : ℕ) (v : View) (at : get_elem? s.views id ≡ some v) (puts : v.puts ≡ true) (begins : MayBegin v.producing) (end : End) (end_is : end ≡ known_end v end.ready)
      (handle : Option HandleState) (knows : IfSome handle (λ h. KnowsHandle h v)) where
    put_is : end.accepted ≡ c.cell.log
    put_is = ap (λ z. z.accepted) end_is ∙ (c.producers id v at puts).1.put

    closing_is : end.closing ≡ c.cell.flags.closing
    closing_is = ap (λ z. z.closing) end_is ∙ (c.producers id v at puts).1.closed

    state_is : end.state ≡ c.cell.flags.state
    state_is = ap (λ z. z.state) end_is ∙ (c.producers id v at puts).1.doubled

    over_is : end.over ≡ true → is_over c.cell.world.runner ≡ true
    over_is over = (c.producers id v at puts).1.over (sym (ap (λ z. z.over) end_is) ∙ over)

    -- no more was accepted than there is room for
    room_kept : length c.cell.log ≤ c.cell.world.given + end.capacity
    room_kept =
        let sized : end.capacity ≡ cap = ap (λ z. z.capacity) end_is ∙ (c.producers id v at puts).1.sized in
        let given : c.cell.world.given ≡ length c.cell.taken = c.shows.given in
        let above : length c.cell.log + length c.cell.beyond.placed ≤ c.cell.beyond.free = c.lists.above in
        let below : c.cell.beyond.free ≤ length c.cell.taken + cap = c.lists.below in
        omega arith

    -- with its seat known, the handle has left
    left_by : (handle : Option HandleState) → IfSome handle (λ h. KnowsHandle h v) → IsSome handle → c.cell.left ≡ true
    left_by None known own = cc
    left_by (Some h) known own = sym (c.handles id v at known.is).1.leaves ∙ known.left

    may : MayBegin c.cell.world.producer
    may = subst MayBegin (c.producers id v at puts).1.stands begins

    -- its subscriber is at home
    pub left_there : (safe : IsSafe) (running : Bool) → (running ≡ false → (is_over c.cell.world.runner ≡ true) ⊎ (c.cell.left ≡ true))
        → (running ≡ true → c.cell.left ≡ true → ⊥) → (running ≡ true → is_over c.cell.world.runner ≡ true → ⊥)
        → IsNoted answered (lodges_safe safe).guest
        → IsLeftOf told answered end handle (lane_with (lodges_safe safe).guest c.cell.world.given c.cell.world.accepted c.cell.world.asked c.cell.flags.cancel running)
    left_there safe running settles stays goes noted =
        let g = lodges_safe safe in
        let held = safe_held safe in
        let text = told g.guest.subscriber in
        let sound = sound_left text held.0 g.told_is held.1 in
        let taken : c.cell.world.given ≤ c.cell.world.accepted = (reached_kept c.reached).taken in
        let accepted : c.cell.world.accepted ≡ length c.cell.log = c.shows.accepted in
        let there : c.cell.answers ≡ causes_by c.cell.answers.order (answered g.guest.subscriber) = subst (λ (a : Causes). a ≡ causes_by a.order (answered g.guest.subscriber)) g.answers_are noted.answers in
        let by_replies : Causes → Causes = λ z. causes_by z.order (answered g.guest.subscriber) in
        let cancel : c.cell.world.causes.cancel ≡ c.cell.flags.cancel || (by_replies c.cell.world.causes).cancel =
        ap (λ (z : Causes). z.cancel) c.shows.causes ∙ ap (λ (z : Causes). c.cell.flags.cancel || z.cancel) there ∙ ap (λ (z : Causes). c.cell.flags.cancel || (by_replies z).cancel) (sym c.shows.causes) in
        let rest : (c.cell.world.causes.failed ≡ (by_replies c.cell.world.causes).failed) × (c.cell.world.causes.memory ≡ (by_replies c.cell.world.causes).memory) = (
          ap (λ (z : Causes). z.failed) c.shows.causes ∙ ap (λ (z : Causes). z.failed) there ∙ ap (λ (z : Causes). (by_replies z).failed) (sym c.shows.causes),
          ap (λ (z : Causes). z.memory) c.shows.causes ∙ ap (λ (z : Causes). z.memory) there ∙ ap (λ (z : Causes). (by_replies z).memory) (sym c.shows.causes),
        ) in
        record {
          lane = lane_told_so text;
          is = record {
            accepted = accepted;
            given = refl;
            taken = omega arith;
            ending = g.how_is;
            order = ap (λ (z : Causes). Some z.order) g.answers_are ∙ sym (ap (λ (z : Causes). Some z.order) c.shows.causes);
            flow = (refl, ap (total_after c.cell.world.asked) g.own_is, flow_kept sound);
            settled = λ rests. (refl, settles_by (settles rests) safe);
            unended = λ runs. g.how_is ∙ goes_on c.cell.world.runner (not_over c.cell.world.runner (goes runs));
          };
          accepted = sym put_is;
          closing = ap (λ z. z.closing) c.shows.causes ∙ sym closing_is;
          state = ap (λ z. z.state) c.shows.causes ∙ sym state_is;
          room = room_kept;
          ends = noted.ends;
          by = asked_for_by c.cell.flags.cancel g.guest.how (lane_told_so text) (answered g.guest.subscriber) sound.cause g.how_is noted.ends cancel rest;
          asked = ap (total_after c.cell.world.asked) noted.own;
          cancelled = cancel;
          failed = rest;
          handled = on_some handle (λ h known. counts end h id v at known state_is closing_is answered (lane_with g.guest c.cell.world.given c.cell.world.accepted c.cell.world.asked c.cell.flags.cancel running) g.guest.own refl refl refl
              (noted.own, there)) knows;
          over = λ over. ap is_some g.how_is ∙ has_ended c.cell.world.runner (over_is over);
          runs = λ own runs. absurd (stays runs (left_by handle knows own));
        }
      where
        settles_by : (is_over c.cell.world.runner ≡ true) ⊎ (c.cell.left ≡ true) → IsSafe
            → IsSettled (lane_told_so (told (lodges_safe safe).guest.subscriber))
        settles_by (inl over) either = settled_some (sound_left _ (safe_held safe).0 (lodges_safe safe).told_is (safe_held safe).1) (has_ended c.cell.world.runner over)
        settles_by (inr left) (inl over) = settled_some (sound_left _ (safe_held safe).0 (lodges_safe safe).told_is (safe_held safe).1) (has_ended c.cell.world.runner over)
        settles_by (inr left) (inr e) = settled_at_rest (sound_left _ (safe_held safe).0 (lodges_safe safe).told_is (safe_held safe).1)
            (rests_left _ e (subst (λ r. IsToldAt r c.cell.taken (told (lodges_safe safe).guest.subscriber)) e (lodges_safe safe).told_is) may left)

    -- a task was lost with it
    pub left_away : is_over c.cell.world.runner ≡ false
        → IsLeftOf told answered end handle (lane_without c.cell.world.given c.cell.world.accepted c.cell.world.asked c.cell.flags.cancel)
    left_away goes =
        let taken : c.cell.world.given ≤ c.cell.world.accepted = (reached_kept c.reached).taken in
        let accepted : c.cell.world.accepted ≡ length c.cell.log = c.shows.accepted in
        record {
          lane = lane_told_so [];
          is = record {
            accepted = accepted;
            given = refl;
            taken = omega arith;
            ending = sym (goes_on c.cell.world.runner goes);
            order = tt;
            flow = tt;
            settled = λ e. cc;
            unended = λ _. refl;
          };
          accepted = sym put_is;
          closing = ap (λ z. z.closing) c.shows.causes ∙ sym closing_is;
          state = ap (λ z. z.state) c.shows.causes ∙ sym state_is;
          room = room_kept;
          ends = tt;
          by = tt;
          asked = tt;
          cancelled = tt;
          failed = tt;
          handled = on_some handle (λ h known. counts end h id v at known state_is closing_is answered (lane_without c.cell.world.given c.cell.world.accepted c.cell.world.asked c.cell.flags.cancel) 0 refl refl (let bounded = (reached_kept c.reached).asked_bounded in whole_total c.cell.world.asked bounded) tt) knows;
          over = λ over. (let never : true ≡ false = sym (over_is over) ∙ goes in cc);
          runs = λ _ _. refl;
        }
