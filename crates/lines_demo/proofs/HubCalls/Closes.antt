-- What a close of a script's publisher does to where the script stands.
use Rattle.std.proofs.Common.{◌≡◌, ℕ, ◌+◌, ◌≤◌, Bool, true, false, not, ◌&&◌, if◌then◌else◌, Option, None, Some, List, [], ◌∷◌, ◌++◌, length, map, refl, sym, ap, subst, ◌∙◌}
use Rattle.std.specs.Prelude.{is_none, is_some, All, slice_get}
use Rattle.feed_core.specs.Desk.{desk_after_signal}
use Rattle.feed_core.specs.Feed.{DoesCall, end_of}
use Rattle.feed_core.specs.LaneCalls.{IsCapacity, lane_with_closing}
use Rattle.publisher_hub.specs.Closing.{Closes, ClosesAll, started_by_end, started_by_ends}
use Rattle.publisher_hub.specs.Hub.{HubState, hub_of}
use Rattle.publisher_hub.specs.Looking.{Prepares}
use Rattle.publisher_hub.specs.Sound.{IsSound}
use Rattle.publisher_hub.specs.declared.entry.AtClose.{AtClose}
use Rattle.publisher_hub.specs.declared.entry.Entry.{Entry}
use Rattle.publisher_hub.specs.declared.hub.Hub.{Hub}
use Rattle.publisher_hub.specs.declared.work.Work.{Work}
use Rattle.publisher_hub.proofs.AnswerLists.Places.{stood_by}
use Rattle.lines_demo.specs.Prelude.{DeskState, Ending, How, LaneState, desk_after_end, desk_without_looks, owes}
use Rattle.lines_demo.specs.Script.Kept.{IsKept}
use Rattle.lines_demo.specs.Script.Obeying.{closing_result, state_after_closing, subscription_after_closing}
use Rattle.lines_demo.specs.Script.Playing.{Replies}
use Rattle.lines_demo.specs.Script.Session.{IsScriptEntry, IsScriptHub, IsSession, numbers_of, state_of, subscription_of}
use Rattle.lines_demo.specs.Script.State.{SessionState, SubscriptionState}
use Rattle.lines_demo.specs.Script.Subscribing.{USUAL_LIVE}
use Rattle.lines_demo.specs.Script.Waking.{is_live, newly_woken}
use Rattle.lines_demo.specs.declared.script.session.Session.TheInside.{Inside}
use Rattle.lines_demo.proofs.Sessions.Answered.{IsAnswered, answered}
use Rattle.lines_demo.proofs.HubCalls.EachMaps.{each_by_map}
use Rattle.lines_demo.proofs.HubCalls.Looks.{ListSeesSame, prepared_all_same, prepared_retired, same_desk, seen_with, with_desk}
use Rattle.commands.specs.declared.reply.Reply.TheVariants.{Done}
use Rattle.lines_demo.proofs.Sessions.Inside.{state_inside}
use Rattle.lines_demo.proofs.Kept.Commands.{closing_reached}
use Rattle.lines_demo.proofs.Scripts.Replying.{closing_done}
use Rattle.lines_demo.proofs.Sessions.States.{all_seen_at, room_for, state_of_is}
use Rattle.lines_demo.proofs.Woken.Signals.{signal_wakes}
use Rattle.lines_demo.proofs.Woken.StartedTasks.{gathered_woken, starts}

-- what a close leaves of a subscription that was looked at
record IsClosedEntry (ending : Ending) (k : ℕ) (start : AtClose Unit) (x y : Entry DeskState) : Type 0 where
  same : subscription_of y ≡ subscription_after_closing ending (subscription_of x)
  entry : IsScriptEntry y
  wakes : numbers_of (started_by_end k start) ≡ (if starts x y then k ∷ [] else [])

-- nobody starts who stays as it is
stays : (owed : Bool) (k : ℕ) → [] ≡ (if owed && not owed then k ∷ [] else [])
stays true k = refl
stays false k = refl

closed_entry : (ending : Ending) (k : ℕ) (start : AtClose Unit) (x y : Entry DeskState) → IsScriptEntry x
    → x.retired ≡ not (is_live (subscription_of x))
    → ((subscription_of x).desk.lane.how ≡ None → (subscription_of x).desk.lane.causes.closing ≡ None) → Closes end_of DoesCall ending start x y → IsClosedEntry ending k start x y
closed_entry ending k AtClose.Retired x y is retired unclosed closes = rw closes.1 (record {
  same = gone (is_live (subscription_of x)) (sym retired ∙ closes.0);
  entry = is;
  wakes = stays (owes (subscription_of x).desk) k;
}) where
  gone : (live : Bool) → not live ≡ true
      → subscription_of x ≡ (if live then record (subscription_of x) { desk = desk_after_end ending (subscription_of x).desk } else subscription_of x)
  gone true e = cc
  gone false e = refl
closed_entry ending k (AtClose.Ended start) x y is retired unclosed closes = record {
  same = sees_now ∙ sym expected;
  entry = rw closes.now (record { desk = closes.after; there = refl; steady = steady; ended = λ odd. (let never : false ≡ true = sym closes.live ∙ odd in cc) });
  wakes = wakes;
} where
  before : DeskState
  before = closes.before

  lane_after : LaneState
  lane_after = lane_with_closing ending before.lane

  seen : subscription_of x ≡ with_desk x before
  seen = seen_with x before closes.was

  live_now : (live : Bool) → false ≡ not live → live ≡ true
  live_now true e = refl
  live_now false e = cc

  live : is_live (subscription_of x) ≡ true
  live = live_now (is_live (subscription_of x)) (sym closes.live ∙ retired)

  unended : (how : Option How) → is_none how ≡ true → how ≡ None
  unended None e = refl
  unended (Some how) e = cc

  free : before.lane.causes.closing ≡ None
  free =
      ap (λ (s : SubscriptionState). s.desk.lane.causes.closing) (sym seen) ∙ unclosed (unended (subscription_of x).desk.lane.how live)

  after_is : closes.after ≡ desk_after_signal before lane_after
  after_is = closes.exact.first free

  sees : subscription_of y ≡ with_desk x closes.after
  sees = ap subscription_of closes.now

  steady : closes.after.is_steady ≡ true
  steady = ap (λ (d : DeskState). d.is_steady) after_is ∙ ap (λ (d : DeskState). d.is_steady) (sym (same_desk x before is closes.was)) ∙ is.steady

  expected : subscription_after_closing ending (subscription_of x) ≡ with_desk x (desk_after_signal before lane_after)
  expected =
      ap (λ b. if b then record (subscription_of x) { desk = desk_after_end ending (subscription_of x).desk } else subscription_of x) live
      ∙ ap (λ (s : SubscriptionState). record s { desk = desk_after_end ending s.desk }) seen
      ∙ ap (λ (closing : Option Ending). record (with_desk x before) { desk = if is_some closing then desk_without_looks before else desk_after_signal (desk_without_looks before) lane_after }) free

  sees_now : subscription_of y ≡ with_desk x (desk_after_signal before lane_after)
  sees_now = sees ∙ ap (with_desk x) after_is

  started_desks : DeskState → DeskState → Bool
  started_desks a b = owes a && not (owes b)

  wakes : numbers_of (started_by_end k (AtClose.Ended start)) ≡ (if starts x y then k ∷ [] else [])
  wakes =
      signal_wakes before lane_after k start refl ((λ some. (closes.exact.starts.0 some).1), (λ rests. closes.exact.starts.1 (free, rests)))
      ∙ ap (λ b. if b then k ∷ [] else []) (sym (λ i. started_desks (sees_now i).desk (seen i).desk))

module _ {B : Type 0} (session : Inside B) (new : Hub DeskState) (ending : Ending) (due : List (Work Unit)) (is : IsSession session.hub (length session.stock.items) session.woken session.beginning)
    (nothing_due : session.due.items ≡ []) (unclosed : session.hub.ending ≡ None) (sound : IsSound (hub_of end_of new)) (closes : ClosesAll end_of DoesCall ending session.due.items due session.hub new) where
  -- where it stood
  abbrev pub state : SessionState
  state = state_inside session

  -- its publisher, the subscriptions of that, and what they are after the looks
  abbrev pub old : Hub DeskState
  old = session.hub

  looked : ListSeesSame old.entries.items closes.middle
  looked = prepared_all_same old.next closes.glances old.entries.items closes.middle is.publisher.entries closes.prepared

  retired : (k : ℕ) (x : Entry DeskState) → slice_get closes.middle k ≡ Some x → x.retired ≡ not (is_live (subscription_of x))
  retired k x at =
      let stood = stood_by (Prepares end_of DoesCall old.next) closes.glances old.entries.items closes.middle k x closes.prepared at in
      prepared_retired old.next stood.answer stood.entry x (is.publisher.entries k stood.entry stood.at) stood.became

  open_still : (k : ℕ) (x : Entry DeskState) → slice_get closes.middle k ≡ Some x → (subscription_of x).desk.lane.how ≡ None
      → (subscription_of x).desk.lane.causes.closing ≡ None
  open_still k x at live =
      let kept : All (IsKept is.reached.0 old.next session.beginning.order old.ending) (map subscription_of closes.middle) = subst (All (IsKept is.reached.0 old.next session.beginning.order old.ending)) (sym looked.same) is.reached.1.subscriptions in
      (all_seen_at (IsKept is.reached.0 old.next session.beginning.order old.ending) subscription_of closes.middle k x kept at).closing live ∙ unclosed

  one : (k : ℕ) (start : AtClose Unit) (x y : Entry DeskState) → slice_get closes.middle k ≡ Some x
      → Closes end_of DoesCall ending start x y → IsClosedEntry ending k start x y
  one k start x y at closed = closed_entry ending k start x y (looked.entries k x at) (retired k x at) (open_still k x at) closed

  subscriptions : map subscription_of new.entries.items ≡ map (subscription_after_closing ending) state.subscriptions
  subscriptions =
      each_by_map subscription_of (subscription_after_closing ending) (Closes end_of DoesCall ending) closes.closes.answers closes.middle new.entries.items closes.closes.each (λ k start x y at closed. (one k start x y at closed).same)
      ∙ ap (map (subscription_after_closing ending)) looked.same

  woken_now : numbers_of due ≡ newly_woken state.subscriptions (map (subscription_after_closing ending) state.subscriptions)
  woken_now =
      ap numbers_of (closes.closes.due ∙ ap (λ ws. ws ++ started_by_ends closes.closes.answers) nothing_due)
      ∙ gathered_woken started_by_end (Closes end_of DoesCall ending) closes.closes.answers closes.middle new.entries.items closes.closes.each (λ k start x y at closed. (one k start x y at closed).wakes)
      ∙ (λ i. newly_woken (looked.same i) (subscriptions i))

  publisher : IsScriptHub new
  publisher = record {
    sound = sound;
    sized = subst IsCapacity (sym (ap (λ (h : HubState). h.progress.capacity) closes.rest)) is.publisher.sized;
    entries = λ k y at.
        (let stood = stood_by (Closes end_of DoesCall ending) closes.closes.answers closes.middle new.entries.items k y closes.closes.each at in
        (one k stood.answer stood.entry y stood.at stood.became).entry);
    numbered = ap (λ (h : HubState). slice_get h.progress.counts 0) closes.rest ∙ is.publisher.numbered ∙ ap Some (sym (ap (λ (h : HubState). h.progress.next) closes.rest));
  }

  -- where it stands then
  abbrev pub new_state : SessionState
  new_state = state_of new (length session.stock.items) (session.woken ++ numbers_of due) session.beginning

  closed_state : new_state ≡ state_after_closing ending state
  closed_state =
      state_of_is new (length session.stock.items) (session.woken ++ numbers_of due) session.beginning (state_after_closing ending state) (ap (λ (h : HubState). h.progress.capacity) closes.rest) refl
      (ap (λ (h : HubState). h.progress.ending) closes.rest) (ap (λ (h : HubState). h.progress.next) closes.rest) refl subscriptions (ap (λ numbers. session.woken ++ numbers) woken_now)

  closed_replies : Replies (λ refusals. closing_result ending state refusals) Done new_state
  closed_replies = subst (Replies (λ refusals. closing_result ending state refusals) Done) (sym closed_state) (closing_done ending state (ap is_some unclosed))

  -- what it leaves
  pub closed : session.beginning.is_over ≡ true
      → IsAnswered (λ refusals. closing_result ending state refusals) Done new (length session.stock.items) (session.woken ++ numbers_of due) session.beginning
  closed begun =
      answered (λ refusals. closing_result ending state refusals) Done new (length session.stock.items) (session.woken ++ numbers_of due) session.beginning begun publisher closed_replies
      (λ refusals. closing_reached ending state refusals is.reached)

  -- and there is room for whom it wakes
  pub closed_room : session.beginning.is_over ≡ true → length session.woken + length due ≤ USUAL_LIVE
  closed_room begun = room_for new_state session.woken due (closed begun).session.reached refl
