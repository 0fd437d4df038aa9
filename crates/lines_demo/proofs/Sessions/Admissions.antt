-- What a script sees if a subscription is added to its publisher, and when none may be.
use Rattle.std.proofs.Common.{rules, ◌≡◌, ◌==◌, ◌⊎◌, inl, inr, ℕ, zero, suc, pos, ◌-◌, ◌<◌, ◌≤◌, true, false, nat_le, Option, None, Some, List, [], ◌∷◌, ◌++◌, length, map, refl, sym, ap, subst, ◌∙◌, arith}
use Rattle.std.specs.Prelude.{slice_get, count_by, IsSome, ◌↔◌}
use Rattle.std.proofs.lemmas.Bool.Decides.{nat_tests}
use Rattle.std.proofs.lemmas.List.{length-map, map-append}
use Rattle.feed_core.specs.Desk.{Rests, desk_after_signal}
use Rattle.feed_core.specs.LaneCalls.{lane_with_closing}
use Rattle.feed_core.specs.Feed.{DoesCall, end_of}
use Rattle.publisher_hub.specs.Hub.{HubState, Progress, hub_of}
use Rattle.publisher_hub.specs.Gathering.{work_of}
use Rattle.publisher_hub.specs.Sound.{IsSound}
use Rattle.publisher_hub.specs.Subscribing.{Admits, ClosesNew, first_entry}
use Rattle.publisher_hub.specs.declared.entry.Entry.{Entry}
use Rattle.publisher_hub.specs.declared.hub.Hub.{Hub}
use Rattle.publisher_hub.specs.declared.work.Work.{Work}
use Rattle.publisher_hub.proofs.AnswerLists.Updates.{get_grown}
use Rattle.lines_demo.specs.Prelude.{DeskState, Ending, ErrorOrder, Refusal, owes, desk_after_demand, desk_after_request, desk_without_looks}
use Rattle.lines_demo.specs.Script.Session.{AreScriptEntries, IsScriptEntry, IsScriptHub, state_of, subscription_of}
use Rattle.lines_demo.specs.Script.State.{SessionState}
use Rattle.lines_demo.specs.Script.Subscribing.{USUAL_LIVE, MOST_ENTRIES, desk_at_start, desk_at_subscribing, new_subscription, state_after_subscribing, subscribing_refusal}
use Rattle.lines_demo.specs.Script.Waking.{is_live, newly_woken}
use Rattle.lines_demo.proofs.Sessions.SeenPublishers.{CameAsFar, script_publisher, seen_same}
use Rattle.lines_demo.proofs.Sessions.States.{state_of_is}
use Rattle.lines_demo.proofs.Woken.StartedNumbers.{newly_woken_new}
use Rattle.lines_demo.specs.declared.script.session.beginning.Beginning.{Beginning}

-- ---- who may subscribe

-- as many are live as may be
pub refused_full : (state : SessionState) → USUAL_LIVE ≤ count_by is_live state.subscriptions
    → subscribing_refusal state ≡ Some Refusal.TooMany
refused_full state full =
    let test : nat_le USUAL_LIVE (count_by is_live state.subscriptions) ≡ true = grind (arith, nat_tests) in
    rw test refl

-- as many were made as may be
pub refused_exhausted : (state : SessionState) → count_by is_live state.subscriptions < USUAL_LIVE
    → length state.subscriptions ≡ MOST_ENTRIES → subscribing_refusal state ≡ Some Refusal.Exhausted
refused_exhausted state few many =
    let test : nat_le USUAL_LIVE (count_by is_live state.subscriptions) ≡ false = grind (arith, nat_tests) in
    let made : nat_le MOST_ENTRIES (length state.subscriptions) ≡ true = grind (arith, nat_tests) in
    rw (test, made) refl

-- no subscriber is left
pub refused_stock : (state : SessionState) → count_by is_live state.subscriptions < USUAL_LIVE → length state.subscriptions < MOST_ENTRIES
    → state.stock ≡ 0 → subscribing_refusal state ≡ Some Refusal.TooMany
refused_stock state few made none =
    let test : nat_le USUAL_LIVE (count_by is_live state.subscriptions) ≡ false = grind (arith, nat_tests) in
    let room : nat_le MOST_ENTRIES (length state.subscriptions) ≡ false = grind (arith, nat_tests) in
    let empty : (state.stock == 0) ≡ true = grind (arith, nat_tests) in
    rw (test, room, empty) refl

-- the next one may subscribe
pub may_subscribe : (state : SessionState) → count_by is_live state.subscriptions < USUAL_LIVE → length state.subscriptions < MOST_ENTRIES
    → 0 < state.stock → subscribing_refusal state ≡ None
may_subscribe state few made some =
    let test : nat_le USUAL_LIVE (count_by is_live state.subscriptions) ≡ false = grind (arith, nat_tests) in
    let room : nat_le MOST_ENTRIES (length state.subscriptions) ≡ false = grind (arith, nat_tests) in
    let left : (state.stock == 0) ≡ false = grind (arith, nat_tests) in
    rw (test, room, left) refl

-- ---- the new one

-- a request of a positive number by the owner of a new one raises what it asks for
pub requests_demand : (order : ErrorOrder) (number capacity : ℕ) → 0 < number
    → desk_after_request (pos number) (desk_at_start order capacity) ≡ desk_after_demand number (desk_at_start order capacity)
requests_demand order zero capacity some = absurd (omega arith)
requests_demand order (suc n) capacity some = refl

-- what the publisher stores of a new subscription: requests and closings may come in either order, and nothing is
-- started
pub record IsNewDesk (closing : Option Ending) (order : ErrorOrder) (capacity number : ℕ) (start : Option Unit) (desk : DeskState) : Type 0 where
  pub is : desk ≡ desk_after_demand number (desk_at_subscribing closing order capacity)
  pub started : start ≡ None
  pub owing : owes desk ≡ true

-- it is so, whichever came first
pub new_desk : (closing : Option Ending) (order : ErrorOrder) (capacity number : ℕ) (feed after : DeskState) (start : Option Unit)
    → feed ≡ desk_after_demand number (desk_at_start order capacity)
    → ClosesNew end_of DoesCall closing feed start after → IsNewDesk closing order capacity number start after
new_desk None order capacity number feed after start is closes =
    let same : after ≡ desk_after_demand number (desk_at_start order capacity) = closes.1 ∙ is in
    record { is = same; started = closes.0; owing = ap owes same }
new_desk (Some ending) order capacity number feed after start is closes =
    let closed : after ≡ desk_after_demand number (desk_at_subscribing (Some ending) order capacity) =
    closes.1.first (ap (λ (d : DeskState). d.lane.causes.closing) is) ∙ ap (λ d. desk_after_signal d (lane_with_closing ending d.lane)) is in
    record { is = closed; started = none start closes.1.starts; owing = ap owes closed } where
      none : (start : Option Unit) → IsSome start ↔ ((feed.lane.causes.closing ≡ None) × Rests feed) → start ≡ None
      none None starts = refl
      none (Some task) starts =
          let rests = starts.0 (search rules) in
          let e : true ≡ false = sym (ap (λ (d : DeskState). d.started) is) ∙ rests.1.0 in
          cc

module _ (old new : Hub DeskState) (beginning : Beginning) (name : List ℕ) (number entry : ℕ) (feed : DeskState) (due : List (Work Unit)) (is : IsScriptHub old) (requested : feed ≡ desk_after_demand number (desk_at_start beginning.order old.capacity))
    (admits : Admits end_of DoesCall name feed None USUAL_LIVE entry [] due old new) where
  -- a script sees the same of the others
  seen_entries : map subscription_of admits.middle.entries.items ≡ map subscription_of old.entries.items
  seen_entries = (seen_same old admits.middle is admits.seen).same

  -- the desk of the new one
  desk : IsNewDesk old.ending beginning.order old.capacity number admits.start admits.after
  desk = new_desk old.ending beginning.order old.capacity number feed admits.after admits.start requested admits.closes

  -- it came as far
  admitted_as_far : CameAsFar old new
  admitted_as_far = ap (λ (h : HubState). h.progress) admits.rest

  -- nothing is due
  pub admitted_due : due ≡ []
  admitted_due = admits.due ∙ ap (λ start. work_of entry start) desk.started

  -- the subscriptions are those of a script
  admitted_entries : AreScriptEntries new.entries.items
  admitted_entries k other at = by (get_grown admits.middle.entries.items (first_entry name old.next admits.after None) k other (ap (λ xs. slice_get xs k) (sym admits.entries) ∙ at)) where
    by : (slice_get admits.middle.entries.items k ≡ Some other) ⊎ ((k ≡ length admits.middle.entries.items) × (first_entry name old.next admits.after None ≡ other)) → IsScriptEntry other
    by (inl before) = (seen_same old admits.middle is admits.seen).entries k other before
    by (inr last) = subst (λ (e : Entry DeskState). IsScriptEntry e) last.1 (record {
      desk = admits.after;
      there = refl;
      steady = ap (λ (d : DeskState). d.is_steady) desk.is ∙ steady old.ending;
      ended = λ retired. (let never : false ≡ true = retired in cc);
    }) where
      steady : (closing : Option Ending)
          → (desk_after_demand number (desk_at_subscribing closing beginning.order old.capacity)).is_steady ≡ true
      steady None = refl
      steady (Some ending) = refl

  -- and the publisher is a script's
  pub admitted_publisher : IsSound (hub_of end_of new) → IsScriptHub new
  admitted_publisher sound = script_publisher old new is sound admitted_as_far admitted_entries

  -- where the script stands then
  pub admitted_state : (stock : ℕ) (woken : List ℕ)
      → state_of new (stock - 1) (woken ++ entry ∷ []) beginning ≡ state_after_subscribing name number (state_of old stock woken beginning)
  admitted_state stock woken =
      let far = admitted_as_far in
      state_of_is new (stock - 1) (woken ++ entry ∷ []) beginning (state_after_subscribing name number (state_of old stock woken beginning)) (ap (λ (p : Progress). p.capacity) far) refl
      (ap (λ (p : Progress). p.ending) far) (ap (λ (p : Progress). p.next) far) refl grown (ap (λ numbers. woken ++ numbers) wakes) where
        without_looks : (closing : Option Ending)
            → desk_without_looks (desk_after_demand number (desk_at_subscribing closing beginning.order old.capacity)) ≡ desk_after_demand number (desk_at_subscribing closing beginning.order old.capacity)
        without_looks None = refl
        without_looks (Some ending) = refl

        seen_new : subscription_of (first_entry name old.next admits.after None) ≡ new_subscription (state_of old stock woken beginning) name number
        seen_new = ap (λ d. record { name = name; since = old.next; dropped = 0; desk = d }) (ap desk_without_looks desk.is ∙ without_looks old.ending)

        grown : map subscription_of new.entries.items ≡ map subscription_of old.entries.items ++ new_subscription (state_of old stock woken beginning) name number ∷ []
        grown =
            ap (λ xs. map subscription_of xs) admits.entries ∙ map-append subscription_of admits.middle.entries.items (first_entry name old.next admits.after None ∷ [])
            ∙ ap (λ xs. xs ++ subscription_of (first_entry name old.next admits.after None) ∷ []) seen_entries
            ∙ ap (λ s. map subscription_of old.entries.items ++ s ∷ []) seen_new

        owing : owes (new_subscription (state_of old stock woken beginning) name number).desk ≡ true
        owing = ap owes (sym desk.is) ∙ desk.owing

        wakes : entry ∷ [] ≡ newly_woken (map subscription_of old.entries.items) (map subscription_of old.entries.items ++ new_subscription (state_of old stock woken beginning) name number ∷ [])
        wakes =
            ap (λ n. n ∷ []) (admits.is_next ∙ sym (length-map old.entries.items subscription_of))
            ∙ sym (newly_woken_new (map subscription_of old.entries.items) (new_subscription (state_of old stock woken beginning) name number) owing)
