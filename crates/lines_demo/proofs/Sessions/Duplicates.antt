-- What a script sees if a second subscribing of a name is refused.
use Rattle.std.proofs.Common.{◌≡◌, ◌⊎◌, inl, inr, ℕ, zero, suc, ◌+◌, ◌≤◌, Bool, true, false, not, ◌&&◌, ◌||◌, if◌then◌else◌, Option, Some, List, [], ◌∷◌, ◌++◌, map, set, refl, sym, ap, subst, ◌∙◌, arith}
use Rattle.std.specs.Prelude.{slice_get, count_by}
use Rattle.std.specs.List.{list_any}
use Rattle.std.proofs.lemmas.Bool.{cases_eq}
use Rattle.std.proofs.lemmas.List.{map-set}
use Rattle.std.proofs.lemmas.List.Sums.{sum_by-cons}
use Rattle.std.proofs.lemmas.Option.{slice_get_within}
use Rattle.feed_core.specs.Desk.{desk_after_duplicate}
use Rattle.feed_core.specs.Feed.{DoesCall, end_of}
use Rattle.feed_core.specs.LaneCalls.{lane_with_duplicate}
use Rattle.publisher_hub.specs.Hub.{HubState, Progress, hub_of}
use Rattle.publisher_hub.specs.Gathering.{work_of}
use Rattle.publisher_hub.specs.Sound.{IsSound}
use Rattle.publisher_hub.specs.Subscribing.{Doubled, DoublesOne, IsPrepared}
use Rattle.publisher_hub.specs.declared.entry.Entry.{Entry}
use Rattle.publisher_hub.specs.declared.hub.Hub.{Hub}
use Rattle.publisher_hub.specs.declared.work.Work.{Work}
use Rattle.publisher_hub.proofs.AnswerLists.Updates.{get_elsewhere, get_there}
use Rattle.publisher_hub.proofs.PartialRounds.Next.{get_mapped}
use Rattle.publisher_hub.proofs.PartialRounds.Progress.{same_some}
use Rattle.lines_demo.specs.Prelude.{DeskState, owes}
use Rattle.commands.specs.Word.{is_word}
use Rattle.lines_demo.specs.Script.Kept.{IsReachable}
use Rattle.lines_demo.specs.Script.Session.{AreScriptEntries, IsScriptEntry, IsScriptHub, numbers_of, state_of, subscription_of}
use Rattle.lines_demo.specs.Script.State.{SubscriptionState}
use Rattle.lines_demo.specs.Script.Subscribing.{is_live_as, is_subscribed, state_after_duplicate, subscription_after_duplicate}
use Rattle.lines_demo.specs.Script.Waking.{is_live, newly_woken}
use Rattle.lines_demo.proofs.HubCalls.Looks.{same_desk, seen_with, with_desk}
use Rattle.lines_demo.proofs.Sessions.SeenPublishers.{CameAsFar, script_publisher, seen_as_far, seen_retired, seen_same, word_itself}
use Rattle.lines_demo.proofs.Sessions.States.{state_of_is}
use Rattle.lines_demo.proofs.Woken.Signals.{signal_wakes}
use Rattle.lines_demo.proofs.Woken.StartedNumbers.{newly_woken_one}
use Rattle.lines_demo.proofs.Woken.Lists.{bit}
use Rattle.lines_demo.specs.declared.script.session.beginning.Beginning.{Beginning}

-- ---- lists

-- a list in which nobody passes stays as it is
change_none : (test : SubscriptionState → Bool) (change : SubscriptionState → SubscriptionState) (xs : List SubscriptionState)
    → count_by test xs ≡ 0
    → map (λ s. if test s then change s else s) xs ≡ xs
change_none test change [] none = refl
change_none test change (x ∷ xs) none = by (test x) refl (change_none test change xs) where
  by : (passes : Bool) → test x ≡ passes → (count_by test xs ≡ 0 → map (λ s. if test s then change s else s) xs ≡ xs)
      → map (λ s. if test s then change s else s) (x ∷ xs) ≡ x ∷ xs
  by passes e later =
      let count : count_by test (x ∷ xs) ≡ bit passes + count_by test xs = sum_by-cons (λ t. if test t then 1 else 0) x xs ∙ ap (λ b. bit b + count_by test xs) e in
      split passes e count later where
        split : (passes : Bool) → test x ≡ passes → count_by test (x ∷ xs) ≡ bit passes + count_by test xs
            → (count_by test xs ≡ 0 → map (λ s. if test s then change s else s) xs ≡ xs)
            → map (λ s. if test s then change s else s) (x ∷ xs) ≡ x ∷ xs
        split true e count later = absurd (omega (arith, none, count))
        split false e count later = ap (λ b. (if b then change x else x) ∷ map (λ s. if test s then change s else s) xs) e ∙ ap (λ ys. x ∷ ys) (later (omega (arith, none, count)))

-- if at most one passes, and this one does, just this one is changed
change_one : (test : SubscriptionState → Bool) (change : SubscriptionState → SubscriptionState) (xs : List SubscriptionState) (place : ℕ) (s : SubscriptionState) → slice_get xs place ≡ Some s → test s ≡ true
    → count_by test xs ≤ 1 → map (λ t. if test t then change t else t) xs ≡ set xs place (change s)
change_one test change [] place s at passes one = cc
change_one test change (x ∷ xs) zero s at passes one =
    let same : x ≡ s = same_some at in
    let here : test x ≡ true = ap test same ∙ passes in
    let count : count_by test (x ∷ xs) ≡ 1 + count_by test xs = sum_by-cons (λ t. if test t then 1 else 0) x xs ∙ ap (λ b. bit b + count_by test xs) here in
    ap (λ b. (if b then change x else x) ∷ map (λ t. if test t then change t else t) xs) here
    ∙ ap (λ y. change y ∷ map (λ t. if test t then change t else t) xs) same
    ∙ ap (λ ys. change s ∷ ys) (change_none test change xs (omega (arith, one, count)))
change_one test change (x ∷ xs) (suc place) s at passes one = by (test x) refl (change_one test change xs place s at passes) where
  count : (b : Bool) → test x ≡ b → count_by test (x ∷ xs) ≡ bit b + count_by test xs
  count b e = sum_by-cons (λ t. if test t then 1 else 0) x xs ∙ ap (λ c. bit c + count_by test xs) e

  by : (b : Bool) → test x ≡ b → (count_by test xs ≤ 1 → map (λ t. if test t then change t else t) xs ≡ set xs place (change s))
      → map (λ t. if test t then change t else t) (x ∷ xs) ≡ x ∷ set xs place (change s)
  by true e later =
      let parts = count true e in
      let some : 1 ≤ count_by test xs = some_passes xs place s at passes in
      absurd (omega (arith, one, parts, some)) where
        some_passes : (ys : List SubscriptionState) (k : ℕ) (t : SubscriptionState) → slice_get ys k ≡ Some t → test t ≡ true
            → 1 ≤ count_by test ys
        some_passes [] k t at holds = cc
        some_passes (y ∷ ys) zero t at holds =
            let same : y ≡ t = same_some at in
            let parts : count_by test (y ∷ ys) ≡ 1 + count_by test ys = sum_by-cons (λ t. if test t then 1 else 0) y ys ∙ ap (λ c. bit c + count_by test ys) (ap test same ∙ holds) in
            omega (arith, parts)
        some_passes (y ∷ ys) (suc k) t at holds =
            let parts : count_by test (y ∷ ys) ≡ bit (test y) + count_by test ys = sum_by-cons (λ t. if test t then 1 else 0) y ys in
            let more = some_passes ys k t at holds in
            omega (arith, parts, more)
  by false e later =
      let parts = count false e in
      ap (λ b. (if b then change x else x) ∷ map (λ t. if test t then change t else t) xs) e ∙ ap (λ ys. x ∷ ys) (later (omega (arith, one, parts)))

-- one that passes is found
found_any : (test : SubscriptionState → Bool) (xs : List SubscriptionState) (place : ℕ) (s : SubscriptionState)
    → slice_get xs place ≡ Some s → test s ≡ true → list_any test xs ≡ true
found_any test [] place s at passes = cc
found_any test (x ∷ xs) zero s at passes = ap (λ b. b || list_any test xs) (ap test (same_some {a = x} {b = s} at) ∙ passes)
found_any test (x ∷ xs) (suc place) s at passes = ap (λ b. test x || b) (found_any test xs place s at passes) ∙ or_true (test x) where
  or_true : (b : Bool) → (b || true) ≡ true
  or_true true = refl
  or_true false = refl

-- if one of them is replaced by one of a script, all are those of a script
pub set_entries : (xs : List (Entry DeskState)) (place : ℕ) (before after : Entry DeskState) → AreScriptEntries xs
    → slice_get xs place ≡ Some before → IsScriptEntry after → AreScriptEntries (set xs place after)
set_entries xs place before after are stands is = λ k entry at. by k entry at (cases_eq place k) where
  by : (k : ℕ) (entry : Entry DeskState) → slice_get (set xs place after) k ≡ Some entry → (place ≡ k) ⊎ (place ≡ k → ⊥)
      → IsScriptEntry entry
  by k entry at (inl same) =
      let here : slice_get (set xs place after) k ≡ Some after = ap (λ j. slice_get (set xs place after) j) (sym same) ∙ get_there xs place after (slice_get_within xs place before stands) in
      subst (λ (e : Entry DeskState). IsScriptEntry e) (same_some (sym here ∙ at)) is
  by k entry at (inr other) = are k entry (sym (get_elsewhere xs place k after other) ∙ at)

-- ---- the one that is told

-- a subscription that is told keeps its desk, with the error as a cause
told_desk : (start : Option Unit) (old new : Entry DeskState) → Doubled end_of DoesCall start old new
    → subscription_of new ≡ record (subscription_of old) { desk = desk_after_duplicate (subscription_of old).desk }
told_desk start old new told =
    let before : DeskState = told.before in
    let after : DeskState = told.after in
    let is : after ≡ desk_after_duplicate before = told.exact.marked in
    let seen_old = seen_with old before told.was in
    ap subscription_of told.now ∙ ap (λ d. with_desk old d) is
    ∙ ap (λ (s : SubscriptionState). record { name = s.name; since = s.since; dropped = s.dropped; desk = desk_after_duplicate s.desk }) (sym seen_old)

-- it stays one of a script
told_entry : (start : Option Unit) (old new : Entry DeskState) → IsScriptEntry old → Doubled end_of DoesCall start old new
    → IsScriptEntry new
told_entry start old new is told = subst (λ (e : Entry DeskState). IsScriptEntry e) (sym told.now) (record {
  desk = told.after;
  there = refl;
  steady = ap (λ (d : DeskState). d.is_steady) told.exact.marked ∙ ap (λ (d : DeskState). d.is_steady) (sym (same_desk old told.before is told.was)) ∙ is.steady;
  ended = λ retired. (let never : false ≡ true = sym told.live ∙ retired in cc);
})

-- its task starts if it was at rest
told_starts : (number : ℕ) (start : Option Unit) (old new : Entry DeskState) → Doubled end_of DoesCall start old new
    → numbers_of (work_of number start) ≡ (if owes (desk_after_duplicate (subscription_of old).desk) && not (owes (subscription_of old).desk) then number ∷ [] else [])
told_starts number start old new told =
    let before : DeskState = told.before in
    signal_wakes before (lane_with_duplicate before.lane) number start refl told.exact.starts
    ∙ ap (λ (s : SubscriptionState). if owes (desk_after_duplicate s.desk) && not (owes s.desk) then number ∷ [] else []) (sym (seen_with old before told.was))

-- ---- the publisher

module _ (old middle new : Hub DeskState) (name : List ℕ) (due : List (Work Unit)) (is : IsScriptHub old) (seen : IsPrepared end_of DoesCall old middle) (tells : DoublesOne end_of DoesCall name [] due middle new) where
  -- the one that is told
  abbrev one : Entry DeskState
  one = tells.doubles.before

  -- it is live
  one_lives : is_live (subscription_of one) ≡ true
  one_lives = by (is_live (subscription_of one)) refl where
    by : (live : Bool) → is_live (subscription_of one) ≡ live → live ≡ true
    by true e = refl
    by false e = let never : false ≡ true = sym tells.doubles.doubled.live ∙ seen_retired old middle is seen tells.number one tells.doubles.there ∙ ap not e in cc

  -- and has the name
  one_named : is_live_as name (subscription_of one) ≡ true
  one_named =
      let same : tells.named.0 ≡ one = same_some (sym tells.named.1.0 ∙ tells.doubles.there) in
      let named : one.name ≡ name = ap (λ (e : Entry DeskState). e.name) (sym same) ∙ tells.named.1.1 in
      ap (λ b. b && is_word one.name name) one_lives ∙ word_itself one.name name named

  -- a script sees it at its place
  one_at : slice_get (map subscription_of old.entries.items) tells.number ≡ Some (subscription_of one)
  one_at =
      ap (λ subscriptions. slice_get subscriptions tells.number) (sym (seen_same old middle is seen).same)
      ∙ get_mapped subscription_of middle.entries.items tells.number one tells.doubles.there

  -- it came as far
  told_as_far : CameAsFar old new
  told_as_far = ap (λ (h : HubState). h.progress) tells.doubles.rest ∙ seen_as_far old middle seen

  -- a live subscription has the name
  pub told_subscribed : is_subscribed name (map subscription_of old.entries.items) ≡ true
  told_subscribed = found_any (is_live_as name) (map subscription_of old.entries.items) tells.number (subscription_of one) one_at one_named

  -- the subscriptions are those of a script
  told_entries : AreScriptEntries new.entries.items
  told_entries =
      let seen_entries = (seen_same old middle is seen).entries in
      subst (λ (xs : List (Entry DeskState)). AreScriptEntries xs) (sym tells.doubles.entries) (set_entries middle.entries.items tells.number one tells.doubles.after seen_entries tells.doubles.there
      (told_entry tells.doubles.start one tells.doubles.after (seen_entries tells.number one tells.doubles.there) tells.doubles.doubled))

  -- and the publisher is a script's
  pub told_publisher : IsSound (hub_of end_of new) → IsScriptHub new
  told_publisher sound = script_publisher old new is sound told_as_far told_entries

  -- what a script sees of the subscriptions
  told_subscriptions : count_by (is_live_as name) (map subscription_of old.entries.items) ≤ 1
      → map subscription_of new.entries.items ≡ map (subscription_after_duplicate name) (map subscription_of old.entries.items)
  told_subscriptions most =
      let before = map subscription_of old.entries.items in
      let change : SubscriptionState → SubscriptionState = λ s. record s { desk = desk_after_duplicate s.desk } in
      ap (λ xs. map subscription_of xs) tells.doubles.entries ∙ map-set subscription_of middle.entries.items tells.number tells.doubles.after
      ∙ ap (λ xs. set xs tells.number (subscription_of tells.doubles.after)) (seen_same old middle is seen).same
      ∙ ap (λ s. set before tells.number s) (told_desk tells.doubles.start one tells.doubles.after tells.doubles.doubled)
      ∙ sym (change_one (is_live_as name) change before tells.number (subscription_of one) one_at one_named most)

  -- whom it wakes
  told_woken : count_by (is_live_as name) (map subscription_of old.entries.items) ≤ 1
      → numbers_of due ≡ newly_woken (map subscription_of old.entries.items) (map (subscription_after_duplicate name) (map subscription_of old.entries.items))
  told_woken most =
      let before = map subscription_of old.entries.items in
      let change : SubscriptionState → SubscriptionState = λ s. record s { desk = desk_after_duplicate s.desk } in
      ap numbers_of tells.doubles.due ∙ told_starts tells.number tells.doubles.start one tells.doubles.after tells.doubles.doubled
      ∙ sym (newly_woken_one before tells.number (subscription_of one) (change (subscription_of one)) one_at)
      ∙ ap (λ xs. newly_woken before xs) (sym (change_one (is_live_as name) change before tells.number (subscription_of one) one_at one_named most))

  -- where the script stands then
  pub told_state : (stock : ℕ) (woken : List ℕ) (beginning : Beginning) → IsReachable (state_of old stock woken beginning)
      → state_of new stock (woken ++ numbers_of due) beginning ≡ state_after_duplicate name (state_of old stock woken beginning)
  told_state stock woken beginning reached =
      let before = map subscription_of old.entries.items in
      let most : count_by (is_live_as name) before ≤ 1 = reached.1.names name in
      let far = told_as_far in
      state_of_is new stock (woken ++ numbers_of due) beginning (state_after_duplicate name (state_of old stock woken beginning)) (ap (λ (p : Progress). p.capacity) far) refl (ap (λ (p : Progress). p.ending) far)
      (ap (λ (p : Progress). p.next) far) refl (told_subscriptions most) (ap (λ numbers. woken ++ numbers) (told_woken most))
