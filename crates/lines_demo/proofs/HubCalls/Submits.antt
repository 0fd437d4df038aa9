-- Submissions to a script's publisher, whole.
use Rattle.std.proofs.Common.{◌≡◌, ◌==◌, ◌⊎◌, inl, inr, ℕ, ◌+◌, ◌<◌, ◌≤◌, Bool, true, false, not, ◌&&◌, ◌||◌, nat_lt, if◌then◌else◌, Option, None, Some, List, [], ◌∷◌, ◌++◌, length, map, fold, max, refl, sym, ap, subst, ◌∙◌, arith}
use Rattle.std.specs.Prelude.{All, count_by, is_some, option_map, slice_get}
use Rattle.std.specs.List.{list_any}
use Rattle.std.proofs.lemmas.Bool.Decides.{nat_tests}
use Rattle.std.proofs.lemmas.List.{length-append}
use Rattle.std.proofs.lemmas.List.Elements.{All-head, All-tail}
use Rattle.std.proofs.lemmas.List.Sums.{sum_by-cons}
use Rattle.flow_rules.specs.declared.feed.standing.Standing.{Standing}
use Rattle.feed_core.specs.Desk.{desk_after_look}
use Rattle.feed_core.specs.Feed.{DoesCall, end_of}
use Rattle.feed_core.specs.LaneCalls.{accepts, lane_with_item}
use Rattle.publisher_hub.specs.Hub.{hub_of}
use Rattle.publisher_hub.specs.Lists.{EachBy}
use Rattle.publisher_hub.specs.Looking.{Prepares, full, full_by}
use Rattle.publisher_hub.specs.Gathering.{started}
use Rattle.publisher_hub.specs.Publishing.{PublishesOne, PublishesTexts, RefusesOffer, RefusesTexts}
use Rattle.publisher_hub.specs.Sound.{IsSound}
use Rattle.publisher_hub.specs.declared.entry.Entry.{Entry}
use Rattle.publisher_hub.specs.declared.hub.Hub.{Hub}
use Rattle.publisher_hub.specs.declared.hub.publish.Publication.{Publication}
use Rattle.publisher_hub.specs.declared.hub.publish.Unpublished.TheVariants.{NoRoom, Refused}
use Rattle.publisher_hub.specs.declared.policy.Need.TheVariants as Need
use Rattle.publisher_hub.specs.declared.work.Work.{Work}
use Rattle.publisher_hub.proofs.PartialRounds.Progress.{same_some}
use Rattle.publisher_hub.proofs.Publications.WholePublication.{below_most, known_of}
use Rattle.lines_demo.specs.Prelude.{Item, Ending, How, Refusal, DeskState, is_gone, lag_of}
use Rattle.lines_demo.specs.Script.Publishing.{drop_count, greatest_lag, is_full, lag_with, next_item, publication_refusal, refusal_or_wait, submit_refusal, subscription_after_offer}
use Rattle.lines_demo.specs.Script.Session.{IsScriptEntry, IsScriptHub, desk_in, numbers_of, state_of, subscription_of}
use Rattle.lines_demo.specs.Script.State.{SubscriptionState}
use Rattle.lines_demo.specs.Script.Waking.{newly_woken}
use Rattle.lines_demo.specs.declared.script.session.publishing.TheConstants.{SOURCE}
use Rattle.lines_demo.proofs.HubCalls.Looks.{ListSeesSame, prepared_all_same}
use Rattle.lines_demo.proofs.HubCalls.Offers.{HubPublished, hub_published, looked_as_far, next_item_is, nothing_against, offer_refused, unclosed_entries}
use Rattle.lines_demo.proofs.HubCalls.OfferedLists.{AllOffered, all_offered, count_gathered, may_all_be_offered}
use Rattle.lines_demo.proofs.Sessions.SeenPublishers.{CameAsFar}
use Rattle.lines_demo.proofs.Woken.Lists.{bit}
use Rattle.lines_demo.specs.declared.script.session.beginning.Beginning.{Beginning}

-- ---- whether anybody has no room

-- as many pass a test as are counted
some_passes : {X : Type 0} (test : X → Bool) (xs : List X) → 0 < count_by test xs → list_any test xs ≡ true
some_passes test [] some = absurd (omega arith)
some_passes test (x ∷ xs) some = by (test x) refl (some_passes test xs) where
  whole : count_by test (x ∷ xs) ≡ bit (test x) + count_by test xs
  whole = sum_by-cons (λ t. if test t then 1 else 0) x xs

  by : (holds : Bool) → test x ≡ holds → (0 < count_by test xs → list_any test xs ≡ true) → (holds || list_any test xs) ≡ true
  by true e later = refl
  by false e later = (let none = ap bit e in let counted = whole in later (omega (arith, some, counted, none)))

none_passes : {X : Type 0} (test : X → Bool) (xs : List X) → count_by test xs ≡ 0 → list_any test xs ≡ false
none_passes test [] none = refl
none_passes test (x ∷ xs) none =
    let whole : count_by test (x ∷ xs) ≡ bit (test x) + count_by test xs = sum_by-cons (λ t. if test t then 1 else 0) x xs in
    ap (λ b. b || list_any test xs) (fails (test x) (omega (arith, none, whole))) ∙ none_passes test xs (omega (arith, none, whole)) where
      fails : (holds : Bool) → bit holds ≡ 0 → holds ≡ false
      fails true e = absurd (omega arith)
      fails false e = refl

-- a look shows that a buffer has no room if it has none
full_or_not : (how : Option How) (closing : Option Ending) (lag capacity place : ℕ) → closing ≡ None → lag ≤ capacity
    → (if is_some how || nat_lt lag capacity then [] else place ∷ []) ≡ (if not (is_some how || is_some closing) && (lag == capacity) then place ∷ [] else [])
full_or_not (Some how) closing lag capacity place unclosed fits = refl
full_or_not None closing lag capacity place unclosed fits = by (lag == capacity) refl ∙ ap (λ (c : Option Ending). if not (is_some c) && (lag == capacity) then place ∷ [] else []) (sym unclosed) where
  by : (same : Bool) → (lag == capacity) ≡ same
      → (if nat_lt lag capacity then [] else place ∷ []) ≡ (if lag == capacity then place ∷ [] else [])
  by true e =
      let test : nat_lt lag capacity ≡ false = grind (arith, nat_tests) in
      ap (λ b. if b then [] else place ∷ []) test ∙ ap (λ b. if b then place ∷ [] else []) (sym e)
  by false e =
      let test : nat_lt lag capacity ≡ true = grind (arith, nat_tests) in
      ap (λ b. if b then [] else place ∷ []) test ∙ ap (λ b. if b then place ∷ [] else []) (sym e)

full_entry : (capacity next : ℕ) (glance : Option Standing) (x y : Entry DeskState) → IsScriptEntry x
    → (desk_in x.feed).lane.causes.closing ≡ None → (desk_in x.feed).capacity ≡ capacity
    → Prepares end_of DoesCall next glance x y → (place : ℕ) → full_by capacity place glance ≡ (if is_full (subscription_of x) then place ∷ [] else [])
full_entry capacity next None x y is unclosed sized stays place =
    let gone : is_gone (desk_in x.feed).lane ≡ true =
    ap (λ (closing : Option Ending). is_some (desk_in x.feed).lane.how || is_some closing) unclosed ∙ ended_too (is_some (desk_in x.feed).lane.how) (ap (λ feed. is_some (desk_in feed).lane.how) is.there ∙ is.ended stays.0) in
    ap (λ g. if not g && (lag_of (desk_in x.feed).lane == (desk_in x.feed).capacity) then place ∷ [] else []) (sym gone) where
      ended_too : (b : Bool) → b ≡ true → (b || false) ≡ true
      ended_too true e = refl
      ended_too false e = cc
full_entry capacity next (Some standing) x y is unclosed sized sees place =
    ap (λ b. if b || nat_lt standing.held capacity then [] else place ∷ []) ended ∙ ap (λ n. if is_some (desk_in x.feed).lane.how || nat_lt n capacity then [] else place ∷ []) held
    ∙ full_or_not (desk_in x.feed).lane.how (desk_in x.feed).lane.causes.closing (lag_of (desk_in x.feed).lane) capacity place unclosed (subst (λ n. lag_of (desk_in x.feed).lane ≤ n) sized fits)
    ∙ ap (λ n. if not (is_gone (desk_in x.feed).lane) && (lag_of (desk_in x.feed).lane == n) then place ∷ [] else []) (sym sized) where
      before : DeskState
      before = sees.sees.before

      before_is : desk_in x.feed ≡ before
      before_is = ap desk_in sees.sees.was

      ended : standing.ended ≡ is_some (desk_in x.feed).lane.how
      ended = sees.sees.stands.exact.ended ∙ ap (λ (d : DeskState). is_some d.lane.how) (sym before_is)

      held : standing.held ≡ lag_of (desk_in x.feed).lane
      held = sees.sees.stands.exact.held ∙ ap (λ (d : DeskState). lag_of d.lane) (sym before_is)

      fits : lag_of (desk_in x.feed).lane ≤ (desk_in x.feed).capacity
      fits =
          let look = sees.sees.stands.look.fits in
          let after_is : sees.sees.after ≡ desk_after_look (desk_in x.feed) = sees.sees.stands.exact.looked ∙ ap desk_after_look (sym before_is) in
          let few : length (desk_in x.feed).lane.accepted ≤ (desk_in x.feed).lane.given + (desk_in x.feed).capacity =
          subst (λ (d : DeskState). length d.lane.accepted ≤ d.lane.given + d.capacity) after_is look in
          omega arith

-- the capacity of each open subscription is the publisher's
sized_entries : (old : Hub DeskState) → IsScriptHub old → old.ending ≡ None → (k : ℕ) (x : Entry DeskState)
    → slice_get old.entries.items k ≡ Some x → (desk_in x.feed).capacity ≡ old.capacity
sized_entries old is unclosed k x at =
    let entry = is.entries k x at in
    ap (λ feed. (desk_in feed).capacity) entry.there
    ∙ (known_of {T = Unit} end_of DoesCall (hub_of end_of old) old.entries.items is.sound refl unclosed k x at (end_of entry.desk) (ap (λ feed. option_map end_of feed) entry.there)).1

-- looks show as many full buffers as there are
full_counted : (old : Hub DeskState) (glances : List (Option Standing)) (ys : List (Entry DeskState)) → IsScriptHub old
    → old.ending ≡ None → EachBy (Prepares end_of DoesCall old.next) glances old.entries.items ys
    → length (full old.capacity glances) ≡ drop_count (map subscription_of old.entries.items)
full_counted old glances ys is unclosed looked =
    count_gathered (full_by old.capacity) is_full subscription_of (Prepares end_of DoesCall old.next) glances old.entries.items ys looked
    (λ k glance x y at prepares place. full_entry old.capacity old.next glance x y (is.entries k x at) (unclosed_entries old is unclosed k x at) (sized_entries old is unclosed k x at) prepares place) 0

-- ---- what is not submitted

-- an item was not submitted: nothing that a script sees has changed, and it says why
pub record SubmitRefused (old new : Hub DeskState) (refusal : Refusal) : Type 0 where
  pub far : CameAsFar old new
  pub sees : ListSeesSame old.entries.items new.entries.items
  pub why : (stock : ℕ) (woken : List ℕ) (beginning : Beginning)
      → (refusal ≡ Refusal.NoMemory) ⊎ (submit_refusal (state_of old stock woken beginning) ≡ Some refusal)

pub submit_refused : (old new : Hub DeskState) (refusal : Refusal) → IsScriptHub old
    → RefusesTexts end_of DoesCall Need.All old new (Refused refusal) → SubmitRefused old new refusal
submit_refused old new refusal is refuses =
    let plain : RefusesOffer end_of DoesCall old new refusal = record { unchanged = refuses.unchanged; why = refuses.why } in
    let refused = offer_refused old new refusal is plain in
    record { far = refused.far; sees = refused.sees; why = λ stock woken beginning. by stock woken beginning (refused.why stock woken beginning) } where
      by : (stock : ℕ) (woken : List ℕ) (beginning : Beginning)
          → (refusal ≡ Refusal.NoMemory) ⊎ (publication_refusal (state_of old stock woken beginning) ≡ Some refusal)
          → (refusal ≡ Refusal.NoMemory) ⊎ (submit_refusal (state_of old stock woken beginning) ≡ Some refusal)
      by stock woken beginning (inl memory) = inl memory
      by stock woken beginning (inr why) = inr (ap (λ (r : Option Refusal). refusal_or_wait r (list_any is_full (map subscription_of old.entries.items))) why)

-- a submission would wait if any buffer is full
pub submit_waits : (old new : Hub DeskState) → IsScriptHub old
    → RefusesTexts end_of DoesCall Need.All old new NoRoom → SubmitRefused old new Refusal.WouldWait
submit_waits old new is refuses =
    let open_still = refuses.why.0 in
    let glances = refuses.why.1.0 in
    let prepared = refuses.why.1.1.0 in
    let some : 0 < length (full old.capacity glances) = refuses.why.1.1.1 in
    let counted = full_counted old glances new.entries.items is open_still.0 prepared in
    let waits : list_any is_full (map subscription_of old.entries.items) ≡ true = some_passes is_full (map subscription_of old.entries.items) (omega arith) in
    record {
      far = looked_as_far old new refuses.unchanged;
      sees = prepared_all_same old.next glances old.entries.items new.entries.items is.entries prepared;
      why = λ stock woken beginning. inr (
          ap (λ (r : Option Refusal). refusal_or_wait r (list_any is_full (map subscription_of old.entries.items))) (nothing_against old stock woken beginning open_still.0 (below_most old.next is.sound.few_items open_still.1))
          ∙ ap (refusal_or_wait None) waits
          );
    }

-- ---- what is submitted

-- an item was submitted to all: a script stands where a publication leaves it, and that is the lag
pub record HubSubmitted (text : List ℕ) (old new : Hub DeskState) (due : List (Work Unit)) (lag : ℕ) : Type 0 where
  pub published : HubPublished text old new due
  pub allowed : (stock : ℕ) (woken : List ℕ) (beginning : Beginning) → submit_refusal (state_of old stock woken beginning) ≡ None
  pub answers : (stock : ℕ) (woken : List ℕ) (beginning : Beginning)
      → lag ≡ greatest_lag (next_item (state_of old stock woken beginning) text) (map subscription_of old.entries.items)

submitted_alone : (text : List ℕ) (old new : Hub DeskState) (due_old due : List (Work Unit)) (publication : Publication) → IsScriptHub old → due_old ≡ []
    → IsSound (hub_of end_of new)
    → PublishesOne end_of DoesCall Need.All SOURCE (text ∷ []) old new due_old due publication → HubSubmitted text old new due publication.lag
submitted_alone text old new due_old due publication is no_due sound p = record {
  published = published;
  allowed = λ stock woken beginning.
      ap (λ (r : Option Refusal). refusal_or_wait r (list_any is_full (map subscription_of old.entries.items))) (published.allowed stock woken beginning)
      ∙ ap (refusal_or_wait None) (none_passes is_full (map subscription_of old.entries.items) (sym (first.missed ∙ ap drop_count looked.same) ∙ ap length (p.no_drop refl)));
  answers = λ stock woken beginning.
      p.greatest_lag ∙ first.lag ∙ ap (greatest_lag p.item) looked.same ∙ ap (λ i. greatest_lag i (map subscription_of old.entries.items)) (next_item_is old p.item text is p.reaches.next p.from words);
} where
  words : p.item.text ≡ text
  words = sym (same_some p.words)

  looked : ListSeesSame old.entries.items p.middle
  looked = prepared_all_same old.next p.glances old.entries.items p.middle is.entries p.looked

  first : AllOffered p.item p.puts p.middle new.entries.items
  first = all_offered p.item p.puts p.middle new.entries.items (may_all_be_offered old.next p.glances old.entries.items p.middle is.entries (unclosed_entries old is p.reaches.next.unclosed) p.looked) p.each_put

  due_is : due ≡ started p.puts
  due_is = p.due ∙ ap (λ before. before ++ started p.puts) no_due

  published : HubPublished text old new due
  published = hub_published text old new p.item due is sound p.from words p.reaches
      (first.same ∙ ap (map (λ s. subscription_after_offer p.item s)) looked.same)
      first.entries
      (ap numbers_of due_is ∙ first.started ∙ ap (λ before. newly_woken before (map subscription_of new.entries.items)) looked.same)

pub hub_submitted : (text : List ℕ) (old new : Hub DeskState) (due_old due : List (Work Unit)) (publication : Publication) → IsScriptHub old → due_old ≡ []
    → IsSound (hub_of end_of new)
    → PublishesTexts end_of DoesCall Need.All SOURCE (text ∷ []) old new due_old due publication → HubSubmitted text old new due publication.lag
hub_submitted text old new due_old due publication is no_due sound (inl alone) = submitted_alone text old new due_old due publication is no_due sound alone.1
hub_submitted text old new due_old due publication is no_due sound (inr at_once) =
    let several : 1 < 1 = at_once.0.1 in absurd (omega arith)

-- ---- how great a lag is

-- a lag is at most one more than what was accepted
lag_few : (item : Item) (s : SubscriptionState) (most : ℕ) → length s.desk.lane.accepted < most → lag_with item s ≤ most
lag_few item s most few = by (accepts s.desk.capacity s.desk.lane) where
  by : (takes : Bool) → (if takes then lag_of (lane_with_item item s.desk.lane) else 0) ≤ most
  by true = let long = length-append s.desk.lane.accepted (item ∷ []) in omega arith
  by false = omega arith

pub greatest_lag_few : (item : Item) (subscriptions : List SubscriptionState) (most from : ℕ) → from ≤ most
    → All (λ s. length s.desk.lane.accepted < most) subscriptions
    → fold max from (map (lag_with item) subscriptions) ≤ most
greatest_lag_few item [] most from low few = low
greatest_lag_few item (s ∷ later) most from low few =
    let first = lag_few item s most (All-head (λ (t : SubscriptionState). length t.desk.lane.accepted < most) s later few) in
    greatest_lag_few item later most (max from (lag_with item s)) (omega arith) (All-tail (λ (t : SubscriptionState). length t.desk.lane.accepted < most) s later few)
