-- Publications of a script's publisher, whole.
use Rattle.std.proofs.Common.{◌≡◌, ◌⊎◌, inl, inr, ℕ, zero, suc, ◌+◌, ◌<◌, Bool, true, false, nat_le, ℤ, Option, None, Some, option_map, List, [], ◌∷◌, ◌++◌, length, map, refl, sym, ap, subst, ◌∙◌, arith}
use Rattle.std.specs.Prelude.{slice_get, slice_set}
use Rattle.std.proofs.lemmas.Bool.Decides.{nat_tests}
use Rattle.std.proofs.lemmas.List.{append-nil}
use Rattle.flow_rules.specs.declared.feed.standing.Standing.{Standing}
use Rattle.flow_rules.specs.declared.item.TheConstants.{MOST_PUBLICATIONS}
use Rattle.feed_core.specs.Feed.{DoesCall, end_of}
use Rattle.feed_core.specs.LaneCalls.{IsCapacity}
use Rattle.publisher_hub.specs.Hub.{HubState, hub_of}
use Rattle.publisher_hub.specs.Lists.{EachBy, greatest}
use Rattle.publisher_hub.specs.Looking.{IsLookedAt, Prepares}
use Rattle.publisher_hub.specs.Gathering.{dropped, lags, lags_again, started, started_again}
use Rattle.publisher_hub.specs.Offering.{IsNextItem, ReachesAll}
use Rattle.publisher_hub.specs.Publishing as Publishing
use Rattle.publisher_hub.specs.Publishing.{IsRefused, OffersItem, RefusesOffer, WhyNotOffered}
use Rattle.publisher_hub.specs.Sound.{IsSound}
use Rattle.publisher_hub.specs.declared.entry.Entry.{Entry}
use Rattle.publisher_hub.specs.declared.hub.Hub.{Hub}
use Rattle.publisher_hub.specs.declared.work.Work.{Work}
use Rattle.publisher_hub.proofs.Publications.WholePublication.{known_of}
use Rattle.lines_demo.specs.Prelude.{Item, Refusal, DeskState}
use Rattle.lines_demo.specs.Script.Publishing.{drop_count, drops_or_lag, greatest_lag, next_item, offer_answer, publication_refusal, state_after_publication, subscription_after_offer}
use Rattle.lines_demo.specs.Script.Session.{AreScriptEntries, IsScriptHub, desk_in, numbers_of, state_of, subscription_of}
use Rattle.lines_demo.specs.Script.Waking.{newly_woken}
use Rattle.lines_demo.specs.declared.script.session.publishing.TheConstants.{SOURCE}
use Rattle.lines_demo.proofs.HubCalls.Looks.{ListSeesSame, may_prepare_all_same, prepared_all_same}
use Rattle.lines_demo.proofs.HubCalls.OfferedLists.{AllOffered, AllStay, all_offered, all_stay, may_all_be_offered}
use Rattle.lines_demo.proofs.Sessions.SeenPublishers.{CameAsFar}
use Rattle.lines_demo.proofs.Sessions.States.{state_of_is}
use Rattle.lines_demo.specs.declared.script.session.beginning.Beginning.{Beginning}

-- ---- the item and the numbers

-- the publisher's next item is the script's
pub next_item_is : (old : Hub DeskState) (item : Item) (text : List ℕ) → IsScriptHub old → IsNextItem (hub_of end_of old).progress item
    → item.source ≡ SOURCE → item.text ≡ text
    → item ≡ record { source = 0; seq = old.next; serial = old.next; text = text }
next_item_is old item text is next from words =
    ap (λ source. record item { source = source }) from ∙ ap (λ seq. record item { source = 0; seq = seq }) seq
    ∙ ap (λ serial. record item { source = 0; seq = old.next; serial = serial }) next.serial ∙ ap (λ words. record item { source = 0; seq = old.next; serial = old.next; text = words }) words where
      same_number : {a b : ℕ} → Some a ≡ Some b → a ≡ b
      same_number e = cc

      seq : item.seq ≡ old.next
      seq = same_number (sym next.seq ∙ ap (λ source. slice_get old.counts.items source) from ∙ is.numbered)

-- what was set at a place stands there
set_stands : (numbers : List ℕ) (place value there : ℕ) → slice_get numbers place ≡ Some there
    → slice_get (slice_set numbers place value) place ≡ Some value
set_stands [] place value there at = cc
set_stands (first ∷ numbers) zero value there at = refl
set_stands (first ∷ numbers) (suc place) value there at = set_stands numbers place value there at

-- ---- why nothing is published

-- if the publisher takes items, so does the script
pub nothing_against : (old : Hub DeskState) (stock : ℕ) (woken : List ℕ) (beginning : Beginning) → old.ending ≡ None
    → old.next < MOST_PUBLICATIONS → publication_refusal (state_of old stock woken beginning) ≡ None
nothing_against old stock woken beginning unclosed few =
    let test : nat_le MOST_PUBLICATIONS old.next ≡ false = grind (arith, nat_tests) in
    rw (unclosed, test) refl

-- why the publisher takes none is why the script publishes none
pub refused_as : (old : Hub DeskState) (stock : ℕ) (woken : List ℕ) (beginning : Beginning) (refusal : Refusal)
    → IsRefused (hub_of end_of old).progress (Some refusal)
    → publication_refusal (state_of old stock woken beginning) ≡ Some refusal
refused_as old stock woken beginning (Refusal.Closed ending) why = rw why refl
refused_as old stock woken beginning Refusal.Exhausted why =
    let last = why.1 in
    let test : nat_le MOST_PUBLICATIONS old.next ≡ true = grind (arith, nat_tests) in
    rw (why.0, test) refl
refused_as old stock woken beginning Refusal.BadCapacity why = absurd why
refused_as old stock woken beginning Refusal.Duplicate why = absurd why
refused_as old stock woken beginning Refusal.TooMany why = absurd why
refused_as old stock woken beginning Refusal.NoMemory why = absurd why
refused_as old stock woken beginning Refusal.LineTooLong why = absurd why
refused_as old stock woken beginning Refusal.BadWorkers why = absurd why
refused_as old stock woken beginning (Refusal.StillHeld name) why = absurd why
refused_as old stock woken beginning (Refusal.Unsettled names) why = absurd why
refused_as old stock woken beginning Refusal.Unknown why = absurd why
refused_as old stock woken beginning Refusal.WouldWait why = absurd why
refused_as old stock woken beginning Refusal.BadCommand why = absurd why

-- an item was not offered: nothing that a script sees has changed, and it says why
pub record OfferRefused (old new : Hub DeskState) (refusal : Refusal) : Type 0 where
  pub far : CameAsFar old new
  pub sees : ListSeesSame old.entries.items new.entries.items
  pub why : (stock : ℕ) (woken : List ℕ) (beginning : Beginning)
      → (refusal ≡ Refusal.NoMemory) ⊎ (publication_refusal (state_of old stock woken beginning) ≡ Some refusal)

-- looks publish nothing
pub looked_as_far : (old new : Hub DeskState) → IsLookedAt (hub_of end_of old) (hub_of end_of new) → CameAsFar old new
looked_as_far old new looked = ap (λ (h : HubState). h.progress) looked.rest

pub offer_refused : (old new : Hub DeskState) (refusal : Refusal) → IsScriptHub old → RefusesOffer end_of DoesCall old new refusal
    → OfferRefused old new refusal
offer_refused old new refusal is refuses = by refusal refuses.why where
  other : (refusal : Refusal) → IsRefused (hub_of end_of old).progress (Some refusal)
      → (glances : List (Option Standing)) × EachBy (Prepares end_of DoesCall old.next) glances old.entries.items new.entries.items
      → OfferRefused old new refusal
  other refusal refused prepared = record {
    far = looked_as_far old new refuses.unchanged;
    sees = prepared_all_same old.next prepared.0 old.entries.items new.entries.items is.entries prepared.1;
    why = λ stock woken beginning. inr (refused_as old stock woken beginning refusal refused);
  }

  by : (refusal : Refusal) → WhyNotOffered end_of DoesCall old new refusal → OfferRefused old new refusal
  by Refusal.NoMemory each = record {
    far = looked_as_far old new refuses.unchanged;
    sees = may_prepare_all_same old.next old.entries.items new.entries.items is.entries each;
    why = λ stock woken beginning. inl refl;
  }
  by (Refusal.Closed ending) why = other (Refusal.Closed ending) why.0 why.1
  by Refusal.Exhausted why = other Refusal.Exhausted why.0 why.1
  by Refusal.BadCapacity why = absurd why.0
  by Refusal.Duplicate why = absurd why.0
  by Refusal.TooMany why = absurd why.0
  by Refusal.LineTooLong why = absurd why.0
  by Refusal.BadWorkers why = absurd why.0
  by (Refusal.StillHeld name) why = absurd why.0
  by (Refusal.Unsettled names) why = absurd why.0
  by Refusal.Unknown why = absurd why.0
  by Refusal.WouldWait why = absurd why.0
  by Refusal.BadCommand why = absurd why.0

-- ---- what is published

-- an item of this text was published to all: a script stands where a publication leaves it
pub record HubPublished (text : List ℕ) (old new : Hub DeskState) (due : List (Work Unit)) : Type 0 where
  pub script : IsScriptHub new
  pub allowed : (stock : ℕ) (woken : List ℕ) (beginning : Beginning) → publication_refusal (state_of old stock woken beginning) ≡ None
  pub after : (stock : ℕ) (woken : List ℕ) (beginning : Beginning)
      → state_of new stock (woken ++ numbers_of due) beginning ≡ state_after_publication text (state_of old stock woken beginning)

-- what a script's publisher says of an open subscription
pub unclosed_entries : (old : Hub DeskState) → IsScriptHub old → old.ending ≡ None → (k : ℕ) (x : Entry DeskState)
    → slice_get old.entries.items k ≡ Some x → (desk_in x.feed).lane.causes.closing ≡ None
unclosed_entries old is unclosed k x at =
    let entry = is.entries k x at in
    ap (λ feed. (desk_in feed).lane.causes.closing) entry.there
    ∙ (known_of {T = Unit} end_of DoesCall (hub_of end_of old) old.entries.items is.sound refl unclosed k x at (end_of entry.desk) (ap (λ feed. option_map end_of feed) entry.there)).0

pub hub_published : (text : List ℕ) (old new : Hub DeskState) (item : Item) (due : List (Work Unit)) → IsScriptHub old
    → IsSound (hub_of end_of new) → item.source ≡ SOURCE → item.text ≡ text
    → ReachesAll item (hub_of end_of old) (hub_of end_of new) → map subscription_of new.entries.items ≡ map (subscription_after_offer item) (map subscription_of old.entries.items) → AreScriptEntries new.entries.items
    → numbers_of due ≡ newly_woken (map subscription_of old.entries.items) (map subscription_of new.entries.items) → HubPublished text old new due
hub_published text old new item due is sound from words offers same entries woken_now = record {
  script = record {
    sound = sound;
    sized = subst IsCapacity (sym (ap (λ (h : HubState). h.progress.capacity) offers.rest)) is.sized;
    entries = entries;
    numbered = ap (λ counts. slice_get counts SOURCE) counts ∙ set_stands old.counts.items SOURCE (item.seq + 1) old.next is.numbered ∙ ap (λ n. Some (n + 1)) (ap (λ (i : Item). i.seq) item_is) ∙ ap Some (sym next);
  };
  allowed = λ stock woken beginning. nothing_against old stock woken beginning offers.next.unclosed offers.next.few;
  after = λ stock woken beginning. state_of_is new stock (woken ++ numbers_of due) beginning (state_after_publication text (state_of old stock woken beginning)) (ap (λ (h : HubState). h.progress.capacity) offers.rest) refl
      (ap (λ (h : HubState). h.progress.ending) offers.rest) next refl now (ap (λ more. woken ++ more) (woken_now ∙ ap (newly_woken (map subscription_of old.entries.items)) now));
} where
  item_is : item ≡ record { source = 0; seq = old.next; serial = old.next; text = text }
  item_is = next_item_is old item text is offers.next from words

  now : map subscription_of new.entries.items ≡ map (subscription_after_offer (record { source = 0; seq = old.next; serial = old.next; text = text })) (map subscription_of old.entries.items)
  now = same ∙ ap (λ i. map (subscription_after_offer i) (map subscription_of old.entries.items)) item_is

  next : new.next ≡ old.next + 1
  next = ap (λ (h : HubState). h.progress.next) offers.rest

  counts : new.counts.items ≡ slice_set old.counts.items SOURCE (item.seq + 1)
  counts = ap (λ (h : HubState). h.progress.counts) offers.rest ∙ ap (λ source. slice_set old.counts.items source (item.seq + 1)) from

-- the answers are the same
same_answer : (drops lag : ℕ) → Publishing.offer_answer drops lag ≡ drops_or_lag drops lag
same_answer zero lag = refl
same_answer (suc drops) lag = refl

-- an item was offered to all: a script stands where a publication leaves it, and that is the answer
pub record HubOffered (text : List ℕ) (old new : Hub DeskState) (due : List (Work Unit)) (answer : ℤ) : Type 0 where
  pub published : HubPublished text old new due
  pub answers : (stock : ℕ) (woken : List ℕ) (beginning : Beginning)
      → answer ≡ offer_answer (next_item (state_of old stock woken beginning) text) (map subscription_of old.entries.items)

pub hub_offered : (text : List ℕ) (declines : Bool) (old new : Hub DeskState) (due_old due : List (Work Unit)) (answer : ℤ)
    → IsScriptHub old → due_old ≡ [] → IsSound (hub_of end_of new)
    → OffersItem end_of DoesCall SOURCE text declines old new due_old due answer → HubOffered text old new due answer
hub_offered text declines old new due_old due answer is no_due sound o = record {
  published = hub_published text old new o.item due is sound o.from o.words o.reaches
      (second.same ∙ first.same ∙ ap (map (subscription_after_offer o.item)) looked.same)
      second.entries
      (ap numbers_of due_is ∙ first.started ∙ ap (λ before. newly_woken before (map subscription_of o.middle)) looked.same ∙ ap (newly_woken (map subscription_of old.entries.items)) (sym second.same));
  answers = λ stock woken beginning.
      o.answers ∙ same_answer (length (dropped o.seconds)) (greatest (lags o.puts ++ lags_again o.seconds))
      ∙ ap (λ n. drops_or_lag n (greatest (lags o.puts ++ lags_again o.seconds))) (ap length second.drops ∙ first.missed ∙ ap drop_count looked.same)
      ∙ ap (drops_or_lag (drop_count (map subscription_of old.entries.items))) (
      ap (λ more. greatest (lags o.puts ++ more)) second.lag ∙ ap greatest (append-nil (lags o.puts)) ∙ first.lag ∙ ap (greatest_lag o.item) looked.same
      ∙ ap (λ i. greatest_lag i (map subscription_of old.entries.items)) (next_item_is old o.item text is o.reaches.next o.from o.words)
      );
} where
  looked : ListSeesSame old.entries.items o.ready
  looked = prepared_all_same old.next o.glances old.entries.items o.ready is.entries o.looked

  first : AllOffered o.item o.puts o.ready o.middle
  first = all_offered o.item o.puts o.ready o.middle (may_all_be_offered old.next o.glances old.entries.items o.ready is.entries (unclosed_entries old is o.reaches.next.unclosed) o.looked) o.each_put

  second : AllStay o.puts o.seconds o.middle new.entries.items
  second = all_stay o.item o.puts o.seconds o.ready o.middle new.entries.items first.entries o.each_put o.again o.revisited

  due_is : due ≡ started o.puts
  due_is = o.due ∙ ap (λ before. before ++ started o.puts ++ started_again o.seconds) no_due ∙ ap (λ more. started o.puts ++ more) second.started ∙ append-nil (started o.puts)
