-- What is left of a script's publisher if its subscriptions were looked at.
use Rattle.std.proofs.Common.{◌≡◌, ℕ, Bool, true, false, not, ◌&&◌, Some, List, length, map, refl, sym, ap, subst, ◌∙◌, get_or}
use Rattle.std.specs.Prelude.{slice_get, count_by}
use Rattle.std.proofs.lemmas.Bool.Decides.{Decides-eqb}
use Rattle.std.proofs.lemmas.List.Folds.{list_any_none}
use Rattle.std.proofs.lemmas.Option.{slice_get-get_or}
use Rattle.std.proofs.lemmas.Slice.Eq.{slice_eq-Decides}
use Rattle.feed_core.specs.Feed.{DoesCall, end_of}
use Rattle.feed_core.specs.LaneCalls.{IsCapacity}
use Rattle.publisher_hub.specs.Entry.{entry_of}
use Rattle.publisher_hub.specs.Hub.{HubState, Progress, hub_of}
use Rattle.publisher_hub.specs.Looking.{Prepares}
use Rattle.publisher_hub.specs.Sound.{IsSound}
use Rattle.publisher_hub.specs.Subscribing.{IsPrepared, IsPreparedInPart, IsUnnamed}
use Rattle.publisher_hub.specs.declared.entry.Entry.{Entry}
use Rattle.publisher_hub.specs.declared.hub.Hub.{Hub}
use Rattle.publisher_hub.proofs.PartialRounds.Next.{get_mapped, get_before_map}
use Rattle.publisher_hub.proofs.AnswerLists.Places.{stood_by}
use Rattle.lines_demo.specs.Prelude.{DeskState}
use Rattle.commands.specs.Word.{is_word}
use Rattle.lines_demo.specs.Script.Session.{AreScriptEntries, IsScriptHub, subscription_of}
use Rattle.lines_demo.specs.Script.State.{SubscriptionState}
use Rattle.lines_demo.specs.Script.Subscribing.{is_live_as, is_subscribed}
use Rattle.lines_demo.specs.Script.Waking.{is_live}
use Rattle.lines_demo.specs.declared.script.session.publishing.TheConstants.{SOURCE}
use Rattle.lines_demo.proofs.HubCalls.Looks.{ListSeesSame, may_prepare_all_same, prepared_all_same, prepared_retired}
use Rattle.lines_demo.proofs.Kept.LiveNumbers.{live_count}
use Rattle.lines_demo.proofs.Kept.OneName.{word_same}

-- ---- publishers that came equally far

-- two publishers came equally far
abbrev pub CameAsFar : Hub DeskState → Hub DeskState → Type 0
CameAsFar old new = (hub_of end_of new).progress ≡ (hub_of end_of old).progress

-- such a sound one is a script's, if its subscriptions are
pub script_publisher : (old new : Hub DeskState) → IsScriptHub old → IsSound (hub_of end_of new) → CameAsFar old new
    → AreScriptEntries new.entries.items → IsScriptHub new
script_publisher old new is sound far entries = record {
  sound = sound;
  sized = subst IsCapacity (ap (λ (p : Progress). p.capacity) (sym far)) is.sized;
  entries = entries;
  numbered = ap (λ (p : Progress). slice_get p.counts SOURCE) far ∙ is.numbered ∙ ap (λ (p : Progress). Some p.next) (sym far);
}

-- ---- after looks

-- looks publish nothing
pub seen_as_far : (old new : Hub DeskState) → IsPrepared end_of DoesCall old new → CameAsFar old new
seen_as_far old new seen = ap (λ (h : HubState). h.progress) seen.rest

pub seen_in_part_as_far : (old new : Hub DeskState) → IsPreparedInPart end_of DoesCall old new → CameAsFar old new
seen_in_part_as_far old new seen = ap (λ (h : HubState). h.progress) seen.rest

-- a script sees the same of each subscription
pub seen_same : (old new : Hub DeskState) → IsScriptHub old → IsPrepared end_of DoesCall old new
    → ListSeesSame old.entries.items new.entries.items
seen_same old new is seen = prepared_all_same old.next seen.glances old.entries.items new.entries.items is.entries seen.prepared

pub seen_in_part_same : (old new : Hub DeskState) → IsScriptHub old → IsPreparedInPart end_of DoesCall old new
    → ListSeesSame old.entries.items new.entries.items
seen_in_part_same old new is seen = may_prepare_all_same old.next old.entries.items new.entries.items is.entries seen.prepared

-- then just those are retired that have ended
pub seen_retired : (old new : Hub DeskState) → IsScriptHub old → IsPrepared end_of DoesCall old new → (k : ℕ) (entry : Entry DeskState)
    → slice_get new.entries.items k ≡ Some entry
    → entry.retired ≡ not (is_live (subscription_of entry))
seen_retired old new is seen k entry at =
    let stood = stood_by (Prepares end_of DoesCall old.next) seen.glances old.entries.items new.entries.items k entry seen.prepared at in
    prepared_retired old.next stood.answer stood.entry entry (is.entries k stood.entry stood.at) stood.became

-- and the publisher keeps as many numbers as are live
pub seen_count : (old new : Hub DeskState) → IsScriptHub old → IsPrepared end_of DoesCall old new
    → length new.live.items ≡ count_by is_live (map subscription_of old.entries.items)
seen_count old new is seen =
    live_count new (seen_retired old new is seen) seen.all_live ∙ ap (λ subscriptions. count_by is_live subscriptions) (seen_same old new is seen).same

-- ---- names

-- a word is equal to itself
pub word_itself : (bytes word : List ℕ) → bytes ≡ word → is_word bytes word ≡ true
word_itself bytes word e = (slice_eq-Decides Decides-eqb bytes word (is_word bytes word) refl).1 e

-- nobody is subscribed by a name that no live one has
pub seen_unnamed : (old new : Hub DeskState) (name : List ℕ) → IsScriptHub old → IsPrepared end_of DoesCall old new
    → IsUnnamed name (hub_of end_of new).entries
    → is_subscribed name (map subscription_of old.entries.items) ≡ false
seen_unnamed old new name is seen unnamed =
    ap (λ subscriptions. is_subscribed name subscriptions) (sym (seen_same old new is seen).same)
    ∙ list_any_none (is_live_as name) (map subscription_of new.entries.items) (λ k d within. other k (get_or (map subscription_of new.entries.items) k d) (slice_get-get_or (map subscription_of new.entries.items) k d within)) where
      other : (k : ℕ) (s : SubscriptionState) → slice_get (map subscription_of new.entries.items) k ≡ Some s → is_live_as name s ≡ false
      other k s at =
          let found = get_before_map subscription_of new.entries.items k s at in
          ap (is_live_as name) (sym found.1.1) ∙ by (is_live (subscription_of found.0)) (is_word found.0.name name) refl refl where
            by : (live word : Bool) → is_live (subscription_of (get_before_map subscription_of new.entries.items k s at).0) ≡ live
                → is_word (get_before_map subscription_of new.entries.items k s at).0.name name ≡ word
                → (live && word) ≡ false
            by false word is_not named = refl
            by true false lives differs = refl
            by true true lives named =
                let found = get_before_map subscription_of new.entries.items k s at in
                absurd (unnamed k (entry_of end_of found.0) (get_mapped (entry_of end_of) new.entries.items k found.0 found.1.0)
                (seen_retired old new is seen k found.0 found.1.0 ∙ ap not lives) (word_same found.0.name name named))
