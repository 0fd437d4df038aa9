-- A sound Hub stays sound if the producer's end of a subscription is taken out.
use Rattle.std.proofs.Common.{◌≡◌, ℕ, ◌≤◌, Option, None, Some, List, map, length, refl, ap, sym, subst, ◌∙◌, set, arith}
use Rattle.std.specs.Prelude.{slice_get}
use Rattle.std.specs.Vec.{with_item}
use Rattle.std.proofs.lemmas.List.{map-set}
use Rattle.std.proofs.lemmas.Option.{slice_get_within}
use Rattle.flow_rules.specs.Feed.{End}
use Rattle.publisher_hub.specs.Entry.{entry_of}
use Rattle.publisher_hub.specs.Hub.{HubState, hub_of}
use Rattle.publisher_hub.specs.Sound.{IsSound}
use Rattle.publisher_hub.specs.Taking.{TakesOut, TakesOutAt, entry_without_feed}
use Rattle.publisher_hub.specs.declared.entry.Entry.{Entry}
use Rattle.publisher_hub.specs.declared.hub.Hub.{Hub}
use Rattle.publisher_hub.proofs.PartialRounds.Next.{get_mapped}
use Rattle.publisher_hub.proofs.PartialRounds.Progress.{same_some}
use Rattle.publisher_hub.proofs.Soundness.Replacing.{replaces_taken, set_same, sound_with}

module _ {F : Type 0} (meaning : F → End) where
  -- the subscription that stands there lost its end
  pub takes_there : (number : ℕ) (feed : Option F) (hub : Hub F) (before after : Entry F) → slice_get hub.entries.items number ≡ Some before
      → TakesOut hub.next feed before after
      → TakesOutAt meaning number feed hub (record hub { entries = with_item hub.entries number after })
  takes_there number feed hub before after at takes = record {
    rest = refl;
    none = λ none. let no : None ≡ Some before = sym none ∙ at in cc;
    there = λ entry is. (after, (subst (λ (old : Entry F). TakesOut hub.next feed old after) (same_some (sym at ∙ is)) takes, refl));
  }

  -- none stands there
  pub takes_nobody : (number : ℕ) (hub : Hub F) → length hub.entries.items ≤ number → TakesOutAt meaning number None hub hub
  takes_nobody number hub above = record {
    rest = refl;
    none = λ _. (refl, refl);
    there = λ entry is. let below = slice_get_within hub.entries.items number entry is in absurd (omega arith);
  }

  -- a sound Hub stays sound
  pub sound_without : (number : ℕ) (feed : Option F) (old new : Hub F) → IsSound (hub_of meaning old)
      → TakesOutAt meaning number feed old new → IsSound (hub_of meaning new)
  sound_without number feed old new sound takes =
      subst (λ (hub : HubState). IsSound hub) (sym takes.rest) (by (slice_get old.entries.items number) refl) where
        with_items : List (Entry F) → HubState
        with_items items = record (hub_of meaning old) { entries = map (entry_of meaning) items }

        taken : (feed : Option F) (before after : Entry F) → slice_get old.entries.items number ≡ Some before
            → TakesOut old.next feed before after → IsSound (with_items (set old.entries.items number after))
        taken None before after at left = subst (λ items. IsSound (with_items items))
            (sym (ap (λ (entry : Entry F). set old.entries.items number entry) left.1 ∙ set_same old.entries.items number before at)) sound
        taken (Some end) before after at lost =
            let there = get_mapped (entry_of meaning) old.entries.items number before at in
            let now = entry_of meaning (entry_without_feed old.next before) in
            subst (λ (entry : Entry F). IsSound (with_items (set old.entries.items number entry))) (sym lost.1)
            (subst (λ entries. IsSound (record (hub_of meaning old) { entries = entries })) (sym (map-set (entry_of meaning) old.entries.items number (entry_without_feed old.next before)))
            (sound_with (hub_of meaning old) number (entry_of meaning before) now sound there (replaces_taken (hub_of meaning old).progress (entry_of meaning before) now refl refl refl)))

        by : (at : Option (Entry F)) → slice_get old.entries.items number ≡ at → IsSound (with_items new.entries.items)
        by None at = subst (λ items. IsSound (with_items items)) (sym (takes.none at).1) sound
        by (Some before) at =
            let there = takes.there before at in
            subst (λ items. IsSound (with_items items)) (sym there.1.1) (taken feed before there.0 at there.1.0)
