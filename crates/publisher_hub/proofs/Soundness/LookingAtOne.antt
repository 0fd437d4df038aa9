-- A sound Hub stays sound if one of its subscriptions is looked at.
use Rattle.std.proofs.Common.{◌≡◌, ◌⊎◌, inl, inr, ℕ, ◌≤◌, Option, None, Some, List, map, length, set, refl, ap, sym, subst, ◌∙◌, arith}
use Rattle.std.specs.Prelude.{slice_get}
use Rattle.std.specs.Vec.{with_item}
use Rattle.std.proofs.lemmas.List.{length-set, map-set}
use Rattle.std.proofs.lemmas.Option.{slice_get_within}
use Rattle.flow_rules.specs.Call.{Call}
use Rattle.flow_rules.specs.Feed.{End}
use Rattle.flow_rules.specs.declared.feed.standing.Standing.{Standing}
use Rattle.publisher_hub.specs.Entry.{EntryState, entry_of}
use Rattle.publisher_hub.specs.Hub.{hub_of}
use Rattle.publisher_hub.specs.Lists.{Each}
use Rattle.publisher_hub.specs.Looking.{Glances, IsKept, IsLookedAt}
use Rattle.publisher_hub.specs.Sound.{IsSound}
use Rattle.publisher_hub.specs.Looking.{LooksAtOne}
use Rattle.publisher_hub.specs.Steps.{AreHere}
use Rattle.publisher_hub.specs.declared.entry.Entry.{Entry}
use Rattle.publisher_hub.specs.declared.hub.Hub.{Hub}
use Rattle.publisher_hub.proofs.Subscribed.AfterLooks.{each_untouched, glance_kept, untouched_kept}
use Rattle.publisher_hub.proofs.PartialRounds.Next.{get_mapped}
use Rattle.publisher_hub.proofs.Soundness.Looking.{sound_looked_at}
use Rattle.publisher_hub.proofs.PartialRounds.Progress.{same_some}
use Rattle.publisher_hub.proofs.Subscribed.Readiness.{all_here}
use Rattle.publisher_hub.proofs.Soundness.Replacing.{set_or_stood}

-- if a subscription is kept, and no other was touched, each is kept
all_but_one_kept : (next : ℕ) (xs : List EntryState) (number : ℕ) (old new : EntryState) → AreHere xs → slice_get xs number ≡ Some old
    → IsKept next old new → Each (IsKept next) xs (set xs number new)
all_but_one_kept next xs number old new here stood kept = record {
  as_long = length-set xs number new;
  each = λ k x y at on. by k x y at (set_or_stood xs number new k y on);
} where
  by : (k : ℕ) (x y : EntryState) → slice_get xs k ≡ Some x → ((number ≡ k) × (new ≡ y)) ⊎ (slice_get xs k ≡ Some y) → IsKept next x y
  by k x y at (inl now) =
      let same : old ≡ x = same_some (sym stood ∙ subst (λ j. slice_get xs j ≡ Some x) (sym now.0) at) in
      subst (λ (entry : EntryState). IsKept next x entry) now.1 (subst (λ (entry : EntryState). IsKept next entry new) same kept)
  by k x y at (inr before) =
      subst (λ (entry : EntryState). IsKept next x entry) (same_some (sym at ∙ before)) (untouched_kept next x (here k x at))

module _ {F T : Type 0} (meaning : F → End) (does : F → Call T → F → Type 0) where
  -- a look at a subscription leaves each as looks do
  pub one_is_looked_at : (number : ℕ) (glance : Option Standing) (old new : Hub F) → IsSound (hub_of meaning old)
      → LooksAtOne meaning does number glance old new → IsLookedAt (hub_of meaning old) (hub_of meaning new)
  one_is_looked_at number glance old new sound looks =
      record { rest = looks.rest; entries = by (slice_get old.entries.items number) refl } where
        here : AreHere (hub_of meaning old).entries
        here = all_here (hub_of meaning old) sound

        by : (at : Option (Entry F)) → slice_get old.entries.items number ≡ at
            → Each (IsKept old.next) (hub_of meaning old).entries (hub_of meaning new).entries
        by None at =
            subst (λ items. Each (IsKept old.next) (hub_of meaning old).entries (map (entry_of meaning) items)) (sym (looks.none at).1) (each_untouched old.next (hub_of meaning old).entries here)
        by (Some before) at =
            let there = looks.there before at in
            subst (λ entries. Each (IsKept old.next) (hub_of meaning old).entries entries) (sym (ap (map (entry_of meaning)) there.1.1 ∙ map-set (entry_of meaning) old.entries.items number there.0))
            (all_but_one_kept old.next (hub_of meaning old).entries number (entry_of meaning before) (entry_of meaning there.0) here (get_mapped (entry_of meaning) old.entries.items number before at)
            (glance_kept meaning does old.next glance before there.0 there.1.0))

  pub sound_look : (number : ℕ) (glance : Option Standing) (old new : Hub F) → IsSound (hub_of meaning old)
      → LooksAtOne meaning does number glance old new → IsSound (hub_of meaning new)
  sound_look number glance old new sound looks =
      sound_looked_at (hub_of meaning old) (hub_of meaning new) sound (one_is_looked_at number glance old new sound looks)

  -- the subscription that stands there was looked at
  pub looks_there : (number : ℕ) (glance : Option Standing) (hub : Hub F) (before after : Entry F)
      → slice_get hub.entries.items number ≡ Some before
      → Glances meaning does hub.next glance before after
      → LooksAtOne meaning does number glance hub (record hub { entries = with_item hub.entries number after })
  looks_there number glance hub before after at looked = record {
    rest = refl;
    none = λ none. let no : None ≡ Some before = sym none ∙ at in cc;
    there = λ entry is. (after, (subst (λ (old : Entry F). Glances meaning does hub.next glance old after) (same_some (sym at ∙ is)) looked, refl));
  }

  -- none stands there
  pub looks_nowhere : (number : ℕ) (hub : Hub F) → length hub.entries.items ≤ number → LooksAtOne meaning does number None hub hub
  looks_nowhere number hub above = record {
    rest = refl;
    none = λ _. (refl, refl);
    there = λ entry is. let below = slice_get_within hub.entries.items number entry is in absurd (omega arith);
  }
