-- What is known of a Hub between the looks of a publication and its count.
use Rattle.std.proofs.Common.{◌≡◌, ◌⊎◌, ℕ, ◌<◌, ◌≤◌, None, Some, List, map, ap, sym, subst, ◌∙◌, inl, inr, arith}
use Rattle.std.specs.Prelude.{slice_get}
use Rattle.std.proofs.lemmas.Bool.{cases_lt}
use Rattle.flow_rules.specs.Call.{Call}
use Rattle.flow_rules.specs.Feed.{End}
use Rattle.flow_rules.specs.declared.item.Item.{Item}
use Rattle.flow_rules.specs.declared.item.TheConstants.{MOST_PUBLICATIONS}
use Rattle.publisher_hub.specs.Entry.{entry_of}
use Rattle.publisher_hub.specs.Hub.{HubState}
use Rattle.publisher_hub.specs.Offering.{progress_after}
use Rattle.publisher_hub.specs.Sound.{IsSound}
use Rattle.publisher_hub.specs.declared.entry.Entry.{Entry}
use Rattle.publisher_hub.proofs.PartialRounds.Next.{get_mapped}
use Rattle.publisher_hub.proofs.Soundness.Looking.{unclosed_by}

-- a Hub that was looked at, whose subscriptions were then offered an item, and that counted it
pub counted_after : (x : Item) (dropping : ℕ) (a b d e : HubState) → b ≡ record a { entries = b.entries } → d ≡ record b { entries = d.entries }
    → e ≡ record d { progress = progress_after x dropping d.progress }
    → e ≡ record a { progress = progress_after x e.progress.dropping a.progress; entries = e.entries }
counted_after x dropping a b d e looked given counted =
    let d_is : d ≡ record a { entries = d.entries } = given ∙ ap (λ (s : HubState). record s { entries = d.entries }) looked in
    let e_is : e ≡ record a { progress = progress_after x dropping a.progress; entries = d.entries } =
    counted ∙ ap (λ (s : HubState). record s { progress = progress_after x dropping s.progress }) d_is in
    let dropping_is : e.progress.dropping ≡ dropping = ap (λ (s : HubState). s.progress.dropping) e_is in
    let entries_are : e.entries ≡ d.entries = ap (λ (s : HubState). s.entries) e_is in
    e_is ∙ ap (λ n. record a { progress = progress_after x n a.progress; entries = d.entries }) (sym dropping_is)
    ∙ ap (λ all. record a { progress = progress_after x e.progress.dropping a.progress; entries = all }) (sym entries_are)

-- a number that is at most the most, and is not the most, is below it
pub below_most : (n : ℕ) → n ≤ MOST_PUBLICATIONS → (n ≡ MOST_PUBLICATIONS → ⊥) → n < MOST_PUBLICATIONS
below_most n few other = by (cases_lt n MOST_PUBLICATIONS) where
  by : (n < MOST_PUBLICATIONS) ⊎ (MOST_PUBLICATIONS ≤ n) → n < MOST_PUBLICATIONS
  by (inl below) = below
  by (inr above) = absurd (other (omega arith))

module _ {F T : Type 0} (meaning : F → End) (does : F → Call T → F → Type 0) where
  -- what is known of an open subscription of a sound Hub
  pub known_of : (hub : HubState) (xs : List (Entry F)) → IsSound hub → hub.entries ≡ map (entry_of meaning) xs → hub.progress.ending ≡ None
      → (k : ℕ) (old : Entry F) → slice_get xs k ≡ Some old → (e : End) → (entry_of meaning old).feed ≡ Some e
      → (e.closing ≡ None) × (e.capacity ≡ hub.progress.capacity)
  known_of hub xs sound are unclosed k old at e was =
      let stands : slice_get hub.entries k ≡ Some (entry_of meaning old) =
      subst (λ all. slice_get all k ≡ Some (entry_of meaning old)) (sym are) (get_mapped (entry_of meaning) xs k old at) in
      let counted = (sound.entries k (entry_of meaning old) stands).counted e was in
      (unclosed_by hub.progress (entry_of meaning old) e counted unclosed, counted.capacity)
