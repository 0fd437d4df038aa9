-- What is listed of a sound Hub's subscriptions is within what its publications have come to.
use Rattle.std.proofs.Common.{◌≡◌, ◌⊎◌, inl, inr, ℕ, zero, suc, ◌+◌, ◌<◌, ◌≤◌, Bool, true, false, Option, None, Some, List, [], ◌∷◌, ◌++◌, length, map, refl, ap, sym, subst, ◌∙◌, arith, slice_index_or}
use Rattle.std.specs.Prelude.{All, slice_get}
use Rattle.std.proofs.lemmas.List.Elements.{All-append, All-nil}
use Rattle.std.proofs.lemmas.Option.{slice_get_cases, slice_get_within}
use Rattle.flow_rules.specs.Call.{Call}
use Rattle.flow_rules.specs.Feed.{End}
use Rattle.flow_rules.specs.declared.feed.standing.Standing.{Standing}
use Rattle.publisher_hub.specs.Entry.{EntryState, entry_of}
use Rattle.publisher_hub.specs.Hub.{Progress, hub_of}
use Rattle.publisher_hub.specs.Lists.{gather}
use Rattle.publisher_hub.specs.Looking.{Glances}
use Rattle.publisher_hub.specs.Sound.{IsEntry, IsSound}
use Rattle.publisher_hub.specs.Stats.{AreFigures, IsBounded, IsListed, SurveysAll, listed_by}
use Rattle.publisher_hub.specs.declared.entry.Entry.{Entry}
use Rattle.publisher_hub.specs.declared.hub.Hub.{Hub}
use Rattle.publisher_hub.specs.declared.hub.stats.Figures.{Figures}
use Rattle.publisher_hub.proofs.PartialRounds.Next.{get_mapped}
use Rattle.publisher_hub.proofs.PartialRounds.Progress.{same_some}

-- one that is listed alone
all_of_one : {X : Type 0} (P : X → Type 0) (x : X) → P x → All P (x ∷ [])
all_of_one P x is zero d within = is
all_of_one P x is (suc k) d within = absurd (omega arith)

-- what holds of each list holds of what they gather
all_gathered : (P : Figures → Type 0) (lists : List (List Figures)) (place : ℕ)
    → ((k : ℕ) (list : List Figures) → slice_get lists k ≡ Some list → All P list) → All P (gather listed_by place lists)
unfolding gather
all_gathered P [] place each = All-nil P
all_gathered P (list ∷ lists) place each =
    All-append P list (gather listed_by (suc place) lists) (each 0 list refl) (all_gathered P lists (suc place) (λ k more at. each (suc k) more at))

-- what stands at a place within a list
element_at : {X : Type 0} (xs : List X) (k : ℕ) → k < length xs → (x : X) × (slice_get xs k ≡ Some x)
element_at {X} xs k within = by (slice_get_cases xs k).1 where
  by : ((x : X) × (k < length xs) × (slice_get xs k ≡ Some x) × (slice_index_or xs k x ≡ x)) ⊎ ((length xs ≤ k) × (slice_get xs k ≡ None))
      → (x : X) × (slice_get xs k ≡ Some x)
  by (inl found) = (found.0, found.2)
  by (inr past) = let high = past.0 in absurd (omega arith)

module _ {F T : Type 0} (meaning : F → End) (does : F → Call T → F → Type 0) (next : ℕ) (progress : Progress) where
  -- a look shows no more items than the buffer may hold
  fits_after : (glance : Option Standing) (x y : Entry F) (e : End) → Glances meaning does next glance x y → y.retired ≡ false
      → (entry_of meaning y).feed ≡ Some e → length e.accepted ≤ e.seen + e.capacity
  fits_after None x y e looked live is = let retired = looked.0 in let same = looked.1 in cc
  fits_after (Some standing) x y e sees live is = by standing.ended refl where
    by : (ended : Bool) → standing.ended ≡ ended → length e.accepted ≤ e.seen + e.capacity
    by true over = let same = sees.ended over in cc
    by false on =
        let same : y ≡ record x { feed = Some sees.after } = sees.stays on in
        let there : meaning sees.after ≡ e = same_some (sym (ap (λ (entry : Entry F). (entry_of meaning entry).feed) same) ∙ is) in
        subst (λ (end : End). length end.accepted ≤ end.seen + end.capacity) there sees.stands.look.fits

  -- what is listed of a subscription is bounded
  list_bounded : (glance : Option Standing) (list : List Figures) (x y : Entry F) → Glances meaning does next glance x y
      → IsListed (entry_of meaning y) list → progress.next ≡ next → IsEntry progress (entry_of meaning y) → All (IsBounded progress) list
  list_bounded glance list x y looked listed now is = by y.retired refl where
    by : (retired : Bool) → y.retired ≡ retired → All (IsBounded progress) list
    by true e = rw (listed.retired e) (All-nil (IsBounded progress))
    by false e =
        let found = listed.live e in
        let are = found.1.1 in
        let counted = is.counted are.end are.here in
        let fits = fits_after glance x y are.end looked e are.here in
        let count = counted.count in
        let capacity = counted.capacity in
        let until = counted.until in
        let lag = are.lag in
        let accepted = are.accepted in
        let dropped = are.dropped in
        rw found.1.0 (all_of_one (IsBounded progress) found.0 (record {
          fits = omega arith;
          waiting = omega arith;
          shared = omega arith;
        }))

-- what is listed of all is bounded
pub all_bounded : {F T : Type 0} (meaning : F → End) (does : F → Call T → F → Type 0) (figures : List Figures) (old new : Hub F)
    → IsSound (hub_of meaning new) → SurveysAll meaning does figures old new
    → All (IsBounded (hub_of meaning new).progress) figures
all_bounded {F} meaning does figures old new sound surveys =
    rw surveys.all (all_gathered (IsBounded progress) surveys.lists 0 each) where
      progress : Progress
      progress = (hub_of meaning new).progress

      same : progress.next ≡ old.next
      same = ap (λ hub. hub.progress.next) surveys.looks.rest

      each : (k : ℕ) (list : List Figures) → slice_get surveys.lists k ≡ Some list → All (IsBounded progress) list
      each k list at =
          let within = slice_get_within surveys.lists k list at in
          let answered = surveys.listed.answered in
          let as_long = surveys.listed.as_long in
          let glanced = surveys.looks.entries.answered in
          let x = element_at old.entries.items k (omega arith) in
          let y = element_at new.entries.items k (omega arith) in
          let glance = element_at surveys.glances k (omega arith) in
          list_bounded meaning does old.next progress glance.0 list x.0 y.0 (surveys.looks.entries.each k glance.0 x.0 y.0 glance.1 x.1 y.1)
          (surveys.listed.each k list x.0 y.0 at x.1 y.1) same
          (sound.entries k (entry_of meaning y.0) (get_mapped (entry_of meaning) new.entries.items k y.0 y.1))
