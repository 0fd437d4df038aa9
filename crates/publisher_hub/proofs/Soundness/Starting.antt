-- A Hub without subscriptions is sound.
use Rattle.std.proofs.Common.{◌≡◌, ℕ, zero, suc, ◌≤◌, Some, [], replicate, arith}
use Rattle.std.specs.Prelude.{slice_get}
use Rattle.std.proofs.lemmas.List.{length-replicate}
use Rattle.flow_rules.specs.declared.item.TheConstants.{MOST_PUBLICATIONS}
use Rattle.publisher_hub.specs.Hub.{hub_at_start}
use Rattle.publisher_hub.specs.Sound.{IsSound}
use Rattle.publisher_hub.specs.declared.hub.TheConstants.{MOST_SOURCES}

-- an empty list has nothing at any place
nothing_at : {X : Type 0} (place : ℕ) (x : X) → slice_get {X = X} [] place ≡ Some x → ⊥
nothing_at place x e = cc

-- if all elements are 0, the element at any place is
zero_at : (many place count : ℕ) → slice_get (replicate many 0) place ≡ Some count → count ≡ 0
zero_at zero place count e = cc
zero_at (suc many) zero count e = cc
zero_at (suc many) (suc place) count e = zero_at many place count e

pub sound_at_start : (capacity serial : ℕ) → serial ≤ MOST_PUBLICATIONS → IsSound (hub_at_start capacity serial)
sound_at_start capacity serial few = record {
  entries = λ k entry at. absurd (nothing_at k entry at);
  agreed = λ x y a b same. absurd (nothing_at a.number a.entry a.stands);
  live = record {
    numbers = record {
      rising = λ i j n m at at' before. absurd (nothing_at i n at);
      within = λ i n at. absurd (nothing_at i n at);
    };
    covers = λ k entry at lives. absurd (nothing_at k entry at);
  };
  few_live = omega arith;
  few_entries = omega arith;
  few_items = few;
  few_drops = omega arith;
  sources = omega arith;
  all_sources = length-replicate {A = ℕ} MOST_SOURCES 0;
  few_counts = λ source count at. let none = zero_at MOST_SOURCES source count at in omega arith;
}
