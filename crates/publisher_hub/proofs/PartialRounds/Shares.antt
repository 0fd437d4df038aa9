-- The shares that a round has left.
use Rattle.std.proofs.Common.{◌≡◌, ◌⊎◌, ℕ, ◌+◌, ◌≤◌, Option, None, Some, List, [], ◌∷◌, ◌++◌, length, refl, sym, ◌∙◌, inl, inr, arith}
use Rattle.std.specs.Prelude.{slice_get}
use Rattle.flow_rules.specs.Call.{Call}
use Rattle.flow_rules.specs.Feed.{End}
use Rattle.flow_rules.specs.declared.feed.put.Put.{Put}
use Rattle.flow_rules.specs.declared.feed.put.Put.TheVariants.{Accepted, Full, Gone}
use Rattle.flow_rules.specs.declared.item.Item.{Item}
use Rattle.publisher_hub.specs.Gathering.{AreShares, back_by, missed_by, started_by}
use Rattle.publisher_hub.specs.Offering.{PutsTo}
use Rattle.publisher_hub.specs.declared.entry.Entry.{Entry}
use Rattle.publisher_hub.proofs.AnswerLists.Updates.{get_grown}

-- with another share they are shares
share_added : (item share : Item) (shares : List Item) → share ≡ item → AreShares item shares → AreShares item (shares ++ share ∷ [])
share_added item share shares same are i other at = by (get_grown shares share i other at) where
  by : (slice_get shares i ≡ Some other) ⊎ ((i ≡ length shares) × (share ≡ other)) → other ≡ item
  by (inl before) = are i other before
  by (inr now) = sym now.1 ∙ same

-- what a full buffer gives back is a share
pub shares_back : {F T : Type 0} (meaning : F → End) (does : F → Call T → F → Type 0) (item : Item) (answer : Option (Put T)) (old new : Entry F) (shares : List Item)
    → PutsTo meaning does item answer old new → AreShares item shares → AreShares item (shares ++ back_by answer)
shares_back meaning does item None old new shares puts_to are = rw (Rattle.std.proofs.lemmas.List.append-nil shares) are
shares_back meaning does item (Some (Accepted lag start)) old new shares puts_to are =
    rw (Rattle.std.proofs.lemmas.List.append-nil shares) are
shares_back meaning does item (Some (Full back)) old new shares puts_to are = share_added item back shares puts_to.means.2.same are
shares_back meaning does item (Some (Gone back)) old new shares puts_to are = rw (Rattle.std.proofs.lemmas.List.append-nil shares) are

-- an answer starts a task, or gives a share back with the number of its subscription, or does neither
pub takes_a_place : {T : Type 0} (number : ℕ) (answer : Option (Put T))
    → (length (started_by number answer) + length (missed_by number answer) ≤ 1) × (length (back_by answer) ≡ length (missed_by number answer))
takes_a_place number None = (omega arith, refl)
takes_a_place number (Some (Accepted lag None)) = (omega arith, refl)
takes_a_place number (Some (Accepted lag (Some task))) = (omega arith, refl)
takes_a_place number (Some (Full back)) = (omega arith, refl)
takes_a_place number (Some (Gone back)) = (omega arith, refl)
