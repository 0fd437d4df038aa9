-- The items of a source, one after the other.
use Rattle.std.proofs.Common.{◌≡◌, ℕ, zero, suc, ◌+◌, Some, List, [], ◌∷◌, ◌++◌, length, take, refl, ap, sym, ◌∙◌, arith}
use Rattle.std.specs.Prelude.{slice_get}
use Rattle.flow_rules.specs.declared.item.Item.{Item}
use Rattle.publisher_hub.specs.Batch.{items_from}
use Rattle.publisher_hub.proofs.PartialRounds.Progress.{same_some}

-- an item of a source
abbrev pub item_at : ℕ → ℕ → ℕ → List ℕ → Item
item_at source seq serial text = record { source = source; seq = seq; serial = serial; text = text }

-- the items of the texts up to one, and of that one
pub items_more : (source seq serial : ℕ) (texts : List (List ℕ)) (n : ℕ) (text : List ℕ) → slice_get texts n ≡ Some text
    → items_from source seq serial (take n texts) ++ record { source = source; seq = seq + n; serial = serial + n; text = text } ∷ []
    ≡ items_from source seq serial (take (suc n) texts)
items_more source seq serial [] n text at = cc
items_more source seq serial (first ∷ texts) zero text at =
    let here : seq + 0 ≡ seq = omega arith in
    let there : serial + 0 ≡ serial = omega arith in
    ap (λ k. item_at source k (serial + 0) text ∷ []) here ∙ ap (λ k. item_at source seq k text ∷ []) there
    ∙ ap (λ t. item_at source seq serial t ∷ []) (sym (same_some at))
items_more source seq serial (first ∷ texts) (suc n) text at =
    let here : seq + suc n ≡ seq + 1 + n = omega arith in
    let there : serial + suc n ≡ serial + 1 + n = omega arith in
    let before = items_from source (seq + 1) (serial + 1) (take n texts) in
    ap (λ k. item_at source seq serial first ∷ (before ++ item_at source k (serial + suc n) text ∷ [])) here
    ∙ ap (λ k. item_at source seq serial first ∷ (before ++ item_at source (seq + 1 + n) k text ∷ [])) there
    ∙ ap (λ items. item_at source seq serial first ∷ items) (items_more source (seq + 1) (serial + 1) texts n text at)

-- there are as many items as texts
pub as_many_items : (source seq serial : ℕ) (texts : List (List ℕ)) → length (items_from source seq serial texts) ≡ length texts
as_many_items source seq serial [] = refl
as_many_items source seq serial (text ∷ texts) = ap suc (as_many_items source (seq + 1) (serial + 1) texts)
