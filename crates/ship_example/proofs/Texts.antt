-- The longest text, as the items grow.
use Rattle.std.proofs.Common.{◌≡◌, List, [], ◌∷◌, ◌++◌, length, max, ap, ◌∙◌, arith}
use Rattle.flow_rules.proofs.Items.{items_of_append}
use Rattle.flow_rules.specs.declared.item.Item.{Item}
use Rattle.flow_rules.specs.declared.signal.Signal.{Signal}
use Rattle.flow_rules.specs.declared.signal.Signal.TheVariants.{Next}
use Rattle.flow_rules.specs.Signals.{items_of}
use Rattle.ship_example.specs.Texts.{longest_of}

-- the longest text of one item more
pub one_item_more : (told : List Signal) (item : Item) → longest_of (items_of (told ++ Next item ∷ [])) ≡ max (longest_of (items_of told)) (length item.text)
one_item_more told item = ap longest_of (items_of_append told (Next item ∷ [])) ∙ by (items_of told) where
  by : (items : List Item) → longest_of (items ++ item ∷ []) ≡ max (longest_of items) (length item.text)
  by [] = omega arith
  by (first ∷ items) = let e : longest_of (items ++ item ∷ []) ≡ max (longest_of items) (length item.text) = by items in omega arith
