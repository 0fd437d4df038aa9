-- The longest text.
use Rattle.std.specs.Prelude.{ℕ, List, [], ◌∷◌, length, max}
use Rattle.flow_rules.specs.declared.item.Item.{Item}

-- the length of the longest text of the items, 0 where there is none
abbrev pub longest_of : List Item → ℕ
longest_of [] = 0
longest_of (item ∷ items) = max (length item.text) (longest_of items)
