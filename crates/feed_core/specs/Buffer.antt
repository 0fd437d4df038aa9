-- The items that a buffer holds, and the room that was made for them.
use Rattle.std.specs.Prelude.{ℕ, List, [], ◌∷◌, ◌++◌}
use Rattle.flow_rules.specs.declared.item.Item.{Item}

-- the items, in order, and for how many there is room
pub record BufferState : Type 0 where
  pub items : List Item
  pub room : ℕ

-- the buffer with one more item, and the same room
abbrev pub buffer_with : Item → BufferState → BufferState
buffer_with item buffer = record buffer { items = buffer.items ++ item ∷ [] }

-- the buffer with these items more, in their order, and the same room
abbrev pub buffer_with_all : List Item → BufferState → BufferState
buffer_with_all items buffer = record buffer { items = buffer.items ++ items }
