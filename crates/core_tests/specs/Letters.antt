-- The items and signals that letters write.
use Rattle.std.specs.Prelude.{ℕ, ◌==◌, if◌then◌else◌, List, [], ◌∷◌}
use Rattle.flow_rules.specs.declared.item.Item.{Item}
use Rattle.flow_rules.specs.declared.signal.Fault.TheVariants.{Published, IllegalArgument, IllegalState}
use Rattle.flow_rules.specs.declared.signal.Signal.{Signal}
use Rattle.flow_rules.specs.declared.signal.Signal.TheVariants.{Subscribed, Next, Complete, Error}

-- the item with this text
abbrev pub lettered_item : List ℕ → Item
lettered_item text = record { source = 1; seq = 2; serial = 3; text = text }

-- the signal that a letter writes: s, c, e, a and t, or the text of an item
abbrev pub signal_of_letter : ℕ → Signal
signal_of_letter letter =
    if letter == 115 then Subscribed
    else if letter == 99 then Complete
    else if letter == 101 then Error (Published 7)
    else if letter == 97 then Error IllegalArgument
    else if letter == 116 then Error IllegalState
    else Next (lettered_item (letter ∷ []))
