-- What a subscriber is told: a list of signals (Reactive Streams 1.0, 1.3, 1.7 and 1.9; `Flow.Subscriber`, Java SE 17).
use Rattle.std.specs.Prelude.{◌≡◌, ◌⊎◌, List, [], ◌∷◌, ◌++◌, map}
use Rattle.flow_rules.specs.declared.signal.Fault.{Fault}
use Rattle.flow_rules.specs.declared.signal.Signal.{Signal}
use Rattle.flow_rules.specs.declared.signal.Signal.TheVariants.{Subscribed, Next, Complete, Error}
use Rattle.flow_rules.specs.declared.item.Item.{Item}

-- nothing, or one terminal signal: onComplete or onError
abbrev pub IsTerminalPart : List Signal → Type 0
IsTerminalPart signals = (signals ≡ []) ⊎ ((signals ≡ Complete ∷ []) ⊎ ((fault : Fault) × (signals ≡ Error fault ∷ [])))

-- onSubscribe, then onNext any number of times, then nothing or a terminal signal
abbrev pub IsOpened : List Signal → Type 0
IsOpened signals = (items : List Item) × (last : List Signal) × (signals ≡ Subscribed ∷ (map Next items ++ last)) × IsTerminalPart last

-- a list of signals that the Flow rules allow: nothing yet, or an opened one
abbrev pub IsFlowText : List Signal → Type 0
IsFlowText signals = (signals ≡ []) ⊎ IsOpened signals

-- the items that were told, in order
abbrev pub items_of : List Signal → List Item
items_of [] = []
items_of (Next item ∷ signals) = item ∷ items_of signals
items_of (Subscribed ∷ signals) = items_of signals
items_of (Complete ∷ signals) = items_of signals
items_of (Error _ ∷ signals) = items_of signals
