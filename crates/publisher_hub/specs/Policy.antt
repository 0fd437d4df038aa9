-- What subscriptions say of publications that find their buffers full.
use Rattle.std.specs.Prelude.{◌≡◌, ℕ, Bool, true, false, Option, None, Some, List, slice_get}
use Rattle.publisher_hub.specs.Entry.{EntryState}
use Rattle.publisher_hub.specs.declared.entry.Entry.{Entry}
use Rattle.publisher_hub.specs.declared.policy.OnFull.{OnFull}
use Rattle.publisher_hub.specs.declared.policy.OnFull.TheVariants.{Drop, Wait}

-- whether a publication waits for room
abbrev pub waits : OnFull → Bool
waits Wait = true
waits Drop = false

-- whether the subscription of this number is there, and publications wait for it
abbrev pub is_waited_for : {F : Type 0} → List (Entry F) → ℕ → Bool
is_waited_for {F} entries number = by (slice_get entries number) where
  by : Option (Entry F) → Bool
  by None = false
  by (Some entry) = waits entry.on_full

-- one that publications wait for has lost no item
abbrev pub LosesNothing : EntryState → EntryState → Type 0
LosesNothing old new = old.on_full ≡ Wait → new.dropped ≡ old.dropped
