-- What becomes of a Hub when the producer's end of a subscription is taken out.
use Rattle.std.specs.Prelude.{◌≡◌, ℕ, true, if◌then◌else◌, Option, None, Some}
use Rattle.flow_rules.specs.Feed.{End}
use Rattle.publisher_hub.specs.Becoming.{ChangesAt}
use Rattle.publisher_hub.specs.declared.entry.Entry.{Entry}
use Rattle.publisher_hub.specs.declared.hub.Hub.{Hub}

-- a subscription without its producer's end: it is retired from then on, at this serial number if it wasn't before, and
-- has no ticket
abbrev pub entry_without_feed : {F : Type 0} → ℕ → Entry F → Entry F
entry_without_feed next entry = record entry {
  feed = None;
  retired = true;
  until = if entry.retired then entry.until else next;
  ticket = None;
}

-- the producer's end was taken out, if it was there still; if it wasn't, nothing changed
abbrev pub TakesOut : {F : Type 0} → ℕ → Option F → Entry F → Entry F → Type 0
TakesOut next None old new = (old.feed ≡ None) × (new ≡ old)
TakesOut next (Some feed) old new = (old.feed ≡ Some feed) × (new ≡ entry_without_feed next old)

module _ {F : Type 0} (meaning : F → End) where
  -- the producer's end of the subscription of this number in a Hub was taken out, if there is one, and nothing else
  -- changed
  abbrev pub TakesOutAt : ℕ → Option F → Hub F → Hub F → Type 0
  TakesOutAt number feed old new = ChangesAt meaning (TakesOut old.next) number feed old new
