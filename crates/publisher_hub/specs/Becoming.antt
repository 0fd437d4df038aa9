-- What becomes of a subscription that is changed, and of its Hub.
use Rattle.std.specs.Prelude.{◌≡◌, ℕ, false, Option, None, Some, slice_get, slice_set}
use Rattle.flow_rules.specs.Call.{Call}
use Rattle.flow_rules.specs.Feed.{End}
use Rattle.publisher_hub.specs.Entry.{EntryState}
use Rattle.publisher_hub.specs.Hub.{OnlyEntriesChange, hub_of}
use Rattle.publisher_hub.specs.declared.entry.Entry.{Entry}
use Rattle.publisher_hub.specs.declared.hub.Hub.{Hub}

-- the producer's end of a live subscription changed as R says, and nothing else of the subscription did
pub record Becomes (R : End → End → Type 0) (old new : EntryState) : Type 0 where
  pub before : End
  pub after : End
  pub live : old.retired ≡ false
  pub was : old.feed ≡ Some before
  pub became : R before after
  pub now : new ≡ record old { feed = Some after }

module _ {F T : Type 0} (meaning : F → End) (does : F → Call T → F → Type 0) where
  -- the producer's end of a live subscription was called once, in this way; its meaning changed as R says, and the
  -- subscription is then what `left` makes of the end
  pub record Called (R : End → End → Type 0) (call : Call T) (left : F → Entry F)
      (old new : Entry F) : Type 0 where
    pub before : F
    pub after : F
    pub live : old.retired ≡ false
    pub was : old.feed ≡ Some before
    pub means : R (meaning before) (meaning after)
    pub exact : does before call after
    pub now : new ≡ left after

module _ {F A : Type 0} (meaning : F → End) (R : Option A → Entry F → Entry F → Type 0) where
  -- the subscription of this number in a Hub changed as R says, with this answer; without such a subscription there is
  -- no answer, and it stays without; nothing else of the Hub changed
  pub record ChangesAt (number : ℕ) (answer : Option A) (old new : Hub F) : Type 0 where
    pub rest : OnlyEntriesChange (hub_of meaning old) (hub_of meaning new)
    pub none : slice_get old.entries.items number ≡ None
        → (answer ≡ None) × (new.entries.items ≡ old.entries.items)
    pub there : (before : Entry F) → slice_get old.entries.items number ≡ Some before
        → (after : Entry F) × (R answer before after
        × (new.entries.items ≡ slice_set old.entries.items number after))
