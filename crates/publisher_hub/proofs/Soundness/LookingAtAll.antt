-- A sound Hub stays sound if all of its live subscriptions are looked at.
use Rattle.std.proofs.Common.{Option, List}
use Rattle.flow_rules.specs.Call.{Call}
use Rattle.flow_rules.specs.Feed.{End}
use Rattle.flow_rules.specs.declared.feed.standing.Standing.{Standing}
use Rattle.publisher_hub.specs.Hub.{hub_of}
use Rattle.publisher_hub.specs.Looking.{Glances, IsKept, LooksAtAll}
use Rattle.publisher_hub.specs.Sound.{IsSound}
use Rattle.publisher_hub.specs.declared.hub.Hub.{Hub}
use Rattle.publisher_hub.proofs.Subscribed.AfterLooks.{each_mapped, glance_kept}
use Rattle.publisher_hub.proofs.Soundness.Looking.{sound_looked_at}

pub sound_looks : {F T : Type 0} (meaning : F → End) (does : F → Call T → F → Type 0) (glances : List (Option Standing)) (old new : Hub F)
    → IsSound (hub_of meaning old)
    → LooksAtAll meaning does glances old new → IsSound (hub_of meaning new)
sound_looks meaning does glances old new sound looks = sound_looked_at (hub_of meaning old) (hub_of meaning new) sound (record {
  rest = looks.rest;
  entries = each_mapped meaning (Glances meaning does old.next) (IsKept old.next) glances old.entries.items new.entries.items (glance_kept meaning does old.next) looks.entries;
})
