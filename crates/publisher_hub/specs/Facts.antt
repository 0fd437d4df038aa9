-- What a Hub knows of a subscription without its end.
use Rattle.publisher_hub.specs.Entry.{EntryState}
use Rattle.publisher_hub.specs.declared.hub.Facts.{Facts}

abbrev pub facts_of : EntryState → Facts
facts_of entry = record {
  name = entry.name;
  on_full = entry.on_full;
  since = entry.since;
  dropped = entry.dropped;
}
