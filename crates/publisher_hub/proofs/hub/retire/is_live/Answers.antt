-- What the look-up shows decides.
use Rattle.std.proofs.Common.{refl}
use Rattle.std.proofs.lemmas.Option.{slice_get-map, slice_get_past, slice_get_read}
use Rattle.publisher_hub.specs.Entry.{entry_of}
use Rattle.publisher_hub.proofs.hub.retire.is_live.Goals as goal

pub returns-in-Some : goal.returns-in-Some
returns-in-Some g c =
    let lookup = c.in-Some.ensures.lookup in
    rw (slice_get-map (entry_of g.F.Feed.meaning) c.args.entries.now c.args.number, slice_get_read c.args.entries.now _ c.args.number c.in-Some.entry.now refl lookup.3.0 lookup.1) refl

pub returns-in-None : goal.returns-in-None
returns-in-None g c =
    rw (slice_get-map (entry_of g.F.Feed.meaning) c.args.entries.now c.args.number, slice_get_past c.args.entries.now c.args.number c.in-None.ensures.lookup.3) refl
