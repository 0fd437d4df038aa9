-- What the look-up shows decides.
use Rattle.std.proofs.Common.{refl, rules}
use Rattle.std.proofs.lemmas.Option.{slice_get_past, slice_get_read}
use Rattle.publisher_hub.proofs.hub.Hub.has_feed.Goals as goal

pub returns-in-Some : goal.returns-in-Some
returns-in-Some g c =
    let lookup = c.in-Some.ensures.lookup in
    rw (← c.deref.ensures.value, slice_get_read c.deref.result.now _ c.args.entry c.in-Some.entry.now refl lookup.3.0 lookup.1) (search rules)

pub returns-in-None : goal.returns-in-None
returns-in-None g c =
    rw (← c.deref.ensures.value, slice_get_past c.deref.result.now c.args.entry c.in-None.ensures.lookup.3) ((λ on. on), (λ there. there))
