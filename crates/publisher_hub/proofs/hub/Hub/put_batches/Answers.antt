-- What the round says of the lists that it was given, it says of those of the Hub.
use Rattle.std.proofs.Common.{◌∙◌}
use Rattle.std.proofs.lemmas.List.{with_items_is}
use Rattle.publisher_hub.proofs.hub.Hub.put_batches.Goals as goal

pub put_batches-requires-clause-can : goal.put_batches-requires-clause-can
put_batches-requires-clause-can g c = rw c.deref_mut.ensures.value c.requires.can

pub returns-clause-puts : goal.returns-clause-puts
returns-clause-puts g c items are =
    let whole = with_items_is c.args.self.now.entries c.put_batches.new.entries (c.put_batches.auto.entries ∙ c.deref_mut.ensures.len) in
    rw (whole, ← c.deref_mut.ensures.value) (c.put_batches.ensures items are)
