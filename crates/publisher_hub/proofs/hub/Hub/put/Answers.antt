-- What the round says of the lists that it was given, it says of those of the Hub.
use Rattle.std.proofs.Common.{refl, ◌∙◌}
use Rattle.std.proofs.lemmas.List.{with_items_is}
use Rattle.publisher_hub.proofs.hub.Hub.put.Goals as goal

pub put_all-requires-clause-live : goal.put_all-requires-clause-live
put_all-requires-clause-live g c = rw (c.deref.ensures.value, c.deref_mut.ensures.value) c.requires.sound.live

pub put_all-requires-clause-can : goal.put_all-requires-clause-can
put_all-requires-clause-can g c = rw c.deref_mut.ensures.value c.requires.can

pub put_all-requires-clause-room : goal.put_all-requires-clause-room
put_all-requires-clause-room g c = rw c.deref.ensures.value c.requires.ready.room

pub returns-clause-puts : goal.returns-clause-puts
returns-clause-puts g c =
    let whole = with_items_is c.args.self.now.entries c.put_all.new.entries (c.put_all.auto.entries ∙ c.deref_mut.ensures.len) in
    rw (whole, ← c.deref_mut.ensures.value) c.put_all.ensures.puts

pub returns-clause-rest : goal.returns-clause-rest
returns-clause-rest g c = refl
