-- A Hub without subscriptions is sound.
use Rattle.std.proofs.Common.{refl}
use Rattle.publisher_hub.proofs.Soundness.Starting.{sound_at_start}
use Rattle.publisher_hub.proofs.hub.Hub.starting_at.Goals as goal

pub returns-clause-sound : goal.returns-clause-sound
returns-clause-sound g c =
    rw (c.new.ensures.items, c.new-2.ensures.items, c.in_ok-no_counts.ensures) (sound_at_start c.in_ok-capacity.capacity c.args.serial c.requires)

pub returns-clause-ok : goal.returns-clause-ok
returns-clause-ok g c = rw (c.new.ensures.items, c.new-2.ensures.items, c.in_ok-no_counts.ensures, ← c.in_ok-capacity.ensures.value) refl
