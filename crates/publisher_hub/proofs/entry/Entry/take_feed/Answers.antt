-- The end comes out, and what is left is retired without a ticket.
use Rattle.std.proofs.Common.{refl, sym, ◌∙◌}
use Rattle.publisher_hub.proofs.entry.Entry.take_feed.Goals as goal

pub returns : goal.returns
returns g c = (sym c.take.ensures.value ∙ c.in_ok-feed.was, rw (c.retire.ensures, c.take.ensures.after) refl)
