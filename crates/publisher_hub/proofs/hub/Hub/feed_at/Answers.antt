-- The Hub ends with the producer's end that is left.
use Rattle.std.proofs.Common.{Option, refl, ap, sym, ◌∙◌}
use Rattle.std.specs.Option.{option_and_then}
use Rattle.publisher_hub.specs.Lending.{with_feed}
use Rattle.publisher_hub.specs.declared.entry.Entry.{Entry}
use Rattle.publisher_hub.proofs.Soundness.Lending.{entry_there}
use Rattle.publisher_hub.proofs.hub.Hub.feed_at.Goals as goal

pub returns : goal.returns
returns g c =
    let there = entry_there c.args.self.now c.args.entry c.index_mut.result.now c.requires c.index_mut.ensures.value in (
      (refl {a = c.feed_mut.result.ghost_name}, λ w. sym (ap (λ (at : Option (Entry g.row.F.Denot)). with_feed c.args.self.now c.args.entry at w) there)),
      record { writes_back = tt; value = ap (λ (at : Option (Entry g.row.F.Denot)). option_and_then (λ (entry : Entry g.row.F.Denot). entry.feed) at) there ∙ c.feed_mut.ensures.value },
    )
