-- What is left is the filtered list.
use Rattle.std.proofs.Common.{rules, map}
use Rattle.std.proofs.lemmas.Fn.{filter_same}
use Rattle.publisher_hub.specs.Adding.{goes_on}
use Rattle.publisher_hub.specs.Entry.{entry_of}
use Rattle.publisher_hub.proofs.hub.retire.leave_out.Goals as goal

pub returns-clause-left : goal.returns-clause-left
returns-clause-left g c =
    filter_same _ (goes_on (map (entry_of g.F.Feed.meaning) c.args.entries.now)) _ (λ x b f' k. search rules) _ _ c.retain.ensures.filtered
