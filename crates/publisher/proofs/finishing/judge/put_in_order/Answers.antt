use Rattle.std.proofs.Common.{rules}
use Rattle.std.proofs.lemmas.List.Sorted.{IsNonDecreasingBy-from_sort_by_key}
use Rattle.publisher.specs.declared.outcome.NamedLane.{NamedLane}
use Rattle.publisher.proofs.LeftLanes.Ordering.{in_order}
use Rattle.publisher.proofs.finishing.judge.put_in_order.Goals as goal

pub returns-clause-ordered : goal.returns-clause-ordered
returns-clause-ordered g c = in_order _ (IsNonDecreasingBy-from_sort_by_key (λ (left : NamedLane _). left.made_before) _
    c.sort_unstable_by_key.ensures.sorted (λ a r q k. search rules))
