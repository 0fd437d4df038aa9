-- What the next power of two is, is what the capacity is.
use Rattle.std.proofs.Common.{rules}
use Rattle.flow_rules.specs.Capacity.{IsCapacityOf}
use Rattle.flow_rules.proofs.Sizes.{least_power, same_capacity}
use Rattle.flow_rules.proofs.capacities.capacity.Goals as goal

pub returns-clause-least : goal.returns-clause-least
returns-clause-least c =
    least_power c.args.n c.next_power_of_two.result c.next_power_of_two.ensures.power (search rules) (search rules) (search rules)

pub returns-clause-value : goal.returns-clause-value
returns-clause-value c =
    let is : IsCapacityOf c.args.n c.next_power_of_two.result =
    least_power c.args.n c.next_power_of_two.result c.next_power_of_two.ensures.power (search rules) (search rules) (search rules) in
    same_capacity _ _ is (search rules)
