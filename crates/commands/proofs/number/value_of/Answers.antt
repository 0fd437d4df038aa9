use Rattle.std.proofs.Common.{◌<◌, arith}
use Rattle.commands.proofs.Digits.{below_largest}
use Rattle.commands.proofs.number.value_of.Goals as goal

pub overflow_mul-value : goal.overflow_mul-value
overflow_mul-value c =
    let small : c.loop-digit.value < 1000000000000000000 =
    below_largest c.loop-digit.digit-index c.loop-digit.value (omega arith) c.loop-digit.invariant.1 in
    omega arith

pub overflow_add-value : goal.overflow_add-value
overflow_add-value c =
    let small : c.loop-digit.value < 1000000000000000000 =
    below_largest c.loop-digit.digit-index c.loop-digit.value (omega arith) c.loop-digit.invariant.1 in
    omega arith
