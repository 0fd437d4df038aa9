-- It owns nothing.
use denote.Param.Send.{IsSend}
use Rattle.flow_rules.specs.contracts.told.Told.{the_row}

pub send : IsSend the_row
send = record { owned = λ d vs x. (((λ vss. (tt, tt)), tt), tt); leaving = λ k d w. tt }
