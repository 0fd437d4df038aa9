-- What a `Collector` holds, and what it answers.
use Rattle.std.specs.Prelude.{ℕ, ℤ, pos, ◌+◌, ◌==◌, if◌then◌else◌, int_lt, List, Option, Some, None, length}
use Rattle.flow_rules.specs.Callback.{Reply}
use Rattle.flow_rules.specs.declared.answer.Answer.{Answer}
use Rattle.flow_rules.specs.declared.answer.Answer.TheVariants.{Go, Request, Fail}
use Rattle.flow_rules.specs.declared.collector.Failing.{Failing}
use Rattle.flow_rules.specs.declared.signal.Signal.{Signal}
use Rattle.flow_rules.specs.declared.signal.Signal.TheVariants.{Subscribed, Next, Complete, Error}
use Rattle.flow_rules.specs.Signals.{items_of}

-- what it was told and answered, what it requests when it is subscribed, and where it fails
pub record Collected : Type 0 where
  pub told : List Signal
  pub replied : List Reply
  pub requests : Option ℤ
  pub fails : Option Failing

-- this number, if it is positive
abbrev pub positive : ℤ → Option ℤ
positive n = if int_lt (pos 0) n then Some n else None

-- what a collector that requests this many, or nothing, answers to onSubscribe
abbrev pub answer_to_subscribed : Option ℤ → Answer
answer_to_subscribed (Some n) = Request n
answer_to_subscribed None = Go

-- what a collector that fails there, or never, answers to the item that comes after this many
abbrev pub answer_to_item : Option Failing → ℕ → Answer
answer_to_item (Some failing) before = if before + 1 == failing.item then Fail failing.code else Go
answer_to_item None before = Go

-- what a collector answers to a signal
abbrev pub answer_to : Signal → Collected → Answer
answer_to Subscribed collector = answer_to_subscribed collector.requests
answer_to (Next _) collector = answer_to_item collector.fails (length (items_of collector.told))
answer_to Complete collector = Go
answer_to (Error _) collector = Go
