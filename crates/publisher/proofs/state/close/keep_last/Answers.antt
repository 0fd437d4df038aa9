use Rattle.std.proofs.Common.{◌≡◌, ◌&&◌, Bool, true, Option, Some, sym, ap, ◌∙◌}
use Rattle.std.specs.Prelude.{if◌then◌else◌}
use Rattle.close_count.specs.Spent.{was_last}
use Rattle.close_count.specs.declared.spent.Spent.{Spent}
use Rattle.publisher.specs.Spending.{last_after}
use Rattle.publisher.proofs.state.close.keep_last.Goals as goal

-- the last ticket is kept if the publisher is closed
is_kept : (spent : Spent) (closed : Bool) (last : Option Spent) (found : Bool) → found ≡ was_last spent
    → (found && closed) ≡ true → Some spent ≡ last_after spent closed last
is_kept spent closed last found is both = sym (ap (λ b. if b then Some spent else last) (ap (λ b. b && closed) (sym is) ∙ both))

pub returns-then-is_last-is_closed : goal.returns-then-is_last-is_closed
returns-then-is_last-is_closed c = is_kept c.args.spent c.args.is_closed c.args.last.now c.is_last.result
    c.is_last.ensures c.if-is_last-is_closed.true
