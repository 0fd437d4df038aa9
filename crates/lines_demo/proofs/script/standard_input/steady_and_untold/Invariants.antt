use Rattle.std.proofs.Common.{◌≡◌, [], true, All}
use Rattle.lines_demo.proofs.script.standard_input.steady_and_untold.Given as goal

-- each subscriber of the stock so far is steady and was told nothing
abbrev pub invariant-loop-subscriber : goal.invariant-loop-subscriber
invariant-loop-subscriber g l =
    All (λ b. g.B.Subscriber.told b ≡ []) l.stock.items × All (λ b. g.B.Subscriber.is_steady b ≡ true) l.stock.items
