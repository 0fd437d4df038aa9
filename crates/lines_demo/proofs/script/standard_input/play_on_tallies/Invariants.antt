use Rattle.std.proofs.Common.{◌≡◌, [], All}
use Rattle.lines_demo.proofs.script.standard_input.play_on_tallies.Given as goal

-- each listener of the stock so far was told nothing and replied nothing
abbrev pub invariant-loop : goal.invariant-loop
invariant-loop g l = All (λ tally. (tally.signals ≡ []) × (tally.replies ≡ [])) l.tallies.items
