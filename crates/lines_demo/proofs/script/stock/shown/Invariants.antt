use Rattle.std.proofs.Common.{◌≡◌, ◌+◌, [], true, length, All}
use Rattle.std.specs.Vec.Iter.{into_iter_items}
use Rattle.lines_demo.proofs.script.stock.shown.Given as goal

-- each listener so far is steady, was told nothing and has replied nothing; with the subscribers that are left they are
-- as many as there were
abbrev pub invariant-loop-subscriber : goal.invariant-loop-subscriber
invariant-loop-subscriber g l =
    All (λ b. (g.S.Subscriber.told b.subscriber ≡ []) × (b.replied ≡ [])) l.stock.items
    × All (λ b. g.S.Subscriber.is_steady b.subscriber ≡ true) l.stock.items
    × (length l.stock.items + length (into_iter_items l.subscriber-iterator) ≡ length l.fn.subscribers.items)
