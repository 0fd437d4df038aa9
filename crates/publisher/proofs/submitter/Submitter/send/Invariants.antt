use Rattle.std.proofs.Common.{◌≡◌, ◌+◌, ◌≤◌, ◌++◌, length, take}
use Rattle.publisher_hub.specs.declared.policy.Need.TheVariants.{All}
use Rattle.publisher.proofs.submitter.Submitter.send.Given as goal

abbrev pub invariant-loop : goal.invariant-loop
invariant-loop g l = (goal.iterator-loop g).can_next l.iterator' × ((goal.iterator-loop g).is_finite l.iterator'
    × ((l.own.source ≡ l.fn.self.source) × ((l.own.publications.amount ≡ l.fn.self.published + l.done.many)
    × ((l.own.drops.amount ≡ l.fn.self.dropping + l.done.lost) × ((l.done.many ≤ length l.texts)
    × ((l.done.lost ≤ l.done.many) × ((l.need ≡ All → l.done.lost ≡ 0) × ((length l.texts ≡ 1 → l.done.many ≡ 0)
    × (l.own.pass.sent ≡ l.fn.self.sent ++ take l.done.many l.texts)))))))))
