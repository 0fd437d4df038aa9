use Rattle.std.proofs.Common.{◌≡◌, ◌+◌, ◌-◌, ◌≤◌, ◌++◌, drop, length, take}
use Rattle.publisher_hub.specs.Publishing.{loss_of}
use Rattle.publisher_hub.specs.declared.policy.Need.TheVariants.{All}
use Rattle.publisher.specs.Publishing.{PublishesNext}
use Rattle.publisher.proofs.state.State.publish.Given as goal

-- what was done so far, and the submitter's shares have grown by what came in this call
abbrev pub invariant-loop-done : goal.invariant-loop-done
invariant-loop-done g l = PublishesNext l.need l.initial.own.source l.texts l.initial.done l.done l.initial.self.hub l.self.hub
    l.initial.due.items l.due.items
    × ((l.own.publications.amount + l.initial.done.many ≡ l.initial.own.publications.amount + l.done.many)
    × ((l.own.source ≡ l.initial.own.source)
    × ((l.own.drops.amount + l.initial.done.lost ≡ l.initial.own.drops.amount + l.done.lost)
    × ((l.initial.done.many ≤ l.done.many)
    × ((l.done.many ≤ length l.texts)
    × ((l.done.lost ≤ l.done.many)
    × ((l.need ≡ All → l.done.lost ≡ l.initial.done.lost)
    × ((l.initial.done.many ≡ 0 → l.done.many ≡ 1 → l.done.lost ≡ loss_of l.done.dropped)
    × (l.own.pass.sent ≡ l.initial.own.pass.sent
    ++ take (l.done.many - l.initial.done.many) (drop l.initial.done.many l.texts))))))))))

abbrev pub decreases-loop-done : goal.decreases-loop-done
decreases-loop-done g l = length l.texts - l.done.many
