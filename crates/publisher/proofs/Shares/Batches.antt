-- More of several texts were published.
use Rattle.std.proofs.Common.{◌≡◌, ◌+◌, ◌≤◌, ℕ, zero, suc, refl, ap, List, [], ◌∷◌, drop, arith}
use Rattle.feed_cell.specs.Offering.{DoesCall}
use Rattle.feed_cell.specs.Parties.{ProducerState, TaskState}
use Rattle.publisher_hub.specs.Publishing.{PublishesTexts, both, loss_of}
use Rattle.publisher_hub.specs.declared.hub.Hub.{Hub}
use Rattle.publisher_hub.specs.declared.hub.publish.Publication.{Publication}
use Rattle.publisher_hub.specs.declared.policy.Need.{Need}
use Rattle.publisher_hub.specs.declared.work.Work.{Work}
use Rattle.publisher.specs.Publishing.{PublishesNext}
use Rattle.publisher.specs.State.{producer_end}

-- nothing more was published
pub no_more : (need : Need) (source : ℕ) (texts : List (List ℕ)) (before : Publication) (hub : Hub ProducerState) (due : List (Work TaskState))
    → PublishesNext need source texts before before hub hub due due
no_more need source texts before hub due = ([], (refl, (refl, refl)))

-- another publication was made
pub one_more : (need : Need) (source : ℕ) (texts : List (List ℕ)) (before so_far last : Publication)
    (old middle new : Hub ProducerState) (due_old due due_new : List (Work TaskState))
    → PublishesNext need source texts before so_far old middle due_old due
    → PublishesTexts producer_end DoesCall need source (drop so_far.many texts) middle new due due_new last
    → PublishesNext need source texts before (both so_far last) old new due_old due_new
one_more need source texts before so_far last old middle new due_old due due_new (publications, was) publishes =
    (last ∷ publications, (middle, (due, (so_far, (was, (publishes, refl))))))

pub loss_is_at_most_one : (dropped : ℕ) → loss_of dropped ≤ 1
loss_is_at_most_one zero = omega arith
loss_is_at_most_one (suc dropped) = omega arith
